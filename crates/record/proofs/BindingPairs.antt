-- What the record reads after a stream was bound. A law is named after the reader and the writer. Assumes nothing.
use Prim.Native.Nat.{ℕ, ◌+◌, ◌≤◌, ◌<◌}
use mathlib.Core.Bool.{true}
use mathlib.Core.Path.{◌≡◌, sym, ap, ◌∙◌}
use mathlib.Core.List.{List, ◌∷◌}
use native.Mathlib.Omega.{arith}
use lib.ListN.{length}
use Rattle.lists.specs.Window.{get}
use Rattle.lists.proofs.WindowLaws.{length_put, get_apart, get_put, get_get}
use Rattle.octets.specs.Numbers.{two_of, four_of}
use Rattle.octets.proofs.NumberLaws.{two_octets_lem}
use Rattle.record.specs.Layout.{Whole, stream_count, head_length, open_offset, prior_offset, delay_offset, link_offset, waits_offset, queue_offset, queue_length, queue_room, entry_offset, stream_length, bound_offset, pair_offset, address_offset, address_length}
use Rattle.record.specs.Head.{octet_of, mark_of, open_at, prior_at, delay_at, link_at, waits_at, queue_of, queue_at}
use Rattle.record.specs.Entry.{entry_stream, stream_at, bound_at, vid_at, address_at, pair_octets, with_binding}

module _ (l : List ℕ) (s : ℕ) (address : List ℕ) (vid : ℕ) where
  pub length_binding : length (with_binding l s address vid) ≡ length l
  unfolding with_binding
  length_binding = length_put l (entry_offset s + bound_offset) (1 ∷ pair_octets address vid)

  -- nothing is written in the head
  head_binding : (i n : ℕ) → i + n ≤ head_length → get (with_binding l s address vid) i n ≡ get l i n
  unfolding with_binding
  head_binding i n h = get_apart l (entry_offset s + bound_offset) (1 ∷ pair_octets address vid) i n (λ k a b c d. omega arith)

  pub open_binding : open_at (with_binding l s address vid) ≡ open_at l
  unfolding open_at
  open_binding = ap mark_of (head_binding open_offset 1 (omega arith))

  pub prior_binding : prior_at (with_binding l s address vid) ≡ prior_at l
  unfolding prior_at
  prior_binding = ap octet_of (head_binding prior_offset 1 (omega arith))

  pub delay_binding : delay_at (with_binding l s address vid) ≡ delay_at l
  unfolding delay_at
  delay_binding = ap octet_of (head_binding delay_offset 1 (omega arith))

  pub link_binding : link_at (with_binding l s address vid) ≡ link_at l
  unfolding link_at
  link_binding = ap two_of (head_binding link_offset 2 (omega arith))

  pub waits_binding : waits_at (with_binding l s address vid) ≡ waits_at l
  unfolding waits_at
  waits_binding = ap four_of (head_binding waits_offset 4 (omega arith))

  pub queue_binding : (q : ℕ) → q < queue_room → queue_at (with_binding l s address vid) q ≡ queue_at l q
  unfolding queue_at
  queue_binding q h = ap queue_of (head_binding (queue_offset q) queue_length (omega arith))

  -- nor of any stream's reservation
  pub stream_binding : (t : ℕ) → stream_at (with_binding l s address vid) t ≡ stream_at l t
  unfolding stream_at with_binding
  stream_binding t =
      ap entry_stream (get_apart l (entry_offset s + bound_offset) (1 ∷ pair_octets address vid) (entry_offset t) stream_length (λ k a b c d. omega arith))

  -- the binding reads as it was written
  here_binding : Whole l → s < stream_count → get (with_binding l s address vid) (entry_offset s + bound_offset) 9 ≡ 1 ∷ pair_octets address vid
  unfolding with_binding
  here_binding h b = get_put l (entry_offset s + bound_offset) (1 ∷ pair_octets address vid) (omega arith)

  -- a part of it, from octet j on
  part_binding : (i j n : ℕ) → Whole l → s < stream_count → entry_offset s + bound_offset + j ≡ i → j + n ≤ 9
      → get (with_binding l s address vid) i n ≡ get (1 ∷ pair_octets address vid) j n
  part_binding i j n h b at within =
      ap (λ (k : ℕ). get (with_binding l s address vid) k n) (sym at)
      ∙ sym (get_get (with_binding l s address vid) (entry_offset s + bound_offset) 9 j n within)
      ∙ ap (λ (o : List ℕ). get o j n) (here_binding h b)

  pub bound_binding : Whole l → s < stream_count → bound_at (with_binding l s address vid) s ≡ true
  unfolding bound_at
  bound_binding h b = ap mark_of (part_binding (entry_offset s + bound_offset) 0 1 h b (omega arith) (omega arith))

  pub vid_binding : Whole l → s < stream_count → vid_at (with_binding l s address vid) s ≡ vid
  unfolding vid_at
  vid_binding h b = ap two_of (part_binding (entry_offset s + pair_offset) 1 2 h b (omega arith) (omega arith)) ∙ two_octets_lem vid

  pub address_binding : Whole l → s < stream_count → address_at (with_binding l s address vid) s ≡ get address 0 address_length
  unfolding address_at
  address_binding h b = part_binding (entry_offset s + address_offset) 3 address_length h b (omega arith) (omega arith)

  -- and the others are as they were
  other_binding : (t i n : ℕ) → (t ≡ s → ⊥) → entry_offset t + bound_offset ≤ i → i + n ≤ entry_offset (t + 1) → get (with_binding l s address vid) i n ≡ get l i n
  unfolding with_binding
  other_binding t i n other from to =
      get_apart l (entry_offset s + bound_offset) (1 ∷ pair_octets address vid) i n (λ k a b c d. other (omega arith))

  pub other_bound_binding : (t : ℕ) → (t ≡ s → ⊥) → bound_at (with_binding l s address vid) t ≡ bound_at l t
  unfolding bound_at
  other_bound_binding t other = ap mark_of (other_binding t (entry_offset t + bound_offset) 1 other (omega arith) (omega arith))

  pub other_vid_binding : (t : ℕ) → (t ≡ s → ⊥) → vid_at (with_binding l s address vid) t ≡ vid_at l t
  unfolding vid_at
  other_vid_binding t other = ap two_of (other_binding t (entry_offset t + pair_offset) 2 other (omega arith) (omega arith))

  pub other_address_binding : (t : ℕ) → (t ≡ s → ⊥) → address_at (with_binding l s address vid) t ≡ address_at l t
  unfolding address_at
  other_address_binding t other = other_binding t (entry_offset t + address_offset) address_length other (omega arith) (omega arith)
