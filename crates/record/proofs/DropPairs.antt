-- What the record reads after a stream was dropped. A law is named after the reader and the writer. Assumes nothing.
use Prim.Native.Nat.{ℕ, ◌+◌, ◌≤◌, ◌<◌}
use mathlib.Core.Bool.{false}
use mathlib.Core.Path.{◌≡◌, sym, ap, ◌∙◌}
use mathlib.Core.List.{List, [], ◌∷◌}
use native.Mathlib.Omega.{arith}
use lib.ListN.{length}
use Rattle.lists.specs.Window.{put, get}
use Rattle.lists.proofs.WindowLaws.{length_put, get_apart, get_put, get_get}
use Rattle.octets.specs.Numbers.{two_of, four_of}
use Rattle.record.specs.Layout.{Whole, head_length, stream_count, open_offset, prior_offset, delay_offset, link_offset, waits_offset, queue_offset, queue_length, queue_room, entry_offset, stream_length, drain_offset, bound_offset, pair_offset, address_offset, address_length}
use Rattle.record.specs.Head.{octet_of, mark_of, open_at, prior_at, delay_at, link_at, waits_at, queue_of, queue_at}
use Rattle.record.specs.Entry.{entry_stream, stream_at, drain_at, bound_at, vid_at, address_at, dropped}

module _ (l : List ℕ) (s : ℕ) where
  pub length_dropped : length (dropped l s) ≡ length l
  unfolding dropped
  length_dropped =
      length_put (put l (entry_offset s) (0 ∷ [])) (entry_offset s + drain_offset) (0 ∷ 0 ∷ []) ∙ length_put l (entry_offset s) (0 ∷ [])

  -- nothing is written in the head
  head_dropped : (i n : ℕ) → i + n ≤ head_length → get (dropped l s) i n ≡ get l i n
  unfolding dropped
  head_dropped i n h =
      get_apart (put l (entry_offset s) (0 ∷ [])) (entry_offset s + drain_offset) (0 ∷ 0 ∷ []) i n (λ k a b c d. omega arith)
      ∙ get_apart l (entry_offset s) (0 ∷ []) i n (λ k a b c d. omega arith)

  pub open_dropped : open_at (dropped l s) ≡ open_at l
  unfolding open_at
  open_dropped = ap mark_of (head_dropped open_offset 1 (omega arith))

  pub prior_dropped : prior_at (dropped l s) ≡ prior_at l
  unfolding prior_at
  prior_dropped = ap octet_of (head_dropped prior_offset 1 (omega arith))

  pub delay_dropped : delay_at (dropped l s) ≡ delay_at l
  unfolding delay_at
  delay_dropped = ap octet_of (head_dropped delay_offset 1 (omega arith))

  pub link_dropped : link_at (dropped l s) ≡ link_at l
  unfolding link_at
  link_dropped = ap two_of (head_dropped link_offset 2 (omega arith))

  pub waits_dropped : waits_at (dropped l s) ≡ waits_at l
  unfolding waits_at
  waits_dropped = ap four_of (head_dropped waits_offset 4 (omega arith))

  pub queue_dropped : (q : ℕ) → q < queue_room → queue_at (dropped l s) q ≡ queue_at l q
  unfolding queue_at
  queue_dropped q h = ap queue_of (head_dropped (queue_offset q) queue_length (omega arith))

  -- the stream is neither reserved nor bound, and its count is 0
  pub stream_dropped : Whole l → s < stream_count → (stream_at (dropped l s) s).reserved ≡ false
  unfolding stream_at dropped
  stream_dropped h b =
      ap (λ (o : List ℕ). (entry_stream o).reserved)
      (get_apart (put l (entry_offset s) (0 ∷ [])) (entry_offset s + drain_offset) (0 ∷ 0 ∷ []) (entry_offset s) stream_length (λ k a b c d. omega arith))
      ∙ ap mark_of (get_put l (entry_offset s) (0 ∷ []) (omega arith))

  -- count and mark are written one after the other
  last_written_lem : Whole l → s < stream_count → get (dropped l s) (entry_offset s + drain_offset) 2 ≡ 0 ∷ 0 ∷ []
  unfolding dropped
  last_written_lem h b = get_put (put l (entry_offset s) (0 ∷ [])) (entry_offset s + drain_offset) (0 ∷ 0 ∷ []) (simp (length_put l (entry_offset s) (0 ∷ [])) (omega arith))

  pub drain_dropped : Whole l → s < stream_count → drain_at (dropped l s) s ≡ 0
  unfolding drain_at
  drain_dropped h b = ap octet_of (last_written_lem h b)

  pub bound_dropped : Whole l → s < stream_count → bound_at (dropped l s) s ≡ false
  unfolding bound_at
  bound_dropped h b =
      ap mark_of
      (ap (λ (i : ℕ). get (dropped l s) i 1) (omega arith)
      ∙ sym (get_get (dropped l s) (entry_offset s + drain_offset) 2 1 1 (omega arith))
      ∙ ap (λ (o : List ℕ). get o 1 1) (last_written_lem h b))

  -- and the other entries are as they were
  pub other_dropped : (t i n : ℕ) → (t ≡ s → ⊥) → entry_offset t ≤ i → i + n ≤ entry_offset (t + 1) → get (dropped l s) i n ≡ get l i n
  unfolding dropped
  other_dropped t i n other from to =
      get_apart (put l (entry_offset s) (0 ∷ [])) (entry_offset s + drain_offset) (0 ∷ 0 ∷ []) i n (λ k a b c d. other (omega arith))
      ∙ get_apart l (entry_offset s) (0 ∷ []) i n (λ k a b c d. other (omega arith))

  pub other_stream_dropped : (t : ℕ) → (t ≡ s → ⊥) → stream_at (dropped l s) t ≡ stream_at l t
  unfolding stream_at
  other_stream_dropped t other = ap entry_stream (other_dropped t (entry_offset t) stream_length other (omega arith) (omega arith))

  pub other_drain_dropped : (t : ℕ) → (t ≡ s → ⊥) → drain_at (dropped l s) t ≡ drain_at l t
  unfolding drain_at
  other_drain_dropped t other = ap octet_of (other_dropped t (entry_offset t + drain_offset) 1 other (omega arith) (omega arith))

  pub other_bound_dropped : (t : ℕ) → (t ≡ s → ⊥) → bound_at (dropped l s) t ≡ bound_at l t
  unfolding bound_at
  other_bound_dropped t other = ap mark_of (other_dropped t (entry_offset t + bound_offset) 1 other (omega arith) (omega arith))

  -- no pair is written
  pair_dropped : (t i n : ℕ) → entry_offset t + pair_offset ≤ i → i + n ≤ entry_offset (t + 1) → get (dropped l s) i n ≡ get l i n
  unfolding dropped
  pair_dropped t i n from to =
      get_apart (put l (entry_offset s) (0 ∷ [])) (entry_offset s + drain_offset) (0 ∷ 0 ∷ []) i n (λ k a b c d. omega arith)
      ∙ get_apart l (entry_offset s) (0 ∷ []) i n (λ k a b c d. omega arith)

  pub vid_dropped : (t : ℕ) → vid_at (dropped l s) t ≡ vid_at l t
  unfolding vid_at
  vid_dropped t = ap two_of (pair_dropped t (entry_offset t + pair_offset) 2 (omega arith) (omega arith))

  pub address_dropped : (t : ℕ) → address_at (dropped l s) t ≡ address_at l t
  unfolding address_at
  address_dropped t = pair_dropped t (entry_offset t + address_offset) address_length (omega arith) (omega arith)
