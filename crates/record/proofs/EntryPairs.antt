-- What prior, W, a queue or a stream reads after a stream, or its place alone, was written. A law is named after the reader and the writer.
-- Assumes nothing.
use Prim.Native.Nat.{ℕ, ◌+◌, ◌<◌}
use mathlib.Core.Bool.{Bool, true, false, cond}
use mathlib.Core.Path.{◌≡◌, refl, sym, ap, subst, ◌∙◌}
use mathlib.Core.Logic.{⊎_elim}
use mathlib.Core.List.{List, [], ◌∷◌, ◌++◌}
use native.Mathlib.Omega.{arith}
use lib.ListN.{get_or}
use lib.Dec.{eqb}
use Rattle.lists.specs.Window.{get}
use Rattle.lists.proofs.WindowLaws.{get_or_put, get_apart, get_put, get_get}
use Rattle.lists.proofs.Order.{eq_or_not}
use Rattle.octets.specs.Numbers.{two_octets, four_of}
use Rattle.octets.proofs.NumberLaws.{two_octets_lem}
use Rattle.stream.specs.declared.Stream.{Stream}
use Rattle.stream.specs.State.{at_place}
use Rattle.record.specs.Layout.{Whole, stream_count, prior_offset, waits_offset, queue_offset, queue_length, queue_room, entry_offset, place_offset, left_offset, permitted_offset, stream_length}
use Rattle.record.specs.Head.{octet_of, prior_at, waits_at, queue_of, queue_at}
use Rattle.record.specs.Entry.{entry_stream, place_octets, stream_octets, stream_at, with_stream, with_place}
use Rattle.record.proofs.EntryLaws.{stream_read}

-- a stream's octets give the stream again
flag_octet : (b : Bool) → eqb (cond b 1 0) 1 ≡ b
flag_octet true = refl
flag_octet false = refl

stream_octets_lem : (x : Stream) → entry_stream (stream_octets x) ≡ x
stream_octets_lem x = rw (flag_octet x.reserved, two_octets_lem x.permitted, two_octets_lem x.left)

-- after a stream was written
module _ (l : List ℕ) (s : ℕ) (x : Stream) where
  pub stream_stream : Whole l → s < stream_count → stream_at (with_stream l s x) s ≡ x
  unfolding stream_at with_stream
  stream_stream h b =
      ap entry_stream
      (ap (λ (i : ℕ). get (with_stream l s x) i stream_length) (omega arith)
      ∙ sym (get_get (with_stream l s x) (entry_offset s) (stream_length + 1) 0 stream_length (omega arith))
      ∙ ap (λ (o : List ℕ). get o 0 stream_length) (get_put l (entry_offset s) (stream_octets x ++ (0 ∷ [])) (omega arith)))
      ∙ stream_octets_lem x

  pub other_stream : (t : ℕ) → (t ≡ s → ⊥) → stream_at (with_stream l s x) t ≡ stream_at l t
  unfolding stream_at with_stream
  other_stream t other = ap entry_stream (get_apart l (entry_offset s) (stream_octets x ++ (0 ∷ [])) (entry_offset t) stream_length (λ k a b c d. other (omega arith)))

  pub prior_stream : prior_at (with_stream l s x) ≡ prior_at l
  unfolding prior_at with_stream
  prior_stream = ap octet_of (get_apart l (entry_offset s) (stream_octets x ++ (0 ∷ [])) prior_offset 1 (λ k a b c d. omega arith))

  pub waits_stream : waits_at (with_stream l s x) ≡ waits_at l
  unfolding waits_at with_stream
  waits_stream = ap four_of (get_apart l (entry_offset s) (stream_octets x ++ (0 ∷ [])) waits_offset 4 (λ k a b c d. omega arith))

  pub queue_stream : (q : ℕ) → q < queue_room → queue_at (with_stream l s x) q ≡ queue_at l q
  unfolding queue_at with_stream
  queue_stream q h = ap queue_of (get_apart l (entry_offset s) (stream_octets x ++ (0 ∷ [])) (queue_offset q) queue_length (λ k a b c d. omega arith))

  -- whatever holds of what was written and of what was there holds of what is read
  pub stream_cases : (G : Stream → Type 0) (t : ℕ) → Whole l → t < stream_count → (t ≡ s → G x) → ((t ≡ s → ⊥) → G (stream_at l t)) → G (stream_at (with_stream l s x) t)
  stream_cases G t whole b same other =
      ⊎_elim
      (λ (e : t ≡ s). subst G (sym (ap (stream_at (with_stream l s x)) e ∙ stream_stream whole (omega arith))) (same e))
      (λ (n : t ≡ s → ⊥). subst G (sym (other_stream t n)) (other n))
      (eq_or_not t s)

-- a record that reads the place and left given, and for the rest of the stream what l reads
same_but_place : (l k : List ℕ) (s place left : ℕ)
    → get_or k (entry_offset s) 0 ≡ get_or l (entry_offset s) 0
    → get k (entry_offset s + place_offset) 3 ≡ place_octets place left
    → get k (entry_offset s + permitted_offset) 2 ≡ get l (entry_offset s + permitted_offset) 2
    → stream_at k s ≡ at_place (stream_at l s) place left
same_but_place l k s place left reserved written permitted =
    let here : get_or k (entry_offset s + place_offset) 0 ≡ place = ap (λ (o : List ℕ). get_or o 0 0) written in
    let two : get k (entry_offset s + left_offset) 2 ≡ two_octets left =
    ap (λ (i : ℕ). get k i 2) (omega arith) ∙ sym (get_get k (entry_offset s + place_offset) 3 1 2 (omega arith)) ∙ ap (λ (o : List ℕ). get o 1 2) written in
    sym (stream_read k s) ∙ rw (reserved, permitted, here, two, two_octets_lem left) (ap (λ (x : Stream). at_place x place left) (stream_read l s))

-- after a stream's place was written: nothing else of the stream changes
module _ (l : List ℕ) (s place left : ℕ) where
  pub stream_place : Whole l → s < stream_count → stream_at (with_place l s place left) s ≡ at_place (stream_at l s) place left
  unfolding with_place
  stream_place h b =
      same_but_place l (with_place l s place left) s place left
      (get_or_put l (entry_offset s + place_offset) (place_octets place left) (entry_offset s) (λ k a c d e. omega arith))
      (get_put l (entry_offset s + place_offset) (place_octets place left) (omega arith))
      (get_apart l (entry_offset s + place_offset) (place_octets place left) (entry_offset s + permitted_offset) 2 (λ k a c d e. omega arith))

  pub other_place : (t : ℕ) → (t ≡ s → ⊥) → stream_at (with_place l s place left) t ≡ stream_at l t
  unfolding stream_at with_place
  other_place t other =
      ap entry_stream (get_apart l (entry_offset s + place_offset) (place_octets place left) (entry_offset t) stream_length (λ k a b c d. other (omega arith)))

  pub prior_place : prior_at (with_place l s place left) ≡ prior_at l
  unfolding prior_at with_place
  prior_place = ap octet_of (get_apart l (entry_offset s + place_offset) (place_octets place left) prior_offset 1 (λ k a b c d. omega arith))

  pub waits_place : waits_at (with_place l s place left) ≡ waits_at l
  unfolding waits_at with_place
  waits_place = ap four_of (get_apart l (entry_offset s + place_offset) (place_octets place left) waits_offset 4 (λ k a b c d. omega arith))

  pub queue_place : (q : ℕ) → q < queue_room → queue_at (with_place l s place left) q ≡ queue_at l q
  unfolding queue_at with_place
  queue_place q h = ap queue_of (get_apart l (entry_offset s + place_offset) (place_octets place left) (queue_offset q) queue_length (λ k a b c d. omega arith))

  pub place_cases : (G : Stream → Type 0) (t : ℕ) → Whole l → t < stream_count
      → (t ≡ s → G (at_place (stream_at l t) place left)) → ((t ≡ s → ⊥) → G (stream_at l t)) → G (stream_at (with_place l s place left) t)
  place_cases G t whole b same other =
      ⊎_elim
      (λ (e : t ≡ s).
      subst G
      (sym (ap (stream_at (with_place l s place left)) e ∙ stream_place whole (omega arith) ∙ ap (λ (i : ℕ). at_place (stream_at l i) place left) (sym e)))
      (same e))
      (λ (n : t ≡ s → ⊥). subst G (sym (other_place t n)) (other n))
      (eq_or_not t s)
