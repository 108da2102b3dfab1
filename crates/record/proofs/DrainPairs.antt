-- What the record reads after a stream's draining count was written, and what the count is after any other write. A law is named after the reader and
-- the writer. Assumes nothing.
use Prim.Native.Nat.{ℕ, ◌+◌, ◌<◌}
use mathlib.Core.Path.{◌≡◌, sym, ap, subst, ◌∙◌}
use mathlib.Core.Logic.{⊎_elim}
use mathlib.Core.List.{List, [], ◌∷◌, ◌++◌}
use native.Mathlib.Omega.{arith}
use Rattle.lists.specs.Window.{get}
use Rattle.lists.proofs.WindowLaws.{get_apart, get_put, get_get}
use Rattle.lists.proofs.Order.{eq_or_not}
use Rattle.octets.specs.Numbers.{four_of, four_octets}
use Rattle.stream.specs.declared.Stream.{Stream}
use Rattle.queue.specs.declared.Queue.{Queue}
use Rattle.record.specs.Layout.{Whole, stream_count, prior_offset, waits_offset, queue_offset, queue_length, queue_room, entry_offset, place_offset, stream_length, drain_offset, bound_offset}
use Rattle.record.specs.Head.{octet_of, prior_at, with_prior, waits_at, with_waits, queue_of, queue_octets, queue_at, with_queue}
use Rattle.record.specs.Entry.{entry_stream, place_octets, stream_octets, stream_at, with_stream, with_place, drain_at, with_drain, pair_octets, with_binding}

-- after the count of a stream was written
module _ (l : List ℕ) (s ticks : ℕ) where
  pub drain_drain : Whole l → s < stream_count → drain_at (with_drain l s ticks) s ≡ ticks
  unfolding drain_at with_drain
  drain_drain h b = ap octet_of (get_put l (entry_offset s + drain_offset) (ticks ∷ []) (omega arith))

  pub other_drain : (t : ℕ) → (t ≡ s → ⊥) → drain_at (with_drain l s ticks) t ≡ drain_at l t
  unfolding drain_at with_drain
  other_drain t other =
      ap octet_of (get_apart l (entry_offset s + drain_offset) (ticks ∷ []) (entry_offset t + drain_offset) 1 (λ k a b c d. other (omega arith)))

  pub stream_drain : (t : ℕ) → stream_at (with_drain l s ticks) t ≡ stream_at l t
  unfolding stream_at with_drain
  stream_drain t = ap entry_stream (get_apart l (entry_offset s + drain_offset) (ticks ∷ []) (entry_offset t) stream_length (λ k a b c d. omega arith))

  pub prior_drain : prior_at (with_drain l s ticks) ≡ prior_at l
  unfolding prior_at with_drain
  prior_drain = ap octet_of (get_apart l (entry_offset s + drain_offset) (ticks ∷ []) prior_offset 1 (λ k a b c d. omega arith))

  pub waits_drain : waits_at (with_drain l s ticks) ≡ waits_at l
  unfolding waits_at with_drain
  waits_drain = ap four_of (get_apart l (entry_offset s + drain_offset) (ticks ∷ []) waits_offset 4 (λ k a b c d. omega arith))

  pub queue_drain : (q : ℕ) → q < queue_room → queue_at (with_drain l s ticks) q ≡ queue_at l q
  unfolding queue_at with_drain
  queue_drain q h = ap queue_of (get_apart l (entry_offset s + drain_offset) (ticks ∷ []) (queue_offset q) queue_length (λ k a b c d. omega arith))

  -- whatever holds of what was written and of what was there holds of what is read
  pub drain_cases : (G : ℕ → Type 0) (t : ℕ) → Whole l → t < stream_count → (t ≡ s → G ticks) → ((t ≡ s → ⊥) → G (drain_at l t)) → G (drain_at (with_drain l s ticks) t)
  drain_cases G t whole b same other =
      ⊎_elim
      (λ (e : t ≡ s). subst G (sym (ap (drain_at (with_drain l s ticks)) e ∙ drain_drain whole (omega arith))) (same e))
      (λ (n : t ≡ s → ⊥). subst G (sym (other_drain t n)) (other n))
      (eq_or_not t s)

-- after a field of the head was written
module _ (l : List ℕ) (s : ℕ) where
  pub drain_prior : (number : ℕ) → drain_at (with_prior l number) s ≡ drain_at l s
  unfolding drain_at with_prior
  drain_prior number = ap octet_of (get_apart l prior_offset (number ∷ []) (entry_offset s + drain_offset) 1 (λ k a b c d. omega arith))

  pub drain_waits : (octets : ℕ) → drain_at (with_waits l octets) s ≡ drain_at l s
  unfolding drain_at with_waits
  drain_waits octets = ap octet_of (get_apart l waits_offset (four_octets octets) (entry_offset s + drain_offset) 1 (λ k a b c d. omega arith))

  pub drain_queue : (q : ℕ) (x : Queue) → q < queue_room → drain_at (with_queue l q x) s ≡ drain_at l s
  unfolding drain_at with_queue
  drain_queue q x h = ap octet_of (get_apart l (queue_offset q) (queue_octets x) (entry_offset s + drain_offset) 1 (λ k a b c d. omega arith))

-- after a place or a binding was written, of whatever stream
module _ (l : List ℕ) (s t : ℕ) where
  pub drain_place : (place left : ℕ) → drain_at (with_place l s place left) t ≡ drain_at l t
  unfolding drain_at with_place
  drain_place place left =
      ap octet_of (get_apart l (entry_offset s + place_offset) (place_octets place left) (entry_offset t + drain_offset) 1 (λ k a b c d. omega arith))

  pub drain_binding : (address : List ℕ) (vid : ℕ) → drain_at (with_binding l s address vid) t ≡ drain_at l t
  unfolding drain_at with_binding
  drain_binding address vid =
      ap octet_of (get_apart l (entry_offset s + bound_offset) (1 ∷ pair_octets address vid) (entry_offset t + drain_offset) 1 (λ k a b c d. omega arith))

-- after a reservation was written
module _ (l : List ℕ) (s : ℕ) (x : Stream) where
  pub drain_stream : Whole l → s < stream_count → drain_at (with_stream l s x) s ≡ 0
  unfolding drain_at with_stream
  drain_stream h b =
      ap octet_of
      (sym (get_get (with_stream l s x) (entry_offset s) (stream_length + 1) drain_offset 1 (omega arith))
      ∙ ap (λ (o : List ℕ). get o drain_offset 1) (get_put l (entry_offset s) (stream_octets x ++ (0 ∷ [])) (omega arith)))

  pub other_drain_stream : (t : ℕ) → (t ≡ s → ⊥) → drain_at (with_stream l s x) t ≡ drain_at l t
  unfolding drain_at with_stream
  other_drain_stream t other =
      ap octet_of (get_apart l (entry_offset s) (stream_octets x ++ (0 ∷ [])) (entry_offset t + drain_offset) 1 (λ k a b c d. other (omega arith)))
