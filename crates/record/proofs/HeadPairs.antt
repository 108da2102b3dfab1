-- What prior, W, a queue or a stream reads after one of the head's fields was written. A law is named after the reader and the writer.
-- Assumes nothing.
use Prim.Native.Nat.{ℕ, ◌<◌}
use mathlib.Core.Path.{◌≡◌, sym, ap, subst, ◌∙◌}
use mathlib.Core.Logic.{⊎_elim}
use mathlib.Core.List.{List, [], ◌∷◌}
use native.Mathlib.Omega.{arith}
use Rattle.lists.proofs.WindowLaws.{get_apart, get_put}
use Rattle.lists.proofs.Order.{eq_or_not}
use Rattle.octets.specs.Numbers.{four_of, four_octets}
use Rattle.octets.proofs.NumberLaws.{two_octets_lem, four_octets_lem}
use Rattle.queue.specs.declared.Queue.{Queue}
use Rattle.record.specs.Layout.{Whole, prior_offset, waits_offset, queue_offset, queue_length, queue_room, entry_offset, stream_length}
use Rattle.record.specs.Head.{octet_of, prior_at, with_prior, waits_at, with_waits, queue_of, queue_octets, queue_at, with_queue}
use Rattle.record.specs.Entry.{entry_stream, stream_at}

-- after prior was written
module _ (l : List ℕ) (number : ℕ) where
  pub prior_prior : Whole l → prior_at (with_prior l number) ≡ number
  unfolding prior_at with_prior
  prior_prior h = ap octet_of (get_put l prior_offset (number ∷ []) (omega arith))

  pub waits_prior : waits_at (with_prior l number) ≡ waits_at l
  unfolding waits_at with_prior
  waits_prior = ap four_of (get_apart l prior_offset (number ∷ []) waits_offset 4 (λ k a b c d. omega arith))

  pub queue_prior : (q : ℕ) → queue_at (with_prior l number) q ≡ queue_at l q
  unfolding queue_at with_prior
  queue_prior q = ap queue_of (get_apart l prior_offset (number ∷ []) (queue_offset q) queue_length (λ k a b c d. omega arith))

  pub stream_prior : (s : ℕ) → stream_at (with_prior l number) s ≡ stream_at l s
  unfolding stream_at with_prior
  stream_prior s = ap entry_stream (get_apart l prior_offset (number ∷ []) (entry_offset s) stream_length (λ k a b c d. omega arith))

-- after W was written
module _ (l : List ℕ) (octets : ℕ) where
  pub waits_waits : Whole l → waits_at (with_waits l octets) ≡ octets
  unfolding waits_at with_waits
  waits_waits h = ap four_of (get_put l waits_offset (four_octets octets) (omega arith)) ∙ four_octets_lem octets

  pub prior_waits : prior_at (with_waits l octets) ≡ prior_at l
  unfolding prior_at with_waits
  prior_waits = ap octet_of (get_apart l waits_offset (four_octets octets) prior_offset 1 (λ k a b c d. omega arith))

  pub queue_waits : (q : ℕ) → queue_at (with_waits l octets) q ≡ queue_at l q
  unfolding queue_at with_waits
  queue_waits q = ap queue_of (get_apart l waits_offset (four_octets octets) (queue_offset q) queue_length (λ k a b c d. omega arith))

  pub stream_waits : (s : ℕ) → stream_at (with_waits l octets) s ≡ stream_at l s
  unfolding stream_at with_waits
  stream_waits s = ap entry_stream (get_apart l waits_offset (four_octets octets) (entry_offset s) stream_length (λ k a b c d. omega arith))

-- a queue's octets give the queue again
queue_octets_lem : (x : Queue) → queue_of (queue_octets x) ≡ x
queue_octets_lem x = rw (two_octets_lem x.start, two_octets_lem x.count)

-- after a queue was written
module _ (l : List ℕ) (q : ℕ) (x : Queue) where
  pub queue_queue : Whole l → q < queue_room → queue_at (with_queue l q x) q ≡ x
  unfolding queue_at with_queue
  queue_queue h b = ap queue_of (get_put l (queue_offset q) (queue_octets x) (omega arith)) ∙ queue_octets_lem x

  pub other_queue : (r : ℕ) → (r ≡ q → ⊥) → queue_at (with_queue l q x) r ≡ queue_at l r
  unfolding queue_at with_queue
  other_queue r other = ap queue_of (get_apart l (queue_offset q) (queue_octets x) (queue_offset r) queue_length (λ k a b c d. other (omega arith)))

  pub prior_queue : prior_at (with_queue l q x) ≡ prior_at l
  unfolding prior_at with_queue
  prior_queue = ap octet_of (get_apart l (queue_offset q) (queue_octets x) prior_offset 1 (λ k a b c d. omega arith))

  pub waits_queue : waits_at (with_queue l q x) ≡ waits_at l
  unfolding waits_at with_queue
  waits_queue = ap four_of (get_apart l (queue_offset q) (queue_octets x) waits_offset 4 (λ k a b c d. omega arith))

  pub stream_queue : (s : ℕ) → q < queue_room → stream_at (with_queue l q x) s ≡ stream_at l s
  unfolding stream_at with_queue
  stream_queue s b = ap entry_stream (get_apart l (queue_offset q) (queue_octets x) (entry_offset s) stream_length (λ k a c d e. omega arith))

  -- whatever holds of what was written and of what was there holds of what is read
  pub queue_cases : (G : Queue → Type 0) (r : ℕ) → Whole l → q < queue_room → (r ≡ q → G x) → ((r ≡ q → ⊥) → G (queue_at l r)) → G (queue_at (with_queue l q x) r)
  queue_cases G r whole b same other =
      ⊎_elim
      (λ (e : r ≡ q). subst G (sym (ap (queue_at (with_queue l q x)) e ∙ queue_queue whole b)) (same e))
      (λ (n : r ≡ q → ⊥). subst G (sym (other_queue r n)) (other n))
      (eq_or_not r q)
