-- What the record reads after the writes of Open in the head: the mark of an open port, K, L, and a queue. A law is named after the reader and the
-- writer. Assumes nothing.
use Prim.Native.Nat.{ℕ}
use mathlib.Core.Bool.{true}
use mathlib.Core.Path.{◌≡◌, ap, ◌∙◌}
use mathlib.Core.List.{List, [], ◌∷◌}
use native.Mathlib.Omega.{arith}
use lib.ListN.{length}
use Rattle.lists.proofs.WindowLaws.{length_put, get_apart, get_put}
use Rattle.octets.specs.Numbers.{two_of, two_octets}
use Rattle.octets.proofs.NumberLaws.{two_octets_lem}
use Rattle.queue.specs.declared.Queue.{Queue}
use Rattle.record.specs.Layout.{Whole, open_offset, prior_offset, delay_offset, link_offset, queue_offset}
use Rattle.record.specs.Head.{octet_of, mark_of, open_at, with_open, prior_at, delay_at, with_delay, link_at, with_link, queue_octets, with_queue}

-- after the port was marked open
module _ (l : List ℕ) where
  pub length_open : length (with_open l) ≡ length l
  unfolding with_open
  length_open = length_put l open_offset (1 ∷ [])

  pub open_open : Whole l → open_at (with_open l) ≡ true
  unfolding open_at with_open
  open_open h = ap mark_of (get_put l open_offset (1 ∷ []) (omega arith))

-- after K was written
module _ (l : List ℕ) (epochs : ℕ) where
  pub length_delay : length (with_delay l epochs) ≡ length l
  unfolding with_delay
  length_delay = length_put l delay_offset (epochs ∷ [])

  pub delay_delay : Whole l → delay_at (with_delay l epochs) ≡ epochs
  unfolding delay_at with_delay
  delay_delay h = ap octet_of (get_put l delay_offset (epochs ∷ []) (omega arith))

  pub open_delay : open_at (with_delay l epochs) ≡ open_at l
  unfolding open_at with_delay
  open_delay = ap mark_of (get_apart l delay_offset (epochs ∷ []) open_offset 1 (λ k a b c d. omega arith))

  pub prior_delay : prior_at (with_delay l epochs) ≡ prior_at l
  unfolding prior_at with_delay
  prior_delay = ap octet_of (get_apart l delay_offset (epochs ∷ []) prior_offset 1 (λ k a b c d. omega arith))

-- after L was written
module _ (l : List ℕ) (octets : ℕ) where
  pub length_link : length (with_link l octets) ≡ length l
  unfolding with_link
  length_link = length_put l link_offset (two_octets octets)

  pub link_link : Whole l → link_at (with_link l octets) ≡ octets
  unfolding link_at with_link
  link_link h = ap two_of (get_put l link_offset (two_octets octets) (omega arith)) ∙ two_octets_lem octets

  pub open_link : open_at (with_link l octets) ≡ open_at l
  unfolding open_at with_link
  open_link = ap mark_of (get_apart l link_offset (two_octets octets) open_offset 1 (λ k a b c d. omega arith))

  pub prior_link : prior_at (with_link l octets) ≡ prior_at l
  unfolding prior_at with_link
  prior_link = ap octet_of (get_apart l link_offset (two_octets octets) prior_offset 1 (λ k a b c d. omega arith))

  pub delay_link : delay_at (with_link l octets) ≡ delay_at l
  unfolding delay_at with_link
  delay_link = ap octet_of (get_apart l link_offset (two_octets octets) delay_offset 1 (λ k a b c d. omega arith))

-- after a queue of whatever number was written
module _ (l : List ℕ) (q : ℕ) (x : Queue) where
  pub length_queue : length (with_queue l q x) ≡ length l
  unfolding with_queue
  length_queue = length_put l (queue_offset q) (queue_octets x)

  pub open_queue : open_at (with_queue l q x) ≡ open_at l
  unfolding open_at with_queue
  open_queue = ap mark_of (get_apart l (queue_offset q) (queue_octets x) open_offset 1 (λ k a b c d. omega arith))

  pub delay_queue : delay_at (with_queue l q x) ≡ delay_at l
  unfolding delay_at with_queue
  delay_queue = ap octet_of (get_apart l (queue_offset q) (queue_octets x) delay_offset 1 (λ k a b c d. omega arith))

  pub link_queue : link_at (with_queue l q x) ≡ link_at l
  unfolding link_at with_queue
  link_queue = ap two_of (get_apart l (queue_offset q) (queue_octets x) link_offset 2 (λ k a b c d. omega arith))
