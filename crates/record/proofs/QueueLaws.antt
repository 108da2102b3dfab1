-- What is known of the number of queues: it is at least 4 and at most 8, and no write changes it. Nobody above knows more, and no proof there opens its
-- definition, but that all ports have the same number, which is said once, below. Assumes nothing.
use Prim.Native.Nat.{ℕ, ◌≤◌}
use mathlib.Core.Path.{◌≡◌, refl}
use mathlib.Core.List.{List}
use native.Mathlib.Omega.{arith}
use Rattle.stream.specs.State.{least_queues, most_queues}
use Rattle.queue.specs.declared.Queue.{Queue}
use Rattle.record.specs.Head.{with_open, with_delay, with_link, with_queue}
use Rattle.record.specs.Entry.{with_binding, dropped}
use Rattle.record.specs.Queues.{queues_at}

-- its bounds
module _ (l : List ℕ) where
  pub queues_least : least_queues ≤ queues_at l
  unfolding queues_at
  queues_least = omega arith

  pub queues_most : queues_at l ≤ most_queues
  unfolding queues_at
  queues_most = omega arith

-- two ports have as many: that two lists of calls are alike on any two ports rests on it
pub queues_same : (k l : List ℕ) → queues_at k ≡ queues_at l
unfolding queues_at
queues_same k l = refl

-- after the writes that `Keeps` does not speak of
module _ (l : List ℕ) where
  pub queues_open : queues_at (with_open l) ≡ queues_at l
  unfolding queues_at
  queues_open = refl

  pub queues_delay : (epochs : ℕ) → queues_at (with_delay l epochs) ≡ queues_at l
  unfolding queues_at
  queues_delay epochs = refl

  pub queues_link : (octets : ℕ) → queues_at (with_link l octets) ≡ queues_at l
  unfolding queues_at
  queues_link octets = refl

  pub queues_queue : (q : ℕ) (x : Queue) → queues_at (with_queue l q x) ≡ queues_at l
  unfolding queues_at
  queues_queue q x = refl

  pub queues_binding : (s : ℕ) (address : List ℕ) (vid : ℕ) → queues_at (with_binding l s address vid) ≡ queues_at l
  unfolding queues_at
  queues_binding s address vid = refl

  pub queues_dropped : (s : ℕ) → queues_at (dropped l s) ≡ queues_at l
  unfolding queues_at
  queues_dropped s = refl
