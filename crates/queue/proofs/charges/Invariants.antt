-- `queue::charges` meets its contract. The loop's invariant: the sum is that of the frames passed, each at most 65,535. Assumes nothing.
use Prim.Native.Nat.{◌*◌, ◌≤◌}
use mathlib.Core.Path.{◌≡◌}
use Rattle.lists.specs.Turns.{sum_to}
use Rattle.queue.specs.Place.{frame_at}
use Rattle.queue.specs.Ring.{memory_offset}
use Rattle.queue.proofs.charges.Given as goal

abbrev pub invariant-loop-i : goal.invariant-loop-i
invariant-loop-i l = (l.sum ≤ 65535 * l.i) × (l.sum ≡ sum_to (λ k. (frame_at l.memory (memory_offset l.number l.queue k)).charge) l.i)
