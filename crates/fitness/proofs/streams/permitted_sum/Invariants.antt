-- `fitness::streams::permitted_sum` meets its contract. The loop's invariant: the sum is that of the streams passed, each at most 65,535. Assumes nothing.
use Prim.Native.Nat.{◌≤◌, ◌*◌}
use mathlib.Core.Path.{◌≡◌}
use Rattle.lists.specs.Turns.{sum_to}
use Rattle.record.specs.Entry.{stream_at}
use Rattle.record.specs.Reservations.{permitted_of}
use Rattle.fitness.proofs.streams.permitted_sum.Given as goal

abbrev pub invariant-loop-s : goal.invariant-loop-s
invariant-loop-s l = (l.sum ≤ 65535 * l.s) × (l.sum ≡ sum_to (λ k. permitted_of (stream_at l.port k)) l.s)
