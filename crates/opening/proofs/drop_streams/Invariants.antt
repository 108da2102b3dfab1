-- `opening::drop_streams` meets its contract. The loop's invariant: the record is what the turns done so far make of it. Assumes nothing.
use mathlib.Core.Path.{◌≡◌}
use Rattle.lists.specs.Turns.{iterate}
use Rattle.record.specs.Entry.{dropped}
use Rattle.opening.proofs.drop_streams.Given as goal

abbrev pub invariant-loop-s : goal.invariant-loop-s
invariant-loop-s l = l.port ≡ iterate (λ s r. dropped r s) l.s l.initial.port
