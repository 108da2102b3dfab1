-- `ticking::tick_streams` meets its contract. The loop's invariant: the record is what the turns done so far make of it. Assumes nothing.
use mathlib.Core.Path.{◌≡◌}
use Rattle.lists.specs.Turns.{iterate}
use Rattle.ticking.specs.Ticking.{ticked_at}
use Rattle.ticking.proofs.tick_streams.Given as goal

abbrev pub invariant-loop-s : goal.invariant-loop-s
invariant-loop-s l = l.port ≡ iterate ticked_at l.s l.initial.port
