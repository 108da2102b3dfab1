-- `replay::read_input` meets its contract. What was read lies within the room, and each turn but the last reads something.
use Rattle.std.proofs.Common.{◌≤◌, ◌-◌, length}
use Rattle.replay.proofs.read_input.Given as goal

abbrev pub invariant-loop-done : goal.invariant-loop-done
invariant-loop-done l = l.done ≤ length l.file

abbrev pub decreases-loop-done : goal.decreases-loop-done
decreases-loop-done l = length l.file - l.done
