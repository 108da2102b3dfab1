-- `opening::empty_queues` meets its contract. The loop's invariant: the record is what the turns done so far make of it. Assumes nothing.
use mathlib.Core.Path.{◌≡◌}
use Rattle.lists.specs.Turns.{iterate}
use Rattle.queue.specs.Ring.{empty_queue}
use Rattle.record.specs.Head.{with_queue}
use Rattle.opening.proofs.empty_queues.Given as goal

abbrev pub invariant-loop-q : goal.invariant-loop-q
invariant-loop-q l = l.port ≡ iterate (λ q r. with_queue r q empty_queue) l.q l.initial.port
