-- `fitness::bindings::unlike` meets its contract. The loop's invariant: what the pairs passed answer. Assumes nothing.
use mathlib.Core.Bool.{not}
use mathlib.Core.Path.{◌≡◌}
use lib.Dec.{eqb}
use lib.ListN.{take}
use Rattle.std.specs.List.{list_all}
use Rattle.fitness.proofs.bindings.unlike.Given as goal

abbrev pub invariant-loop-gathered : goal.invariant-loop-gathered
invariant-loop-gathered l = l.ok ≡ list_all (λ gathered. not (eqb gathered l.pair)) (take l.gathered-index l.pairs)
