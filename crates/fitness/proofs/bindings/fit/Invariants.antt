-- `fitness::bindings::fit` meets its contract. The loop's invariant: the bindings passed fit, and the pairs of the bound streams passed are gathered. Assumes nothing.
use Prim.Native.Nat.{◌≤◌}
use mathlib.Core.Bool.{true}
use mathlib.Core.Path.{◌≡◌}
use lib.ListN.{length}
use Rattle.lists.specs.Turns.{all_to}
use Rattle.fitness.specs.Clauses.{binding_fits, unlike_earlier}
use Rattle.fitness.proofs.GatherLaws.{Gathered}
use Rattle.fitness.proofs.bindings.fit.Given as goal

abbrev pub invariant-loop-s : goal.invariant-loop-s
invariant-loop-s l = (length l.pairs.items ≤ l.s) × ((all_to (λ t. binding_fits l.port t (unlike_earlier l.port t)) l.s ≡ true) × Gathered l.port l.pairs.items l.s)
