-- `gates::refusals::exceeds_limit` meets its contract. Assumes nothing.
use Prim.Native.Nat.{ℕ, ◌+◌}
use mathlib.Core.Path.{ap₂}
use native.Mathlib.Omega.{arith}
use lib.Dec.{ltb}
use borrow.Author.Tests.{ltb-false}
use Rattle.gates.proofs.refusals.exceeds_limit.Goals as goal

pub returns : goal.returns
returns c =
    let a = c.args in (
      ap₂ (λ (k w : ℕ). ltb k (w + a.charge)) c.best_effort_limit.ensures c.waits.ensures,
      λ kept. omega (arith, ltb-false c.best_effort_limit.result (c.waits.result + a.charge) kept, c.waits.ensures),
    )
