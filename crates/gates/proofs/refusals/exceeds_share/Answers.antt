-- `gates::refusals::exceeds_share` meets its contract. Assumes nothing.
use Prim.Native.Nat.{ℕ, ◌+◌}
use mathlib.Core.Path.{ap, ap₂, ◌∙◌}
use native.Mathlib.Omega.{arith}
use lib.Dec.{ltb}
use borrow.Author.Tests.{ltb-false}
use Rattle.ranges.specs.Ranges.{share_of}
use Rattle.gates.proofs.refusals.exceeds_share.Goals as goal

pub returns : goal.returns
returns c =
    let a = c.args in (
      ap₂ (λ (s r : ℕ). ltb s (r + a.permitted)) (c.share.ensures ∙ ap share_of c.link.ensures) c.permitted_sum.ensures,
      λ kept. omega (arith, ltb-false c.share.result (c.permitted_sum.result + a.permitted) kept, c.share.ensures),
    )
