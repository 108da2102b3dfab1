-- `gates::refusals::best_effort_limit` meets its contract. K is a number of 8 bits and L one of 16, so their product is one of 32. Assumes nothing.
use Prim.Native.Nat.{ℕ, ◌-◌, ◌*◌, ◌≤◌}
use mathlib.Core.Path.{◌≡◌, ◌∙◌, ap₂}
use native.Mathlib.Nat.{mul-le-mul}
use native.Mathlib.Omega.{arith}
use Rattle.gates.proofs.refusals.best_effort_limit.Goals as goal

pub overflow_mul-result : goal.overflow_mul-result
overflow_mul-result c =
    let delay : c.delay.result ≤ 255 = omega arith in
    let free : c.saturating_sub.result ≤ 65535 = omega (arith, c.saturating_sub.ensures) in
    omega (arith, mul-le-mul delay free)

pub returns : goal.returns
returns c = ap₂ ◌*◌ c.delay.ensures (c.saturating_sub.ensures ∙ ap₂ ◌-◌ c.link-link.ensures c.permitted_sum-taken.ensures)
