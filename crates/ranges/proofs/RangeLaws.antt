-- A number within a range is at least its least and at most its greatest. Assumes nothing.
use Prim.Native.Nat.{ℕ, ◌≤◌}
use mathlib.Core.Path.{◌≡◌}
use mathlib.Core.Bool.{true}
use lib.Dec.{leb}
use borrow.Author.Tests.{leb-true}
use Rattle.lists.proofs.TurnLaws.{both}
use Rattle.ranges.specs.Ranges.{within}

pub within_bounds : (least greatest n : ℕ) → within least greatest n ≡ true → (least ≤ n) × (n ≤ greatest)
within_bounds least greatest n e =
    let b = both (leb least n) (leb n greatest) e in
    (leb-true least n b.0, leb-true n greatest b.1)
