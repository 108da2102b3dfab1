-- Two numbers are in order one way or the other, and equal or not. Assumes nothing.
use Prim.Native.Nat.{ℕ, ◌≤◌, ◌<◌}
use mathlib.Core.Path.{◌≡◌, refl}
use mathlib.Core.Bool.{Bool, true, false}
use mathlib.Core.Logic.{◌⊎◌, inl, inr}
use lib.Dec.{leb, eqb}
use borrow.Author.Tests.{leb-true, leb-false, eqb-true, eqb-false}

-- for a proof by cases on a test
pub le_or_lt : (m n : ℕ) → (m ≤ n) ⊎ (n < m)
le_or_lt m n = told (leb m n) refl
  where
    told : (b : Bool) → leb m n ≡ b → (m ≤ n) ⊎ (n < m)
    told true e = inl (leb-true m n e)
    told false e = inr (leb-false m n e)

pub eq_or_not : (m n : ℕ) → (m ≡ n) ⊎ (m ≡ n → ⊥)
eq_or_not m n = told (eqb m n) refl
  where
    told : (b : Bool) → eqb m n ≡ b → (m ≡ n) ⊎ (m ≡ n → ⊥)
    told true e = inl (eqb-true m n e)
    told false e = inr (eqb-false m n e)
