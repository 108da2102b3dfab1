-- Which numbers a chain of tests cannot answer. Assumes nothing.
use Prim.Native.Nat.{ℕ, ◌<◌}
use mathlib.Core.Bool.{Bool, true, false, cond}
use mathlib.Core.Logic.{◌⊎◌, inl, inr}

-- numbers that are none of those from the least to the greatest
abbrev pub Outside : ℕ → ℕ → ℕ → Type 0
Outside least greatest n = (n < least) ⊎ (greatest < n)

pub outside_low : (least greatest n : ℕ) → n < least → Outside least greatest n
outside_low least greatest n h = inl h

pub outside_high : (least greatest n : ℕ) → greatest < n → Outside least greatest n
outside_high least greatest n h = inr h

-- what a chain of tests decides is none of them where each test's number is none
module _ (least greatest : ℕ) (b : Bool) (n rest : ℕ) (h : Outside least greatest rest) where
  pub low_test : n < least → Outside least greatest (cond b n rest)
  low_test low = told b
    where
      told : (t : Bool) → Outside least greatest (cond t n rest)
      told true = inl low
      told false = h

  pub high_test : greatest < n → Outside least greatest (cond b n rest)
  high_test high = told b
    where
      told : (t : Bool) → Outside least greatest (cond t n rest)
      told true = inr high
      told false = h
