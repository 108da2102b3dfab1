-- The interrupt line is up exactly when flags and mask share a one. Assumes nothing.
use Rattle.std.proofs.Common.{◌≡◌, ℕ, zero, suc, ◌+◌, ◌%◌, ◌^◌, ◌<◌, ◌≤◌, Bool, true, false, cond, ◌&&◌, ◌||◌, eqb, List, sym, refl, ap, ◌∙◌, ap₂, ⊎_elim, arith}
use native.Mathlib.Nat.{div-eq_of_lt, pow-le-pow_right}
use Rattle.std.proofs.lemmas.Bool.{or_left, or_right, or_cases}
use Rattle.lists.proofs.EachLaws.{differ}
use Rattle.lists.proofs.TurnLaws.{both}
use Rattle.register_block.specs.Layout.{discard_flag, purge_flag, nothing_flag}
use Rattle.register_block.specs.Fields.{flag_at, bit_of, bit0, bit1, bit2}
use Rattle.register_block.specs.Shown.{flags_of, mask_of, shares_one, line_up, ShareOne, LineExactly}

-- three bits as a number
abbrev three : Bool → Bool → Bool → ℕ
three x y z = cond x bit0 0 + cond y bit1 0 + cond z bit2 0

-- the number has them at its first three bits,
first_bit : (x y z : Bool) → bit_of (three x y z) bit0 ≡ x
first_bit true true true = refl
first_bit true true false = refl
first_bit true false true = refl
first_bit true false false = refl
first_bit false true true = refl
first_bit false true false = refl
first_bit false false true = refl
first_bit false false false = refl

second_bit : (x y z : Bool) → bit_of (three x y z) bit1 ≡ y
second_bit true true true = refl
second_bit true true false = refl
second_bit true false true = refl
second_bit true false false = refl
second_bit false true true = refl
second_bit false true false = refl
second_bit false false true = refl
second_bit false false false = refl

third_bit : (x y z : Bool) → bit_of (three x y z) bit2 ≡ z
third_bit true true true = refl
third_bit true true false = refl
third_bit true false true = refl
third_bit true false false = refl
third_bit false true true = refl
third_bit false true false = refl
third_bit false false true = refl
third_bit false false false = refl

-- and no one above them
below_eight : (x y z : Bool) → three x y z < 8
below_eight x y z = omega (arith, small x bit0, small y bit1, small z bit2)
  where
    small : (t : Bool) (weight : ℕ) → cond t weight 0 ≤ weight
    small true weight = omega arith
    small false weight = omega arith

no_bit : (x y z : Bool) (n : ℕ) → bit_of (three x y z) (2 ^ suc (suc (suc n))) ≡ false
no_bit x y z n =
    let far : 2 ^ 3 ≤ 2 ^ suc (suc (suc n)) = pow-le-pow_right {n = 2} (omega arith) {i = 3} {j = suc (suc (suc n))} (omega arith) in
    ap (λ (k : ℕ). eqb (k % 2) 1) (div-eq_of_lt {n = three x y z} {m = 2 ^ suc (suc (suc n))} (omega (arith, below_eight x y z, far)))

module _ (b : List ℕ) where
  -- a flag that is up with its bit of the mask is a one that is shared
  at_flag : (flag weight n : ℕ) → weight ≡ 2 ^ n → bit_of (flags_of b) weight ≡ flag_at b flag → shares_one b flag weight ≡ true → ShareOne (flags_of b) (mask_of b)
  unfolding shares_one
  at_flag flag weight n power shown e =
      let s = both (flag_at b flag) (bit_of (mask_of b) weight) e in
      record { bit = n; first = ap (bit_of (flags_of b)) (sym power) ∙ shown ∙ s.0; second = ap (bit_of (mask_of b)) (sym power) ∙ s.1 }

  -- and the other way round
  from_bit : (flag weight : ℕ) → bit_of (flags_of b) weight ≡ flag_at b flag → bit_of (flags_of b) weight ≡ true → bit_of (mask_of b) weight ≡ true → shares_one b flag weight ≡ true
  unfolding shares_one
  from_bit flag weight shown one mask = ap₂ ◌&&◌ (sym shown ∙ one) mask

  discard_bit : bit_of (flags_of b) bit0 ≡ flag_at b discard_flag
  unfolding flags_of
  discard_bit = first_bit (flag_at b discard_flag) (flag_at b purge_flag) (flag_at b nothing_flag)

  purge_bit : bit_of (flags_of b) bit1 ≡ flag_at b purge_flag
  unfolding flags_of
  purge_bit = second_bit (flag_at b discard_flag) (flag_at b purge_flag) (flag_at b nothing_flag)

  nothing_bit : bit_of (flags_of b) bit2 ≡ flag_at b nothing_flag
  unfolding flags_of
  nothing_bit = third_bit (flag_at b discard_flag) (flag_at b purge_flag) (flag_at b nothing_flag)

  up_shares : line_up b ≡ true → ShareOne (flags_of b) (mask_of b)
  unfolding line_up
  up_shares e =
      ⊎_elim
      (at_flag discard_flag bit0 0 refl discard_bit)
      (λ rest. ⊎_elim (at_flag purge_flag bit1 1 refl purge_bit) (at_flag nothing_flag bit2 2 refl nothing_bit) (or_cases (shares_one b purge_flag bit1) (shares_one b nothing_flag bit2) rest))
      (or_cases (shares_one b discard_flag bit0) (shares_one b purge_flag bit1 || shares_one b nothing_flag bit2) e)

  shares_up : (n : ℕ) → bit_of (flags_of b) (2 ^ n) ≡ true → bit_of (mask_of b) (2 ^ n) ≡ true → line_up b ≡ true
  unfolding line_up flags_of
  shares_up zero one mask = or_left (shares_one b discard_flag bit0) _ (from_bit discard_flag bit0 discard_bit one mask)
  shares_up (suc zero) one mask = or_right (shares_one b discard_flag bit0) _ (or_left (shares_one b purge_flag bit1) (shares_one b nothing_flag bit2) (from_bit purge_flag bit1 purge_bit one mask))
  shares_up (suc (suc zero)) one mask = or_right (shares_one b discard_flag bit0) _ (or_right (shares_one b purge_flag bit1) (shares_one b nothing_flag bit2) (from_bit nothing_flag bit2 nothing_bit one mask))
  shares_up (suc (suc (suc n))) one mask = differ (sym one ∙ no_bit (flag_at b discard_flag) (flag_at b purge_flag) (flag_at b nothing_flag) n)

pub line_exactly : (b : List ℕ) → LineExactly b
line_exactly b = record { only_then = up_shares b; then_up = λ s. shares_up b s.bit s.first s.second }
