-- Laws of a number's digits: one digit, or those of a tenth of the number and one more; and how many there are. Assumes nothing.
use Prim.Native.Nat.{◌%◌, ◌*◌, ◌+◌, ◌-◌, ◌/◌, ◌<◌, ◌^◌, ◌≤◌, suc, zero, ℕ}
use mathlib.Core.Path.{◌∙◌, ◌≡◌, ap, refl, sym}
use mathlib.Core.Bool.{Bool, cond}
use mathlib.Core.Logic.{⊎_elim}
use mathlib.Core.List.{List, [], ◌++◌, ◌∷◌}
use native.Mathlib.Omega.{arith}
use lib.ListN.{get_or, length, length-append}
use borrow.Author.Tests.{le-ltb, lt-ltb}
use Rattle.lists.proofs.Order.{le_or_lt}
use Rattle.text.specs.Digits.{digit, digits, digits_within}

within_one : (k n : ℕ) → n < 10 → digits_within (suc k) n ≡ digit n ∷ []
unfolding digits_within
within_one k n h = ap (λ (b : Bool). cond b (digit n ∷ []) (digits_within k (n / 10) ++ (digit (n % 10) ∷ []))) (lt-ltb n 10 h)

within_more : (k n : ℕ) → 10 ≤ n → digits_within (suc k) n ≡ digits_within k (n / 10) ++ (digit (n % 10) ∷ [])
unfolding digits_within
within_more k n h = ap (λ (b : Bool). cond b (digit n ∷ []) (digits_within k (n / 10) ++ (digit (n % 10) ∷ []))) (le-ltb n 10 h)

-- where there is room for all digits, more room changes nothing
within_any : (k j n : ℕ) → n ≤ k → n ≤ j → digits_within (suc k) n ≡ digits_within (suc j) n
within_any zero j n h i = within_one zero n (omega arith) ∙ sym (within_one j n (omega arith))
within_any (suc k) zero n h i = within_one (suc k) n (omega arith) ∙ sym (within_one zero n (omega arith))
within_any (suc k) (suc j) n h i =
    ⊎_elim
    (λ (more : 10 ≤ n). within_more (suc k) n more
    ∙ ap (λ (l : List ℕ). l ++ (digit (n % 10) ∷ [])) (within_any k j (n / 10) (omega arith) (omega arith))
    ∙ sym (within_more (suc j) n more))
    (λ (one : n < 10). within_one (suc k) n one ∙ sym (within_one (suc j) n one))
    (le_or_lt 10 n)

pub digits_one : (n : ℕ) → n < 10 → digits n ≡ digit n ∷ []
unfolding digits
digits_one n h = within_one n n h

pub digits_more : (n : ℕ) → 10 ≤ n → digits n ≡ digits (n / 10) ++ (digit (n % 10) ∷ [])
unfolding digits
digits_more zero h = absurd (omega arith)
digits_more (suc n) h =
    within_more (suc n) (suc n) h
    ∙ ap (λ (l : List ℕ). l ++ (digit (suc n % 10) ∷ [])) (within_any n (suc n / 10) (suc n / 10) (omega arith) (omega arith))

pub length_more : (n : ℕ) → 10 ≤ n → length (digits n) ≡ length (digits (n / 10)) + 1
length_more n h = ap length (digits_more n h) ∙ length-append (digits (n / 10)) (digit (n % 10) ∷ [])

pub length_one : (n : ℕ) → n < 10 → length (digits n) ≡ 1
length_one n h = ap length (digits_one n h)

-- every number has digits
some_digits : (n : ℕ) → 0 < length (digits n)
some_digits n =
    ⊎_elim
    (λ (more : 10 ≤ n). omega (arith, length_more n more))
    (λ (one : n < 10). omega (arith, length_one n one))
    (le_or_lt 10 n)

-- a number of one digit is below ten, and one of more digits is not
pub one_left : (n : ℕ) → length (digits n) ≤ 1 → n < 10
one_left n h =
    ⊎_elim
    (λ (more : 10 ≤ n). absurd (omega (arith, length_more n more, some_digits (n / 10), h)))
    (λ (one : n < 10). one)
    (le_or_lt 10 n)

pub some_left : (n : ℕ) → 1 < length (digits n) → 10 ≤ n
some_left n h =
    ⊎_elim
    (λ (more : 10 ≤ n). more)
    (λ (one : n < 10). absurd (omega (arith, length_one n one, h)))
    (le_or_lt 10 n)

-- a number below a power of ten has at most as many digits as the power says
pub length_digits : (k n : ℕ) → n < 10 ^ suc k → length (digits n) ≤ suc k
length_digits zero n h = omega (arith, length_one n (omega arith))
length_digits (suc k) n h =
    ⊎_elim
    (λ (more : 10 ≤ n). omega (arith, length_more n more, length_digits k (n / 10) (omega arith)))
    (λ (one : n < 10). omega (arith, length_one n one))
    (le_or_lt 10 n)

-- a number that is not below a power of ten has more digits than the power says
more_digits : (k n : ℕ) → 10 ^ k ≤ n → suc k ≤ length (digits n)
more_digits zero n h = omega (arith, some_digits n)
more_digits (suc k) n h =
    ⊎_elim
    (λ (more : 10 ≤ n). omega (arith, length_more n more, more_digits k (n / 10) (omega (arith, h))))
    (λ (one : n < 10). absurd (omega (arith, h, one, positive k)))
    (le_or_lt 10 n)
  where
    positive : (j : ℕ) → 0 < 10 ^ j
    positive zero = omega arith
    positive (suc j) = omega (arith, positive j)

pub length_power : (k n : ℕ) → 10 ^ k ≤ n → n < 10 * 10 ^ k → length (digits n) ≡ k + 1
length_power k n low high = omega (arith, more_digits k n low, length_digits k n (omega (arith, high)))

-- the number that digits stand for, after the number so far
abbrev pub value_after : ℕ → List ℕ → ℕ
value_after so_far [] = so_far
value_after so_far (d ∷ ds) = value_after (so_far * 10 + (d - digit 0)) ds

value_last : (so_far : ℕ) (ds : List ℕ) (d : ℕ) → value_after so_far (ds ++ (d ∷ [])) ≡ value_after so_far ds * 10 + (d - digit 0)
value_last so_far [] d = refl
value_last so_far (e ∷ ds) d = value_last (so_far * 10 + (e - digit 0)) ds d

value_to : (k n : ℕ) → n ≤ k → value_after 0 (digits n) ≡ n
value_to zero n h = ap (value_after 0) (digits_one n (omega arith)) ∙ omega arith
value_to (suc k) n h =
    ⊎_elim
    (λ (more : 10 ≤ n). (
    let tenth = value_to k (n / 10) (omega arith) in
    ap (value_after 0) (digits_more n more) ∙ value_last 0 (digits (n / 10)) (digit (n % 10)) ∙ omega (arith, tenth)))
    (λ (one : n < 10). ap (value_after 0) (digits_one n one) ∙ omega arith)
    (le_or_lt 10 n)

first_of : (xs ys : List ℕ) → 0 < length xs → get_or (xs ++ ys) 0 0 ≡ get_or xs 0 0
first_of [] ys h = absurd (omega arith)
first_of (x ∷ xs) ys h = refl

first_to : (k n : ℕ) → n ≤ k → get_or (digits n) 0 0 ≡ digit 0 → n ≡ 0
first_to zero n h e = omega arith
first_to (suc k) n h e =
    ⊎_elim
    (λ (more : 10 ≤ n). (
    let front = sym (ap (λ (l : List ℕ). get_or l 0 0) (digits_more n more) ∙ first_of (digits (n / 10)) (digit (n % 10) ∷ []) (some_digits (n / 10))) ∙ e in
    absurd (omega (arith, more, first_to k (n / 10) (omega arith) front))))
    (λ (one : n < 10). (let front = sym (ap (λ (l : List ℕ). get_or l 0 0) (digits_one n one)) ∙ e in omega (arith, front)))
    (le_or_lt 10 n)

-- the definition is right: the digits of a number stand for it, and the first is 0 only in the number 0
pub digits_value : (n : ℕ) → value_after 0 (digits n) ≡ n
digits_value n = value_to n n (omega arith)

pub no_zero_first : (n : ℕ) → get_or (digits n) 0 0 ≡ digit 0 → n ≡ 0
no_zero_first n e = first_to n n (omega arith) e
