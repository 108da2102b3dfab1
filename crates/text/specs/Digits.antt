-- The text of a number: its decimal digits, without leading zeros.
use Rattle.std.specs.Prelude.{ℕ, zero, suc, ◌+◌, ◌/◌, ◌%◌, cond, List, [], ◌∷◌, ◌++◌, ltb}

-- the octet of a digit
abbrev pub digit : ℕ → ℕ
digit n = 48 + n

-- the digits of a number that has at most k of them
unfoldable pub digits_within : ℕ → ℕ → List ℕ
digits_within zero n = []
digits_within (suc k) n = cond (ltb n 10) (digit n ∷ []) (digits_within k (n / 10) ++ (digit (n % 10) ∷ []))

-- the digits of any number n, which has at most n + 1 of them
unfoldable pub digits : ℕ → List ℕ
digits n = digits_within (suc n) n
