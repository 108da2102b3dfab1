-- Octets read and written at an index of a longer list. Both step by `i + 1`, as code does that writes one octet after the other.
use Rattle.std.specs.Prelude.{ℕ, zero, suc, ◌+◌, ◌≤◌, ◌<◌, List, [], ◌∷◌, get_or, set}

-- the list with the octets vs from index i on; an octet past the list's end is written nowhere
abbrev pub put : List ℕ → ℕ → List ℕ → List ℕ
put l i [] = l
put l i (a ∷ vs) = put (set l i a) (i + 1) vs

-- the n octets of the list from index i on; past the list's end each is 0
abbrev pub get : List ℕ → ℕ → ℕ → List ℕ
get l i zero = []
get l i (suc n) = get_or l i 0 ∷ get l (i + 1) n

-- the n indices from i on and the m indices from j on have none in common
abbrev pub Apart : ℕ → ℕ → ℕ → ℕ → Type 0
Apart i n j m = (k : ℕ) → i ≤ k → k < i + n → j ≤ k → k < j + m → ⊥
