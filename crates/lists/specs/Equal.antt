-- The test whether two lists of octets are the same.
use Rattle.std.specs.Prelude.{ℕ, Bool, ◌&&◌, List, length, get_or, eqb}
use Rattle.lists.specs.Turns.{all_to}

-- as long as each other, and the same octet at each index
unfoldable pub octets_equal : List ℕ → List ℕ → Bool
octets_equal xs ys = eqb (length xs) (length ys) && all_to (λ i. eqb (get_or xs i 0) (get_or ys i 0)) (length xs)
