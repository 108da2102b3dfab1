-- A line of text: numbers with single spaces between them, and a line feed after the last.
use Rattle.std.specs.Prelude.{ℕ, ◌+◌, ◌≡◌, cond, List, [], ◌∷◌, ◌++◌, length, eqb}
use Rattle.lists.specs.Window.{put}
use Rattle.text.specs.Digits.{digits}

-- the octets of a space and of a line feed
abbrev pub space : ℕ
space = 32

abbrev pub line_feed : ℕ
line_feed = 10

-- a number, and the octet that ends it
unfoldable pub number_then : ℕ → ℕ → List ℕ
number_then n end = digits n ++ (end ∷ [])

-- the octet that ends a number after which so many numbers of the line come
abbrev pub end_before : ℕ → ℕ
end_before more = cond (eqb more 0) line_feed space

-- the line of some numbers; that of none is empty
abbrev pub line_of : List ℕ → List ℕ
line_of [] = []
line_of (n ∷ ns) = number_then n (end_before (length ns)) ++ line_of ns

-- a text t written into the slice l from index at on: what the slice becomes, and the index after the text
abbrev pub Wrote : List ℕ → ℕ → List ℕ → List ℕ → ℕ → Type 0
Wrote l at t after end = (end ≡ at + length t) × (after ≡ put l at t)
