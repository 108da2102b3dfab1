-- Numbers of two, four and eight octets, high octet first.
use Rattle.std.specs.Prelude.{ℕ, ◌+◌, ◌*◌, ◌/◌, ◌%◌, List, [], ◌∷◌, ◌++◌, get_or}
use Rattle.lists.specs.Window.{get}

-- the number of two octets, and the two octets of a number below 65,536
unfoldable pub two_of : List ℕ → ℕ
two_of o = get_or o 0 0 * 256 + get_or o 1 0

abbrev pub two_octets : ℕ → List ℕ
two_octets n = n / 256 ∷ n % 256 ∷ []

-- the number of four octets, and the four octets of a number below 4,294,967,296: its two halves
unfoldable pub four_of : List ℕ → ℕ
four_of o = two_of (get o 0 2) * 65536 + two_of (get o 2 2)

abbrev pub four_octets : ℕ → List ℕ
four_octets n = two_octets (n / 65536) ++ two_octets (n % 65536)

-- the number of eight octets
unfoldable pub eight_of : List ℕ → ℕ
eight_of o = four_of (get o 0 4) * 4294967296 + four_of (get o 4 4)
