-- The fields of the block, each read and written: the flags, and the words of 32 bits, which are the mask and the counters.
use Rattle.std.specs.Prelude.{ℕ, ◌/◌, ◌%◌, Bool, List, [], ◌∷◌, ◌==◌, slice_index}
use Rattle.lists.specs.Window.{put, get}
use Rattle.octets.specs.Numbers.{four_of, four_octets}

-- whether a flag is up, the block with it up, and the block with it down
unfoldable pub flag_at : List ℕ → ℕ → Bool
flag_at b flag = slice_index b flag == 1

unfoldable pub with_flag : List ℕ → ℕ → List ℕ
with_flag b flag = put b flag (1 ∷ [])

unfoldable pub without_flag : List ℕ → ℕ → List ℕ
without_flag b flag = put b flag (0 ∷ [])

-- the word in the four octets from this one on
unfoldable pub word_at : List ℕ → ℕ → ℕ
word_at b octet = four_of (get b octet 4)

unfoldable pub with_word : List ℕ → ℕ → ℕ → List ℕ
with_word b octet word = put b octet (four_octets word)

-- whether a number has a one at the bit of this weight: 1 is "bit 0, the lowest", 2 is bit 1, 4 is bit 2
abbrev pub bit_of : ℕ → ℕ → Bool
bit_of number weight = number / weight % 2 == 1

-- the weights of the first three bits
abbrev pub bit0 : ℕ
bit0 = 1

abbrev pub bit1 : ℕ
bit1 = 2

abbrev pub bit2 : ℕ
bit2 = 4
