-- A pair of VID and address as one number of eight octets: the code's way of comparing two pairs. No rule speaks of it. Of octets two numbers are
-- equal where VID and address are both equal, and nowhere else: `numbers_at` of proofs/PairLaws.
use Rattle.std.specs.Prelude.{ℕ, ◌+◌, List}
use Rattle.lists.specs.Window.{get}
use Rattle.octets.specs.Numbers.{eight_of}
use Rattle.record.specs.Layout.{entry_offset, pair_offset}

-- the number of the pair of stream s's binding
unfoldable pub pair_at : List ℕ → ℕ → ℕ
pair_at l s = eight_of (get l (entry_offset s + pair_offset) 8)
