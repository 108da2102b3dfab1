-- What a write to a register does to the block, but for a control write's calls.
use Rattle.std.specs.Prelude.{ℕ, cond, List, ◌==◌}
use Rattle.register_block.specs.Layout.{flags_offset, mask_offset, choice_offset, discard_flag, purge_flag, nothing_flag, mask_octet, choice_octet}
use Rattle.register_block.specs.Fields.{without_flag, with_word, bit_of, bit0, bit1, bit2}

-- "Writing a one to a flag clears it": the flag of this bit, by the number written
unfoldable pub cleared_by : ℕ → ℕ → ℕ → List ℕ → List ℕ
cleared_by flag weight number b = cond (bit_of number weight) (without_flag b flag) b

abbrev pub flags_cleared : ℕ → List ℕ → List ℕ
flags_cleared number b = cleared_by nothing_flag bit2 number (cleared_by purge_flag bit1 number (cleared_by discard_flag bit0 number b))

-- the block after a write: "12 the interrupt mask, kept as written", and the choice at 28 likewise; of other offsets, "writes to them, 4 and the counters
-- do nothing"
unfoldable pub written_at : ℕ → ℕ → List ℕ → List ℕ
written_at offset number b =
    cond (offset == flags_offset) (flags_cleared number b)
    (cond (offset == mask_offset) (with_word b mask_octet number)
    (cond (offset == choice_offset) (with_word b choice_octet number) b))
