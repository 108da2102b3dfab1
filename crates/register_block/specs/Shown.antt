-- What each register shows.
use Rattle.std.specs.Prelude.{◌≡◌, ℕ, ◌+◌, ◌^◌, Bool, true, cond, ◌&&◌, ◌||◌, List, ◌==◌, nat_lt}
use Rattle.record.specs.Layout.{stream_count}
use Rattle.register_block.specs.Layout.{status_offset, flags_offset, mask_offset, accepted_offset, discarded_offset, sent_offset, choice_offset, discard_flag, purge_flag, nothing_flag, mask_octet, sent_octet, choice_octet, accepted_octet, discarded_octet}
use Rattle.register_block.specs.Fields.{flag_at, word_at, bit_of, bit0, bit1, bit2}

-- "8 flags (bit 0 discard, bit 1 purge of at least one frame, bit 2 nothing to send)"
unfoldable pub flags_of : List ℕ → ℕ
flags_of b = cond (flag_at b discard_flag) bit0 0 + cond (flag_at b purge_flag) bit1 0 + cond (flag_at b nothing_flag) bit2 0

-- "12 the interrupt mask, kept as written"
abbrev pub mask_of : List ℕ → ℕ
mask_of b = word_at b mask_octet

-- whether a flag is up, and its bit in the mask, of this weight, is one
unfoldable pub shares_one : List ℕ → ℕ → ℕ → Bool
shares_one b flag weight = flag_at b flag && bit_of (mask_of b) weight

-- "The interrupt line is up exactly when flags and mask share a one": the other bits of the flags are never one (`line_exactly`)
unfoldable pub line_up : List ℕ → Bool
line_up b = shares_one b discard_flag bit0 || (shares_one b purge_flag bit1 || shares_one b nothing_flag bit2)

-- two numbers that share a one: some bit is one in both
pub record ShareOne (x y : ℕ) : Type 0 where
  pub bit : ℕ
  pub first : bit_of x (2 ^ bit) ≡ true
  pub second : bit_of y (2 ^ bit) ≡ true

-- the line is up exactly then, of all bits
pub record LineExactly (b : List ℕ) : Type 0 where
  pub only_then : line_up b ≡ true → ShareOne (flags_of b) (mask_of b)
  pub then_up : ShareOne (flags_of b) (mask_of b) → line_up b ≡ true

-- "Offset 4 is status (bit 0, the lowest, open; bit 1 the interrupt line)"
unfoldable pub status_of : Bool → List ℕ → ℕ
status_of opened b = cond opened bit0 0 + cond (line_up b) bit1 0

-- the stream "chosen by a new register at offset 28 (0 at opening, kept as written)"
abbrev pub chosen : List ℕ → ℕ
chosen b = word_at b choice_octet

-- "Offsets 16 and 20 show the counts of the stream chosen": the count that stands at this octet of each stream; "a number above 63 there makes both read
-- zero"
unfoldable pub shown_count : (ℕ → ℕ) → List ℕ → ℕ
shown_count octet b = cond (nat_lt (chosen b) stream_count) (word_at b (octet (chosen b))) 0

-- the register at each offset, of a port that is open or not; control "reads zero", and "Other offsets read zero"
unfoldable pub register_at : Bool → List ℕ → ℕ → ℕ
register_at opened b offset =
    cond (offset == status_offset) (status_of opened b)
    (cond (offset == flags_offset) (flags_of b)
    (cond (offset == mask_offset) (mask_of b)
    (cond (offset == accepted_offset) (shown_count accepted_octet b)
    (cond (offset == discarded_offset) (shown_count discarded_octet b)
    (cond (offset == sent_offset) (word_at b sent_octet)
    (cond (offset == choice_offset) (chosen b) 0))))))
