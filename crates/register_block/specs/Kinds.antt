-- The registers, the flags and the counts as code names them, each with where it stands.
use Rattle.std.specs.Prelude.{ℕ, Bool, List, Result, Ok, Err, cond, ◌==◌}
use Rattle.register_block.specs.declared.register.Register.{Register}
use Rattle.register_block.specs.declared.register.Register.TheVariants.{Control, Status, Flags, Mask, Accepted, Discarded, Sent, Choice}
use Rattle.register_block.specs.declared.register.NoRegister.{NoRegister}
use Rattle.register_block.specs.declared.flag.Flag.{Flag}
use Rattle.register_block.specs.declared.flag.Flag.TheVariants.{Discard, Purge, Nothing}
use Rattle.register_block.specs.declared.count.Count.{Count}
use Rattle.register_block.specs.declared.count.Count.TheVariants as count
use Rattle.register_block.specs.Layout.{control_offset, status_offset, flags_offset, mask_offset, accepted_offset, discarded_offset, sent_offset, choice_offset, discard_flag, purge_flag, nothing_flag, accepted_octet, discarded_octet}
use Rattle.register_block.specs.Fields.{with_flag, without_flag, bit0, bit1, bit2}

-- the offset of each register,
abbrev pub offset_of : Register → ℕ
offset_of Control = control_offset
offset_of Status = status_offset
offset_of Flags = flags_offset
offset_of Mask = mask_offset
offset_of Accepted = accepted_offset
offset_of Discarded = discarded_offset
offset_of Sent = sent_offset
offset_of Choice = choice_offset

-- and the register at each offset; at others there is none
abbrev pub register_of : ℕ → Result Register NoRegister
register_of offset =
    cond (offset == control_offset) (Ok Control)
    (cond (offset == status_offset) (Ok Status)
    (cond (offset == flags_offset) (Ok Flags)
    (cond (offset == mask_offset) (Ok Mask)
    (cond (offset == accepted_offset) (Ok Accepted)
    (cond (offset == discarded_offset) (Ok Discarded)
    (cond (offset == sent_offset) (Ok Sent)
    (cond (offset == choice_offset) (Ok Choice) (Err (record {})))))))))

-- the octet of each flag, the weight of its bit, and the block with a flag up or down
abbrev pub flag_octet : Flag → ℕ
flag_octet Discard = discard_flag
flag_octet Purge = purge_flag
flag_octet Nothing = nothing_flag

abbrev pub flag_weight : Flag → ℕ
flag_weight Discard = bit0
flag_weight Purge = bit1
flag_weight Nothing = bit2

abbrev pub flag_put : Bool → List ℕ → ℕ → List ℕ
flag_put up b flag = cond up (with_flag b flag) (without_flag b flag)

-- where a count of stream s stands
abbrev pub count_octet : Count → ℕ → ℕ
count_octet count.Accepted s = accepted_octet s
count_octet count.Discarded s = discarded_octet s
