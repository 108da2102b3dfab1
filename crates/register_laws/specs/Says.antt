-- What the theorems say of a list in hand: each line follows from the theorem that its comment names, and would be lost with it.
use Rattle.std.specs.Prelude.{ℕ, ◌^◌, ◌≡◌, true, false, List, [], ◌∷◌, ◌++◌}
use Rattle.stream.specs.declared.Reply.{Reply}
use Rattle.stream.specs.Replies.{granted}
use Rattle.steps.specs.Call.{terms, opening, withdrawing, arriving, ticking, transmitting}
use Rattle.fitness.specs.Fit.{record_fits}
use Rattle.port_laws.specs.Lists.{replies, fresh_memory}
use Rattle.register_block.specs.Layout.{control_offset, discard_flag, purge_flag, nothing_flag}
use Rattle.register_block.specs.Fields.{flag_at, bit_of}
use Rattle.register_block.specs.Shown.{flags_of, mask_of, line_up, ShareOne, status_of}
use Rattle.registers.specs.Lent.{record_part, block_part}
use Rattle.registers.specs.Calls.{port_call}
use Rattle.registers.specs.Accesses.{in_turn, register_write}
use Rattle.registers.specs.StreamCounts.{port_counts}
use Rattle.register_laws.specs.Uses.{Use, calling, writing, quickly_used, lent, ran, UseList, left_by}
use Rattle.register_laws.specs.Happenings.{Happening, replied, happenings, replies_in}
use Rattle.register_laws.specs.History.{beginning, is_reply, since, Reads}
use Rattle.register_laws.specs.Controls.{control_writes}
use Rattle.register_laws.specs.Cases.{fresh_port, control_uses}

-- uses after Open(2,620, 1) on a port never opened
abbrev pub Opens : List Use → Type 0
Opens us = (port_call (opening (terms 2620 1)) fresh_port fresh_memory).reply.refusal ≡ 0

abbrev pub list_of : (us : List Use) → Opens us → UseList
list_of us opened = record { port = fresh_port; memory = fresh_memory; terms = terms 2620 1; later = us; opened = opened }

-- the same with the discard flag cleared at the end
abbrev pub cleared_uses : List Use
cleared_uses = control_uses ++ (writing 8 1 ∷ [])

-- and with the stream withdrawn at the end
abbrev pub withdrawn_uses : List Use
withdrawn_uses = control_uses ++ (calling (withdrawing 5) ∷ [])

pub record HistoriesSay : Type 0 where
  pub opens : Opens control_uses
  -- `reads_tell`: stream 5 is chosen; three frames of it were accepted, one discarded; two were sent
  pub accepted : Reads (list_of control_uses opens) 16 3
  pub discarded : Reads (list_of control_uses opens) 20 1
  pub sent : Reads (list_of control_uses opens) 24 2
  pub choice : Reads (list_of control_uses opens) 28 5
  -- `counts_tell`: so they are read without a choice, and none is counted of another stream; both counts are 0 once the stream is withdrawn
  pub counted : port_counts 5 (left_by (list_of control_uses opens)).port ≡ granted 3 1
  pub other_counted : port_counts 6 (left_by (list_of control_uses opens)).port ≡ granted 0 0
  pub withdrawn_counted : port_counts 5 (left_by (list_of withdrawn_uses opens)).port ≡ granted 0 0
  -- `since_last`: whatever happened before a granted withdrawal, what is since then is what stands behind it
  pub since_withdrawal : (before : List Happening) (r : Reply)
      → since (is_reply (beginning 5)) (before ++ (replied (withdrawing 5) (granted 0 0) ∷ replied (arriving 5 84 1) r ∷ [])) ≡ replied (arriving 5 84 1) r ∷ []
  -- `discard_flags`, `purge_flags`, `nothing_flags`: there was one of each since the Open
  pub discard_up : flag_at (block_part (left_by (list_of control_uses opens)).port) discard_flag ≡ true
  pub purge_up : flag_at (block_part (left_by (list_of control_uses opens)).port) purge_flag ≡ true
  pub nothing_up : flag_at (block_part (left_by (list_of control_uses opens)).port) nothing_flag ≡ true
  -- `discard_flags`: there was none since it was cleared, and the other flags are kept
  pub discard_down : flag_at (block_part (left_by (list_of cleared_uses opens)).port) discard_flag ≡ false
  pub purge_kept : flag_at (block_part (left_by (list_of cleared_uses opens)).port) purge_flag ≡ true
  -- `controls_named`: control writes of 3 and 1 leave any slice and memory as a tick, a transmit and a tick do
  pub controls : (p m : List ℕ) → (ran (control_writes (3 ∷ 1 ∷ [])) p m).port ≡ (in_turn port_call (lent p m) (ticking ∷ transmitting ∷ ticking ∷ [])).port
  pub controls_memory : (p m : List ℕ) → (ran (control_writes (3 ∷ 1 ∷ [])) p m).memory ≡ (in_turn port_call (lent p m) (ticking ∷ transmitting ∷ ticking ∷ [])).memory
  pub controls_replies : (p m : List ℕ) → replies_in (happenings (control_writes (3 ∷ 1 ∷ [])) p m) ≡ replies port_call (ticking ∷ transmitting ∷ ticking ∷ []) p m
  -- `control_named`: a control write of 3 is a tick and then a transmit, in reply, slice and memory
  pub both_bits : (p m : List ℕ) → register_write control_offset 3 p m ≡ in_turn port_call (lent p m) (ticking ∷ transmitting ∷ [])
  -- `reads_tell`: control reads zero, status and flags are read as the block has them, of an open port, and the mask as it was written
  pub control : Reads (list_of control_uses opens) 0 0
  pub status : Reads (list_of control_uses opens) 4 (status_of true (block_part (left_by (list_of control_uses opens)).port))
  pub flags : Reads (list_of control_uses opens) 8 (flags_of (block_part (left_by (list_of control_uses opens)).port))
  pub mask : Reads (list_of control_uses opens) 12 5
  -- `line_exactly`: a mask that shares its highest one with the flags raises the line, and a line that is up shows such a one
  pub line_up_lem : (b : List ℕ) → bit_of (flags_of b) (2 ^ 2) ≡ true → bit_of (mask_of b) (2 ^ 2) ≡ true → line_up b ≡ true
  pub line_shows : (b : List ℕ) → line_up b ≡ true → ShareOne (flags_of b) (mask_of b)
  -- `quick_list_lem`: the quick uses leave what the uses leave, on a fit record
  pub quickly : (p m : List ℕ) → record_fits (record_part p) m ≡ true → in_turn quickly_used (lent p m) control_uses ≡ ran control_uses p m
