-- The theorems of counters, flags, mask and choice over every list of uses from a granted Open. Assumes nothing.
use Prim.Native.Nat.{ℕ, ◌+◌, ◌%◌, ◌^◌, ◌≤◌, ◌<◌}
use mathlib.Core.Path.{◌≡◌, ap, ◌∙◌}
use mathlib.Core.Bool.{Bool, true, false, cond, ◌||◌}
use mathlib.Core.List.{List}
use native.Mathlib.Omega.{arith}
use Rattle.stream.specs.declared.Reply.{Reply}
use Rattle.register_block.specs.Layout.{WholeBlock, block_length, mask_offset, choice_offset, flag_count, discard_flag, purge_flag, nothing_flag, mask_octet, sent_octet, choice_octet, accepted_octet, discarded_octet}
use Rattle.register_block.specs.Fields.{word_at, flag_at}
use Rattle.register_block.specs.Events.{zeroed}
use Rattle.register_block.proofs.BlockLaws.{length_zeroed, word_zeroed, flag_zeroed}
use Rattle.registers.specs.Lent.{block_part}
use Rattle.register_laws.specs.Uses.{UseList, left_by}
use Rattle.register_laws.specs.Happenings.{Happening, happenings_in, noted_all}
use Rattle.register_laws.specs.History.{Sort, granted_open, beginning, acceptance_of, discard_of, discard, purge, sending, nothing_sent, is_reply, is_there, how_many, since, last_from, CountsSince, Counts, Flags, KeptAsWritten}
use Rattle.register_laws.proofs.SinceLaws.{count_from, none_there, since_none, count_since_lem}
use Rattle.register_laws.proofs.FieldLaws.{Counter, Flag, Written, accepted_counter, discarded_counter, sent_counter, mask_rule, choice_rule, discard_flag_lem, purge_flag_lem, nothing_flag_lem}
use Rattle.register_laws.proofs.HistoryLaws.{counts_from, written_on, flag_on, flag_since}
use Rattle.register_laws.proofs.OpenedLaws.{block_whole, list_block, list_no_open}

-- the block as the Open leaves it
whole_zeroed : (l : UseList) → WholeBlock (zeroed (block_part l.port))
whole_zeroed l = omega (arith, block_whole l, length_zeroed (block_part l.port))

-- a counter counts on from the 0 that the Open leaves
pub counts_on : (l : UseList) (octet : ℕ) (starts test : Sort → Reply → Bool) → octet + 4 ≤ block_length → Counter octet starts test
    → word_at (block_part (left_by l).port) octet ≡ count_from (is_reply starts) (is_reply test) 0 (happenings_in l) % 2 ^ 32
counts_on l octet starts test inside rule =
    ap (λ (b : List ℕ). word_at b octet) (list_block l)
    ∙ counts_from octet starts test rule (happenings_in l) (zeroed (block_part l.port)) 0 (whole_zeroed l) (word_zeroed (block_part l.port) octet (block_whole l) inside)

-- so it is the number of its replies since the last at which it began anew
pub counts_since : (l : UseList) (octet : ℕ) (starts test : Sort → Reply → Bool) → octet + 4 ≤ block_length → Counter octet starts test
    → word_at (block_part (left_by l).port) octet ≡ how_many (is_reply test) (since (is_reply starts) (happenings_in l)) % 2 ^ 32
counts_since l octet starts test inside rule =
    counts_on l octet starts test inside rule
    ∙ ap (λ (n : ℕ). n % 2 ^ 32) (count_since_lem (is_reply starts) (is_reply test) 0 (happenings_in l) ∙ nothing_before (is_there (is_reply starts) (happenings_in l)))
  where
    nothing_before : (there : Bool) → cond there 0 0 + how_many (is_reply test) (since (is_reply starts) (happenings_in l)) ≡ how_many (is_reply test) (since (is_reply starts) (happenings_in l))
    nothing_before true = omega arith
    nothing_before false = omega arith

-- the counts of each stream,
pub accepted_counts : CountsSince accepted_octet acceptance_of
accepted_counts l s below = counts_since l (accepted_octet s) (beginning s) (acceptance_of s) (omega (arith, below)) (accepted_counter s below)

pub discarded_counts : CountsSince discarded_octet discard_of
discarded_counts l s below = counts_since l (discarded_octet s) (beginning s) (discard_of s) (omega (arith, below)) (discarded_counter s below)

-- and the count of the frames sent: no Open is granted after the first
pub sent_counts : Counts sent_octet sending
sent_counts l =
    counts_since l sent_octet granted_open sending (omega arith) sent_counter
    ∙ ap (λ (hs : List Happening). how_many (is_reply sending) hs % 2 ^ 32)
    (since_none (is_reply granted_open) (happenings_in l) (none_there (is_reply granted_open) (happenings_in l) (list_no_open l)))

-- mask and choice
kept : (octet offset : ℕ) → octet + 4 ≤ block_length → Written octet offset → KeptAsWritten octet offset
kept octet offset inside rule l =
    ap (λ (b : List ℕ). word_at b octet) (list_block l)
    ∙ written_on octet offset rule (happenings_in l) (zeroed (block_part l.port)) (whole_zeroed l)
    ∙ ap (λ (n : ℕ). last_from offset n (happenings_in l)) (word_zeroed (block_part l.port) octet (block_whole l) inside)

pub mask_kept : KeptAsWritten mask_octet mask_offset
mask_kept = kept mask_octet mask_offset (omega arith) mask_rule

pub choice_kept : KeptAsWritten choice_octet choice_offset
choice_kept = kept choice_octet choice_offset (omega arith) choice_rule

-- the flags
flags : (flag : ℕ) (test : Sort → Reply → Bool) → flag < flag_count → Flag flag test → Flags flag test
flags flag test below rule =
    record {
      since_clear = λ l before after h split cleared none.
          ap (λ (b : List ℕ). flag_at b flag) (list_block l ∙ ap (λ (hs : List Happening). noted_all hs (zeroed (block_part l.port))) split)
          ∙ flag_since flag test rule before after h (zeroed (block_part l.port)) (whole_zeroed l) cleared none;
      since_open = λ l none.
          ap (λ (b : List ℕ). flag_at b flag) (list_block l)
          ∙ flag_on flag test rule (happenings_in l) (zeroed (block_part l.port)) (whole_zeroed l) none
          ∙ ap (λ (x : Bool). x || is_there (is_reply test) (happenings_in l)) (flag_zeroed (block_part l.port) flag (block_whole l) (omega (arith, below)));
    }

pub discard_flags : Flags discard_flag discard
discard_flags = flags discard_flag discard (omega arith) discard_flag_lem

pub purge_flags : Flags purge_flag purge
purge_flags = flags purge_flag purge (omega arith) purge_flag_lem

pub nothing_flags : Flags nothing_flag nothing_sent
nothing_flags = flags nothing_flag nothing_sent (omega arith) nothing_flag_lem
