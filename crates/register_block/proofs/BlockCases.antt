-- The definitions of the register block in numbers: what happens to it, what its registers show, and what a write to one does. Assumes nothing.
use Rattle.std.proofs.Common.{◌≡◌, ℕ, true, false, List, [], ◌∷◌, ◌++◌, get_or, replicate, refl}
use Rattle.lists.specs.Turns.{iterate}
use Rattle.octets.specs.Numbers.{two_of, four_of, four_octets}
use Rattle.register_block.specs.Layout.{flags_offset, mask_offset, discard_flag, purge_flag, nothing_flag, mask_octet, sent_octet, choice_octet, choice_offset, accepted_octet, discarded_octet}
use Rattle.register_block.specs.Fields.{flag_at, with_flag, without_flag, word_at, with_word, bit_of, bit0, bit2}
use Rattle.register_block.specs.Events.{raised, accepted, discarded, withdrawn, purged, sent, sent_nothing, zeroed}
use Rattle.register_block.specs.Shown.{flags_of, shares_one, line_up, status_of, shown_count, register_at}
use Rattle.register_block.specs.Written.{cleared_by, written_at}

-- the front of a block: its three flags and its mask; then 3 frames sent, stream 0 chosen, 5 frames of it accepted and so many discarded, and of stream 1 11
-- accepted and 13 discarded
abbrev block : ℕ → ℕ → ℕ → ℕ → ℕ → List ℕ
block discard purge nothing mask discards =
    (discard ∷ purge ∷ nothing ∷ 0 ∷ [])
    ++ (four_octets mask ++ (four_octets 3 ++ (four_octets 0 ++ (four_octets 5 ++ (four_octets discards ++ (four_octets 11 ++ four_octets 13))))))

-- one with no flag up and one with all flags up, each with a mask of zeros and 7 discards
abbrev quiet : List ℕ
quiet = block 0 0 0 0 7

abbrev flagged : List ℕ
flagged = block 1 1 1 0 7

-- one with an octet of 7 everywhere, and behind its end
abbrev sevens : List ℕ
sevens = replicate {A = ℕ} 536 7

-- "The counter registers wrap from 4,294,967,295 to 0"
counter_wraps : word_at (raised (block 0 0 0 0 4294967295) (discarded_octet 0)) (discarded_octet 0) ≡ 0
unfolding word_at with_word four_of two_of raised
counter_wraps = refl

-- "Accepted and discarded counts are to be held for each stream": each in a counter of its own, and that of the stream before is kept
accepted_counted : word_at (accepted 1 quiet) (accepted_octet 1) ≡ 12
unfolding accepted word_at with_word four_of two_of raised
accepted_counted = refl

discard_counted : word_at (discarded 1 quiet) (discarded_octet 1) ≡ 14
unfolding discarded word_at with_word four_of two_of raised with_flag
discard_counted = refl

stream_before_kept : word_at (discarded 1 quiet) (discarded_octet 0) ≡ 7
unfolding discarded word_at with_word four_of two_of raised with_flag
stream_before_kept = refl

-- nothing is counted for a number that is no stream's: here the octets behind the block
no_stream_counted : word_at (accepted 64 sevens) (accepted_octet 64) ≡ 117901063
unfolding accepted word_at with_word four_of two_of raised
no_stream_counted = refl

-- "since the latest opening or granted withdrawal": both counts of the stream begin anew, and those of the stream before are kept
accepted_anew : word_at (withdrawn 1 quiet) (accepted_octet 1) ≡ 0
unfolding withdrawn word_at with_word four_of two_of
accepted_anew = refl

discarded_anew : word_at (withdrawn 1 quiet) (discarded_octet 1) ≡ 0
unfolding withdrawn word_at with_word four_of two_of
discarded_anew = refl

withdrawn_alone : word_at (withdrawn 1 quiet) (accepted_octet 0) ≡ 5
unfolding withdrawn word_at with_word four_of two_of
withdrawn_alone = refl

-- "frames of both sorts sent"
sent_counted : word_at (sent quiet) sent_octet ≡ 4
unfolding word_at with_word four_of two_of raised
sent_counted = refl

-- "8 flags (bit 0 discard, bit 1 purge of at least one frame, bit 2 nothing to send)": each sets its own
discard_flagged : flag_at (discarded 1 quiet) discard_flag ≡ true
unfolding discarded flag_at with_flag word_at with_word four_of two_of raised
discard_flagged = refl

purge_flagged : flag_at (purged quiet) purge_flag ≡ true
unfolding flag_at with_flag
purge_flagged = refl

nothing_flagged : flag_at (sent_nothing quiet) nothing_flag ≡ true
unfolding flag_at with_flag
nothing_flagged = refl

-- "from 0 at opening, as flags and mask do": the last counter too
discards_zeroed : word_at (zeroed flagged) (discarded_octet 1) ≡ 0
unfolding word_at four_of two_of zeroed iterate
discards_zeroed = refl

-- a flag that is put up is an octet of 1, and one that is taken down has any other
flag_put_up : get_or (with_flag quiet purge_flag) purge_flag 0 ≡ 1
unfolding with_flag
flag_put_up = refl

flag_taken_down : flag_at (without_flag flagged purge_flag) purge_flag ≡ false
unfolding flag_at without_flag
flag_taken_down = refl

other_octet_down : flag_at (block 2 0 0 0 7) discard_flag ≡ false
unfolding flag_at
other_octet_down = refl

-- bit 2 of 5 is one
bit_read : bit_of 5 bit2 ≡ true
bit_read = refl

-- "bit 1 purge of at least one frame": the purge flag alone shows 2
purge_shown : flags_of (block 0 1 0 0 7) ≡ 2
unfolding flags_of flag_at
purge_shown = refl

-- "The interrupt line is up exactly when flags and mask share a one": not by the mask alone, nor by flags alone
mask_alone : shares_one (block 0 0 0 7 7) discard_flag bit0 ≡ false
unfolding shares_one flag_at word_at four_of two_of
mask_alone = refl

flags_alone : line_up flagged ≡ false
unfolding line_up shares_one flag_at word_at four_of two_of
flags_alone = refl

-- "Offset 4 is status (bit 0, the lowest, open; bit 1 the interrupt line)": 1 for an open port whose line is down
open_status : status_of true quiet ≡ 1
unfolding status_of line_up shares_one flag_at word_at four_of two_of
open_status = refl

-- "Offsets 16 and 20 show the counts of the stream chosen": at 16 those accepted of stream 0,
accepted_shown : register_at true quiet 16 ≡ 5
unfolding register_at shown_count word_at four_of two_of
accepted_shown = refl

-- and of another stream where it is chosen, the last one too; "a number above 63 there makes both read zero"
chosen_shown : register_at true (with_word quiet choice_octet 1) 20 ≡ 13
unfolding register_at shown_count word_at with_word four_of two_of
chosen_shown = refl

last_shown_lem : register_at true (with_word sevens choice_octet 63) 16 ≡ 117901063
unfolding register_at shown_count word_at with_word four_of two_of
last_shown_lem = refl

above_shown : register_at true (with_word sevens choice_octet 65) 16 ≡ 0
unfolding register_at shown_count word_at with_word four_of two_of
above_shown = refl

-- the choice is shown at 28, and all 32 bits of it are kept
choice_shown : register_at true (with_word quiet choice_octet 200) 28 ≡ 200
unfolding register_at shown_count word_at with_word four_of two_of
choice_shown = refl

choice_kept : word_at (written_at choice_offset 4294967295 quiet) choice_octet ≡ 4294967295
unfolding written_at word_at with_word four_of two_of
choice_kept = refl

-- "12 the interrupt mask, kept as written": shown at 12, of a closed port too, and all 32 bits of it kept
mask_shown : register_at false (block 0 0 0 6 7) 12 ≡ 6
unfolding register_at shown_count word_at four_of two_of
mask_shown = refl

mask_kept : word_at (written_at mask_offset 4294967295 quiet) mask_octet ≡ 4294967295
unfolding written_at word_at with_word four_of two_of
mask_kept = refl

-- "Writing a one to a flag clears it", and writing a zero does not
zero_clears_none : flag_at (written_at flags_offset 0 flagged) discard_flag ≡ true
unfolding written_at cleared_by without_flag flag_at
zero_clears_none = refl
