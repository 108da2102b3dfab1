-- What the definitions of the claims say of happenings in hand, each by itself. Assumes nothing.
use Prim.Native.Nat.{ℕ}
use mathlib.Core.Path.{◌≡◌, refl}
use mathlib.Core.Bool.{true, false}
use mathlib.Core.List.{List, [], ◌∷◌, ◌++◌}
use Rattle.stream.specs.Replies.{granted, refused_by}
use Rattle.steps.specs.Call.{terms, Call, opening, withdrawing, arriving, ticking, transmitting, joining_best_effort}
use Rattle.register_block.specs.Layout.{choice_offset, discard_flag, purge_flag}
use Rattle.registers.specs.Accesses.{named}
use Rattle.register_laws.specs.Uses.{calling, reading, writing, calls_of, all_calls}
use Rattle.register_laws.specs.Happenings.{Happening, replied, written, replies_in}
use Rattle.register_laws.specs.History.{Sort, opens, withdraws, arrives, ticks, transmits, others, sort_of, beginning, acceptance_of, discard_of, discard, purge, sending, nothing_sent, is_reply, clears, how_many, is_there, since, last_from}
use Rattle.register_laws.specs.Controls.{named_in}

-- frames of each call: two of stream 5 accepted, one refused and one discarded, and one each of stream 6 and of best effort accepted
abbrev frames : List Happening
frames =
    replied (arriving 5 84 1) (granted 1 0)
    ∷ replied (arriving 6 84 2) (granted 1 0)
    ∷ replied (joining_best_effort 84 3) (granted 84 0)
    ∷ replied (arriving 5 84 4) (granted 2 0)
    ∷ replied (arriving 5 83 5) (refused_by 13)
    ∷ replied (arriving 5 84 6) (refused_by 14)
    ∷ []

-- then this, and one more of stream 5 accepted
abbrev frames_with : Happening → List Happening
frames_with h = frames ++ (h ∷ replied (arriving 5 84 7) (granted 3 0) ∷ [])

-- "Accepted and discarded counts [..] for each stream": of stream 5,
accepts_two : how_many (is_reply (acceptance_of 5)) frames ≡ 2
accepts_two = refl

-- "discards (14)", and no other refusal; none of stream 6
discards_one : how_many (is_reply (discard_of 5)) frames ≡ 1
discards_one = refl

other_discards_none : how_many (is_reply (discard_of 6)) frames ≡ 0
other_discards_none = refl

-- a frame of best effort is none of a stream's
best_effort_uncounted : is_there (is_reply (acceptance_of 5)) (replied (joining_best_effort 84 3) (granted 84 0) ∷ []) ≡ false
best_effort_uncounted = refl

-- "since the latest opening or granted withdrawal": a withdrawal of the stream begins, and neither a refused one nor another stream's does
since_withdrawal : how_many (is_reply (acceptance_of 5)) (since (is_reply (beginning 5)) (frames_with (replied (withdrawing 5) (granted 0 0)))) ≡ 1
since_withdrawal = refl

refused_withdrawal : how_many (is_reply (acceptance_of 5)) (since (is_reply (beginning 5)) (frames_with (replied (withdrawing 5) (refused_by 25)))) ≡ 3
refused_withdrawal = refl

other_withdrawal : how_many (is_reply (acceptance_of 5)) (since (is_reply (beginning 5)) (frames_with (replied (withdrawing 6) (granted 0 0)))) ≡ 3
other_withdrawal = refl

-- a tick begins nothing, whichever it is,
tick_begins_nothing : is_reply (beginning 5) (replied ticking (granted 0 0)) ≡ false
tick_begins_nothing = refl

-- and an opening does
since_opening : how_many (is_reply (acceptance_of 5)) (since (is_reply (beginning 5)) (frames_with (replied (opening (terms 2620 1)) (granted 600 0)))) ≡ 1
since_opening = refl

-- of two withdrawals "the latest"
since_latest : how_many (is_reply (discard_of 5)) (since (is_reply (beginning 5)) (replied (withdrawing 5) (granted 0 0) ∷ frames_with (replied (withdrawing 5) (granted 0 0)))) ≡ 0
since_latest = refl

-- "kept as written": the choice is the number last written to its offset, and no other write changes it
choice_last : last_from choice_offset 0 (written 28 7 ∷ written 28 64 ∷ written 12 5 ∷ []) ≡ 64
choice_last = refl

-- "frames of both sorts sent", and not what was nothing
sends_two : how_many (is_reply sending) (replied transmitting (granted 5 1) ∷ replied transmitting (granted 255 2) ∷ replied transmitting (granted 254 0) ∷ []) ≡ 2
sends_two = refl

-- "nothing to send", which is no frame of best effort
best_effort_sent_lem : is_there (is_reply nothing_sent) (replied transmitting (granted 255 2) ∷ []) ≡ false
best_effort_sent_lem = refl

-- "purge of at least one frame"
no_frame_purged : is_there (is_reply purge) (replied ticking (granted 0 0) ∷ []) ≡ false
no_frame_purged = refl

-- "Writing a one to a flag clears it", and not the others
other_flag : clears purge_flag (written 8 1) ≡ false
other_flag = refl

-- "from 0 at opening": a refused Open clears nothing
refused_open : clears discard_flag (replied (opening (terms 2620 1)) (refused_by 2)) ≡ false
refused_open = refl

-- a write to another register than control makes no call
mask_names_none : calls_of (writing 12 3) ≡ []
mask_names_none = refl

-- the calls of a list by what they are to the registers, as numbers
abbrev number_of : Sort → ℕ
number_of opens = 1
number_of (withdraws s) = 2
number_of (arrives s) = 3
number_of ticks = 4
number_of transmits = 5
number_of others = 6

abbrev numbers_of : List Call → List ℕ
numbers_of [] = []
numbers_of (c ∷ cs) = number_of (sort_of c) ∷ numbers_of cs

-- calls stand in their order
calls_in_order : numbers_of (all_calls (calling ticking ∷ reading 4 ∷ calling transmitting ∷ [])) ≡ 4 ∷ 5 ∷ []
calls_in_order = refl

-- so do the calls that control writes name
named_in_order : numbers_of (named_in (1 ∷ 2 ∷ [])) ≡ 4 ∷ 5 ∷ []
unfolding named
named_in_order = refl

-- writes reply nothing of a call's
calls_replied : replies_in (written 8 1 ∷ replied ticking (granted 0 0) ∷ []) ≡ granted 0 0 ∷ []
calls_replied = refl

-- there was a discard among them
one_is_there : is_there (is_reply discard) frames ≡ true
one_is_there = refl
