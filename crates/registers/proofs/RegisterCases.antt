-- The definitions of the port with its registers in numbers: what replies do to the block, the calls, the register accesses, and the lookup. Assumes nothing.
use Prim.Native.Nat.{ℕ}
use mathlib.Core.Path.{◌≡◌, refl}
use mathlib.Core.Bool.{true, false}
use mathlib.Core.List.{List, [], ◌∷◌, ◌++◌}
use lib.ListN.{replicate}
use Rattle.lists.specs.Turns.{iterate, all_to}
use Rattle.lists.specs.Equal.{octets_equal}
use Rattle.lists.specs.Window.{put}
use Rattle.octets.specs.Numbers.{two_of, four_of, four_octets}
use Rattle.stream.specs.Replies.{granted}
use Rattle.record.specs.Layout.{record_length}
use Rattle.record.specs.Queues.{queues_at}
use Rattle.record.specs.Head.{open_at, prior_at}
use Rattle.record.specs.Entry.{stream_at, bound_at, vid_at, address_at}
use Rattle.header.specs.Header.{charge_of, length_fits, tagged_frame, vid_of}
use Rattle.binding.specs.Finding.{compared_back, compared_at, lookup_from, lookup, frame_lookup}
use Rattle.fitness.specs.Fit.{record_fits, lent_refusal}
use Rattle.steps.specs.Call.{Call, opening, reserving, withdrawing, arriving, ticking, transmitting, joining_best_effort, binding, framing}
use Rattle.steps.specs.Outcome.{Outcome, outcome, refused}
use Rattle.gates.specs.Refusals.{closed_refusal}
use Rattle.port.specs.Quick.{length_refusal}
use Rattle.port_laws.specs.Cases.{case_address, case_tagged}
use Rattle.register_block.specs.Layout.{mask_offset, discard_flag, purge_flag, nothing_flag, mask_octet, sent_octet, accepted_octet, discarded_octet}
use Rattle.register_block.specs.Fields.{flag_at, with_flag, word_at, with_word}
use Rattle.register_block.specs.Events.{raised, accepted, discarded, withdrawn, zeroed}
use Rattle.register_block.specs.Written.{written_at}
use Rattle.registers.specs.Lent.{block_part, in_block, short_refusal, port_refusal}
use Rattle.registers.specs.Notes.{open_noted, withdraw_noted, arrival_noted, tick_noted, transmit_noted, noted}
use Rattle.registers.specs.Calls.{registered, port_call, quick_port_call}
use Rattle.registers.specs.PortLookup.{port_lookup}
use Rattle.registers.specs.StreamCounts.{port_counts}
use Rattle.registers.specs.Accesses.{offset_refusal, read_by, named, in_turn, written_by, write_by, register_read, register_write}

-- the front of a block with no flag up, this mask, nothing sent, stream 0 chosen and without counts, and these counts of stream 1
abbrev block_of : ℕ → ℕ → ℕ → List ℕ
block_of mask acceptances discards = 0 ∷ 0 ∷ 0 ∷ 0 ∷ (four_octets mask ++ (replicate {A = ℕ} 16 0 ++ (four_octets acceptances ++ four_octets discards)))

abbrev block_with : ℕ → List ℕ
block_with mask = block_of mask 0 0

abbrev counted : List ℕ
counted = block_of 0 11 13

abbrev quiet : List ℕ
quiet = block_with 0

-- "a granted Open zeroes flags, mask and counts, a refused one nothing"
refused_open : flag_at (open_noted 2 (1 ∷ [])) discard_flag ≡ true
unfolding open_noted zeroed iterate flag_at
refused_open = refl

-- "Of refusals only 14 sets a flag or count"
charge_refused : flag_at (arrival_noted 1 13 quiet) discard_flag ≡ false
unfolding arrival_noted accepted discarded flag_at with_flag raised with_word word_at four_of two_of
charge_refused = refl

-- "Accepted and discarded counts are to be held for each stream": a discard counts as one
discard_counted : word_at (arrival_noted 1 14 counted) (discarded_octet 1) ≡ 14
unfolding arrival_noted accepted discarded with_flag raised with_word word_at four_of two_of
discard_counted = refl

-- and a refused withdrawal keeps both counts, which a granted one begins anew
refused_withdrawal : word_at (withdraw_noted 1 25 counted) (accepted_octet 1) ≡ 11
unfolding withdraw_noted withdrawn with_word word_at four_of two_of
refused_withdrawal = refl

withdrawal_counts_anew : word_at (noted (withdrawing 1) (granted 0 0) counted) (discarded_octet 1) ≡ 0
unfolding withdraw_noted withdrawn with_word word_at four_of two_of
withdrawal_counts_anew = refl

-- "purge of at least one frame"
no_frame_purged : flag_at (tick_noted 0 0 quiet) purge_flag ≡ false
unfolding tick_noted flag_at with_flag
no_frame_purged = refl

-- "Offsets 16, 20 and 24 count [..] frames of both sorts sent": nothing to send is no frame
nothing_sent_lem : word_at (transmit_noted 0 254 quiet) sent_octet ≡ 0
unfolding transmit_noted word_at four_of two_of with_flag raised with_word
nothing_sent_lem = refl

-- "for each stream": an arrival counts for its stream, and neither a frame of best effort nor a reservation counts
arrival_counted : word_at (noted (arriving 1 84 7) (granted 1 0) counted) (accepted_octet 1) ≡ 12
unfolding arrival_noted accepted word_at four_of two_of raised with_word
arrival_counted = refl

best_effort_not_counted : word_at (noted (joining_best_effort 84 7) (granted 84 0) quiet) (accepted_octet 0) ≡ 0
unfolding arrival_noted accepted word_at four_of two_of raised with_word
best_effort_not_counted = refl

reservation_not_counted : word_at (noted (reserving 1 200) (granted 400 0) counted) (accepted_octet 1) ≡ 11
unfolding arrival_noted accepted word_at four_of two_of raised with_word
reservation_not_counted = refl

-- "bit 2 nothing to send": it is told by the stream that Transmit replies, and not by the tag
nothing_told : flag_at (noted transmitting (granted 254 0) quiet) nothing_flag ≡ true
unfolding transmit_noted flag_at with_flag raised with_word word_at four_of two_of
nothing_told = refl

-- what a host lends: a record of zeros, which is closed, and a block with this mask
abbrev lent_with : ℕ → List ℕ
lent_with mask = replicate {A = ℕ} record_length 0 ++ (block_with mask ++ replicate {A = ℕ} 496 0)

abbrev lent : List ℕ
lent = lent_with 0

-- a slice whose record does not fit, since its prior is queue 9, and a memory that is long enough
abbrev unfit : List ℕ
unfit = 0 ∷ 9 ∷ replicate {A = ℕ} 1614 0

abbrev memory : List ℕ
memory = replicate {A = ℕ} 10240 0

-- "19 port record unfit" is asked by the call; the quick call asks only the lengths, and then finds the port closed (the number stands first in these
-- laws, so that the other side is computed once)
call_of_unfit : 19 ≡ (port_call ticking unfit memory).reply.refusal
unfolding registered short_refusal lent_refusal record_fits prior_at queues_at length_refusal closed_refusal open_at
call_of_unfit = refl

quick_call_of_unfit : 1 ≡ (quick_port_call ticking unfit memory).reply.refusal
unfolding registered short_refusal lent_refusal record_fits prior_at queues_at length_refusal closed_refusal open_at
quick_call_of_unfit = refl

-- "refusals set nothing but 14's": an arrival that this call refuses with 13
refused_not_counted : word_at (block_part (registered (λ c p m. refused 13 p m) (arriving 1 83 7) lent []).port) (accepted_octet 1) ≡ 0
unfolding registered short_refusal queues_at arrival_noted accepted discarded word_at four_of two_of raised with_word with_flag
refused_not_counted = refl

-- "frames bound to it too": a Frame of the pair of stream 1, which this call grants, counts for stream 1; so does a discard of it
abbrev bound : List ℕ
bound =
    replicate {A = ℕ} 80 0
    ++ (1 ∷ 1 ∷ 0 ∷ 200 ∷ 0 ∷ 200 ∷ 0 ∷ 1 ∷ 0 ∷ 100 ∷ (case_address ++ (replicate {A = ℕ} 992 0 ++ (counted ++ replicate {A = ℕ} 496 0))))

frame_counted : word_at (block_part (registered (λ c p m. outcome (granted 1 0) p m) (framing (case_tagged 60) 7) bound []).port) (accepted_octet 1) ≡ 12
unfolding registered short_refusal queues_at all_to octets_equal bound_at vid_at address_at charge_of length_fits tagged_frame vid_of compared_back compared_at lookup_from lookup frame_lookup stream_at withdrawn arrival_noted accepted discarded word_at four_of two_of raised with_word with_flag
frame_counted = refl

frame_discarded : word_at (block_part (registered (λ c p m. refused 14 p m) (framing (case_tagged 60) 7) bound []).port) (discarded_octet 1) ≡ 14
unfolding registered short_refusal queues_at all_to octets_equal bound_at vid_at address_at charge_of length_fits tagged_frame vid_of compared_back compared_at lookup_from lookup frame_lookup stream_at withdrawn arrival_noted accepted discarded word_at four_of two_of raised with_word with_flag
frame_discarded = refl

-- and the tick that frees a withdrawn stream counts nothing, and begins nothing anew: here one that this call takes the reservation of stream 1 at
last_tick_keeps : word_at (block_part (registered (λ c p m. outcome (granted 0 0) (put p 80 (0 ∷ [])) m) ticking bound []).port) (accepted_octet 1) ≡ 11
unfolding registered short_refusal queues_at tick_noted with_flag word_at four_of two_of stream_at withdrawn with_word
last_tick_keeps = refl

-- 18 is asked before 19 of a slice that is too short for record and block, by one octet or by all
one_octet_short : short_refusal (replicate {A = ℕ} 1615 0) [] ≡ 18
unfolding short_refusal queues_at
one_octet_short = refl

memory_first : short_refusal [] [] ≡ 18
unfolding short_refusal queues_at
memory_first = refl

-- the register accesses ask the length of the slice too
access_of_short : port_refusal (λ p m. 0) [] [] ≡ 18
unfolding short_refusal queues_at
access_of_short = refl

-- a change of the block changes it
block_changed : in_block (λ b. 9 ∷ []) [] ≡ 9 ∷ []
unfolding in_block
block_changed = refl

-- "It refuses with 26 an offset that is no multiple of 4 or is above 60"
no_multiple : offset_refusal 2 ≡ 26
unfolding offset_refusal
no_multiple = refl

above_60 : offset_refusal 64 ≡ 26
unfolding offset_refusal
above_60 = refl

-- "before 18": of a slice and a memory without octets
read_outside : (register_read 2 [] []).reply.refusal ≡ 26
unfolding read_by offset_refusal short_refusal queues_at
read_outside = refl

write_outside : (register_write 2 0 [] []).reply.refusal ≡ 26
unfolding write_by offset_refusal short_refusal queues_at
write_outside = refl

-- a read changes nothing, the mask neither
mask_after_read : word_at (block_part (read_by (λ p m. 0) mask_offset (lent_with 5) []).port) mask_octet ≡ 5
unfolding read_by offset_refusal short_refusal queues_at in_block written_at word_at with_word four_of two_of
mask_after_read = refl

-- the calls as numbers, and those of a list
abbrev number_of : Call → ℕ
number_of (opening t) = 1
number_of (reserving s permitted) = 2
number_of (withdrawing s) = 3
number_of (arriving s charge tag) = 4
number_of ticking = 5
number_of transmitting = 6
number_of (joining_best_effort charge tag) = 7
number_of (binding s address vid) = 8
number_of (framing octets tag) = 9

abbrev numbers_of : List Call → List ℕ
numbers_of [] = []
numbers_of (c ∷ cs) = number_of c ∷ numbers_of cs

-- "writing bit 0 ticks, then bit 1 transmits"
tick_then_transmit : numbers_of (named 3) ≡ 5 ∷ 6 ∷ []
unfolding named
tick_then_transmit = refl

-- "Control bits 2 to 31 are ignored"
bit_2_ignored : numbers_of (named 4) ≡ []
unfolding named
bit_2_ignored = refl

-- "a control write as its last call"
last_reply : (in_turn (λ (n : ℕ) p m. outcome (granted n 0) p m) (outcome (granted 5 0) [] []) (6 ∷ [])).reply.first ≡ 6
last_reply = refl

-- where each call replies its number twice, a control write with both bits replies the transmit's,
abbrev told : Call → List ℕ → List ℕ → Outcome
told c p m = outcome (granted (number_of c) (number_of c)) p m

both_made : (written_by told (λ p m. 0) 0 3 lent [] (ticking ∷ transmitting ∷ [])).reply.first ≡ 6
unfolding registered short_refusal queues_at tick_noted transmit_noted with_flag raised with_word word_at four_of two_of
both_made = refl

-- and a write to another register makes no call
mask_calls_nothing : (write_by told (λ p m. 0) mask_offset 3 lent []).reply.second ≡ 0
unfolding write_by offset_refusal named registered short_refusal queues_at tick_noted transmit_noted with_flag raised with_word word_at four_of two_of
mask_calls_nothing = refl

-- "1 stops only ticks and transmits": a closed port keeps mask writes
mask_of_closed : (written_by told (λ p m. 0) mask_offset 5 lent [] []).reply.refusal ≡ 0
unfolding short_refusal queues_at closed_refusal open_at
mask_of_closed = refl

-- "other writes [..] two zeros"
mask_reply : (written_by told (λ p m. 0) mask_offset 5 lent [] []).reply.first ≡ 0
unfolding short_refusal queues_at
mask_reply = refl

-- a lookup refuses a slice that is an octet too short
lookup_short : (port_lookup [] 100 (replicate {A = ℕ} 1615 0)).refusal ≡ 19
unfolding port_lookup
lookup_short = refl

-- the counts of a stream, its accepted frames first; 19 of a slice that is an octet too short is asked first, and 64 is no stream
counts_told : port_counts 1 bound ≡ granted 11 13
unfolding port_counts word_at four_of two_of
counts_told = refl

counts_short_slice : (port_counts 64 (replicate {A = ℕ} 1615 0)).refusal ≡ 19
unfolding port_counts
counts_short_slice = refl

counts_of_none : (port_counts 64 bound).refusal ≡ 5
unfolding port_counts word_at four_of two_of
counts_of_none = refl
