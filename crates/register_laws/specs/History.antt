-- What counters and flags say of the replies so far: a stream's counts "equal the number of such replies since the latest opening or granted withdrawal,
-- taken modulo 4,294,967,296", the frames sent are counted "from 0 at opening", a flag is up where there was a reply of its sort since it was last cleared,
-- and mask and choice are "kept as written".
use Rattle.std.specs.Prelude.{ℕ, ◌+◌, ◌%◌, ◌^◌, ◌<◌, ◌≡◌, Bool, true, false, not, cond, ◌&&◌, ◌||◌, List, [], ◌∷◌, ◌++◌, eqb, ltb}
use Rattle.lists.specs.Each.{All}
use Rattle.stream.specs.declared.Reply.{Reply}
use Rattle.stream.specs.Replies.{granted}
use Rattle.record.specs.Layout.{stream_count}
use Rattle.steps.specs.Outcome.{outcome}
use Rattle.steps.specs.Call.{Call, opening, reserving, withdrawing, arriving, ticking, transmitting, joining_best_effort, binding, framing}
use Rattle.sending.specs.Sending.{nothing}
use Rattle.register_block.specs.Layout.{control_offset, status_offset, flags_offset, mask_offset, accepted_offset, discarded_offset, sent_offset, choice_offset}
use Rattle.register_block.specs.Fields.{word_at, flag_at, bit_of}
use Rattle.register_block.specs.Shown.{flags_of, status_of}
use Rattle.registers.specs.Lent.{block_part}
use Rattle.registers.specs.Accesses.{register_read}
use Rattle.registers.specs.StreamCounts.{port_counts}
use Rattle.register_laws.specs.Uses.{UseList, left_by}
use Rattle.register_laws.specs.Happenings.{Happening, replied, written, happenings_in}

-- what a call is to the registers: an Open, a Withdraw of a stream, an Arrive on one, a Tick, a Transmit, or another
pub data Sort : Type 0 where
  opens : Sort
  withdraws : ℕ → Sort
  arrives : ℕ → Sort
  ticks : Sort
  transmits : Sort
  others : Sort

abbrev pub sort_of : Call → Sort
sort_of (opening t) = opens
sort_of (reserving s permitted) = others
sort_of (withdrawing s) = withdraws s
sort_of (arriving s charge tag) = arrives s
sort_of ticking = ticks
sort_of transmitting = transmits
sort_of (joining_best_effort charge tag) = others
sort_of (binding s address vid) = others
sort_of (framing octets tag) = others

-- a reply of each sort that a counter or a flag tells: a granted Open,
abbrev pub granted_open : Sort → Reply → Bool
granted_open opens r = eqb r.refusal 0
granted_open (withdraws i) r = false
granted_open (arrives i) r = false
granted_open ticks r = false
granted_open transmits r = false
granted_open others r = false

-- "the latest opening or granted withdrawal": a granted Open, or a granted Withdraw of stream s,
abbrev pub beginning : ℕ → Sort → Reply → Bool
beginning s opens r = eqb r.refusal 0
beginning s (withdraws i) r = eqb i s && eqb r.refusal 0
beginning s (arrives i) r = false
beginning s ticks r = false
beginning s transmits r = false
beginning s others r = false

-- "such replies": those to an arrival on stream s with this refusal, or 0,
abbrev pub arrival_replied : ℕ → ℕ → Sort → Reply → Bool
arrival_replied refusal s opens r = false
arrival_replied refusal s (withdraws i) r = false
arrival_replied refusal s (arrives i) r = eqb i s && eqb r.refusal refusal
arrival_replied refusal s ticks r = false
arrival_replied refusal s transmits r = false
arrival_replied refusal s others r = false

-- its "Accepted and discarded counts": an acceptance is "a reply without refusal", and a discard is 14,
abbrev pub acceptance_of : ℕ → Sort → Reply → Bool
acceptance_of = arrival_replied 0

abbrev pub discard_of : ℕ → Sort → Reply → Bool
discard_of = arrival_replied 14

-- "bit 0 discard", on whichever stream,
abbrev pub discard : Sort → Reply → Bool
discard opens r = false
discard (withdraws i) r = false
discard (arrives i) r = eqb r.refusal 14
discard ticks r = false
discard transmits r = false
discard others r = false

-- "purge of at least one frame",
abbrev pub purge : Sort → Reply → Bool
purge opens r = false
purge (withdraws i) r = false
purge (arrives i) r = false
purge ticks r = eqb r.refusal 0 && not (eqb r.first 0)
purge transmits r = false
purge others r = false

-- "frames of both sorts sent", and "nothing to send"
abbrev pub sending : Sort → Reply → Bool
sending opens r = false
sending (withdraws i) r = false
sending (arrives i) r = false
sending ticks r = false
sending transmits r = eqb r.refusal 0 && not (eqb r.first nothing)
sending others r = false

abbrev pub nothing_sent : Sort → Reply → Bool
nothing_sent opens r = false
nothing_sent (withdraws i) r = false
nothing_sent (arrives i) r = false
nothing_sent ticks r = false
nothing_sent transmits r = eqb r.refusal 0 && eqb r.first nothing
nothing_sent others r = false

-- whether a happening is a reply of this sort
abbrev pub is_reply : (Sort → Reply → Bool) → Happening → Bool
is_reply test (replied c r) = test (sort_of c) r
is_reply test (written offset number) = false

-- whether it clears the flag of this number: a granted Open, or "Writing a one to a flag"
abbrev pub clears : ℕ → Happening → Bool
clears flag (replied c r) = granted_open (sort_of c) r
clears flag (written offset number) = eqb offset flags_offset && bit_of number (2 ^ flag)

-- how many there are in a list, and whether there is one
abbrev pub how_many : (Happening → Bool) → List Happening → ℕ
how_many test [] = 0
how_many test (h ∷ hs) = cond (test h) 1 0 + how_many test hs

abbrev pub is_there : (Happening → Bool) → List Happening → Bool
is_there test [] = false
is_there test (h ∷ hs) = test h || is_there test hs

-- the happenings after the last for which this test holds, and all of them where there is none
abbrev pub since : (Happening → Bool) → List Happening → List Happening
since test [] = []
since test (h ∷ hs) = cond (is_there test hs) (since test hs) (cond (test h) hs (h ∷ hs))

-- "the number of such replies since the latest opening or granted withdrawal, taken modulo 4,294,967,296"; where there is none after the Open that the list
-- begins with, since that
abbrev pub count_since : (ℕ → Sort → Reply → Bool) → UseList → ℕ → ℕ
count_since test l s = how_many (is_reply (test s)) (since (is_reply (beginning s)) (happenings_in l)) % 2 ^ 32

-- the counts of each stream, at this octet of the block, of replies of this sort: in every list from a granted Open they equal that number
abbrev pub CountsSince : (ℕ → ℕ) → (ℕ → Sort → Reply → Bool) → Type 0
CountsSince octet test = (l : UseList) (s : ℕ) → s < stream_count → word_at (block_part (left_by l).port) (octet s) ≡ count_since test l s

-- the count of the frames sent, at this octet: in every list from a granted Open it is the number of replies of this sort, modulo 4,294,967,296
abbrev pub Counts : ℕ → (Sort → Reply → Bool) → Type 0
Counts octet test = (l : UseList) → word_at (block_part (left_by l).port) octet ≡ how_many (is_reply test) (happenings_in l) % 2 ^ 32

-- a flag of replies of this sort: where it was last cleared before `after`, or not cleared since the Open, it says whether there was one after that
pub record Flags (flag : ℕ) (test : Sort → Reply → Bool) : Type 0 where
  pub since_clear : (l : UseList) (before after : List Happening) (h : Happening) → happenings_in l ≡ before ++ (h ∷ after)
      → clears flag h ≡ true → All (λ k. clears flag k ≡ false) after → flag_at (block_part (left_by l).port) flag ≡ is_there (is_reply test) after
  pub since_open : (l : UseList) → All (λ k. clears flag k ≡ false) (happenings_in l) → flag_at (block_part (left_by l).port) flag ≡ is_there (is_reply test) (happenings_in l)

-- the number that was last written to the register at this offset, from this one on; a granted Open makes it 0
abbrev pub last_from : ℕ → ℕ → List Happening → ℕ
last_from offset number [] = number
last_from offset number (replied c r ∷ hs) = last_from offset (cond (granted_open (sort_of c) r) 0 number) hs
last_from offset number (written at other ∷ hs) = last_from offset (cond (eqb at offset) other number) hs

-- a register, at this octet of the block and this offset, that is "kept as written", and 0 at opening
abbrev pub last_written : ℕ → UseList → ℕ
last_written offset l = last_from offset 0 (happenings_in l)

abbrev pub KeptAsWritten : ℕ → ℕ → Type 0
KeptAsWritten octet offset = (l : UseList) → word_at (block_part (left_by l).port) octet ≡ last_written offset l

-- a read of the register at this offset after a list replies this number "and 0", and changes nothing
abbrev pub Reads : UseList → ℕ → ℕ → Type 0
Reads l offset number = register_read offset (left_by l).port (left_by l).memory ≡ outcome (granted number 0) (left_by l).port (left_by l).memory

-- "the counts of the stream chosen by a new register at offset 28 [..]; a number above 63 there makes both read zero"
abbrev pub of_chosen : UseList → (ℕ → ℕ) → ℕ
of_chosen l count = cond (ltb (last_written choice_offset l) stream_count) (count (last_written choice_offset l)) 0

-- what the controller reads after every list from a granted Open: the port is open, mask and choice as they were written, the counts of the chosen stream and
-- of the frames sent, and the flags and the interrupt line of the block
pub record ReadsTell (l : UseList) : Type 0 where
  pub control : Reads l control_offset 0
  pub status : Reads l status_offset (status_of true (block_part (left_by l).port))
  pub flags : Reads l flags_offset (flags_of (block_part (left_by l).port))
  pub mask : Reads l mask_offset (last_written mask_offset l)
  pub accepted : Reads l accepted_offset (of_chosen l (count_since acceptance_of l))
  pub discarded : Reads l discarded_offset (of_chosen l (count_since discard_of l))
  pub sent : Reads l sent_offset (how_many (is_reply sending) (happenings_in l) % 2 ^ 32)
  pub choice : Reads l choice_offset (last_written choice_offset l)

-- and what support reads of each stream, whichever is chosen
abbrev pub CountsTell : UseList → Type 0
CountsTell l = (s : ℕ) → s < stream_count → port_counts s (left_by l).port ≡ granted (count_since acceptance_of l s) (count_since discard_of l s)
