-- Where the registers stand for the controller, and where their contents stand in the block's octets. Numbers are high octet first; octets that no line
-- here names are spare: a granted Open writes zeros to them, and nothing else reads or writes them.
use Rattle.std.specs.Prelude.{ℕ, ◌+◌, ◌*◌, ◌≤◌, List, length}
use Rattle.record.specs.Layout.{stream_count}

-- "64 octets of 32-bit registers": the last one's offset, and the octets of each
abbrev pub last_offset : ℕ
last_offset = 60

abbrev pub register_length : ℕ
register_length = 4

-- "Offset 0 is control [..] Offset 4 is status [..], 8 flags [..], 12 the interrupt mask"
abbrev pub control_offset : ℕ
control_offset = 0

abbrev pub status_offset : ℕ
status_offset = 4

abbrev pub flags_offset : ℕ
flags_offset = 8

abbrev pub mask_offset : ℕ
mask_offset = 12

-- "Offsets 16 and 20 show the counts of the stream chosen by a new register at offset 28", its accepted frames and its discards (14); 24 counts "frames of
-- both sorts sent"
abbrev pub accepted_offset : ℕ
accepted_offset = 16

abbrev pub discarded_offset : ℕ
discarded_offset = 20

abbrev pub sent_offset : ℕ
sent_offset = 24

abbrev pub choice_offset : ℕ
choice_offset = 28

-- the counts: where those of stream 0 begin, and the octets of a stream's two
abbrev pub counts_octet : ℕ
counts_octet = 16

abbrev pub counts_length : ℕ
counts_length = 8

-- the octets of the block, which ends with the counts of the last stream
abbrev pub block_length : ℕ
block_length = counts_octet + stream_count * counts_length

-- the block is whole: the slice reaches to its end
abbrev pub WholeBlock : List ℕ → Type 0
WholeBlock b = block_length ≤ length b

-- the flags by their numbers, "bit 0 discard, bit 1 purge of at least one frame, bit 2 nothing to send", each an octet of the block at its number (1: up,
-- any other: down)
abbrev pub discard_flag : ℕ
discard_flag = 0

abbrev pub purge_flag : ℕ
purge_flag = 1

abbrev pub nothing_flag : ℕ
nothing_flag = 2

abbrev pub flag_count : ℕ
flag_count = 3

-- where the mask, the count of frames sent and the choice stand in the block, four octets each
abbrev pub mask_octet : ℕ
mask_octet = 4

abbrev pub sent_octet : ℕ
sent_octet = 8

abbrev pub choice_octet : ℕ
choice_octet = 12

-- "Accepted and discarded counts are to be held for each stream": where those of stream s stand, four octets each
abbrev pub accepted_octet : ℕ → ℕ
accepted_octet s = counts_octet + s * counts_length

abbrev pub discarded_octet : ℕ → ℕ
discarded_octet s = accepted_octet s + register_length
