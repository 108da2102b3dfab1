-- Where the fields of the port record stand, and how long record and memory are. Numbers are high octet first; octets that no line here names
-- are spare, neither read nor written.
use Rattle.std.specs.Prelude.{ℕ, ◌+◌, ◌*◌, ◌≤◌, List, length}
use Rattle.stream.specs.State.{most_queues}
use Rattle.queue.specs.Ring.{part_length}

-- "Streams 0 to 63"
abbrev pub stream_count : ℕ
stream_count = 64

-- the record: a head, then an entry for each stream
abbrev pub head_length : ℕ
head_length = 64

abbrev pub entry_length : ℕ
entry_length = 16

abbrev pub record_length : ℕ
record_length = head_length + stream_count * entry_length

-- the memory: 256 places for each of so many queues for reserved traffic and for best effort, 1,280 with four
abbrev pub memory_length : ℕ → ℕ
memory_length queues = (queues + 1) * part_length

-- the record is whole: the slice reaches to its end
abbrev pub Whole : List ℕ → Type 0
Whole l = record_length ≤ length l

-- the head's fields: open (1 octet, 1: open), prior (1), K (1), L (2), W (4), then for each queue its start (2) and count (2)
abbrev pub open_offset : ℕ
open_offset = 0

abbrev pub prior_offset : ℕ
prior_offset = 1

abbrev pub delay_offset : ℕ
delay_offset = 2

abbrev pub link_offset : ℕ
link_offset = 6

abbrev pub waits_offset : ℕ
waits_offset = 8

abbrev pub queues_offset : ℕ
queues_offset = 16

abbrev pub queue_length : ℕ
queue_length = 4

abbrev pub count_offset : ℕ
count_offset = 2

-- where the start and count of queue q begin
abbrev pub queue_offset : ℕ → ℕ
queue_offset q = queues_offset + q * queue_length

-- the queues for which the head has room: the most for reserved traffic, and best effort
abbrev pub queue_room : ℕ
queue_room = most_queues + 1

-- an entry's fields: reserved (1 octet, 1: reserved), place (1), left (2), P (2), the draining count (1), bound (1, 1: bound), VID (2), address (6)
abbrev pub place_offset : ℕ
place_offset = 1

abbrev pub left_offset : ℕ
left_offset = 2

abbrev pub permitted_offset : ℕ
permitted_offset = 4

abbrev pub stream_length : ℕ
stream_length = 6

abbrev pub drain_offset : ℕ
drain_offset = 6

abbrev pub bound_offset : ℕ
bound_offset = 7

abbrev pub pair_offset : ℕ
pair_offset = 8

abbrev pub address_offset : ℕ
address_offset = 10

-- "a destination address of six octets"
abbrev pub address_length : ℕ
address_length = 6

-- where the entry of stream s begins
abbrev pub entry_offset : ℕ → ℕ
entry_offset s = head_length + s * entry_length
