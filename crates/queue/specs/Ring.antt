-- One queue in its part of the lent memory: document 01, "each queue has 256 of them, starting at 256 times the queue's number".
use Rattle.std.specs.Prelude.{ℕ, ◌+◌, ◌-◌, ◌*◌, ◌%◌, ◌≤◌, List, length}
use Rattle.queue.specs.declared.Frame.{Frame}
use Rattle.queue.specs.declared.Queue.{Queue}
use Rattle.queue.specs.Place.{place_length, frame_at, with_frame}

-- the places of a queue, and the octets of its part
abbrev pub place_count : ℕ
place_count = 256

abbrev pub part_length : ℕ
part_length = place_count * place_length

-- the memory reaches to the end of the part of the queue of this number
abbrev pub HasPart : List ℕ → ℕ → Type 0
HasPart m number = number * part_length + part_length ≤ length m

-- where, in the queue's part, the place of its frame number i begins, counted from its oldest: place (start + i) modulo 256
abbrev pub ring_offset : Queue → ℕ → ℕ
ring_offset q i = (q.start + i) % place_count * place_length

-- the same in the whole memory, for the queue of this number
abbrev pub memory_offset : ℕ → Queue → ℕ → ℕ
memory_offset number q i = number * part_length + ring_offset q i

-- "A frame joins at place (start + count) modulo 256 of its queue": the whole memory afterwards
unfoldable pub joined_memory : List ℕ → ℕ → Queue → Frame → List ℕ
joined_memory m number q f = with_frame m (memory_offset number q q.count) f

-- the oldest frame of the queue
unfoldable pub front_of : List ℕ → ℕ → Queue → Frame
front_of m number q = frame_at m (memory_offset number q 0)

-- a frame has joined
abbrev pub joined_queue : Queue → Queue
joined_queue q = record { start = q.start; count = q.count + 1 }

-- "sending lowers the count and moves start on by one, 255 to 0"
abbrev pub sent_queue : Queue → Queue
sent_queue q = record { start = (q.start + 1) % place_count; count = q.count - 1 }

-- "opening and purging set both to 0"
abbrev pub empty_queue : Queue
empty_queue = record { start = 0; count = 0 }
