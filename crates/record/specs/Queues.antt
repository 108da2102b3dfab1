-- How many queues a port has, and what goes by that number: the last place, the number of best effort, the memory. What is of one stream, frame or
-- queue takes the number that it needs; what is of the record reads it here.
use Rattle.std.specs.Prelude.{ℕ, ◌-◌, ◌≤◌, List, length}
use Rattle.stream.specs.State.{least_queues}
use Rattle.record.specs.Layout.{memory_length}

-- the queues for reserved traffic, prior and one for each place: every port has four
unfoldable pub queues_at : List ℕ → ℕ
queues_at l = least_queues

-- the last place: prior has none
abbrev pub last_place_at : List ℕ → ℕ
last_place_at l = queues_at l - 1

-- the number of best effort's queue, the one after theirs
abbrev pub best_effort_at : List ℕ → ℕ
best_effort_at l = queues_at l

-- the memory has room for all queues of the record
abbrev pub HasMemory : List ℕ → List ℕ → Type 0
HasMemory l m = memory_length (queues_at l) ≤ length m
