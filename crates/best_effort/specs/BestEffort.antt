-- Best effort(a, tag).
use Rattle.std.specs.Prelude.{ℕ, ◌+◌, ◌<◌, List}
use Rattle.stream.specs.Replies.{granted}
use Rattle.queue.specs.declared.Frame.{Frame}
use Rattle.queue.specs.Ring.{place_count, joined_memory, joined_queue}
use Rattle.record.specs.Queues.{best_effort_at}
use Rattle.record.specs.Head.{waits_at, with_waits, queue_at, with_queue}
use Rattle.queue.specs.Place.{best_effort_stream}
use Rattle.steps.specs.Outcome.{Outcome, outcome}

-- W with the charge in it is a number of 32 bits, as the record keeps it
abbrev pub WaitsKept : List ℕ → ℕ → Type 0
WaitsKept p a = waits_at p + a < 4294967296

-- what the step asks of the record: a free place in best effort, and that
abbrev pub HasRoom : List ℕ → ℕ → Type 0
HasRoom p a = ((queue_at p (best_effort_at p)).count < place_count) × WaitsKept p a

-- "A frame is (stream, charge, tag), its stream 255 in best effort"
abbrev pub best_effort_frame : ℕ → ℕ → Frame
best_effort_frame a tag = record { stream = best_effort_stream; charge = a; tag = tag }

-- Best effort(a, tag): the frame joins queue `number`, that of best effort, and W, "the sum of charges waiting there", rises by its charge; "best
-- effort: W after, 0"
abbrev pub best_effort_into : List ℕ → List ℕ → ℕ → ℕ → ℕ → Outcome
best_effort_into p m number a tag =
    outcome
    (granted (waits_at p + a) 0)
    (with_waits (with_queue p number (joined_queue (queue_at p number))) (waits_at p + a))
    (joined_memory m number (queue_at p number) (best_effort_frame a tag))

-- the queue of best effort is the one after those for reserved traffic
unfoldable pub best_effort_step : List ℕ → List ℕ → ℕ → ℕ → Outcome
best_effort_step p m a tag = best_effort_into p m (best_effort_at p) a tag
