-- Arrive(s, a, tag).
use Rattle.std.specs.Prelude.{ℕ, cond, List, leb, Result, Ok, Err}
use Rattle.stream.specs.declared.Stream.{Stream}
use Rattle.stream.specs.declared.Arrival.{Arrival}
use Rattle.stream.specs.declared.Reply.{Reply}
use Rattle.stream.specs.declared.Arrival.TheVariants.{Joined, Discarded}
use Rattle.stream.specs.Steps.{arrive_of}
use Rattle.stream.specs.declared.answer.Refusal.{Refusal}
use Rattle.stream.specs.Replies.{reply_of, refused_by, number_of}
use Rattle.queue.specs.declared.Frame.{Frame}
use Rattle.queue.specs.Ring.{place_count, joined_memory, joined_queue}
use Rattle.record.specs.Queues.{last_place_at}
use Rattle.record.specs.Head.{queue_at, with_queue}
use Rattle.record.specs.Entry.{stream_at}
use Rattle.steps.specs.Outcome.{Outcome, outcome, refused}
use Rattle.steps.specs.Roles.{role_at}
use Rattle.steps.specs.Moves.{moved}

-- the reply of a step that may refuse and gives no numbers itself
abbrev pub unless_refused : Result Unit Refusal → Reply → Reply
unless_refused (Ok done) reply = reply
unless_refused (Err refusal) reply = refused_by (number_of refusal)

-- the frame joins queue `number`, and the stream moves on; "20 the chosen queue holds 256", and then nothing changes
abbrev pub joined_into : List ℕ → List ℕ → ℕ → Reply → Stream → ℕ → Frame → Outcome
joined_into p m s reply next number f =
    cond (leb place_count (queue_at p number).count) (refused 20 p m)
    (outcome
    reply
    (with_queue (moved p s next) number (joined_queue (queue_at p number)))
    (joined_memory m number (queue_at p number) f))

-- what the stream's rule says is done: "the frame joins the queue at the place", or it is discarded, and "Number 14 alone changes its stream:
-- place last, left 0"
abbrev pub arrived : List ℕ → List ℕ → ℕ → Frame → Reply → Arrival → Outcome
arrived p m s f reply (Joined place next) = joined_into p m s reply next (role_at p place) f
arrived p m s f reply (Discarded spent) = outcome reply (moved p s spent) m

-- Arrive(s, a, tag), with document 01's reply to what the rule says
unfoldable pub arrive_step : List ℕ → List ℕ → ℕ → ℕ → ℕ → Outcome
arrive_step p m s a tag =
    let answer = arrive_of (last_place_at p) (stream_at p s) a in
    arrived p m s (record { stream = s; charge = a; tag = tag }) (reply_of answer) answer
