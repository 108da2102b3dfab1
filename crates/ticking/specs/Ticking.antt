-- Tick.
use Rattle.std.specs.Prelude.{ℕ, ◌-◌, cond, List, eqb}
use Rattle.lists.specs.Turns.{iterate}
use Rattle.stream.specs.Steps.{tick_of}
use Rattle.stream.specs.Replies.{granted}
use Rattle.queue.specs.Ring.{empty_queue}
use Rattle.queue.specs.Waiting.{waiting, charges_of}
use Rattle.record.specs.Layout.{stream_count}
use Rattle.record.specs.Head.{queue_at, with_prior, with_queue}
use Rattle.record.specs.Entry.{stream_at, drain_at, with_drain, dropped}
use Rattle.steps.specs.Outcome.{Outcome, outcome}
use Rattle.steps.specs.Roles.{role_at, prior_role, current_role}
use Rattle.steps.specs.Moves.{moved}

-- a withdrawn stream comes a tick nearer to its freedom; at the last of them "number and share are free and its binding is gone"
unfoldable pub drained_at : ℕ → List ℕ → List ℕ
drained_at s l = cond (eqb (drain_at l s) 0) l (cond (eqb (drain_at l s) 1) (dropped l s) (with_drain l s (drain_at l s - 1)))

-- a reserved stream's tick: it moves, draining or not, and then it drains, if it does; nothing of an unreserved one is written
abbrev pub ticked_at : ℕ → List ℕ → List ℕ
ticked_at s l = cond (stream_at l s).reserved (drained_at s (moved l s (tick_of (stream_at l s)))) l

abbrev pub streams_ticked : List ℕ → List ℕ
streams_ticked = iterate ticked_at stream_count

-- "Tick purges prior [..]. Then current becomes prior, next becomes current, last becomes next, and an empty queue becomes last": the purged
-- queue is the one that becomes last
abbrev pub ticked_from : List ℕ → ℕ → ℕ → List ℕ
ticked_from p prior current = streams_ticked (with_prior (with_queue p prior empty_queue) current)

-- by the numbers of the queues in these two roles
unfoldable pub ticked_record : List ℕ → List ℕ
ticked_record p = ticked_from p (role_at p prior_role) (role_at p current_role)

-- "and replies with the frames and octets purged"
unfoldable pub tick_step : List ℕ → List ℕ → Outcome
tick_step p m =
    outcome
    (granted (queue_at p (role_at p prior_role)).count (charges_of (waiting m (role_at p prior_role) (queue_at p (role_at p prior_role)))))
    (ticked_record p)
    m
