-- Transmit.
use Rattle.std.specs.Prelude.{ℕ, ◌-◌, cond, List, eqb, Option, Some, None}
use Rattle.stream.specs.Replies.{granted}
use Rattle.stream.specs.declared.Reply.{Reply}
use Rattle.queue.specs.declared.Frame.{Frame}
use Rattle.queue.specs.declared.Queue.{Queue}
use Rattle.queue.specs.Ring.{front_of, sent_queue}
use Rattle.record.specs.Queues.{best_effort_at}
use Rattle.record.specs.Head.{waits_at, with_waits, queue_at, with_queue}
use Rattle.steps.specs.Outcome.{Outcome, outcome}
use Rattle.steps.specs.Roles.{role_at, prior_role, current_role}

-- the oldest frame of queue `number`, which starts and counts as q says, is sent: "transmit: stream (255 best effort, 254 nothing), tag (0 for
-- nothing)"
abbrev pub sent_reply : List ℕ → ℕ → Queue → Reply
sent_reply m number q = granted (front_of m number q).stream (front_of m number q).tag

abbrev pub sent : List ℕ → List ℕ → ℕ → Queue → Outcome
sent p m number q = outcome (sent_reply m number q) (with_queue p number (sent_queue q)) m

-- a best-effort frame leaves W, "the sum of charges waiting there", too
abbrev pub sent_best_effort : List ℕ → List ℕ → ℕ → Queue → Outcome
sent_best_effort p m number q =
    outcome
    (sent_reply m number q)
    (with_waits (with_queue p number (sent_queue q)) (waits_at p - (front_of m number q).charge))
    m

-- "254 nothing"
abbrev pub nothing : ℕ
nothing = 254

-- the reply of the frame that is sent, or of none
abbrev pub sent_answer : Option Frame → Reply
sent_answer (Some frame) = granted frame.stream frame.tag
sent_answer None = granted nothing 0

-- what is done where a frame waits in the queue, and what else
abbrev pub if_waiting : Queue → Outcome → Outcome → Outcome
if_waiting q done else = cond (eqb q.count 0) else done

-- "Transmit sends the oldest frame of prior; if none, of current; if none, of best effort; if none, it replies 'nothing'"
abbrev pub sent_first : List ℕ → List ℕ → ℕ → ℕ → ℕ → Queue → Queue → Queue → Outcome
sent_first p m prior current best inPrior inCurrent inBestEffort =
    if_waiting inPrior (sent p m prior inPrior)
    (if_waiting inCurrent (sent p m current inCurrent)
    (if_waiting inBestEffort (sent_best_effort p m best inBestEffort) (outcome (granted nothing 0) p m)))

unfoldable pub transmit_step : List ℕ → List ℕ → Outcome
transmit_step p m =
    sent_first p m (role_at p prior_role) (role_at p current_role) (best_effort_at p)
    (queue_at p (role_at p prior_role)) (queue_at p (role_at p current_role)) (queue_at p (best_effort_at p))
