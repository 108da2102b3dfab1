-- Open(L, K) and Reserve(s, P).
use Rattle.std.specs.Prelude.{ℕ, ◌+◌, ◌-◌, List}
use Rattle.lists.specs.Turns.{iterate}
use Rattle.stream.specs.State.{reserve_of}
use Rattle.stream.specs.Replies.{granted}
use Rattle.queue.specs.Ring.{empty_queue}
use Rattle.record.specs.Layout.{stream_count}
use Rattle.record.specs.Queues.{queues_at}
use Rattle.record.specs.Head.{link_at, with_open, with_prior, with_delay, with_link, with_waits, with_queue}
use Rattle.record.specs.Entry.{with_stream, dropped}
use Rattle.ranges.specs.Ranges.{share_of}
use Rattle.record.specs.Reservations.{permitted_sum}
use Rattle.steps.specs.Call.{Terms}
use Rattle.steps.specs.Outcome.{Outcome, outcome}

-- the head of an open port: L and K, prior is queue 0, W is 0
abbrev pub opened_head : List ℕ → Terms → List ℕ
opened_head p t = with_waits (with_link (with_delay (with_prior (with_open p) 0) t.delay) t.link) 0

-- "empties all queues", those for reserved traffic and best effort
abbrev pub all_emptied : List ℕ → List ℕ
all_emptied p = iterate (λ q l. with_queue l q empty_queue) (queues_at p + 1) p

-- "drops all reservations and bindings"
abbrev pub all_dropped : List ℕ → List ℕ
all_dropped = iterate (λ s l. dropped l s) stream_count

-- the record after Open(L, K), whose reply is the share
unfoldable pub opened_record : List ℕ → Terms → List ℕ
opened_record p t = all_dropped (all_emptied (opened_head p t))

abbrev pub open_step : List ℕ → List ℕ → Terms → Outcome
open_step p m t = outcome (granted (share_of t.link) 0) (opened_record p t) m

-- the share still free: the share less R
abbrev pub free_share : List ℕ → ℕ
free_share p = share_of (link_at p) - permitted_sum p

-- the record after Reserve(s, P), whose reply is the share still free then
abbrev pub reserved_record : List ℕ → ℕ → ℕ → List ℕ
reserved_record p s permitted = with_stream p s (reserve_of permitted)

abbrev pub reserve_step : List ℕ → List ℕ → ℕ → ℕ → Outcome
reserve_step p m s permitted = outcome (granted (free_share (reserved_record p s permitted)) 0) (reserved_record p s permitted) m
