-- What each call refuses of a record and memory that are long enough, in document 01's order: "Checks run 18, 19, 1 (for Open: 2), 17, then upward by
-- number, except that 12 follows 5"; and 25 is "checked right after 5". A gate is the number of the first refusal that applies, or 0.
use Rattle.std.specs.Prelude.{ℕ, ◌+◌, ◌-◌, ◌*◌, not, cond, List, leb, ltb}
use Rattle.queue.specs.Ring.{place_count}
use Rattle.record.specs.Layout.{stream_count}
use Rattle.record.specs.Queues.{best_effort_at}
use Rattle.record.specs.Head.{open_at, delay_at, link_at, waits_at, queue_at}
use Rattle.record.specs.Entry.{stream_at, drains_at}
use Rattle.ranges.specs.Ranges.{charge_fits, share_of, link_fits, delay_fits, permitted_fits}
use Rattle.record.specs.Reservations.{permitted_sum}
use Rattle.steps.specs.Call.{Terms}

-- Open: "2 open already; 3 L outside its range; 4 K outside its range"
unfoldable pub open_refusal : List ℕ → Terms → ℕ
open_refusal p t =
    cond (open_at p) 2
    (cond (not (link_fits t.link)) 3
    (cond (not (delay_fits t.delay)) 4 0))

-- what every call on a stream refuses first: "1 port closed; [..] 5 stream above 63", and 25, which is "checked right after 5"
unfoldable pub stream_refusal : List ℕ → ℕ → ℕ
stream_refusal p s =
    cond (not (open_at p)) 1
    (cond (leb stream_count s) 5
    (cond (drains_at p s) 25 0))

-- Reserve: "1 port closed; [..] 5 stream above 63; 6 reserved already; 7 P below 84; 8 sum of P above the share", and 25, "a draining stream"
unfoldable pub reserve_refusal : List ℕ → ℕ → ℕ → ℕ
reserve_refusal p s permitted =
    cond (not (open_at p)) 1
    (cond (leb stream_count s) 5
    (cond (drains_at p s) 25
    (cond (stream_at p s).reserved 6
    (cond (not (permitted_fits permitted)) 7
    (cond (ltb (share_of (link_at p)) (permitted_sum p + permitted)) 8 0)))))

-- Withdraw: "an arrival, reservation, binding or withdrawal of a draining stream" is 25, and of a stream that is not reserved 12
unfoldable pub withdraw_refusal : List ℕ → ℕ → ℕ
withdraw_refusal p s =
    cond (not (open_at p)) 1
    (cond (leb stream_count s) 5
    (cond (drains_at p s) 25
    (cond (not (stream_at p s).reserved) 12 0)))

-- Arrive: "12 stream not reserved [..]; 13 charge outside 84 to" 2,020
unfoldable pub arrive_refusal : List ℕ → ℕ → ℕ → ℕ
arrive_refusal p s charge =
    cond (not (open_at p)) 1
    (cond (leb stream_count s) 5
    (cond (drains_at p s) 25
    (cond (not (stream_at p s).reserved) 12
    (cond (not (charge_fits charge)) 13 0))))

-- Tick and Transmit
unfoldable pub closed_refusal : List ℕ → ℕ
closed_refusal p = cond (not (open_at p)) 1 0

-- the most octets that may wait in best effort: "K × (L − R)"
abbrev pub best_effort_limit : List ℕ → ℕ
best_effort_limit p = delay_at p * (link_at p - permitted_sum p)

-- Best effort: "13 charge outside 84 to" 2,020; "15 256 best-effort frames waiting; 16 W + a above K × (L − R)"
unfoldable pub best_effort_refusal : List ℕ → ℕ → ℕ
best_effort_refusal p charge =
    cond (not (open_at p)) 1
    (cond (not (charge_fits charge)) 13
    (cond (leb place_count (queue_at p (best_effort_at p)).count) 15
    (cond (ltb (best_effort_limit p) (waits_at p + charge)) 16 0)))
