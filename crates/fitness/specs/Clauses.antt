-- The clauses of refusal 19, in document 01's order, each as what a fit record has.
use Rattle.std.specs.Prelude.{ℕ, ◌+◌, Bool, true, not, ◌&&◌, cond, List, leb, ltb, eqb}
use Rattle.lists.specs.Turns.{all_to, all_of}
use Rattle.stream.specs.declared.Stream.{Stream}
use Rattle.stream.specs.State.{current_place}
use Rattle.queue.specs.declared.Frame.{Frame}
use Rattle.queue.specs.declared.Queue.{Queue}
use Rattle.queue.specs.Place.{best_effort_stream}
use Rattle.queue.specs.Ring.{place_count}
use Rattle.queue.specs.Waiting.{waiting, charges_of}
use Rattle.record.specs.Layout.{stream_count}
use Rattle.record.specs.Queues.{queues_at, last_place_at, best_effort_at}
use Rattle.record.specs.Head.{open_at, prior_at, delay_at, link_at, waits_at, queue_at}
use Rattle.record.specs.Entry.{stream_at, drain_at, bound_at, vid_at, address_at, same_pair}
use Rattle.record.specs.Reservations.{permitted_sum}
use Rattle.ranges.specs.Ranges.{within, charge_fits, share_of, link_fits, delay_fits, permitted_fits, vid_fits}

-- "prior above 3": none of the queues for reserved traffic
abbrev pub prior_fits : List ℕ → Bool
prior_fits p = ltb (prior_at p) (queues_at p)

-- "a queue start above 255 or count above 256", of the queues for reserved traffic and of best effort
abbrev pub queue_fits : Queue → Bool
queue_fits q = ltb q.start place_count && leb q.count place_count

abbrev pub queues_fit : List ℕ → Bool
queues_fit p = all_to (λ q. queue_fits (queue_at p q)) (queues_at p + 1)

-- "a reserved stream with a place that is none of the three or left above P": with any number of queues, none from current to the last; and "a draining
-- count outside 1 to 4": above the number of queues, one more than the last place (0 is the count of a stream that does not drain)
abbrev pub stream_fits : ℕ → Stream → ℕ → Bool
stream_fits last s drain = cond s.reserved (within current_place last s.place && leb s.left s.permitted && leb drain (last + 1)) true

abbrev pub streams_fit : List ℕ → Bool
streams_fit p = all_to (λ s. stream_fits (last_place_at p) (stream_at p s) (drain_at p s)) stream_count

-- "a binding that repeats, belongs to an unreserved stream or has a VID outside 1 to 4,094"; `unlike` says that it repeats none before it
abbrev pub binding_fits : List ℕ → ℕ → Bool → Bool
binding_fits p s unlike = cond (bound_at p s) ((stream_at p s).reserved && vid_fits (vid_at p s) && unlike) true

-- "A binding repeats if address and VID are both equal on two streams": those of s are not those of a bound stream before it
abbrev pub unlike_earlier : List ℕ → ℕ → Bool
unlike_earlier p s = all_to (λ t. cond (bound_at p t) (not (same_pair (vid_at p t) (address_at p t) (vid_at p s) (address_at p s))) true) s

abbrev pub bindings_fit : List ℕ → Bool
bindings_fit p = all_to (λ s. binding_fits p s (unlike_earlier p s)) stream_count

-- "a waiting frame's stream above 63 (best effort: not 255) or charge outside 84 to" 2,020, where `best` is the number of best effort
abbrev pub frame_stream_fits : ℕ → ℕ → ℕ → Bool
frame_stream_fits best number stream = cond (eqb number best) (eqb stream best_effort_stream) (ltb stream stream_count)

abbrev pub frame_fits : ℕ → ℕ → Frame → Bool
frame_fits best number f = frame_stream_fits best number f.stream && charge_fits f.charge

abbrev pub frames_fit : List ℕ → List ℕ → Bool
frames_fit p m = all_to (λ q. all_of (frame_fits (best_effort_at p) q) (waiting m q (queue_at p q))) (queues_at p + 1)

-- "W not the sum of the charges waiting in best effort"
abbrev pub waits_fit : List ℕ → List ℕ → Bool
waits_fit p m = eqb (waits_at p) (charges_of (waiting m (best_effort_at p) (queue_at p (best_effort_at p))))

-- "on an open port only, L, K or a P outside its range or a P sum above the share"
abbrev pub reservation_fits : Stream → Bool
reservation_fits s = cond s.reserved (permitted_fits s.permitted) true

abbrev pub plan_fits : List ℕ → Bool
plan_fits p =
    link_fits (link_at p)
    && delay_fits (delay_at p)
    && all_to (λ s. reservation_fits (stream_at p s)) stream_count
    && leb (permitted_sum p) (share_of (link_at p))

abbrev pub open_fits : List ℕ → Bool
open_fits p = cond (open_at p) (plan_fits p) true
