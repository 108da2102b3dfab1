-- Events and calls, written out: no port is run on them. They show what the definitions of the claims count (`ClaimCases`), and that a wrong claim is
-- false.
use Rattle.std.specs.Prelude.{ℕ, ◌≤◌, List, [], ◌∷◌, ◌++◌, get_or}
use Rattle.std.proofs.Common.{arith}
use Rattle.stream.specs.declared.Reply.{Reply}
use Rattle.stream.specs.Replies.{granted, refused_by}
use Rattle.stream.specs.Alone.{StreamEvent, arrival, tick}
use Rattle.steps.specs.Call.{Call, reserving, withdrawing, arriving, ticking, transmitting, joining_best_effort}
use Rattle.steps.specs.Outcome.{Outcome, outcome}
use Rattle.port_laws.specs.Counting.{Action, to_tick, to_transmit, to_reserve, to_withdraw, to_arrive, to_best_effort, to_frame, neither, action_of}
use Rattle.guarantee.specs.Events.{Marked, Sent, reserved_sent, best_effort_sent, none, Made, Event}
use Rattle.guarantee.specs.Claims.{offers}

-- an event that sends nothing, the frame of a call, and a transmit that sends something, as it is replied, and as it is replied where each tag is its
-- call's number
abbrev pub replied : Call → Reply → Event
replied c reply = record { call = c; reply = reply; shown = reply; sent = none }

abbrev pub marked_frame : ℕ → ℕ → ℕ → ℕ → Marked
marked_frame stream charge tag number = record { stream = stream; charge = charge; tag = tag; number = number }

abbrev pub sent_event : Sent → Reply → Reply → Event
sent_event sent reply shown = record { call = transmitting; reply = reply; shown = shown; sent = sent }

-- a tick that purges nothing,
-- and one that purges a frame
abbrev pub quiet_tick : Event
quiet_tick = replied ticking (granted 0 0)

abbrev pub purging_tick : Event
purging_tick = replied ticking (granted 1 84)

-- an arrival that joins current, after which nothing else arrives:
-- its frame, and the transmit that sends it
abbrev pub joins_current : Event
joins_current = replied (arriving 5 120 7) (granted 1 80)

abbrev pub current_frame : Marked
current_frame = marked_frame 5 120 7 0

abbrev pub sends_reserved : Event
sends_reserved = sent_event (reserved_sent current_frame) (granted 5 7) (granted 5 0)

-- what comes after the arrival, the transmit after one tick and before the second,
-- and all of it
abbrev pub after_joins : List Event
after_joins = quiet_tick ∷ sends_reserved ∷ quiet_tick ∷ []

abbrev pub in_time : List Event
in_time = joins_current ∷ after_joins

-- an arrival that joins next,
-- and one that is discarded
abbrev pub joins_next : Event
joins_next = replied (arriving 5 100 8) (granted 2 100)

abbrev pub discarded_arrival : Event
discarded_arrival = replied (arriving 5 200 9) (refused_by 14)

-- an epoch of a port whose share is 600, in which 516 octets are sent, the least charge less,
-- and no transmit is without a reserved frame
abbrev pub epoch : List Event
epoch = sent_event (reserved_sent (marked_frame 5 516 7 2)) (granted 5 7) (granted 5 2) ∷ []

-- arrivals of 168 octets, which are the least charge more than the 84
-- of stream 5
abbrev pub offered : List Event
offered = replied (arriving 5 84 7) (granted 1 84) ∷ replied (arriving 5 84 8) (granted 2 84) ∷ []

-- an arrival in both runs, which leaves the same record, and in each memory its own tag; and the transmit
-- that sends its frame
abbrev pub joins_twice : Made
joins_twice = record { call = arriving 1 120 7; real = outcome (granted 1 80) [] (7 ∷ []); shown = outcome (granted 1 80) [] (1 ∷ []) }

abbrev pub sends_twice : Made
sends_twice = record { call = transmitting; real = outcome (granted 1 7) [] (7 ∷ []); shown = outcome (granted 1 1) [] (1 ∷ []) }

-- a reservation that is granted, and the same one refused; after each the stream's arrival,
-- which is replied accordingly
abbrev pub grant_of_5 : Event
grant_of_5 = replied (reserving 5 200) (granted 400 0)

abbrev pub allowed : List Event
allowed = grant_of_5 ∷ joins_current ∷ []

abbrev pub denied : List Event
denied = replied (reserving 5 200) (refused_by 8) ∷ replied (arriving 5 120 7) (refused_by 12) ∷ []

-- an arrival of a charge that is out of range:
-- it is refused before the rule of its stream is asked,
-- and so is no offer
abbrev pub too_small : Event
too_small = replied (arriving 5 83 7) (refused_by 13)

-- a withdrawal that is granted, one that is refused since the stream drains, and one of another stream
abbrev pub withdrawal_of_5 : Event
withdrawal_of_5 = replied (withdrawing 5) (granted 0 0)

abbrev pub withdrawal_refused : Event
withdrawal_refused = replied (withdrawing 5) (refused_by 25)

abbrev pub withdrawal_of_6 : Event
withdrawal_of_6 = replied (withdrawing 6) (granted 0 0)

-- an arrival on a stream that drains, and one on a stream that is not reserved
abbrev pub draining_arrival : Event
draining_arrival = replied (arriving 5 120 7) (refused_by 25)

abbrev pub free_arrival : Event
free_arrival = replied (arriving 5 120 7) (refused_by 12)

-- a grant, and an arrival after the withdrawal: what follows the grant, and the whole list
abbrev pub after_grant : List Event
after_grant = withdrawal_of_5 ∷ draining_arrival ∷ []

abbrev pub withdrawn_soon : List Event
withdrawn_soon = grant_of_5 ∷ after_grant

-- a withdrawal after which an arrival on the stream is accepted,
-- one after which the stream drains after a tick,
-- and one after which it is free after a tick
abbrev pub accepted_still : List Event
accepted_still = withdrawal_of_5 ∷ joins_current ∷ []

abbrev pub draining_yet : List Event
draining_yet = withdrawal_of_5 ∷ quiet_tick ∷ draining_arrival ∷ []

abbrev pub free_soon : List Event
free_soon = withdrawal_of_5 ∷ quiet_tick ∷ free_arrival ∷ []

-- a part of a list offers no more than the whole list, by which a wrong claim is seen to be false
pub part_offers : (s : ℕ) (before between after : List Event) → offers s between ≤ offers s (before ++ (between ++ after))
part_offers s [] [] after = omega arith
part_offers s [] (e ∷ between) after = omega (arith, part_offers s [] between after)
part_offers s (e ∷ before) between after = omega (arith, part_offers s before between after)

-- calls of others: a reservation that is refused, an arrival,
-- and a frame of best effort
abbrev pub refusal_of_6 : Event
refusal_of_6 = replied (reserving 6 401) (refused_by 8)

abbrev pub joins_other : Event
joins_other = replied (arriving 6 300 1) (granted 1 0)

abbrev pub joins_best_effort : Event
joins_best_effort = replied (joining_best_effort 300 2) (granted 300 0)

-- transmits of a frame of best effort,
-- and of nothing
abbrev pub sends_best_effort : Event
sends_best_effort = sent_event (best_effort_sent (marked_frame 255 300 2 5)) (granted 255 2) (granted 255 5)

abbrev pub sends_nothing : Event
sends_nothing = sent_event none (granted 254 0) (granted 254 0)

-- events of every sort,
-- in some order
abbrev pub mixed : List Event
mixed = grant_of_5 ∷ joins_current ∷ refusal_of_6 ∷ joins_next ∷ joins_other ∷ joins_best_effort ∷ quiet_tick ∷ sends_reserved ∷ sends_best_effort ∷ sends_nothing ∷ discarded_arrival ∷ withdrawal_of_5 ∷ []

-- the tag of a call that brings a frame,
-- and 0 of any other
abbrev pub tag_of : Action → ℕ
tag_of to_tick = 0
tag_of to_transmit = 0
tag_of (to_reserve s permitted) = 0
tag_of (to_withdraw s) = 0
tag_of (to_arrive s charge tag) = tag
tag_of (to_best_effort charge tag) = tag
tag_of (to_frame octets tag) = tag
tag_of neither = 0

-- the octets of a stream's own event, 0 of a tick
abbrev pub charge_in : StreamEvent → ℕ
charge_in (arrival charge) = charge
charge_in tick = 0

-- a machine that is no port: it replies the heads of record and memory,
-- and puts the call's tag before both
abbrev pub stacking : Call → List ℕ → List ℕ → Outcome
stacking c p m = outcome (granted (get_or p 0 0) (get_or m 0 0)) (tag_of (action_of c) ∷ p) (tag_of (action_of c) ∷ m)
