-- Lists of events of which a part is left open, a reply or what a transmit sends, and each with that part as it happens. What demand 3 says of the
-- open part is in Derived.
use Rattle.std.specs.Prelude.{ℕ, List, [], ◌∷◌, ◌++◌, set}
use Rattle.stream.specs.declared.Reply.{Reply}
use Rattle.stream.specs.Replies.{granted, refused_by}
use Rattle.stream.specs.Alone.{StreamEvent, arrival, tick}
use Rattle.record.specs.Layout.{prior_offset}
use Rattle.record.specs.Queues.{queues_at}
use Rattle.ranges.specs.Ranges.{link_of}
use Rattle.steps.specs.Call.{terms, Call, opening, reserving, arriving, ticking, transmitting, joining_best_effort, binding, framing}
use Rattle.port_laws.specs.Lists.{fresh_record}
use Rattle.guarantee.specs.Events.{Marked, Sent, reserved_sent, none, Event}
use Rattle.guarantee.specs.Instances.{replied, marked_frame}
use Rattle.guarantee_examples.specs.Examples.{sending, address, tagged_to, calls_of}

-- a transmit of which it is open what it sends, what it replies, and what it replies where each tag is its call's number
abbrev pub transmitted : Sent → Reply → Reply → Event
transmitted sent reply shown = record { call = transmitting; reply = reply; shown = shown; sent = sent }

-- a call that sends nothing, of which both replies are open
abbrev pub replied_as : Call → Reply → Reply → Event
replied_as c reply shown = record { call = c; reply = reply; shown = shown; sent = none }

-- the calls of the events after the first, which are the calls themselves where none is a Frame
abbrev pub later_calls : List Event → List Call
later_calls [] = []
later_calls (e ∷ es) = calls_of es

-- share 600, in equal parts for streams 5, 6 and 7: 6 and 7 fill their places at once, 6 until a frame is discarded, and after them 5 offers 120 of its
-- 200 octets, and as much again after the tick, with the same tag. Open are the reply to the first of these and the third transmit
abbrev pub crowded_opening : List Event
crowded_opening = replied (opening (terms (link_of 600) 1)) (granted 600 0) ∷ []

abbrev pub crowded_grant : Event
crowded_grant = replied (reserving 5 200) (granted 400 0)

abbrev pub crowded_before : List Event
crowded_before =
    replied (reserving 6 200) (granted 200 0)
    ∷ replied (reserving 7 200) (granted 0 0)
    ∷ replied (arriving 6 200 1) (granted 1 200)
    ∷ replied (arriving 6 200 2) (granted 2 200)
    ∷ replied (arriving 6 200 3) (granted 3 0)
    ∷ replied (arriving 6 84 4) (refused_by 14)
    ∷ replied (arriving 7 200 5) (granted 1 200)
    ∷ replied (arriving 7 200 6) (granted 2 200)
    ∷ []

abbrev pub crowded_between : List Event
crowded_between =
    replied ticking (granted 0 0)
    ∷ replied (arriving 5 120 7) (granted 1 80)
    ∷ sending (reserved_sent (marked_frame 6 200 1 4)) (granted 6 1)
    ∷ sending (reserved_sent (marked_frame 7 200 5 8)) (granted 7 5)
    ∷ []

-- what is between the third transmit and the second tick
abbrev pub crowded_fourth : List Event
crowded_fourth = sending (reserved_sent (marked_frame 6 200 2 5)) (granted 6 2) ∷ []

abbrev pub crowded_to_second_tick : Event → List Event
crowded_to_second_tick third = crowded_between ++ (third ∷ crowded_fourth)

abbrev pub crowded_after : Event → List Event
crowded_after third = crowded_to_second_tick third ++ (replied ticking (granted 0 0) ∷ [])

abbrev pub crowded_with : Reply → Event → List Event
crowded_with reply third = crowded_opening ++ (crowded_grant ∷ (crowded_before ++ (replied (arriving 5 120 7) reply ∷ crowded_after third)))

-- the queue that the frame joins, its mark, and the whole as it happens
abbrev pub crowded_place : ℕ
crowded_place = 1

abbrev pub crowded_frame : Marked
crowded_frame = marked_frame 5 120 7 10

-- the tick before which it is not sent
abbrev pub too_soon : ℕ
too_soon = 1

abbrev pub crowded_third : Event
crowded_third = transmitted (reserved_sent crowded_frame) (granted 5 7) (granted 5 10)

abbrev pub crowded : List Event
crowded = crowded_with (granted crowded_place 80) crowded_third

-- stream 5's own events in it, from its grant on
abbrev pub crowded_own : List StreamEvent
crowded_own = arrival 120 ∷ tick ∷ arrival 120 ∷ tick ∷ []

-- the list `busy`, of which are open the transmits after the second and after the third tick and what the fourth tick replies
abbrev pub busy_before : List Event
busy_before = replied (opening (terms (link_of 84) 1)) (granted 84 0) ∷ replied (reserving 5 84) (granted 0 0) ∷ replied (arriving 5 84 7) (granted 1 84) ∷ []

abbrev pub busy_next_arrival : Event
busy_next_arrival = replied (arriving 5 84 7) (granted 2 84)

abbrev pub busy_last_arrival : Event
busy_last_arrival = replied (arriving 5 84 7) (granted 3 0)

abbrev pub busy_to_second_tick : List Event
busy_to_second_tick = replied ticking (granted 0 0) ∷ sending (reserved_sent (marked_frame 5 84 7 2)) (granted 5 7) ∷ []

abbrev pub busy_to_third_tick : Event → List Event
busy_to_third_tick second = busy_to_second_tick ++ (replied ticking (granted 0 0) ∷ second ∷ [])

abbrev pub busy_to_fourth_tick : Event → Event → List Event
busy_to_fourth_tick second third = busy_to_third_tick second ++ (replied ticking (granted 0 0) ∷ third ∷ [])

abbrev pub busy_after : Event → Event → Reply → List Event
busy_after second third reply = busy_to_fourth_tick second third ++ (replied ticking reply ∷ [])

abbrev pub busy_with : Event → Event → Reply → List Event
busy_with second third reply = busy_before ++ (busy_next_arrival ∷ busy_last_arrival ∷ busy_after second third reply)

-- the frames of the second and third arrival, and the transmits that send them
abbrev pub second_frame : Marked
second_frame = marked_frame 5 84 7 3

abbrev pub third_frame : Marked
third_frame = marked_frame 5 84 7 4

abbrev pub busy_second : Event
busy_second = transmitted (reserved_sent second_frame) (granted 5 7) (granted 5 3)

abbrev pub busy_third : Event
busy_third = transmitted (reserved_sent third_frame) (granted 5 7) (granted 5 4)

-- the frames that a tick purges under the link condition, and its reply
abbrev pub purged_frames : ℕ
purged_frames = 0

abbrev pub purges_none : Reply
purges_none = granted purged_frames 0

-- share 600, and an epoch that sends 83 octets less than that, and no transmit without a reserved frame. Open is what the tick after it replies
abbrev pub nearly_charge : ℕ
nearly_charge = 517

abbrev pub nearly_before : List Event
nearly_before =
    replied (opening (terms (link_of 600) 1)) (granted 600 0)
    ∷ replied (reserving 5 600) (granted 0 0)
    ∷ replied (arriving 5 nearly_charge 7) (granted 1 83)
    ∷ replied (arriving 5 84 8) (granted 2 516)
    ∷ []

abbrev pub nearly_epoch : List Event
nearly_epoch = sending (reserved_sent (marked_frame 5 nearly_charge 7 2)) (granted 5 7) ∷ []

abbrev pub nearly_with : Reply → List Event
nearly_with reply = nearly_before ++ (replied ticking (granted 0 0) ∷ (nearly_epoch ++ (replied ticking reply ∷ [])))

abbrev pub nearly : List Event
nearly = nearly_with purges_none

-- stream 6 alone on a port with another L and K, with the ticks and its own calls as in `crowded`, the first of its arrivals by a Frame; the link
-- condition fails, and a tick purges. Open are the replies to its arrivals
abbrev pub alone_calls : List Call
alone_calls =
    reserving 6 200
    ∷ binding 6 address 100
    ∷ framing (tagged_to 100 176) 1
    ∷ arriving 6 200 2
    ∷ joining_best_effort 300 9
    ∷ arriving 6 200 3
    ∷ arriving 6 84 4
    ∷ ticking
    ∷ ticking
    ∷ []

abbrev pub alone_opening : List Event
alone_opening = replied (opening (terms (link_of 200) 3)) (granted 200 0) ∷ []

abbrev pub alone_grant : Event
alone_grant = replied (reserving 6 200) (granted 0 0)

abbrev pub alone_later : Reply → Reply → Reply → Reply → List Event
alone_later first second third fourth =
    replied (binding 6 address 100) (granted 0 0)
    ∷ replied (arriving 6 200 1) first
    ∷ replied (arriving 6 200 2) second
    ∷ replied (joining_best_effort 300 9) (granted 300 0)
    ∷ replied (arriving 6 200 3) third
    ∷ replied (arriving 6 84 4) fourth
    ∷ replied ticking (granted 0 0)
    ∷ replied ticking (granted 1 200)
    ∷ []

abbrev pub alone_with : Reply → Reply → Reply → Reply → List Event
alone_with first second third fourth = alone_opening ++ (alone_grant ∷ alone_later first second third fourth)

-- its own events, from its grant on
abbrev pub alone_own : List StreamEvent
alone_own = arrival 200 ∷ arrival 200 ∷ arrival 200 ∷ arrival 84 ∷ tick ∷ tick ∷ []

-- the last of the replies, all of them, and the whole as it happens
abbrev pub six_last : Reply
six_last = refused_by 14

abbrev pub six_answers : List Reply
six_answers = granted 1 200 ∷ granted 2 200 ∷ granted 3 0 ∷ six_last ∷ []

abbrev pub alone : List Event
alone = alone_with (granted 1 200) (granted 2 200) (granted 3 0) six_last

-- the list `permitted100`, of which the arrival's replies are open
abbrev pub arrived_with : Reply → Reply → List Event
arrived_with reply shown =
    replied (opening (terms (link_of 600) 1)) (granted 600 0) ∷ replied (reserving 5 100) (granted 500 0) ∷ replied_as (arriving 5 120 7) reply shown ∷ []

-- the refusal that it happens with, and those with which it never does
abbrev pub discards : ℕ
discards = 14

abbrev pub too_short : ℕ
too_short = 18

abbrev pub unfit : ℕ
unfit = 19

abbrev pub queue_full : ℕ
queue_full = 20

-- the fewest octets that a frame may have
abbrev pub shortest_frame : ℕ
shortest_frame = 60

-- a record that is unfit: closed, but its prior queue has a number that no queue for reserved traffic has
abbrev pub unfit_record : List ℕ
unfit_record = set fresh_record prior_offset (queues_at fresh_record)

-- the tag of the frame of `permitted200`, as the caller gave it, and where each tag is its call's number
abbrev pub kept_tag : ℕ
kept_tag = 7

abbrev pub number_tag : ℕ
number_tag = 2
