-- Lists in which a stream is withdrawn, each as its events, on a port never opened; of some a part is left open, a reply or what a transmit sends. What
-- they show, and what the theorems say of the open parts, is in WithdrawnShown.
use Rattle.std.specs.Prelude.{ℕ, ◌-◌, ◌||◌, cond, List, [], ◌∷◌, ◌++◌, eqb}
use Rattle.stream.specs.declared.Reply.{Reply}
use Rattle.stream.specs.Replies.{granted, refused_by}
use Rattle.record.specs.Queues.{queues_at}
use Rattle.record.specs.Entry.{with_drain}
use Rattle.sending.specs.Sending.{nothing}
use Rattle.ranges.specs.Ranges.{link_of}
use Rattle.steps.specs.Outcome.{Outcome, outcome}
use Rattle.steps.specs.Call.{terms, Call, opening, reserving, withdrawing, arriving, ticking, joining_best_effort, binding, framing}
use Rattle.port.specs.Quick.{quickly_called}
use Rattle.port_laws.specs.Counting.{Action, to_tick, to_transmit, to_reserve, to_withdraw, to_arrive, to_best_effort, to_frame, neither, action_of}
use Rattle.guarantee.specs.Events.{Marked, reserved_sent, none, Event, action}
use Rattle.guarantee.specs.Claims.{is_tick, is_reserve_of, is_arrive_of}
use Rattle.guarantee.specs.Instances.{replied, marked_frame, quiet_tick, withdrawal_of_5}
use Rattle.guarantee_examples.specs.Examples.{sending, address, tagged_to}
use Rattle.guarantee_examples.specs.LeftOpen.{busy_before, busy_next_arrival, busy_last_arrival, busy_to_second_tick, busy_to_third_tick}

-- what the theorems have replied to calls on a draining stream, and on a free one
abbrev pub draining_reply : Reply
draining_reply = refused_by 25

abbrev pub free_reply : Reply
free_reply = refused_by 12

-- share 84, all of it reserved for stream 5, which fills its places at once and is withdrawn. Each epoch sends the share, so that its last frame waits as
-- long as a frame can: demand 3 has it sent before the fourth tick after it, which is the one that frees the stream, and so no frame of the stream can
-- wait at that tick. Before it number and share are tried in vain
abbrev pub handed_before : List Event
handed_before = busy_before ++ (busy_next_arrival ∷ [])

abbrev pub handed_tries : List Event
handed_tries = replied (reserving 5 84) (refused_by 25) ∷ replied (reserving 6 84) (refused_by 8) ∷ []

abbrev pub handed_second : Event
handed_second = sending (reserved_sent (marked_frame 5 84 7 3)) (granted 5 7)

abbrev pub handed_third : Event
handed_third = sending (reserved_sent (marked_frame 5 84 7 4)) (granted 5 7)

abbrev pub handed_to_third : List Event
handed_to_third = withdrawal_of_5 ∷ (busy_to_third_tick handed_second ++ (quiet_tick ∷ handed_tries))

abbrev pub handed_to_fourth_tick : Event → List Event
handed_to_fourth_tick third = handed_to_third ++ (third ∷ [])

-- right after that tick stream s is granted the whole share; no reserved frame waits, and it fills its places at once
abbrev pub handed_grant : ℕ → List Event
handed_grant s =
    replied (reserving s 84) (granted 0 0)
    ∷ sending none (granted nothing 0)
    ∷ replied (arriving s 84 8) (granted 1 84)
    ∷ replied (arriving s 84 8) (granted 2 84)
    ∷ []

abbrev pub handed_last_arrival : ℕ → Event
handed_last_arrival s = replied (arriving s 84 8) (granted 3 0)

-- again each epoch sends the share
abbrev pub handed_epochs : ℕ → List Event
handed_epochs s =
    quiet_tick
    ∷ sending (reserved_sent (marked_frame s 84 8 17)) (granted s 8)
    ∷ quiet_tick
    ∷ sending (reserved_sent (marked_frame s 84 8 18)) (granted s 8)
    ∷ quiet_tick
    ∷ []

abbrev pub handed_to_last_tick : ℕ → Event → List Event
handed_to_last_tick s last = handed_epochs s ++ (last ∷ [])

abbrev pub handed_after : ℕ → Event → Reply → List Event
handed_after s last reply = handed_to_last_tick s last ++ (replied ticking reply ∷ [])

abbrev pub handed_from_grant : ℕ → Event → Reply → List Event
handed_from_grant s last reply = handed_grant s ++ (handed_last_arrival s ∷ handed_after s last reply)

-- open are the stream, the transmit before the fourth tick and that before the last one, and what these two ticks reply
abbrev pub handed_with : ℕ → Event → Reply → Event → Reply → List Event
handed_with s third fourth last reply =
    handed_before ++ (busy_last_arrival ∷ (handed_to_fourth_tick third ++ (replied ticking fourth ∷ handed_from_grant s last reply)))

-- the last transmit, and the whole as it happens
abbrev pub handed_last : ℕ → Event
handed_last s = sending (reserved_sent (marked_frame s 84 8 19)) (granted s 8)

abbrev pub handed : ℕ → List Event
handed s = handed_with s handed_third (granted 0 0) (handed_last s) (granted 0 0)

-- the frame of the stream's last arrival, as demand 3 has it sent
abbrev pub handed_frame : ℕ → Marked
handed_frame s = marked_frame s 84 8 19

-- the list `permitted200` with a withdrawal of its stream before the arrival: what comes after the grant, and the whole
abbrev pub withdrawn_arrival : Event
withdrawn_arrival = replied (arriving 5 120 7) (refused_by 25)

abbrev pub withdrawn_grant : Event
withdrawn_grant = replied (reserving 5 200) (granted 400 0)

abbrev pub withdrawn_after : List Event
withdrawn_after = withdrawal_of_5 ∷ withdrawn_arrival ∷ []

abbrev pub withdrawn_opening : List Event
withdrawn_opening = replied (opening (terms (link_of 600) 1)) (granted 600 0) ∷ []

abbrev pub withdrawn : List Event
withdrawn = withdrawn_opening ++ (withdrawn_grant ∷ withdrawn_after)

-- the ticks and the stream's own calls, but for its withdrawals
abbrev pub remaining_others : ℕ → List Event → List Call
remaining_others s [] = []
remaining_others s (e ∷ es) =
    cond (is_tick (action e) || (is_reserve_of s (action e) || is_arrive_of s (action e))) (e.call ∷ remaining_others s es) (remaining_others s es)

-- a conforming stream that is withdrawn before its frame is sent, and then offers more than its P; the frame is sent after the first tick. Open are the
-- reply to its arrival and the first transmit
abbrev pub leaving_to_first : List Event
leaving_to_first = withdrawal_of_5 ∷ replied (arriving 5 84 8) (refused_by 25) ∷ quiet_tick ∷ []

abbrev pub leaving_second : List Event
leaving_second = sending none (granted nothing 0) ∷ []

abbrev pub leaving_to_second_tick : Event → List Event
leaving_to_second_tick first = leaving_to_first ++ (first ∷ leaving_second)

abbrev pub leaving_after : Event → List Event
leaving_after first = leaving_to_second_tick first ++ (quiet_tick ∷ [])

abbrev pub leaving_with : Reply → Event → List Event
leaving_with reply first = withdrawn_opening ++ (withdrawn_grant ∷ replied (arriving 5 120 7) reply ∷ leaving_after first)

-- the whole as it happens, and its frame, as demand 3 has it sent
abbrev pub leaving_first : Event
leaving_first = sending (reserved_sent (marked_frame 5 120 7 2)) (granted 5 7)

abbrev pub leaving : List Event
leaving = leaving_with (granted 1 80) leaving_first

abbrev pub leaving_frame : Marked
leaving_frame = marked_frame 5 120 7 2

-- the same stream alone on a port with another L and K, with the ticks and its own calls as in `leaving`; the link condition fails, and a tick purges.
-- Open are the replies to its arrivals
abbrev pub left_alone_with : Reply → Reply → List Event
left_alone_with first second =
    replied (opening (terms (link_of 200) 3)) (granted 200 0)
    ∷ replied (reserving 5 200) (granted 0 0)
    ∷ replied (arriving 5 120 7) first
    ∷ withdrawal_of_5
    ∷ replied (joining_best_effort 300 9) (granted 300 0)
    ∷ replied (arriving 5 84 8) second
    ∷ quiet_tick
    ∷ replied ticking (granted 1 120)
    ∷ []

abbrev pub left_alone : List Event
left_alone = left_alone_with (granted 1 80) (refused_by 25)

-- the replies, as demand 3 has them
abbrev pub leaving_answers : List Reply
leaving_answers = granted 1 80 ∷ draining_reply ∷ []

-- a bound stream that is withdrawn, and tried before every tick after that, by a call of another sort each time, a Frame to its pair among them; calls
-- that are refused for something else come in between. The link condition fails, and a tick purges its frame
abbrev pub tried_calls : List Call
tried_calls =
    reserving 5 200
    ∷ binding 5 address 100
    ∷ arriving 5 120 7
    ∷ withdrawing 5
    ∷ reserving 5 200
    ∷ ticking
    ∷ reserving 6 83
    ∷ withdrawing 5
    ∷ ticking
    ∷ framing (tagged_to 100 59) 8
    ∷ framing (tagged_to 100 60) 9
    ∷ ticking
    ∷ binding 5 address 101
    ∷ reserving 5 200
    ∷ ticking
    ∷ framing (tagged_to 100 60) 10
    ∷ arriving 5 84 11
    ∷ withdrawing 5
    ∷ reserving 5 83
    ∷ reserving 5 200
    ∷ arriving 5 84 12
    ∷ []

abbrev pub tried_before : List Event
tried_before =
    replied (opening (terms (link_of 600) 1)) (granted 600 0)
    ∷ replied (reserving 5 200) (granted 400 0)
    ∷ replied (binding 5 address 100) (granted 0 0)
    ∷ replied (arriving 5 120 7) (granted 1 80)
    ∷ []

-- to the third tick and to the fourth, with the replies to its own calls open
abbrev pub tried_to_third_tick : Reply → Reply → Reply → List Event
tried_to_third_tick first second third =
    replied (reserving 5 200) first
    ∷ quiet_tick
    ∷ replied (reserving 6 83) (refused_by 7)
    ∷ replied (withdrawing 5) second
    ∷ replied ticking (granted 1 120)
    ∷ replied (framing (tagged_to 100 59) 8) (refused_by 17)
    ∷ replied (arriving 5 84 9) third
    ∷ []

abbrev pub tried_third_epoch : Reply → List Event
tried_third_epoch fourth = replied (binding 5 address 101) (refused_by 25) ∷ replied (reserving 5 200) fourth ∷ []

abbrev pub tried_while : Reply → Reply → Reply → Reply → List Event
tried_while first second third fourth = tried_to_third_tick first second third ++ (quiet_tick ∷ tried_third_epoch fourth)

-- and after it: the pair is bound no longer, so that a Frame to it is best effort; then the number is reserved again, and its frame accepted
abbrev pub tried_free : Reply → Reply → List Event
tried_free fifth sixth =
    replied (joining_best_effort 84 10) (granted 84 0)
    ∷ replied (arriving 5 84 11) fifth
    ∷ replied (withdrawing 5) sixth
    ∷ []

abbrev pub tried_reserved : Reply → Reply → List Event
tried_reserved seventh last = replied (reserving 5 83) seventh ∷ replied (reserving 5 200) last ∷ []

abbrev pub tried_arrival : Event
tried_arrival = replied (arriving 5 84 12) (granted 1 116)

abbrev pub tried_after : Reply → Reply → Reply → Reply → List Event
tried_after fifth sixth seventh last = tried_free fifth sixth ++ (tried_reserved seventh last ++ (tried_arrival ∷ []))

abbrev pub tried_with : Reply → Reply → Reply → Reply → Reply → Reply → Reply → Reply → List Event
tried_with first second third fourth fifth sixth seventh last =
    tried_before ++ (withdrawal_of_5 ∷ (tried_while first second third fourth ++ (quiet_tick ∷ tried_after fifth sixth seventh last)))

abbrev pub tried : List Event
tried = tried_with (refused_by 25) (refused_by 25) (refused_by 25) (refused_by 25) (refused_by 12) (refused_by 12) (refused_by 7) (granted 400 0)

-- calls between a withdrawal and the last tick of the draining, two of them refused
abbrev pub between_calls : List Call
between_calls = reserving 6 83 ∷ ticking ∷ framing (tagged_to 100 59) 8 ∷ ticking ∷ ticking ∷ []

-- a machine whose withdrawn streams drain for so many ticks fewer
abbrev pub fewer_ticks : ℕ
fewer_ticks = 2

abbrev pub hurried : Action → Outcome → Outcome
hurried to_tick o = o
hurried to_transmit o = o
hurried (to_reserve s permitted) o = o
hurried (to_withdraw s) o =
    cond (eqb o.reply.refusal 0) (outcome o.reply (with_drain o.port s (queues_at o.port - fewer_ticks)) o.memory) o
hurried (to_arrive s charge tag) o = o
hurried (to_best_effort charge tag) o = o
hurried (to_frame octets tag) o = o
hurried neither o = o

abbrev pub hurriedly : Call → List ℕ → List ℕ → Outcome
hurriedly c p m = hurried (action_of c) (quickly_called c p m)

-- and what happens by it: the share is granted again while two frames of the withdrawn stream wait, and though each epoch sends the share a tick purges
abbrev pub hurry : List Event
hurry =
    handed_before
    ++ (busy_last_arrival ∷ withdrawal_of_5 ∷ (busy_to_second_tick
    ++ (quiet_tick
    ∷ replied (reserving 6 84) (granted 0 0)
    ∷ replied (arriving 6 84 8) (granted 1 84)
    ∷ handed_second
    ∷ quiet_tick
    ∷ handed_third
    ∷ replied ticking (granted 1 84)
    ∷ [])))
