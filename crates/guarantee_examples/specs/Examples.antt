-- Lists that show demand 3 at work, each as its events, on a port never opened: what the link condition asks is met, by octets or by a transmit
-- without a reserved frame, and where it fails a tick purges; no number in the claims can be smaller; and Frames count as what they become.
use Rattle.std.specs.Prelude.{ℕ, ◌+◌, ◌-◌, ◌≡◌, cond, List, [], ◌∷◌, ◌++◌, map, replicate}
use Rattle.octets.specs.Numbers.{two_octets}
use Rattle.stream.specs.declared.Reply.{Reply}
use Rattle.stream.specs.Replies.{granted, refused_by}
use Rattle.header.specs.Header.{vlan_tag}
use Rattle.queue.specs.Place.{best_effort_stream}
use Rattle.ranges.specs.Ranges.{link_of}
use Rattle.steps.specs.Outcome.{Outcome, outcome}
use Rattle.sending.specs.Sending.{nothing}
use Rattle.steps.specs.Call.{terms, Call, opening, reserving, arriving, ticking, transmitting, joining_best_effort, binding, framing}
use Rattle.port.specs.Calls.{called}
use Rattle.guarantee.specs.Events.{Sent, reserved_sent, best_effort_sent, none, is_transmit, Event}
use Rattle.port_laws.specs.Counting.{action_of}
use Rattle.guarantee.specs.Claims.{reply_of_sent}
use Rattle.guarantee.specs.Instances.{replied, marked_frame, sent_event}
use Rattle.guarantee.specs.Demand3.{CallList, events_in}

-- a transmit that sends the frame of a call
abbrev pub sending : Sent → Reply → Event
sending sent reply = sent_event sent reply (reply_of_sent (λ f. f.number) sent)

-- these are the events of a list of calls
pub record Happens (es : List Event) : Type 0 where
  pub list : CallList
  pub so : events_in list ≡ es

-- share 84, all of it reserved, and three times as much offered at once: each epoch sends the share, and the third frame is sent after the third
-- tick. The frames are the same but for their calls
abbrev pub busy : List Event
busy =
    replied (opening (terms (link_of 84) 1)) (granted 84 0)
    ∷ replied (reserving 5 84) (granted 0 0)
    ∷ replied (arriving 5 84 7) (granted 1 84)
    ∷ replied (arriving 5 84 7) (granted 2 84)
    ∷ replied (arriving 5 84 7) (granted 3 0)
    ∷ replied ticking (granted 0 0)
    ∷ sending (reserved_sent (marked_frame 5 84 7 2)) (granted 5 7)
    ∷ replied ticking (granted 0 0)
    ∷ sending (reserved_sent (marked_frame 5 84 7 3)) (granted 5 7)
    ∷ replied ticking (granted 0 0)
    ∷ sending (reserved_sent (marked_frame 5 84 7 4)) (granted 5 7)
    ∷ replied ticking (granted 0 0)
    ∷ []

-- share 600: a conforming stream's frame of 120 octets is sent after one tick, and then a frame of best effort
abbrev pub after_arrival : List Event
after_arrival =
    replied ticking (granted 0 0)
    ∷ sending (reserved_sent (marked_frame 5 120 7 3)) (granted 5 7)
    ∷ sending (best_effort_sent (marked_frame best_effort_stream 300 1 2)) (granted 255 1)
    ∷ replied ticking (granted 0 0)
    ∷ []

abbrev pub light : List Event
light =
    replied (opening (terms (link_of 600) 1)) (granted 600 0)
    ∷ replied (reserving 5 200) (granted 400 0)
    ∷ replied (joining_best_effort 300 1) (granted 300 0)
    ∷ replied (arriving 5 120 7) (granted 1 80)
    ∷ after_arrival

-- share 600, and an epoch that sends the least charge less than that: the tick after it purges
abbrev pub withheld : List Event
withheld =
    replied (opening (terms (link_of 600) 1)) (granted 600 0)
    ∷ replied (reserving 5 600) (granted 0 0)
    ∷ replied (arriving 5 516 7) (granted 1 84)
    ∷ replied (arriving 5 84 8) (granted 1 600)
    ∷ replied ticking (granted 0 0)
    ∷ sending (reserved_sent (marked_frame 5 516 7 2)) (granted 5 7)
    ∷ replied ticking (granted 1 84)
    ∷ []

-- the same arrival on a stream with another P
abbrev pub permitted200 : List Event
permitted200 = replied (opening (terms (link_of 600) 1)) (granted 600 0) ∷ replied (reserving 5 200) (granted 400 0) ∷ replied (arriving 5 120 7) (granted 1 80) ∷ []

abbrev pub permitted100 : List Event
permitted100 = replied (opening (terms (link_of 600) 1)) (granted 600 0) ∷ replied (reserving 5 100) (granted 500 0) ∷ replied (arriving 5 120 7) (refused_by 14) ∷ []

-- a frame of as many octets to an address, with a VLAN tag whose priority bits are set, and one without
abbrev pub address : List ℕ
address = 1 ∷ 0 ∷ 94 ∷ 0 ∷ 0 ∷ 5 ∷ []

abbrev pub tagged_to : ℕ → ℕ → List ℕ
tagged_to vid octets = (address ++ replicate {A = ℕ} 6 0) ++ ((vlan_tag ++ two_octets (57344 + vid)) ++ replicate {A = ℕ} (octets - 16) 0)

abbrev pub untagged : ℕ → List ℕ
untagged octets = address ++ replicate {A = ℕ} (octets - 6) 0

-- calls with a binding and frames: of the bound VID, of another, without a VLAN tag, and one octet too short
abbrev pub framed_calls : List Call
framed_calls =
    reserving 5 200
    ∷ binding 5 address 100
    ∷ framing (tagged_to 100 60) 7
    ∷ framing (tagged_to 101 96) 8
    ∷ framing (untagged 60) 9
    ∷ framing (tagged_to 100 59) 10
    ∷ ticking
    ∷ transmitting
    ∷ transmitting
    ∷ []

-- each counts as what it becomes, and the one that is too short as itself
abbrev pub framed : List Event
framed =
    replied (opening (terms (link_of 600) 1)) (granted 600 0)
    ∷ replied (reserving 5 200) (granted 400 0)
    ∷ replied (binding 5 address 100) (granted 0 0)
    ∷ replied (arriving 5 84 7) (granted 1 116)
    ∷ replied (joining_best_effort 120 8) (granted 120 0)
    ∷ replied (joining_best_effort 84 9) (granted 204 0)
    ∷ replied (framing (tagged_to 100 59) 10) (refused_by 17)
    ∷ replied ticking (granted 0 0)
    ∷ sending (reserved_sent (marked_frame 5 84 7 3)) (granted 5 7)
    ∷ sending (best_effort_sent (marked_frame best_effort_stream 120 8 4)) (granted 255 8)
    ∷ []

-- a machine whose transmit says nothing without looking
abbrev pub silently : Call → List ℕ → List ℕ → Outcome
silently c p m = cond (is_transmit (action_of c)) (outcome (granted nothing 0) p m) (called c p m)

-- and what happens by it: the link condition is met by its transmit, and a tick purges
abbrev pub silent : List Event
silent =
    replied (opening (terms (link_of 600) 1)) (granted 600 0)
    ∷ replied (reserving 5 200) (granted 400 0)
    ∷ replied (arriving 5 120 7) (granted 1 80)
    ∷ replied ticking (granted 0 0)
    ∷ sending none (granted nothing 0)
    ∷ replied ticking (granted 1 120)
    ∷ []

abbrev pub calls_of : List Event → List Call
calls_of = map (λ (e : Event). e.call)
