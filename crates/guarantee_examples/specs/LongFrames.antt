-- Frames of the most octets that there are, and what the theorems say of them: "each frame" reaches to the largest charge, and Frame to the length of
-- that. Each line follows from the theorem that its comment names, and would be lost with it.
use Rattle.std.specs.Prelude.{ℕ, ◌+◌, ◌-◌, true, ◌≡◌, List, [], ◌∷◌, ◌++◌}
use Rattle.stream.specs.declared.Reply.{Reply}
use Rattle.stream.specs.State.{current_place}
use Rattle.stream.specs.Replies.{granted}
use Rattle.record.specs.Head.{open_at}
use Rattle.ranges.specs.Ranges.{greatest_charge, link_of}
use Rattle.header.specs.Header.{on_wire}
use Rattle.gates.specs.FrameRefusals.{frame_refusal}
use Rattle.steps.specs.Call.{terms, Call, opening, reserving, arriving, ticking, transmitting, joining_best_effort, binding, framing}
use Rattle.port.specs.Calls.{called}
use Rattle.guarantee.specs.Events.{Marked, Sent, reserved_sent, Event}
use Rattle.guarantee.specs.Claims.{LinkCondition}
use Rattle.guarantee.specs.Instances.{replied, marked_frame, quiet_tick}
use Rattle.guarantee_examples.specs.Examples.{Happens, address, tagged_to, untagged}
use Rattle.guarantee_examples.specs.LeftOpen.{transmitted}

-- the most octets that a frame may have, and its charge
abbrev pub longest_frame : ℕ
longest_frame = greatest_charge - on_wire

abbrev pub longest_charge : ℕ
longest_charge = greatest_charge

-- a share of just that charge, all of it stream 5's, which offers one longest frame between ticks: the list's calls, the first frame by its octets
abbrev pub long_calls : List Call
long_calls =
    reserving 5 longest_charge
    ∷ binding 5 address 100
    ∷ framing (tagged_to 100 longest_frame) 7
    ∷ ticking
    ∷ arriving 5 longest_charge 8
    ∷ transmitting
    ∷ ticking
    ∷ []

-- and its events, of which are open the reply to the first frame and what the transmit sends
abbrev pub long_opening : List Event
long_opening = replied (opening (terms (link_of longest_charge) 1)) (granted longest_charge 0) ∷ []

abbrev pub long_grant : Event
long_grant = replied (reserving 5 longest_charge) (granted 0 0)

abbrev pub long_binding : List Event
long_binding = replied (binding 5 address 100) (granted 0 0) ∷ []

abbrev pub long_between : List Event
long_between = quiet_tick ∷ replied (arriving 5 longest_charge 8) (granted 1 longest_charge) ∷ []

abbrev pub long_after : Event → List Event
long_after sends = long_between ++ (sends ∷ quiet_tick ∷ [])

abbrev pub long_with : Reply → Event → List Event
long_with reply sends = long_opening ++ (long_grant ∷ (long_binding ++ (replied (arriving 5 longest_charge 7) reply ∷ long_after sends)))

-- the frame's mark, and the whole as it happens
abbrev pub long_frame : Marked
long_frame = marked_frame 5 longest_charge 7 3

abbrev pub long : List Event
long = long_with (granted 1 longest_charge) (transmitted (reserved_sent long_frame) (granted 5 7) (granted 5 3))

pub record LongFramesSay : Type 0 where
  pub long_happens : Happens long
  pub long_links : LinkCondition longest_charge long
  -- `prompt`: the stream conforms, so its longest frame joins current, and the transmit before the second tick sends it
  pub long_joins : (reply : Reply) (sent : Sent) (said shown : Reply) → let es = long_with reply (transmitted sent said shown) in
      Happens es → LinkCondition longest_charge es → (reply.refusal ≡ 0) × (reply.first ≡ current_place)
  pub long_sends : (reply : Reply) (sent : Sent) (said shown : Reply) → let es = long_with reply (transmitted sent said shown) in
      Happens es → LinkCondition longest_charge es → sent ≡ reserved_sent long_frame
  -- `frame_becomes`, `frame_not_17`: a longest frame without a VLAN tag is a Best effort on every record and memory, nowhere refused with 17 ..
  pub longest_joins : (p m : List ℕ) → called (framing (untagged longest_frame) 9) p m ≡ called (joining_best_effort longest_charge 9) p m
  pub longest_not_17 : (p m : List ℕ) → (called (framing (untagged longest_frame) 9) p m).reply.refusal ≡ 17 → ⊥
  -- .. `Frame-refused`: with an octet more it is, on every open port
  pub longer_17 : (p : List ℕ) → open_at p ≡ true → frame_refusal p (untagged (longest_frame + 1)) ≡ 17
