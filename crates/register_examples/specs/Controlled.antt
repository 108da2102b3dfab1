-- A port whose controller ticks and transmits by control writes, and what demand 3 says of it: each line follows from the theorem that its comment names, and
-- would be lost with it.
use Rattle.std.specs.Prelude.{◌≡◌, List, [], ◌∷◌, ◌++◌}
use Rattle.lists.specs.Each.{All}
use Rattle.stream.specs.declared.Reply.{Reply}
use Rattle.stream.specs.State.{current_place}
use Rattle.stream.specs.Replies.{granted}
use Rattle.steps.specs.Call.{terms, opening, reserving, arriving}
use Rattle.port.specs.Calls.{called}
use Rattle.port_laws.specs.Lists.{replies, fresh_memory}
use Rattle.guarantee.specs.Events.{Marked, Sent, reserved_sent, none, Event}
use Rattle.guarantee.specs.Claims.{PurgesNothing, LinkCondition}
use Rattle.guarantee.specs.Demand3.{events_in}
use Rattle.guarantee.specs.Instances.{replied, marked_frame, quiet_tick, sent_event}
use Rattle.registers.specs.Lent.{record_part}
use Rattle.registers.specs.Calls.{port_call}
use Rattle.registers.specs.Accesses.{in_turn}
use Rattle.register_laws.specs.Uses.{Use, calling, reading, writing, lent, all_calls, UseList, opened_by, left_by}
use Rattle.register_laws.specs.Happenings.{replies_in, happenings_in}
use Rattle.register_laws.specs.Guaranteed.{OpensRecord, calls_in}
use Rattle.register_laws.specs.Cases.{fresh_port}

-- share 84, all of it stream 5's: a tick, a frame, a transmit, and then a tick and a transmit by one write, and a tick; between them the controller reads
abbrev pub controlled_uses : List Use
controlled_uses =
    calling (reserving 5 84)
    ∷ writing 12 7
    ∷ writing 0 1
    ∷ calling (arriving 5 84 7)
    ∷ reading 4
    ∷ writing 0 2
    ∷ writing 0 3
    ∷ reading 8
    ∷ writing 0 1
    ∷ []

abbrev pub ControlledOpens : Type 0
ControlledOpens = (port_call (opening (terms 2104 1)) fresh_port fresh_memory).reply.refusal ≡ 0

abbrev pub controlled_list : ControlledOpens → UseList
controlled_list opened = record { port = fresh_port; memory = fresh_memory; terms = terms 2104 1; later = controlled_uses; opened = opened }

-- the events of its calls, of which are open the reply to the frame and what the second control write sends
abbrev pub controlled_before : List Event
controlled_before = replied (opening (terms 2104 1)) (granted 84 0) ∷ []

abbrev pub controlled_grant : Event
controlled_grant = replied (reserving 5 84) (granted 0 0)

abbrev pub controlled_arrival : Reply → Event
controlled_arrival reply = replied (arriving 5 84 7) reply

abbrev pub controlled_frame : Marked
controlled_frame = marked_frame 5 84 7 3

abbrev pub controlled_after : Event → List Event
controlled_after sends = sends ∷ quiet_tick ∷ sent_event none (granted 254 0) (granted 254 0) ∷ quiet_tick ∷ []

abbrev pub controlled_with : Reply → Event → List Event
controlled_with reply sends = controlled_before ++ (controlled_grant ∷ quiet_tick ∷ controlled_arrival reply ∷ controlled_after sends)

-- the whole as it happens
abbrev pub controlled : List Event
controlled = controlled_with (granted 1 84) (sent_event (reserved_sent controlled_frame) (granted 5 7) (granted 5 3))

pub record ControlledSays : Type 0 where
  pub opens : ControlledOpens
  pub opens_record : OpensRecord (controlled_list opens)
  pub happens : events_in (calls_in (controlled_list opens) opens_record) ≡ controlled
  pub links : LinkCondition 84 controlled
  -- `guaranteed`, its `promised`: no tick of a control write purges a frame,
  pub purges_nothing : All PurgesNothing controlled
  -- the frame joins current, and the control write before the second tick after it sends the frame, whatever they reply
  pub joins : (reply : Reply) (sent : Sent) (said shown : Reply) → events_in (calls_in (controlled_list opens) opens_record) ≡ controlled_with reply (sent_event sent said shown)
      → LinkCondition 84 (controlled_with reply (sent_event sent said shown)) → (reply.refusal ≡ 0) × (reply.first ≡ current_place)
  pub sends : (reply : Reply) (sent : Sent) (said shown : Reply) → events_in (calls_in (controlled_list opens) opens_record) ≡ controlled_with reply (sent_event sent said shown)
      → LinkCondition 84 (controlled_with reply (sent_event sent said shown)) → sent ≡ reserved_sent controlled_frame
  -- `guaranteed`: the calls of the list reply, and leave record and memory, as in the list of uses, and so does its Open
  pub replies_follow : replies_in (happenings_in (controlled_list opens))
      ≡ replies called (all_calls controlled_uses) (record_part (opened_by (controlled_list opens)).port) (opened_by (controlled_list opens)).memory
  pub record_follows : record_part (left_by (controlled_list opens)).port
      ≡ (in_turn called (lent (record_part (opened_by (controlled_list opens)).port) (opened_by (controlled_list opens)).memory) (all_calls controlled_uses)).port
  pub memory_follows : (left_by (controlled_list opens)).memory
      ≡ (in_turn called (lent (record_part (opened_by (controlled_list opens)).port) (opened_by (controlled_list opens)).memory) (all_calls controlled_uses)).memory
  pub open_replies : (opened_by (controlled_list opens)).reply ≡ (called (opening (terms 2104 1)) (record_part fresh_port) fresh_memory).reply
  pub open_record : record_part (opened_by (controlled_list opens)).port ≡ (called (opening (terms 2104 1)) (record_part fresh_port) fresh_memory).port
  pub open_memory : (opened_by (controlled_list opens)).memory ≡ (called (opening (terms 2104 1)) (record_part fresh_port) fresh_memory).memory
