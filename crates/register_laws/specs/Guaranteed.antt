-- Demand 3 over lists that hold register accesses: "a control write counts as the tick and the transmit that it makes".
use Rattle.std.specs.Prelude.{◌≡◌}
use Rattle.steps.specs.Call.{opening}
use Rattle.port.specs.Calls.{called}
use Rattle.port_laws.specs.Lists.{replies}
use Rattle.guarantee.specs.Demand3.{CallList, Demand3}
use Rattle.registers.specs.Lent.{record_part}
use Rattle.registers.specs.Accesses.{in_turn}
use Rattle.register_laws.specs.Uses.{lent, all_calls, UseList, left_by, opened_by}
use Rattle.register_laws.specs.Happenings.{replies_in, happenings_in}

-- the Open on the record alone is granted
abbrev pub OpensRecord : UseList → Type 0
OpensRecord l = (called (opening l.terms) (record_part l.port) l.memory).reply.refusal ≡ 0

-- the list of a list's calls: on the record that the Open was given, with the Open's terms, and the calls that the uses make
abbrev pub calls_in : (l : UseList) → OpensRecord l → CallList
calls_in l opened = record { port = record_part l.port; memory = l.memory; terms = l.terms; later = all_calls l.later; opened = opened }

-- what is claimed of a list of uses from a granted Open
pub record Guaranteed (l : UseList) : Type 0 where
  -- demand 3 holds of its calls,
  pub opens_record : OpensRecord l
  pub demand_3 : Demand3 (calls_in l opens_record)
  -- which reply, and leave record and memory, as in the list of uses,
  pub replied : replies_in (happenings_in l) ≡ replies called (all_calls l.later) (record_part (opened_by l).port) (opened_by l).memory
  pub record_left : record_part (left_by l).port ≡ (in_turn called (lent (record_part (opened_by l).port) (opened_by l).memory) (all_calls l.later)).port
  pub memory_left : (left_by l).memory ≡ (in_turn called (lent (record_part (opened_by l).port) (opened_by l).memory) (all_calls l.later)).memory
  -- as the Open does
  pub opened_reply : (opened_by l).reply ≡ (called (opening l.terms) (record_part l.port) l.memory).reply
  pub opened_record_lem : record_part (opened_by l).port ≡ (called (opening l.terms) (record_part l.port) l.memory).port
  pub opened_memory : (opened_by l).memory ≡ (called (opening l.terms) (record_part l.port) l.memory).memory
