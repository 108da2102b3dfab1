-- Demand 3 of lists with register accesses, from demand 3 of their calls. Assumes nothing.
use Rattle.steps.specs.Call.{opening}
use Rattle.guarantee.proofs.Theorem.{demand_3}
use Rattle.register_laws.specs.Uses.{UseList, opened_by}
use Rattle.register_laws.specs.Guaranteed.{calls_in, Guaranteed}
use Rattle.register_laws.proofs.FollowLaws.{told, call_follows, list_follows}
use Rattle.register_laws.proofs.OpenedLaws.{opened_whole, opened_reply, opened_record_lem}

pub guaranteed : (l : UseList) → Guaranteed l
guaranteed l =
    let opens = call_follows l.port l.memory (opened_whole l) (opening l.terms) in
    let rest = list_follows l.later (opened_by l).port (opened_by l).memory opens.whole in
    record {
      opens_record = opened_record_lem l;
      demand_3 = demand_3 (calls_in l (opened_record_lem l));
      replied = told _ _ _ _ _ _ _ _ rest;
      record_left = rest.same_record;
      memory_left = rest.same_memory;
      opened_reply = opened_reply l;
      opened_record_lem = opens.same_record;
      opened_memory = opens.same_memory;
    }
