-- What demand 3 says of a list of control writes. Assumes nothing.
use mathlib.Core.Path.{◌≡◌, refl, sym, subst, ◌∙◌}
use mathlib.Core.List.{List, [], ◌∷◌}
use Rattle.lists.specs.Turns.{all_to, sum_to, list_to, iterate}
use Rattle.octets.specs.Numbers.{two_of, four_of}
use Rattle.stream.specs.declared.Reply.{Reply}
use Rattle.stream.specs.State.{least_queues}
use Rattle.stream.specs.Replies.{granted}
use Rattle.stream.specs.Steps.{attempt, arrive_of, tick_of}
use Rattle.queue.specs.Place.{frame_at, with_frame}
use Rattle.queue.specs.Ring.{joined_memory, front_of}
use Rattle.queue.specs.Waiting.{waiting}
use Rattle.record.specs.Queues.{queues_at}
use Rattle.record.specs.Head.{open_at, with_open, prior_at, with_prior, delay_at, with_delay, link_at, with_link, waits_at, with_waits, queue_at, with_queue}
use Rattle.record.specs.Entry.{stream_at, with_stream, with_place, drain_at, with_drain, drains_at, bound_at, vid_at, dropped}
use Rattle.fitness.specs.Fit.{record_fits, lent_refusal}
use Rattle.steps.specs.Roles.{role_at}
use Rattle.steps.specs.Call.{terms, opening}
use Rattle.opening.specs.Opening.{opened_record}
use Rattle.arriving.specs.Arriving.{arrive_step}
use Rattle.ticking.specs.Ticking.{drained_at, ticked_record, tick_step}
use Rattle.sending.specs.Sending.{transmit_step}
use Rattle.best_effort.specs.BestEffort.{best_effort_step}
use Rattle.gates.specs.Refusals.{open_refusal, reserve_refusal, arrive_refusal, closed_refusal, best_effort_refusal}
use Rattle.port.specs.Quick.{length_refusal, quickly_called}
use Rattle.port_laws.specs.Lists.{fresh_record, fresh_memory}
use Rattle.registers.specs.Lent.{short_refusal}
use Rattle.registers.specs.Calls.{registered}
use Rattle.registers.specs.Accesses.{named}
use Rattle.guarantee.specs.Events.{Sent, none, Event, events}
use Rattle.guarantee.specs.Claims.{LinkCondition, Prompt}
use Rattle.guarantee.specs.Demand3.{CallList, events_in, Promised}
use Rattle.guarantee.specs.Instances.{quiet_tick, sent_event}
use Rattle.guarantee.proofs.Theorem.{quick_events_lem}
use Rattle.guarantee_examples.proofs.LinkTest.{link_holds}
use Rattle.guarantee_examples.proofs.OffersTest.{within_holds}
use Rattle.guarantee_examples.proofs.StaysTest.{stays_hold}
use Rattle.guarantee_examples.proofs.Applied.{only}
use Rattle.register_laws.specs.Uses.{all_calls}
use Rattle.register_laws.specs.Guaranteed.{calls_in}
use Rattle.register_laws.proofs.GuaranteedLaws.{guaranteed}
use Rattle.register_examples.specs.Controlled.{controlled_uses, ControlledOpens, controlled_list, controlled_before, controlled_grant, controlled_arrival, controlled_frame, controlled_after, controlled_with, controlled, ControlledSays}

controlled_opens : ControlledOpens
unfolding all_to sum_to list_to iterate two_of four_of attempt arrive_of tick_of frame_at with_frame joined_memory front_of waiting open_at with_open prior_at with_prior delay_at with_delay link_at with_link waits_at with_waits queue_at queues_at with_queue stream_at with_stream with_place drain_at with_drain drains_at bound_at vid_at dropped record_fits lent_refusal role_at opened_record arrive_step drained_at ticked_record tick_step transmit_step best_effort_step open_refusal reserve_refusal arrive_refusal closed_refusal best_effort_refusal registered short_refusal named
controlled_opens = refl

-- the list of its calls, and its events, by the quick calls
abbrev calls : CallList
calls = calls_in (controlled_list controlled_opens) (guaranteed (controlled_list controlled_opens)).opens_record

quickly_made : events quickly_called (opening (terms 2104 1) ∷ all_calls controlled_uses) fresh_record fresh_memory ≡ controlled
unfolding all_to sum_to list_to iterate two_of four_of attempt arrive_of tick_of frame_at with_frame joined_memory front_of waiting open_at with_open prior_at with_prior delay_at with_delay link_at with_link waits_at with_waits queue_at queues_at with_queue stream_at with_stream with_place drain_at with_drain drains_at bound_at vid_at dropped role_at opened_record arrive_step drained_at ticked_record tick_step transmit_step best_effort_step open_refusal reserve_refusal arrive_refusal closed_refusal best_effort_refusal length_refusal named
quickly_made = refl

it_happens : events_in calls ≡ controlled
it_happens = sym (quick_events_lem calls) ∙ quickly_made

-- what is promised of events that are the list's
promised_of : (es : List Event) → events_in calls ≡ es → LinkCondition 84 es → Promised least_queues es
unfolding queues_at
promised_of es so link =
    subst (Promised least_queues) so ((guaranteed (controlled_list controlled_opens)).demand_3.promised (subst (LinkCondition 84) (sym so) link))

module _ (reply : Reply) (sent : Sent) (said shown : Reply) where
  abbrev sender : Event
  sender = sent_event sent said shown

  -- the events after the grant
  abbrev granted5 : List Event
  granted5 = quiet_tick ∷ controlled_arrival reply ∷ controlled_after sender

  -- from `prompt`
  frame_prompt : events_in calls ≡ controlled_with reply sender → LinkCondition 84 (controlled_with reply sender) → Prompt controlled_frame (controlled_arrival reply) (controlled_after sender)
  frame_prompt so link =
      (promised_of (controlled_with reply sender) so link).prompt 5 84 controlled_before granted5 [] controlled_grant refl refl refl
      (within_holds 5 84 granted5 refl) (stays_hold 5 granted5 refl) (quiet_tick ∷ []) (controlled_after sender) (controlled_arrival reply) 84 7 refl refl refl

pub controlled_says : ControlledSays
controlled_says =
    let links = link_holds 84 controlled refl in
    let g = guaranteed (controlled_list controlled_opens) in
    record {
      opens = controlled_opens;
      opens_record = (guaranteed (controlled_list controlled_opens)).opens_record;
      happens = it_happens;
      links = links;
      purges_nothing = (promised_of controlled it_happens links).no_purge;
      joins = λ reply sent said shown so link. let p = frame_prompt reply sent said shown so link in (p.0, p.1.0);
      sends = λ reply sent said shown so link.
          only controlled_frame [] (quiet_tick ∷ sent_event none (granted 254 0) (granted 254 0) ∷ []) (sent_event sent said shown) refl refl
          ((frame_prompt reply sent said shown so link).1.1 (sent_event sent said shown ∷ quiet_tick ∷ sent_event none (granted 254 0) (granted 254 0) ∷ []) [] quiet_tick refl refl refl);
      replies_follow = g.replied;
      record_follows = g.record_left;
      memory_follows = g.memory_left;
      open_replies = g.opened_reply;
      open_record = g.opened_record_lem;
      open_memory = g.opened_memory;
    }
