-- What the theorems say of one stream's counts in a list that is crowded with others' calls. Assumes nothing.
use mathlib.Core.Path.{◌≡◌, refl, sym, ap, ap₂, ◌∙◌}
use mathlib.Core.List.{List, ◌∷◌}
use native.Mathlib.Omega.{arith}
use Rattle.lists.specs.Turns.{all_to, sum_to, list_to, iterate}
use Rattle.octets.specs.Numbers.{two_of, four_of}
use Rattle.stream.specs.Replies.{granted}
use Rattle.stream.specs.Steps.{attempt, arrive_of, tick_of}
use Rattle.queue.specs.Place.{frame_at, with_frame}
use Rattle.queue.specs.Ring.{joined_memory, front_of}
use Rattle.queue.specs.Waiting.{waiting}
use Rattle.record.specs.Queues.{queues_at}
use Rattle.record.specs.Head.{open_at, with_open, prior_at, with_prior, delay_at, with_delay, link_at, with_link, waits_at, with_waits, queue_at, with_queue}
use Rattle.record.specs.Entry.{stream_at, with_stream, with_place, drain_at, with_drain, drains_at, bound_at, vid_at, dropped}
use Rattle.steps.specs.Roles.{role_at}
use Rattle.steps.specs.Call.{terms, opening}
use Rattle.opening.specs.Opening.{opened_record}
use Rattle.arriving.specs.Arriving.{arrive_step}
use Rattle.ticking.specs.Ticking.{drained_at, ticked_record, tick_step}
use Rattle.sending.specs.Sending.{transmit_step}
use Rattle.best_effort.specs.BestEffort.{best_effort_step}
use Rattle.gates.specs.Refusals.{open_refusal, reserve_refusal, arrive_refusal, closed_refusal, best_effort_refusal}
use Rattle.port.specs.Quick.{length_refusal, quickly_called}
use Rattle.port_laws.specs.Lists.{fresh_record, fresh_memory}
use Rattle.registers.specs.Accesses.{named}
use Rattle.guarantee.specs.Events.{Event, events}
use Rattle.guarantee.specs.Claims.{remaining, grants}
use Rattle.guarantee.proofs.Theorem.{quick_events_lem}
use Rattle.register_laws.specs.Uses.{Use, all_calls}
use Rattle.register_laws.specs.Guaranteed.{calls_in}
use Rattle.register_laws.specs.Alike.{events_of, AlikeFor}
use Rattle.register_laws.specs.Cases.{control_uses}
use Rattle.register_laws.specs.Says.{list_of}
use Rattle.register_laws.proofs.OpenedLaws.{opened_record_lem}
use Rattle.register_laws.proofs.Histories.{accepted_counts, discarded_counts}
use Rattle.register_laws.proofs.ReadLaws.{counts_tell}
use Rattle.register_laws.proofs.AlikeLaws.{counts_alike}
use Rattle.register_examples.proofs.HistoriesSay.{it_opens, histories_say}
use Rattle.register_examples.specs.Crowded.{crowded_uses, own_calls, own_grants, CrowdedSays}

-- the events of a list of uses, by the quick calls
abbrev quick_events : List Use → List Event
quick_events us = events quickly_called (opening (terms 2620 1) ∷ all_calls us) fresh_record fresh_memory

quickly : (us : List Use) → events_of (list_of us it_opens) ≡ quick_events us
quickly us = sym (quick_events_lem (calls_in (list_of us it_opens) (opened_record_lem (list_of us it_opens))))

-- what remains of each
crowded_calls : remaining 5 (quick_events crowded_uses) ≡ own_calls
unfolding all_to sum_to list_to iterate two_of four_of attempt arrive_of tick_of frame_at with_frame joined_memory front_of waiting open_at with_open prior_at with_prior delay_at with_delay link_at with_link waits_at with_waits queue_at queues_at with_queue stream_at with_stream with_place drain_at with_drain drains_at bound_at vid_at dropped role_at opened_record arrive_step drained_at ticked_record tick_step transmit_step best_effort_step open_refusal reserve_refusal arrive_refusal closed_refusal best_effort_refusal length_refusal named
crowded_calls = refl

control_calls : remaining 5 (quick_events control_uses) ≡ own_calls
unfolding all_to sum_to list_to iterate two_of four_of attempt arrive_of tick_of frame_at with_frame joined_memory front_of waiting open_at with_open prior_at with_prior delay_at with_delay link_at with_link waits_at with_waits queue_at queues_at with_queue stream_at with_stream with_place drain_at with_drain drains_at bound_at vid_at dropped role_at opened_record arrive_step drained_at ticked_record tick_step transmit_step best_effort_step open_refusal reserve_refusal arrive_refusal closed_refusal best_effort_refusal length_refusal named
control_calls = refl

-- and what is granted in each
crowded_grants : grants 5 (quick_events crowded_uses) ≡ own_grants
unfolding all_to sum_to list_to iterate two_of four_of attempt arrive_of tick_of frame_at with_frame joined_memory front_of waiting open_at with_open prior_at with_prior delay_at with_delay link_at with_link waits_at with_waits queue_at queues_at with_queue stream_at with_stream with_place drain_at with_drain drains_at bound_at vid_at dropped role_at opened_record arrive_step drained_at ticked_record tick_step transmit_step best_effort_step open_refusal reserve_refusal arrive_refusal closed_refusal best_effort_refusal length_refusal named
crowded_grants = refl

control_grants : grants 5 (quick_events control_uses) ≡ own_grants
unfolding all_to sum_to list_to iterate two_of four_of attempt arrive_of tick_of frame_at with_frame joined_memory front_of waiting open_at with_open prior_at with_prior delay_at with_delay link_at with_link waits_at with_waits queue_at queues_at with_queue stream_at with_stream with_place drain_at with_drain drains_at bound_at vid_at dropped role_at opened_record arrive_step drained_at ticked_record tick_step transmit_step best_effort_step open_refusal reserve_refusal arrive_refusal closed_refusal best_effort_refusal length_refusal named
control_grants = refl

both_alike : AlikeFor 5 (list_of crowded_uses it_opens) (list_of control_uses it_opens)
both_alike =
    record {
      calls = ap (remaining 5) (quickly crowded_uses) ∙ crowded_calls ∙ sym (ap (remaining 5) (quickly control_uses) ∙ control_calls);
      granted = ap (grants 5) (quickly crowded_uses) ∙ crowded_grants ∙ sym (ap (grants 5) (quickly control_uses) ∙ control_grants);
    }

pub crowded_says : CrowdedSays
crowded_says =
    let crowded = list_of crowded_uses it_opens in
    let other = list_of control_uses it_opens in
    let same = counts_alike crowded other 5 (omega arith) both_alike in
    record {
      opens = it_opens;
      alike = both_alike;
      same = same;
      counted =
          counts_tell crowded 5 (omega arith)
          ∙ ap₂ granted
          (sym (accepted_counts crowded 5 (omega arith)) ∙ same.accepted ∙ accepted_counts other 5 (omega arith))
          (sym (discarded_counts crowded 5 (omega arith)) ∙ same.discarded ∙ discarded_counts other 5 (omega arith))
          ∙ sym (counts_tell other 5 (omega arith))
          ∙ histories_say.counted;
    }
