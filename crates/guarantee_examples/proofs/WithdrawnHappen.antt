-- The lists with a withdrawal happen as they are written, on a port never opened: by the quick calls, which are the calls in every list. Assumes nothing.
use mathlib.Core.Path.{◌≡◌, refl}
use mathlib.Core.List.{◌∷◌}
use Rattle.lists.specs.Turns.{all_to, sum_to, list_to, iterate}
use Rattle.lists.specs.Equal.{octets_equal}
use Rattle.octets.specs.Numbers.{two_of, four_of}
use Rattle.stream.specs.Steps.{attempt, arrive_of, tick_of}
use Rattle.queue.specs.Place.{frame_at, with_frame}
use Rattle.queue.specs.Ring.{joined_memory, front_of}
use Rattle.queue.specs.Waiting.{waiting}
use Rattle.record.specs.Queues.{queues_at}
use Rattle.record.specs.Head.{open_at, with_open, prior_at, with_prior, delay_at, with_delay, link_at, with_link, waits_at, with_waits, queue_at, with_queue}
use Rattle.record.specs.Entry.{stream_at, with_stream, with_place, drain_at, with_drain, drains_at, bound_at, vid_at, address_at, with_binding, dropped}
use Rattle.header.specs.Header.{charge_of, length_fits, tagged_frame, vid_of}
use Rattle.ranges.specs.Ranges.{link_of}
use Rattle.steps.specs.Roles.{role_at}
use Rattle.opening.specs.Opening.{opened_record}
use Rattle.arriving.specs.Arriving.{arrive_step}
use Rattle.ticking.specs.Ticking.{drained_at, ticked_record, tick_step}
use Rattle.sending.specs.Sending.{transmit_step}
use Rattle.best_effort.specs.BestEffort.{best_effort_step}
use Rattle.binding.specs.Finding.{compared_back, compared_at, lookup_from, lookup, frame_lookup}
use Rattle.gates.specs.Refusals.{open_refusal, reserve_refusal, withdraw_refusal, arrive_refusal, closed_refusal, best_effort_refusal}
use Rattle.gates.specs.FrameRefusals.{bind_refusal, frame_refusal}
use Rattle.steps.specs.Call.{terms, opening}
use Rattle.port.specs.Quick.{length_refusal, quickly_called}
use Rattle.port_laws.specs.Lists.{fresh_record, fresh_memory}
use Rattle.guarantee.specs.Events.{events}
use Rattle.guarantee_examples.specs.Examples.{calls_of}
use Rattle.guarantee_examples.specs.LeftOpen.{later_calls}
use Rattle.guarantee_examples.specs.Withdrawn.{handed, withdrawn, leaving, left_alone, tried_calls, tried, hurriedly, hurry}
use Rattle.guarantee_examples.specs.WithdrawnShown.{WithdrawnHappen}
use Rattle.guarantee_examples.proofs.Quickly.{happens_quickly, opened_84, opened_600, opened_200}

-- the lists
handed_6_made : events quickly_called (calls_of (handed 6)) fresh_record fresh_memory ≡ handed 6
unfolding all_to sum_to list_to iterate two_of four_of attempt arrive_of tick_of frame_at with_frame joined_memory front_of waiting open_at with_open prior_at with_prior delay_at with_delay link_at with_link waits_at with_waits queue_at queues_at with_queue stream_at with_stream with_place drain_at with_drain drains_at bound_at vid_at address_at with_binding dropped role_at opened_record arrive_step drained_at ticked_record tick_step transmit_step best_effort_step open_refusal reserve_refusal withdraw_refusal arrive_refusal closed_refusal best_effort_refusal bind_refusal frame_refusal compared_back compared_at lookup_from lookup frame_lookup octets_equal charge_of length_fits tagged_frame vid_of length_refusal
handed_6_made = refl

handed_5_made : events quickly_called (calls_of (handed 5)) fresh_record fresh_memory ≡ handed 5
unfolding all_to sum_to list_to iterate two_of four_of attempt arrive_of tick_of frame_at with_frame joined_memory front_of waiting open_at with_open prior_at with_prior delay_at with_delay link_at with_link waits_at with_waits queue_at queues_at with_queue stream_at with_stream with_place drain_at with_drain drains_at bound_at vid_at address_at with_binding dropped role_at opened_record arrive_step drained_at ticked_record tick_step transmit_step best_effort_step open_refusal reserve_refusal withdraw_refusal arrive_refusal closed_refusal best_effort_refusal bind_refusal frame_refusal compared_back compared_at lookup_from lookup frame_lookup octets_equal charge_of length_fits tagged_frame vid_of length_refusal
handed_5_made = refl

withdrawn_made : events quickly_called (calls_of withdrawn) fresh_record fresh_memory ≡ withdrawn
unfolding all_to sum_to list_to iterate two_of four_of attempt arrive_of tick_of frame_at with_frame joined_memory front_of waiting open_at with_open prior_at with_prior delay_at with_delay link_at with_link waits_at with_waits queue_at queues_at with_queue stream_at with_stream with_place drain_at with_drain drains_at bound_at vid_at address_at with_binding dropped role_at opened_record arrive_step drained_at ticked_record tick_step transmit_step best_effort_step open_refusal reserve_refusal withdraw_refusal arrive_refusal closed_refusal best_effort_refusal bind_refusal frame_refusal compared_back compared_at lookup_from lookup frame_lookup octets_equal charge_of length_fits tagged_frame vid_of length_refusal
withdrawn_made = refl

leaving_made : events quickly_called (calls_of leaving) fresh_record fresh_memory ≡ leaving
unfolding all_to sum_to list_to iterate two_of four_of attempt arrive_of tick_of frame_at with_frame joined_memory front_of waiting open_at with_open prior_at with_prior delay_at with_delay link_at with_link waits_at with_waits queue_at queues_at with_queue stream_at with_stream with_place drain_at with_drain drains_at bound_at vid_at address_at with_binding dropped role_at opened_record arrive_step drained_at ticked_record tick_step transmit_step best_effort_step open_refusal reserve_refusal withdraw_refusal arrive_refusal closed_refusal best_effort_refusal bind_refusal frame_refusal compared_back compared_at lookup_from lookup frame_lookup octets_equal charge_of length_fits tagged_frame vid_of length_refusal
leaving_made = refl

left_alone_made : events quickly_called (calls_of left_alone) fresh_record fresh_memory ≡ left_alone
unfolding all_to sum_to list_to iterate two_of four_of attempt arrive_of tick_of frame_at with_frame joined_memory front_of waiting open_at with_open prior_at with_prior delay_at with_delay link_at with_link waits_at with_waits queue_at queues_at with_queue stream_at with_stream with_place drain_at with_drain drains_at bound_at vid_at address_at with_binding dropped role_at opened_record arrive_step drained_at ticked_record tick_step transmit_step best_effort_step open_refusal reserve_refusal withdraw_refusal arrive_refusal closed_refusal best_effort_refusal bind_refusal frame_refusal compared_back compared_at lookup_from lookup frame_lookup octets_equal charge_of length_fits tagged_frame vid_of length_refusal
left_alone_made = refl

tried_made : events quickly_called (opening (terms (link_of 600) 1) ∷ tried_calls) fresh_record fresh_memory ≡ tried
unfolding all_to sum_to list_to iterate two_of four_of attempt arrive_of tick_of frame_at with_frame joined_memory front_of waiting open_at with_open prior_at with_prior delay_at with_delay link_at with_link waits_at with_waits queue_at queues_at with_queue stream_at with_stream with_place drain_at with_drain drains_at bound_at vid_at address_at with_binding dropped role_at opened_record arrive_step drained_at ticked_record tick_step transmit_step best_effort_step open_refusal reserve_refusal withdraw_refusal arrive_refusal closed_refusal best_effort_refusal bind_refusal frame_refusal compared_back compared_at lookup_from lookup frame_lookup octets_equal charge_of length_fits tagged_frame vid_of length_refusal
tried_made = refl

hurry_made : events hurriedly (calls_of hurry) fresh_record fresh_memory ≡ hurry
unfolding all_to sum_to list_to iterate two_of four_of attempt arrive_of tick_of frame_at with_frame joined_memory front_of waiting open_at with_open prior_at with_prior delay_at with_delay link_at with_link waits_at with_waits queue_at queues_at with_queue stream_at with_stream with_place drain_at with_drain drains_at bound_at vid_at address_at with_binding dropped role_at opened_record arrive_step drained_at ticked_record tick_step transmit_step best_effort_step open_refusal reserve_refusal withdraw_refusal arrive_refusal closed_refusal best_effort_refusal bind_refusal frame_refusal compared_back compared_at lookup_from lookup frame_lookup octets_equal charge_of length_fits tagged_frame vid_of length_refusal
hurry_made = refl

pub withdrawn_happen : WithdrawnHappen
withdrawn_happen =
    record {
      handed_to_6 = happens_quickly (link_of 84) 1 opened_84 (later_calls (handed 6)) (handed 6) handed_6_made;
      handed_to_5 = happens_quickly (link_of 84) 1 opened_84 (later_calls (handed 5)) (handed 5) handed_5_made;
      withdrawn_happens = happens_quickly (link_of 600) 1 opened_600 (later_calls withdrawn) withdrawn withdrawn_made;
      leaving_happens = happens_quickly (link_of 600) 1 opened_600 (later_calls leaving) leaving leaving_made;
      left_alone_happens = happens_quickly (link_of 200) 3 opened_200 (later_calls left_alone) left_alone left_alone_made;
      tried_happens = happens_quickly (link_of 600) 1 opened_600 tried_calls tried tried_made;
      hurry_happens = hurry_made;
    }
