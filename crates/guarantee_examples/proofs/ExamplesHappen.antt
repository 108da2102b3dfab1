-- The examples are the events of lists of calls. Assumes nothing.
use mathlib.Core.Path.{◌≡◌, refl}
use mathlib.Core.List.{List, [], ◌∷◌}
use Rattle.lists.specs.Turns.{all_to, sum_to, list_to, iterate}
use Rattle.lists.specs.Equal.{octets_equal}
use Rattle.octets.specs.Numbers.{two_of, four_of}
use Rattle.stream.specs.Steps.{attempt, arrive_of, tick_of}
use Rattle.queue.specs.Place.{frame_at, with_frame}
use Rattle.queue.specs.Ring.{joined_memory, front_of}
use Rattle.queue.specs.Waiting.{waiting}
use Rattle.record.specs.Queues.{queues_at}
use Rattle.record.specs.Head.{open_at, with_open, prior_at, with_prior, delay_at, with_delay, link_at, with_link, waits_at, with_waits, queue_at, with_queue}
use Rattle.record.specs.Entry.{stream_at, with_stream, with_place, drain_at, drains_at, bound_at, vid_at, address_at, with_binding, dropped}
use Rattle.header.specs.Header.{charge_of, length_fits, tagged_frame, vid_of}
use Rattle.ranges.specs.Ranges.{link_of}
use Rattle.fitness.specs.Fit.{record_fits, lent_refusal}
use Rattle.steps.specs.Roles.{role_at}
use Rattle.opening.specs.Opening.{opened_record}
use Rattle.arriving.specs.Arriving.{arrive_step}
use Rattle.ticking.specs.Ticking.{drained_at, ticked_record, tick_step}
use Rattle.sending.specs.Sending.{transmit_step}
use Rattle.best_effort.specs.BestEffort.{best_effort_step}
use Rattle.binding.specs.Finding.{compared_back, compared_at, lookup_from, lookup, frame_lookup}
use Rattle.gates.specs.Refusals.{open_refusal, reserve_refusal, arrive_refusal, closed_refusal, best_effort_refusal}
use Rattle.gates.specs.FrameRefusals.{bind_refusal, frame_refusal}
use Rattle.steps.specs.Call.{terms, Call, opening}
use Rattle.port.specs.Quick.{length_refusal, quickly_called}
use Rattle.port_laws.specs.Lists.{fresh_record, fresh_memory}
use Rattle.guarantee.specs.Events.{Event, events}
use Rattle.guarantee_examples.specs.Shown.{AllHappen}
use Rattle.guarantee_examples.specs.Examples.{busy, light, withheld, permitted200, permitted100, framed_calls, framed, silently, silent, calls_of}
use Rattle.guarantee_examples.proofs.Quickly.{happens_quickly, opened_84, opened_600}

-- the calls of the events after the first, which are the calls themselves where none is a Frame
abbrev after_first : List Event → List Call
after_first [] = []
after_first (e ∷ es) = calls_of es

-- the lists, by the quick calls
busy_made : events quickly_called (opening (terms (link_of 84) 1) ∷ after_first busy) fresh_record fresh_memory ≡ busy
unfolding all_to sum_to list_to iterate two_of four_of attempt arrive_of tick_of frame_at with_frame joined_memory front_of waiting open_at with_open prior_at with_prior delay_at with_delay link_at with_link waits_at with_waits queue_at queues_at with_queue stream_at with_stream with_place drain_at drains_at bound_at vid_at address_at with_binding dropped role_at opened_record arrive_step drained_at ticked_record tick_step transmit_step best_effort_step open_refusal reserve_refusal arrive_refusal closed_refusal best_effort_refusal bind_refusal frame_refusal compared_back compared_at lookup_from lookup frame_lookup octets_equal charge_of length_fits tagged_frame vid_of length_refusal
busy_made = refl

light_made : events quickly_called (opening (terms (link_of 600) 1) ∷ after_first light) fresh_record fresh_memory ≡ light
unfolding all_to sum_to list_to iterate two_of four_of attempt arrive_of tick_of frame_at with_frame joined_memory front_of waiting open_at with_open prior_at with_prior delay_at with_delay link_at with_link waits_at with_waits queue_at queues_at with_queue stream_at with_stream with_place drain_at drains_at bound_at vid_at address_at with_binding dropped role_at opened_record arrive_step drained_at ticked_record tick_step transmit_step best_effort_step open_refusal reserve_refusal arrive_refusal closed_refusal best_effort_refusal bind_refusal frame_refusal compared_back compared_at lookup_from lookup frame_lookup octets_equal charge_of length_fits tagged_frame vid_of length_refusal
light_made = refl

withheld_made : events quickly_called (opening (terms (link_of 600) 1) ∷ after_first withheld) fresh_record fresh_memory ≡ withheld
unfolding all_to sum_to list_to iterate two_of four_of attempt arrive_of tick_of frame_at with_frame joined_memory front_of waiting open_at with_open prior_at with_prior delay_at with_delay link_at with_link waits_at with_waits queue_at queues_at with_queue stream_at with_stream with_place drain_at drains_at bound_at vid_at address_at with_binding dropped role_at opened_record arrive_step drained_at ticked_record tick_step transmit_step best_effort_step open_refusal reserve_refusal arrive_refusal closed_refusal best_effort_refusal bind_refusal frame_refusal compared_back compared_at lookup_from lookup frame_lookup octets_equal charge_of length_fits tagged_frame vid_of length_refusal
withheld_made = refl

permitted_200_made : events quickly_called (opening (terms (link_of 600) 1) ∷ after_first permitted200) fresh_record fresh_memory ≡ permitted200
unfolding all_to sum_to list_to iterate two_of four_of attempt arrive_of tick_of frame_at with_frame joined_memory front_of waiting open_at with_open prior_at with_prior delay_at with_delay link_at with_link waits_at with_waits queue_at queues_at with_queue stream_at with_stream with_place drain_at drains_at bound_at vid_at address_at with_binding dropped role_at opened_record arrive_step drained_at ticked_record tick_step transmit_step best_effort_step open_refusal reserve_refusal arrive_refusal closed_refusal best_effort_refusal bind_refusal frame_refusal compared_back compared_at lookup_from lookup frame_lookup octets_equal charge_of length_fits tagged_frame vid_of length_refusal
permitted_200_made = refl

permitted_100_made : events quickly_called (opening (terms (link_of 600) 1) ∷ after_first permitted100) fresh_record fresh_memory ≡ permitted100
unfolding all_to sum_to list_to iterate two_of four_of attempt arrive_of tick_of frame_at with_frame joined_memory front_of waiting open_at with_open prior_at with_prior delay_at with_delay link_at with_link waits_at with_waits queue_at queues_at with_queue stream_at with_stream with_place drain_at drains_at bound_at vid_at address_at with_binding dropped role_at opened_record arrive_step drained_at ticked_record tick_step transmit_step best_effort_step open_refusal reserve_refusal arrive_refusal closed_refusal best_effort_refusal bind_refusal frame_refusal compared_back compared_at lookup_from lookup frame_lookup octets_equal charge_of length_fits tagged_frame vid_of length_refusal
permitted_100_made = refl

framed_made : events quickly_called (opening (terms (link_of 600) 1) ∷ framed_calls) fresh_record fresh_memory ≡ framed
unfolding all_to sum_to list_to iterate two_of four_of attempt arrive_of tick_of frame_at with_frame joined_memory front_of waiting open_at with_open prior_at with_prior delay_at with_delay link_at with_link waits_at with_waits queue_at queues_at with_queue stream_at with_stream with_place drain_at drains_at bound_at vid_at address_at with_binding dropped role_at opened_record arrive_step drained_at ticked_record tick_step transmit_step best_effort_step open_refusal reserve_refusal arrive_refusal closed_refusal best_effort_refusal bind_refusal frame_refusal compared_back compared_at lookup_from lookup frame_lookup octets_equal charge_of length_fits tagged_frame vid_of length_refusal
framed_made = refl

-- and one of a machine that is no port
silent_made : events silently (calls_of silent) fresh_record fresh_memory ≡ silent
unfolding all_to sum_to list_to iterate two_of four_of attempt arrive_of tick_of frame_at with_frame joined_memory front_of waiting open_at with_open prior_at with_prior delay_at with_delay link_at with_link waits_at with_waits queue_at queues_at with_queue stream_at with_stream with_place drain_at drains_at bound_at vid_at address_at with_binding dropped record_fits lent_refusal role_at opened_record arrive_step drained_at ticked_record tick_step transmit_step best_effort_step open_refusal reserve_refusal arrive_refusal closed_refusal best_effort_refusal bind_refusal frame_refusal compared_back compared_at lookup_from lookup frame_lookup octets_equal charge_of length_fits tagged_frame vid_of
silent_made = refl

pub all_happen : AllHappen
all_happen =
    record {
      busy_happens = happens_quickly (link_of 84) 1 opened_84 (after_first busy) busy busy_made;
      light_happens = happens_quickly (link_of 600) 1 opened_600 (after_first light) light light_made;
      withheld_happens = happens_quickly (link_of 600) 1 opened_600 (after_first withheld) withheld withheld_made;
      permitted_200_happens = happens_quickly (link_of 600) 1 opened_600 (after_first permitted200) permitted200 permitted_200_made;
      permitted_100_happens = happens_quickly (link_of 600) 1 opened_600 (after_first permitted100) permitted100 permitted_100_made;
      framed_happens = happens_quickly (link_of 600) 1 opened_600 framed_calls framed framed_made;
      silent_happens = silent_made;
    }
