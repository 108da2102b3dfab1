-- The cases of Bind and Frame hold of the calls' definitions. Assumes nothing.
use mathlib.Core.Path.{◌≡◌, refl}
use Rattle.port_laws.specs.Cases.{frames_case, long_frames_case, replies_to}
use Rattle.lists.specs.Turns.{all_to, sum_to, list_to, iterate}
use Rattle.lists.specs.Equal.{octets_equal}
use Rattle.octets.specs.Numbers.{two_of, four_of}
use Rattle.stream.specs.Steps.{attempt, arrive_of, tick_of}
use Rattle.queue.specs.Place.{frame_at, with_frame}
use Rattle.queue.specs.Ring.{joined_memory, front_of}
use Rattle.queue.specs.Waiting.{waiting}
use Rattle.record.specs.Queues.{queues_at}
use Rattle.record.specs.Head.{open_at, with_open, prior_at, with_prior, delay_at, with_delay, link_at, with_link, waits_at, with_waits, queue_at, with_queue}
use Rattle.record.specs.Entry.{stream_at, with_stream, with_place, drain_at, with_drain, drains_at, bound_at, vid_at, address_at, with_binding, dropped}
use Rattle.header.specs.Header.{charge_of, length_fits, tagged_frame, vid_of}
use Rattle.fitness.specs.Fit.{record_fits, lent_refusal}
use Rattle.steps.specs.Roles.{role_at}
use Rattle.opening.specs.Opening.{opened_record}
use Rattle.arriving.specs.Arriving.{arrive_step}
use Rattle.ticking.specs.Ticking.{drained_at, ticked_record, tick_step}
use Rattle.sending.specs.Sending.{transmit_step}
use Rattle.best_effort.specs.BestEffort.{best_effort_step}
use Rattle.gates.specs.Refusals.{open_refusal, reserve_refusal, arrive_refusal, closed_refusal, best_effort_refusal}
use Rattle.binding.specs.Finding.{compared_back, compared_at, lookup_from, lookup, frame_lookup}
use Rattle.gates.specs.FrameRefusals.{bind_refusal, frame_refusal}

pub frames_hold : replies_to frames_case ≡ frames_case.expected
unfolding all_to sum_to list_to iterate two_of four_of attempt arrive_of tick_of frame_at with_frame joined_memory front_of waiting open_at with_open prior_at with_prior delay_at with_delay link_at with_link waits_at with_waits queue_at queues_at with_queue stream_at with_stream with_place drain_at with_drain drains_at bound_at vid_at dropped record_fits lent_refusal role_at opened_record arrive_step drained_at ticked_record tick_step transmit_step best_effort_step open_refusal reserve_refusal arrive_refusal closed_refusal best_effort_refusal address_at with_binding octets_equal charge_of length_fits tagged_frame vid_of compared_back compared_at lookup_from lookup frame_lookup bind_refusal frame_refusal
frames_hold = refl

pub long_frames_hold : replies_to long_frames_case ≡ long_frames_case.expected
unfolding all_to sum_to list_to iterate two_of four_of attempt arrive_of tick_of frame_at with_frame joined_memory front_of waiting open_at with_open prior_at with_prior delay_at with_delay link_at with_link waits_at with_waits queue_at queues_at with_queue stream_at with_stream with_place drain_at with_drain drains_at bound_at vid_at dropped record_fits lent_refusal role_at opened_record arrive_step drained_at ticked_record tick_step transmit_step best_effort_step open_refusal reserve_refusal arrive_refusal closed_refusal best_effort_refusal address_at with_binding octets_equal charge_of length_fits tagged_frame vid_of compared_back compared_at lookup_from lookup frame_lookup bind_refusal frame_refusal
long_frames_hold = refl
