-- C1 to C12 hold of the calls' definitions. Assumes nothing.
use mathlib.Core.Path.{◌≡◌, refl}
use mathlib.Core.List.{map}
use Rattle.port_laws.specs.Cases.{cases, replies_to}
use Rattle.lists.specs.Turns.{all_to, sum_to, list_to, iterate}
use Rattle.octets.specs.Numbers.{two_of, four_of}
use Rattle.stream.specs.Steps.{attempt, arrive_of, tick_of}
use Rattle.queue.specs.Place.{frame_at, with_frame}
use Rattle.queue.specs.Ring.{joined_memory, front_of}
use Rattle.queue.specs.Waiting.{waiting}
use Rattle.record.specs.Queues.{queues_at}
use Rattle.record.specs.Head.{open_at, with_open, prior_at, with_prior, delay_at, with_delay, link_at, with_link, waits_at, with_waits, queue_at, with_queue}
use Rattle.record.specs.Entry.{stream_at, with_stream, with_place, drain_at, with_drain, drains_at, bound_at, vid_at, dropped}
use Rattle.fitness.specs.Fit.{record_fits, lent_refusal}
use Rattle.steps.specs.Roles.{role_at}
use Rattle.opening.specs.Opening.{opened_record}
use Rattle.arriving.specs.Arriving.{arrive_step}
use Rattle.ticking.specs.Ticking.{drained_at, ticked_record, tick_step}
use Rattle.sending.specs.Sending.{transmit_step}
use Rattle.best_effort.specs.BestEffort.{best_effort_step}
use Rattle.gates.specs.Refusals.{open_refusal, reserve_refusal, arrive_refusal, closed_refusal, best_effort_refusal}

pub cases_hold : map replies_to cases ≡ map (λ c. c.expected) cases
unfolding all_to sum_to list_to iterate two_of four_of attempt arrive_of tick_of frame_at with_frame joined_memory front_of waiting open_at with_open prior_at with_prior delay_at with_delay link_at with_link waits_at with_waits queue_at queues_at with_queue stream_at with_stream with_place drain_at with_drain drains_at bound_at vid_at dropped record_fits lent_refusal role_at opened_record arrive_step drained_at ticked_record tick_step transmit_step best_effort_step open_refusal reserve_refusal arrive_refusal closed_refusal best_effort_refusal
cases_hold = refl
