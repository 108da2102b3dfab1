-- The case of a withdrawal holds of the calls' definitions. Assumes nothing.
use mathlib.Core.Path.{◌≡◌, refl}
use Rattle.port_laws.specs.Cases.{withdraw_case, replies_to}
use Rattle.lists.specs.Turns.{all_to, sum_to, list_to, iterate}
use Rattle.octets.specs.Numbers.{two_of, four_of}
use Rattle.stream.specs.Steps.{tick_of}
use Rattle.queue.specs.Waiting.{waiting}
use Rattle.record.specs.Queues.{queues_at}
use Rattle.record.specs.Head.{open_at, with_open, prior_at, with_prior, delay_at, with_delay, link_at, with_link, waits_at, with_waits, queue_at, with_queue}
use Rattle.record.specs.Entry.{stream_at, with_stream, with_place, drain_at, with_drain, drains_at, bound_at, vid_at, dropped}
use Rattle.fitness.specs.Fit.{record_fits, lent_refusal}
use Rattle.steps.specs.Roles.{role_at}
use Rattle.opening.specs.Opening.{opened_record}
use Rattle.ticking.specs.Ticking.{drained_at, ticked_record, tick_step}
use Rattle.gates.specs.Refusals.{open_refusal, reserve_refusal, withdraw_refusal, closed_refusal}

pub withdraw_holds : replies_to withdraw_case ≡ withdraw_case.expected
unfolding all_to sum_to list_to iterate two_of four_of tick_of waiting open_at with_open prior_at with_prior delay_at with_delay link_at with_link waits_at with_waits queue_at queues_at with_queue stream_at with_stream with_place drain_at with_drain drains_at bound_at vid_at dropped record_fits lent_refusal role_at opened_record drained_at ticked_record tick_step open_refusal reserve_refusal withdraw_refusal closed_refusal
withdraw_holds = refl
