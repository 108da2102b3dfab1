-- The request's cases hold of the definitions. Assumes nothing.
use mathlib.Core.Path.{◌≡◌, refl, sym, ap₂, ◌∙◌}
use mathlib.Core.List.{map, ◌∷◌}
use Rattle.lists.specs.Turns.{all_to, sum_to, list_to, iterate}
use Rattle.octets.specs.Numbers.{two_of, four_of}
use Rattle.stream.specs.Steps.{attempt, arrive_of, tick_of}
use Rattle.queue.specs.Place.{frame_at, with_frame}
use Rattle.queue.specs.Ring.{joined_memory, front_of}
use Rattle.queue.specs.Waiting.{waiting}
use Rattle.record.specs.Queues.{queues_at}
use Rattle.record.specs.Head.{open_at, with_open, prior_at, with_prior, delay_at, with_delay, link_at, with_link, waits_at, with_waits, queue_at, with_queue}
use Rattle.record.specs.Entry.{stream_at, with_stream, with_place, drain_at, with_drain, drains_at, bound_at, vid_at, address_at, with_binding, dropped}
use Rattle.fitness.specs.Fit.{record_fits, lent_refusal}
use Rattle.steps.specs.Roles.{role_at}
use Rattle.opening.specs.Opening.{opened_record}
use Rattle.arriving.specs.Arriving.{arrive_step}
use Rattle.ticking.specs.Ticking.{drained_at, ticked_record, tick_step}
use Rattle.sending.specs.Sending.{transmit_step}
use Rattle.best_effort.specs.BestEffort.{best_effort_step}
use Rattle.lists.specs.Equal.{octets_equal}
use Rattle.header.specs.Header.{charge_of, length_fits, tagged_frame, vid_of}
use Rattle.binding.specs.Finding.{compared_back, compared_at, lookup_from, lookup, frame_lookup}
use Rattle.gates.specs.FrameRefusals.{bind_refusal, frame_refusal}
use Rattle.gates.specs.Refusals.{open_refusal, reserve_refusal, withdraw_refusal, arrive_refusal, closed_refusal, best_effort_refusal}
use Rattle.port.specs.Quick.{length_refusal}
use Rattle.register_block.specs.Fields.{flag_at, with_flag, without_flag, word_at, with_word}
use Rattle.register_block.specs.Events.{raised, accepted, discarded, withdrawn, zeroed}
use Rattle.register_block.specs.Shown.{flags_of, shares_one, line_up, status_of, shown_count, register_at}
use Rattle.register_block.specs.Written.{cleared_by, written_at}
use Rattle.registers.specs.Lent.{in_block, short_refusal}
use Rattle.registers.specs.Notes.{open_noted, withdraw_noted, arrival_noted, tick_noted, transmit_noted}
use Rattle.registers.specs.Calls.{registered}
use Rattle.registers.specs.Accesses.{offset_refusal, read_by, named, write_by}
use Rattle.steps.specs.Call.{terms, opening}
use Rattle.port_laws.specs.Lists.{fresh_memory}
use Rattle.port_laws.proofs.FreshFit.{fresh_fits}
use Rattle.register_laws.specs.Uses.{quickly_used, used, calling}
use Rattle.register_laws.proofs.QuickRegisters.{quick_uses}
use Rattle.register_laws.specs.Cases.{fresh_port, uses_reply, closed_case, discard_case, control_case, streams_case, withdrawn_case, use_cases, at_the_end, wrap_uses, wrap_expected}

-- of the quick uses, by computing,
quickly : map (λ c. uses_reply quickly_used c.uses fresh_port fresh_memory) use_cases ≡ map (λ c. c.expected) use_cases
unfolding all_to sum_to list_to iterate two_of four_of attempt arrive_of tick_of frame_at with_frame joined_memory front_of waiting open_at with_open prior_at with_prior delay_at with_delay link_at with_link waits_at with_waits queue_at queues_at with_queue stream_at with_stream with_place drain_at with_drain drains_at bound_at vid_at dropped record_fits lent_refusal role_at opened_record arrive_step drained_at ticked_record tick_step transmit_step best_effort_step open_refusal reserve_refusal arrive_refusal closed_refusal best_effort_refusal registered short_refusal in_block open_noted octets_equal address_at with_binding charge_of length_fits tagged_frame vid_of compared_back compared_at lookup_from lookup frame_lookup bind_refusal frame_refusal withdraw_refusal withdraw_noted arrival_noted accepted discarded withdrawn shown_count tick_noted transmit_noted offset_refusal read_by named write_by flag_at with_flag without_flag word_at with_word raised zeroed flags_of shares_one line_up status_of register_at cleared_by written_at length_refusal
quickly = refl

-- and so of the uses, since the port is fit
pub use_cases_hold : map (λ c. uses_reply used c.uses fresh_port fresh_memory) use_cases ≡ map (λ c. c.expected) use_cases
use_cases_hold =
    sym
    (ap₂ ◌∷◌ (quick_uses closed_case.uses fresh_port fresh_memory fresh_fits)
    (ap₂ ◌∷◌ (quick_uses discard_case.uses fresh_port fresh_memory fresh_fits)
    (ap₂ ◌∷◌ (quick_uses control_case.uses fresh_port fresh_memory fresh_fits)
    (ap₂ ◌∷◌ (quick_uses streams_case.uses fresh_port fresh_memory fresh_fits)
    (ap₂ ◌∷◌ (quick_uses withdrawn_case.uses fresh_port fresh_memory fresh_fits) refl)))))
    ∙ quickly

-- a counter that stands at 4,294,967,295 wraps
pub wraps : uses_reply quickly_used wrap_uses (at_the_end (quickly_used (calling (opening (terms 2620 1))) fresh_port fresh_memory).port) fresh_memory ≡ wrap_expected
unfolding all_to sum_to list_to iterate two_of four_of attempt arrive_of tick_of frame_at with_frame joined_memory front_of waiting open_at with_open prior_at with_prior delay_at with_delay link_at with_link waits_at with_waits queue_at queues_at with_queue stream_at with_stream with_place drain_at with_drain drains_at bound_at vid_at dropped record_fits lent_refusal role_at opened_record arrive_step drained_at ticked_record tick_step transmit_step best_effort_step open_refusal reserve_refusal arrive_refusal closed_refusal best_effort_refusal registered short_refusal in_block open_noted octets_equal address_at with_binding charge_of length_fits tagged_frame vid_of compared_back compared_at lookup_from lookup frame_lookup bind_refusal frame_refusal withdraw_refusal withdraw_noted arrival_noted accepted discarded withdrawn shown_count tick_noted transmit_noted offset_refusal read_by named write_by flag_at with_flag without_flag word_at with_word raised zeroed flags_of shares_one line_up status_of register_at cleared_by written_at length_refusal
wraps = refl
