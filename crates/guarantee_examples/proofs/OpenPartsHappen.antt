-- The lists with open parts happen as they are written, on a port never opened. Assumes nothing.
use Prim.Native.Nat.{ℕ}
use mathlib.Core.Bool.{false}
use mathlib.Core.Path.{◌≡◌, refl, sym, ◌∙◌}
use mathlib.Core.List.{List, ◌∷◌}
use Rattle.lists.specs.Turns.{all_to, sum_to, list_to, iterate}
use Rattle.lists.specs.Equal.{octets_equal}
use Rattle.octets.specs.Numbers.{two_of, four_of}
use Rattle.stream.specs.Steps.{attempt, arrive_of, tick_of}
use Rattle.queue.specs.Place.{frame_at, with_frame}
use Rattle.queue.specs.Ring.{joined_memory, front_of}
use Rattle.queue.specs.Waiting.{waiting}
use Rattle.record.specs.Queues.{queues_at}
use Rattle.record.specs.Head.{open_at, with_open, prior_at, with_prior, delay_at, with_delay, link_at, with_link, waits_at, with_waits, queue_at, with_queue}
use Rattle.record.specs.Entry.{stream_at, with_stream, with_place, drain_at, drains_at, bound_at, vid_at, address_at, with_binding, dropped}
use Rattle.header.specs.Header.{charge_of, length_fits, tagged_frame, vid_of}
use Rattle.ranges.specs.Ranges.{link_of}
use Rattle.fitness.specs.Fit.{record_fits, lent_refusal}
use Rattle.steps.specs.Roles.{role_at}
use Rattle.opening.specs.Opening.{opened_record}
use Rattle.arriving.specs.Arriving.{arrive_step}
use Rattle.ticking.specs.Ticking.{drained_at, ticked_record, tick_step}
use Rattle.sending.specs.Sending.{transmit_step}
use Rattle.best_effort.specs.BestEffort.{best_effort_step}
use Rattle.binding.specs.Finding.{compared_back, compared_at, lookup_from, lookup, frame_lookup}
use Rattle.gates.specs.Refusals.{open_refusal, reserve_refusal, arrive_refusal, closed_refusal, best_effort_refusal}
use Rattle.gates.specs.FrameRefusals.{bind_refusal, frame_refusal}
use Rattle.port.specs.Quick.{length_refusal, quickly_called}
use Rattle.stream.specs.Replies.{granted, refused_by}
use Rattle.steps.specs.Call.{terms, Call, opening}
use Rattle.port.specs.Calls.{called}
use Rattle.port_laws.specs.Lists.{fresh_record, fresh_memory}
use Rattle.guarantee.specs.Events.{Event, events}
use Rattle.guarantee.specs.Demand3.{CallList}
use Rattle.guarantee_examples.specs.Examples.{busy, permitted100}
use Rattle.guarantee.proofs.Theorem.{quick_events_lem}
use Rattle.guarantee_examples.proofs.Quickly.{quick_list}
use Rattle.guarantee_examples.specs.Derived.{TagsKept}
use Rattle.guarantee_examples.specs.LeftOpen.{later_calls, crowded, busy_with, busy_second, busy_third, purges_none, nearly, alone_calls, alone, arrived_with, discards, unfit_record}

-- a list of calls that is made on a port never opened, and its events, by the quick calls
pub record OnFresh (link delay : ℕ) (later : List Call) (es : List Event) : Type 0 where
  pub opened : (quickly_called (opening (terms link delay)) fresh_record fresh_memory).reply.refusal ≡ 0
  pub so : events quickly_called (opening (terms link delay) ∷ later) fresh_record fresh_memory ≡ es

-- as a list of calls, and its events by the calls
abbrev pub list_of : {link delay : ℕ} {later : List Call} {es : List Event} → OnFresh link delay later es → CallList
list_of {link} {delay} {later} made = quick_list link delay made.opened later

pub happened : {link delay : ℕ} {later : List Call} {es : List Event} (made : OnFresh link delay later es) → events called (opening (terms link delay) ∷ later) fresh_record fresh_memory ≡ es
happened made = sym (quick_events_lem (list_of made)) ∙ made.so

pub crowded_made : OnFresh (link_of 600) 1 (later_calls crowded) crowded
unfolding all_to sum_to list_to iterate two_of four_of attempt arrive_of tick_of frame_at with_frame joined_memory front_of waiting open_at with_open prior_at with_prior delay_at with_delay link_at with_link waits_at with_waits queue_at queues_at with_queue stream_at with_stream with_place drain_at drains_at bound_at vid_at address_at with_binding dropped role_at opened_record arrive_step drained_at ticked_record tick_step transmit_step best_effort_step open_refusal reserve_refusal arrive_refusal closed_refusal best_effort_refusal bind_refusal frame_refusal compared_back compared_at lookup_from lookup frame_lookup octets_equal charge_of length_fits tagged_frame vid_of length_refusal
crowded_made = record { opened = refl; so = refl }

pub nearly_made : OnFresh (link_of 600) 1 (later_calls nearly) nearly
unfolding all_to sum_to list_to iterate two_of four_of attempt arrive_of tick_of frame_at with_frame joined_memory front_of waiting open_at with_open prior_at with_prior delay_at with_delay link_at with_link waits_at with_waits queue_at queues_at with_queue stream_at with_stream with_place drain_at drains_at bound_at vid_at address_at with_binding dropped role_at opened_record arrive_step drained_at ticked_record tick_step transmit_step best_effort_step open_refusal reserve_refusal arrive_refusal closed_refusal best_effort_refusal bind_refusal frame_refusal compared_back compared_at lookup_from lookup frame_lookup octets_equal charge_of length_fits tagged_frame vid_of length_refusal
nearly_made = record { opened = refl; so = refl }

pub alone_made : OnFresh (link_of 200) 3 alone_calls alone
unfolding all_to sum_to list_to iterate two_of four_of attempt arrive_of tick_of frame_at with_frame joined_memory front_of waiting open_at with_open prior_at with_prior delay_at with_delay link_at with_link waits_at with_waits queue_at queues_at with_queue stream_at with_stream with_place drain_at drains_at bound_at vid_at address_at with_binding dropped role_at opened_record arrive_step drained_at ticked_record tick_step transmit_step best_effort_step open_refusal reserve_refusal arrive_refusal closed_refusal best_effort_refusal bind_refusal frame_refusal compared_back compared_at lookup_from lookup frame_lookup octets_equal charge_of length_fits tagged_frame vid_of length_refusal
alone_made = record { opened = refl; so = refl }

-- the lists that happen already, as their parts make them
pub busy_made : busy_with busy_second busy_third purges_none ≡ busy
busy_made = refl

pub arrived_made : arrived_with (refused_by discards) (refused_by discards) ≡ permitted100
arrived_made = refl

-- the unfit record is so, Open refuses it, and the quick Open does not
pub unfit_before : record_fits unfit_record fresh_memory ≡ false
unfolding all_to sum_to list_to two_of four_of octets_equal waiting open_at prior_at delay_at link_at waits_at queue_at queues_at stream_at drain_at bound_at vid_at address_at record_fits
unfit_before = refl

pub unfit_refused : (called (opening (terms (link_of 600) 1)) unfit_record fresh_memory).reply ≡ refused_by 19
unfolding all_to sum_to list_to two_of four_of octets_equal waiting open_at prior_at delay_at link_at waits_at queue_at queues_at stream_at drain_at bound_at vid_at address_at record_fits lent_refusal
unfit_refused = refl

pub unfit_opened : (quickly_called (opening (terms (link_of 600) 1)) unfit_record fresh_memory).reply ≡ granted 600 0
unfolding open_at queues_at open_refusal length_refusal
unfit_opened = refl

-- the tag of the one frame that joins, in both runs
pub tags_kept : TagsKept
unfolding all_to sum_to list_to iterate two_of four_of attempt arrive_of tick_of frame_at with_frame joined_memory front_of waiting open_at with_open prior_at with_prior delay_at with_delay link_at with_link waits_at with_waits queue_at queues_at with_queue stream_at with_stream with_place drain_at drains_at bound_at vid_at address_at with_binding dropped record_fits lent_refusal role_at opened_record arrive_step drained_at ticked_record tick_step transmit_step best_effort_step open_refusal reserve_refusal arrive_refusal closed_refusal best_effort_refusal bind_refusal frame_refusal compared_back compared_at lookup_from lookup frame_lookup octets_equal charge_of length_fits tagged_frame vid_of
tags_kept = record { own_tag = refl; shown_tag = refl }
