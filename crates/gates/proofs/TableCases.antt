-- Each row of the table in numbers, on a port that is open with a share of 600 and K = 1 and has stream 5 reserved with P = 200. Assumes nothing.
use Prim.Native.Nat.{ℕ}
use mathlib.Core.Path.{◌≡◌, refl}
use mathlib.Core.Bool.{false}
use mathlib.Core.List.{List, [], ◌∷◌, ◌++◌}
use lib.ListN.{replicate}
use Rattle.lists.specs.Turns.{all_to, sum_to, list_to, iterate}
use Rattle.lists.specs.Equal.{octets_equal}
use Rattle.octets.specs.Numbers.{two_of, two_octets, four_of}
use Rattle.stream.specs.Steps.{attempt, arrive_of, tick_of}
use Rattle.queue.specs.Place.{frame_at, with_frame}
use Rattle.queue.specs.Ring.{joined_memory, front_of}
use Rattle.queue.specs.Waiting.{waiting}
use Rattle.record.specs.Queues.{queues_at}
use Rattle.record.specs.Head.{open_at, with_open, prior_at, with_prior, delay_at, with_delay, link_at, with_link, waits_at, with_waits, queue_at, with_queue}
use Rattle.record.specs.Entry.{stream_at, with_stream, with_place, drain_at, with_drain, drains_at, bound_at, vid_at, address_at, with_binding, dropped}
use Rattle.ranges.specs.Ranges.{link_of}
use Rattle.header.specs.Header.{charge_of, length_fits, tagged_frame, vid_of}
use Rattle.steps.specs.Call.{terms, Call, opening, reserving, withdrawing, arriving, ticking, transmitting, joining_best_effort, binding, framing}
use Rattle.steps.specs.Roles.{role_at}
use Rattle.opening.specs.Opening.{opened_record}
use Rattle.arriving.specs.Arriving.{arrive_step}
use Rattle.ticking.specs.Ticking.{drained_at, ticked_record, tick_step}
use Rattle.sending.specs.Sending.{transmit_step}
use Rattle.best_effort.specs.BestEffort.{best_effort_step}
use Rattle.binding.specs.Finding.{compared_back, compared_at, lookup_from, lookup, frame_lookup}
use Rattle.gates.specs.Refusals.{open_refusal, reserve_refusal, withdraw_refusal, arrive_refusal, closed_refusal, best_effort_refusal}
use Rattle.gates.specs.FrameRefusals.{bind_refusal, frame_refusal}
use Rattle.gates.specs.Table.{refusal_of, step_of}

-- its record up to the mark of stream 5's binding, all that is read here: open, prior 0, K and L, then reserved at current with 200 octets left of 200,
-- its draining count, and unbound
abbrev port_with : ℕ → List ℕ
port_with drain = (1 ∷ 0 ∷ 1 ∷ 0 ∷ 0 ∷ 0 ∷ two_octets (link_of 600)) ++ (replicate {A = ℕ} 136 0 ++ (1 ∷ 1 ∷ 0 ∷ 200 ∷ 0 ∷ 200 ∷ drain ∷ 0 ∷ []))

abbrev port : List ℕ
port = port_with 0

-- what a call with these arguments refuses there, and the numbers that its step replies
abbrev refuses : Call → ℕ
refuses c = refusal_of c port

abbrev first : Call → ℕ
first c = (step_of c port []).reply.first

abbrev second : Call → ℕ
second c = (step_of c port []).reply.second

-- Open is refused as open already, and its step replies the share
open_refuses : refuses (opening (terms (link_of 600) 1)) ≡ 2
unfolding all_to sum_to list_to iterate two_of four_of attempt arrive_of tick_of frame_at with_frame joined_memory front_of waiting open_at with_open prior_at with_prior delay_at with_delay link_at with_link waits_at with_waits queue_at queues_at with_queue stream_at with_stream with_place drain_at with_drain drains_at bound_at vid_at address_at with_binding dropped role_at opened_record arrive_step drained_at ticked_record tick_step transmit_step best_effort_step open_refusal reserve_refusal withdraw_refusal arrive_refusal closed_refusal best_effort_refusal bind_refusal frame_refusal compared_back compared_at lookup_from lookup frame_lookup octets_equal charge_of length_fits tagged_frame vid_of
open_refuses = refl

open_replies : first (opening (terms (link_of 600) 1)) ≡ 600
unfolding all_to sum_to list_to iterate two_of four_of attempt arrive_of tick_of frame_at with_frame joined_memory front_of waiting open_at with_open prior_at with_prior delay_at with_delay link_at with_link waits_at with_waits queue_at queues_at with_queue stream_at with_stream with_place drain_at with_drain drains_at bound_at vid_at address_at with_binding dropped role_at opened_record arrive_step drained_at ticked_record tick_step transmit_step best_effort_step open_refusal reserve_refusal withdraw_refusal arrive_refusal closed_refusal best_effort_refusal bind_refusal frame_refusal compared_back compared_at lookup_from lookup frame_lookup octets_equal charge_of length_fits tagged_frame vid_of
open_replies = refl

-- Reserve of a reserved stream, and the P that the step writes
reserve_refuses : refuses (reserving 5 200) ≡ 6
unfolding all_to sum_to list_to iterate two_of four_of attempt arrive_of tick_of frame_at with_frame joined_memory front_of waiting open_at with_open prior_at with_prior delay_at with_delay link_at with_link waits_at with_waits queue_at queues_at with_queue stream_at with_stream with_place drain_at with_drain drains_at bound_at vid_at address_at with_binding dropped role_at opened_record arrive_step drained_at ticked_record tick_step transmit_step best_effort_step open_refusal reserve_refusal withdraw_refusal arrive_refusal closed_refusal best_effort_refusal bind_refusal frame_refusal compared_back compared_at lookup_from lookup frame_lookup octets_equal charge_of length_fits tagged_frame vid_of
reserve_refuses = refl

reserve_replies : (stream_at (step_of (reserving 5 100) port []).port 5).permitted ≡ 100
unfolding all_to sum_to list_to iterate two_of four_of attempt arrive_of tick_of frame_at with_frame joined_memory front_of waiting open_at with_open prior_at with_prior delay_at with_delay link_at with_link waits_at with_waits queue_at queues_at with_queue stream_at with_stream with_place drain_at with_drain drains_at bound_at vid_at address_at with_binding dropped role_at opened_record arrive_step drained_at ticked_record tick_step transmit_step best_effort_step open_refusal reserve_refusal withdraw_refusal arrive_refusal closed_refusal best_effort_refusal bind_refusal frame_refusal compared_back compared_at lookup_from lookup frame_lookup octets_equal charge_of length_fits tagged_frame vid_of
reserve_replies = refl

-- Withdraw of a stream that is not reserved, and the count with which the step lets it drain
withdraw_refuses : refuses (withdrawing 6) ≡ 12
unfolding all_to sum_to list_to iterate two_of four_of attempt arrive_of tick_of frame_at with_frame joined_memory front_of waiting open_at with_open prior_at with_prior delay_at with_delay link_at with_link waits_at with_waits queue_at queues_at with_queue stream_at with_stream with_place drain_at with_drain drains_at bound_at vid_at address_at with_binding dropped role_at opened_record arrive_step drained_at ticked_record tick_step transmit_step best_effort_step open_refusal reserve_refusal withdraw_refusal arrive_refusal closed_refusal best_effort_refusal bind_refusal frame_refusal compared_back compared_at lookup_from lookup frame_lookup octets_equal charge_of length_fits tagged_frame vid_of
withdraw_refuses = refl

withdraw_replies : drain_at (step_of (withdrawing 5) port []).port 5 ≡ 4
unfolding all_to sum_to list_to iterate two_of four_of attempt arrive_of tick_of frame_at with_frame joined_memory front_of waiting open_at with_open prior_at with_prior delay_at with_delay link_at with_link waits_at with_waits queue_at queues_at with_queue stream_at with_stream with_place drain_at with_drain drains_at bound_at vid_at address_at with_binding dropped role_at opened_record arrive_step drained_at ticked_record tick_step transmit_step best_effort_step open_refusal reserve_refusal withdraw_refusal arrive_refusal closed_refusal best_effort_refusal bind_refusal frame_refusal compared_back compared_at lookup_from lookup frame_lookup octets_equal charge_of length_fits tagged_frame vid_of
withdraw_replies = refl

-- Arrive on a stream that is not reserved, and an arrival that joins current
arrive_refuses : refuses (arriving 6 120 7) ≡ 12
unfolding all_to sum_to list_to iterate two_of four_of attempt arrive_of tick_of frame_at with_frame joined_memory front_of waiting open_at with_open prior_at with_prior delay_at with_delay link_at with_link waits_at with_waits queue_at queues_at with_queue stream_at with_stream with_place drain_at with_drain drains_at bound_at vid_at address_at with_binding dropped role_at opened_record arrive_step drained_at ticked_record tick_step transmit_step best_effort_step open_refusal reserve_refusal withdraw_refusal arrive_refusal closed_refusal best_effort_refusal bind_refusal frame_refusal compared_back compared_at lookup_from lookup frame_lookup octets_equal charge_of length_fits tagged_frame vid_of
arrive_refuses = refl

arrive_replies : second (arriving 5 120 7) ≡ 80
unfolding all_to sum_to list_to iterate two_of four_of attempt arrive_of tick_of frame_at with_frame joined_memory front_of waiting open_at with_open prior_at with_prior delay_at with_delay link_at with_link waits_at with_waits queue_at queues_at with_queue stream_at with_stream with_place drain_at with_drain drains_at bound_at vid_at address_at with_binding dropped role_at opened_record arrive_step drained_at ticked_record tick_step transmit_step best_effort_step open_refusal reserve_refusal withdraw_refusal arrive_refusal closed_refusal best_effort_refusal bind_refusal frame_refusal compared_back compared_at lookup_from lookup frame_lookup octets_equal charge_of length_fits tagged_frame vid_of
arrive_replies = refl

-- Tick is not refused, and purges nothing
tick_refuses : refuses ticking ≡ 0
unfolding all_to sum_to list_to iterate two_of four_of attempt arrive_of tick_of frame_at with_frame joined_memory front_of waiting open_at with_open prior_at with_prior delay_at with_delay link_at with_link waits_at with_waits queue_at queues_at with_queue stream_at with_stream with_place drain_at with_drain drains_at bound_at vid_at address_at with_binding dropped role_at opened_record arrive_step drained_at ticked_record tick_step transmit_step best_effort_step open_refusal reserve_refusal withdraw_refusal arrive_refusal closed_refusal best_effort_refusal bind_refusal frame_refusal compared_back compared_at lookup_from lookup frame_lookup octets_equal charge_of length_fits tagged_frame vid_of
tick_refuses = refl

tick_replies : first ticking ≡ 0
unfolding all_to sum_to list_to iterate two_of four_of attempt arrive_of tick_of frame_at with_frame joined_memory front_of waiting open_at with_open prior_at with_prior delay_at with_delay link_at with_link waits_at with_waits queue_at queues_at with_queue stream_at with_stream with_place drain_at with_drain drains_at bound_at vid_at address_at with_binding dropped role_at opened_record arrive_step drained_at ticked_record tick_step transmit_step best_effort_step open_refusal reserve_refusal withdraw_refusal arrive_refusal closed_refusal best_effort_refusal bind_refusal frame_refusal compared_back compared_at lookup_from lookup frame_lookup octets_equal charge_of length_fits tagged_frame vid_of
tick_replies = refl

-- Transmit is not refused, and finds nothing to send
transmit_refuses : refuses transmitting ≡ 0
unfolding all_to sum_to list_to iterate two_of four_of attempt arrive_of tick_of frame_at with_frame joined_memory front_of waiting open_at with_open prior_at with_prior delay_at with_delay link_at with_link waits_at with_waits queue_at queues_at with_queue stream_at with_stream with_place drain_at with_drain drains_at bound_at vid_at address_at with_binding dropped role_at opened_record arrive_step drained_at ticked_record tick_step transmit_step best_effort_step open_refusal reserve_refusal withdraw_refusal arrive_refusal closed_refusal best_effort_refusal bind_refusal frame_refusal compared_back compared_at lookup_from lookup frame_lookup octets_equal charge_of length_fits tagged_frame vid_of
transmit_refuses = refl

transmit_replies : first transmitting ≡ 254
unfolding all_to sum_to list_to iterate two_of four_of attempt arrive_of tick_of frame_at with_frame joined_memory front_of waiting open_at with_open prior_at with_prior delay_at with_delay link_at with_link waits_at with_waits queue_at queues_at with_queue stream_at with_stream with_place drain_at with_drain drains_at bound_at vid_at address_at with_binding dropped role_at opened_record arrive_step drained_at ticked_record tick_step transmit_step best_effort_step open_refusal reserve_refusal withdraw_refusal arrive_refusal closed_refusal best_effort_refusal bind_refusal frame_refusal compared_back compared_at lookup_from lookup frame_lookup octets_equal charge_of length_fits tagged_frame vid_of
transmit_replies = refl

-- Best effort of too small a charge, and W after one that joins
best_effort_refuses : refuses (joining_best_effort 83 7) ≡ 13
unfolding all_to sum_to list_to iterate two_of four_of attempt arrive_of tick_of frame_at with_frame joined_memory front_of waiting open_at with_open prior_at with_prior delay_at with_delay link_at with_link waits_at with_waits queue_at queues_at with_queue stream_at with_stream with_place drain_at with_drain drains_at bound_at vid_at address_at with_binding dropped role_at opened_record arrive_step drained_at ticked_record tick_step transmit_step best_effort_step open_refusal reserve_refusal withdraw_refusal arrive_refusal closed_refusal best_effort_refusal bind_refusal frame_refusal compared_back compared_at lookup_from lookup frame_lookup octets_equal charge_of length_fits tagged_frame vid_of
best_effort_refuses = refl

best_effort_replies : first (joining_best_effort 300 7) ≡ 300
unfolding all_to sum_to list_to iterate two_of four_of attempt arrive_of tick_of frame_at with_frame joined_memory front_of waiting open_at with_open prior_at with_prior delay_at with_delay link_at with_link waits_at with_waits queue_at queues_at with_queue stream_at with_stream with_place drain_at with_drain drains_at bound_at vid_at address_at with_binding dropped role_at opened_record arrive_step drained_at ticked_record tick_step transmit_step best_effort_step open_refusal reserve_refusal withdraw_refusal arrive_refusal closed_refusal best_effort_refusal bind_refusal frame_refusal compared_back compared_at lookup_from lookup frame_lookup octets_equal charge_of length_fits tagged_frame vid_of
best_effort_replies = refl

-- Bind with VID 0, and the two zeros of one that binds
bind_refuses : refuses (binding 5 (replicate {A = ℕ} 6 0) 0) ≡ 9
unfolding all_to sum_to list_to iterate two_of four_of attempt arrive_of tick_of frame_at with_frame joined_memory front_of waiting open_at with_open prior_at with_prior delay_at with_delay link_at with_link waits_at with_waits queue_at queues_at with_queue stream_at with_stream with_place drain_at with_drain drains_at bound_at vid_at address_at with_binding dropped role_at opened_record arrive_step drained_at ticked_record tick_step transmit_step best_effort_step open_refusal reserve_refusal withdraw_refusal arrive_refusal closed_refusal best_effort_refusal bind_refusal frame_refusal compared_back compared_at lookup_from lookup frame_lookup octets_equal charge_of length_fits tagged_frame vid_of
bind_refuses = refl

bind_replies : first (binding 5 (replicate {A = ℕ} 6 0) 100) ≡ 0
unfolding all_to sum_to list_to iterate two_of four_of attempt arrive_of tick_of frame_at with_frame joined_memory front_of waiting open_at with_open prior_at with_prior delay_at with_delay link_at with_link waits_at with_waits queue_at queues_at with_queue stream_at with_stream with_place drain_at with_drain drains_at bound_at vid_at address_at with_binding dropped role_at opened_record arrive_step drained_at ticked_record tick_step transmit_step best_effort_step open_refusal reserve_refusal withdraw_refusal arrive_refusal closed_refusal best_effort_refusal bind_refusal frame_refusal compared_back compared_at lookup_from lookup frame_lookup octets_equal charge_of length_fits tagged_frame vid_of
bind_replies = refl

-- Frame of 59 octets, and one of 60, which goes to best effort
frame_refuses : refuses (framing (replicate {A = ℕ} 59 0) 7) ≡ 17
unfolding all_to sum_to list_to iterate two_of four_of attempt arrive_of tick_of frame_at with_frame joined_memory front_of waiting open_at with_open prior_at with_prior delay_at with_delay link_at with_link waits_at with_waits queue_at queues_at with_queue stream_at with_stream with_place drain_at with_drain drains_at bound_at vid_at address_at with_binding dropped role_at opened_record arrive_step drained_at ticked_record tick_step transmit_step best_effort_step open_refusal reserve_refusal withdraw_refusal arrive_refusal closed_refusal best_effort_refusal bind_refusal frame_refusal compared_back compared_at lookup_from lookup frame_lookup octets_equal charge_of length_fits tagged_frame vid_of
frame_refuses = refl

frame_replies : first (framing (replicate {A = ℕ} 60 0) 7) ≡ 84
unfolding all_to sum_to list_to iterate two_of four_of attempt arrive_of tick_of frame_at with_frame joined_memory front_of waiting open_at with_open prior_at with_prior delay_at with_delay link_at with_link waits_at with_waits queue_at queues_at with_queue stream_at with_stream with_place drain_at with_drain drains_at bound_at vid_at address_at with_binding dropped role_at opened_record arrive_step drained_at ticked_record tick_step transmit_step best_effort_step open_refusal reserve_refusal withdraw_refusal arrive_refusal closed_refusal best_effort_refusal bind_refusal frame_refusal compared_back compared_at lookup_from lookup frame_lookup octets_equal charge_of length_fits tagged_frame vid_of
frame_replies = refl

-- the same port, with stream 5 withdrawn, two ticks from its freedom
abbrev draining : List ℕ
draining = port_with 2

-- 25 is asked before 6 and 7 of a Reserve, before 13 of an Arrive and before 9 of a Bind, and of a Withdraw
reserve_draining : refusal_of (reserving 5 83) draining ≡ 25
unfolding all_to sum_to list_to iterate two_of four_of attempt arrive_of tick_of frame_at with_frame joined_memory front_of waiting open_at with_open prior_at with_prior delay_at with_delay link_at with_link waits_at with_waits queue_at queues_at with_queue stream_at with_stream with_place drain_at with_drain drains_at bound_at vid_at address_at with_binding dropped role_at opened_record arrive_step drained_at ticked_record tick_step transmit_step best_effort_step open_refusal reserve_refusal withdraw_refusal arrive_refusal closed_refusal best_effort_refusal bind_refusal frame_refusal compared_back compared_at lookup_from lookup frame_lookup octets_equal charge_of length_fits tagged_frame vid_of
reserve_draining = refl

withdraw_draining : refusal_of (withdrawing 5) draining ≡ 25
unfolding all_to sum_to list_to iterate two_of four_of attempt arrive_of tick_of frame_at with_frame joined_memory front_of waiting open_at with_open prior_at with_prior delay_at with_delay link_at with_link waits_at with_waits queue_at queues_at with_queue stream_at with_stream with_place drain_at with_drain drains_at bound_at vid_at address_at with_binding dropped role_at opened_record arrive_step drained_at ticked_record tick_step transmit_step best_effort_step open_refusal reserve_refusal withdraw_refusal arrive_refusal closed_refusal best_effort_refusal bind_refusal frame_refusal compared_back compared_at lookup_from lookup frame_lookup octets_equal charge_of length_fits tagged_frame vid_of
withdraw_draining = refl

arrive_draining : refusal_of (arriving 5 83 7) draining ≡ 25
unfolding all_to sum_to list_to iterate two_of four_of attempt arrive_of tick_of frame_at with_frame joined_memory front_of waiting open_at with_open prior_at with_prior delay_at with_delay link_at with_link waits_at with_waits queue_at queues_at with_queue stream_at with_stream with_place drain_at with_drain drains_at bound_at vid_at address_at with_binding dropped role_at opened_record arrive_step drained_at ticked_record tick_step transmit_step best_effort_step open_refusal reserve_refusal withdraw_refusal arrive_refusal closed_refusal best_effort_refusal bind_refusal frame_refusal compared_back compared_at lookup_from lookup frame_lookup octets_equal charge_of length_fits tagged_frame vid_of
arrive_draining = refl

bind_draining : refusal_of (binding 5 (replicate {A = ℕ} 6 0) 0) draining ≡ 25
unfolding all_to sum_to list_to iterate two_of four_of attempt arrive_of tick_of frame_at with_frame joined_memory front_of waiting open_at with_open prior_at with_prior delay_at with_delay link_at with_link waits_at with_waits queue_at queues_at with_queue stream_at with_stream with_place drain_at with_drain drains_at bound_at vid_at address_at with_binding dropped role_at opened_record arrive_step drained_at ticked_record tick_step transmit_step best_effort_step open_refusal reserve_refusal withdraw_refusal arrive_refusal closed_refusal best_effort_refusal bind_refusal frame_refusal compared_back compared_at lookup_from lookup frame_lookup octets_equal charge_of length_fits tagged_frame vid_of
bind_draining = refl

-- a tick brings it one nearer, and after the next it is no longer reserved
tick_drains : drain_at (step_of ticking draining []).port 5 ≡ 1
unfolding all_to sum_to list_to iterate two_of four_of attempt arrive_of tick_of frame_at with_frame joined_memory front_of waiting open_at with_open prior_at with_prior delay_at with_delay link_at with_link waits_at with_waits queue_at queues_at with_queue stream_at with_stream with_place drain_at with_drain drains_at bound_at vid_at address_at with_binding dropped role_at opened_record arrive_step drained_at ticked_record tick_step transmit_step best_effort_step open_refusal reserve_refusal withdraw_refusal arrive_refusal closed_refusal best_effort_refusal bind_refusal frame_refusal compared_back compared_at lookup_from lookup frame_lookup octets_equal charge_of length_fits tagged_frame vid_of
tick_drains = refl

tick_frees : (stream_at (step_of ticking (step_of ticking draining []).port []).port 5).reserved ≡ false
unfolding all_to sum_to list_to iterate two_of four_of attempt arrive_of tick_of frame_at with_frame joined_memory front_of waiting open_at with_open prior_at with_prior delay_at with_delay link_at with_link waits_at with_waits queue_at queues_at with_queue stream_at with_stream with_place drain_at with_drain drains_at bound_at vid_at address_at with_binding dropped role_at opened_record arrive_step drained_at ticked_record tick_step transmit_step best_effort_step open_refusal reserve_refusal withdraw_refusal arrive_refusal closed_refusal best_effort_refusal bind_refusal frame_refusal compared_back compared_at lookup_from lookup frame_lookup octets_equal charge_of length_fits tagged_frame vid_of
tick_frees = refl
