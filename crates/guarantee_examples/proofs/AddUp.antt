-- The events of the examples add up. Assumes nothing.
use Prim.Native.Nat.{◌+◌}
use mathlib.Core.Bool.{true, false}
use mathlib.Core.Path.{◌≡◌, refl}
use mathlib.Core.List.{[], ◌∷◌, ◌++◌, map}
use lib.ListN.{length}
use lib.Dec.{eqb, ltb}
use Rattle.octets.specs.Numbers.{two_of}
use Rattle.stream.specs.State.{least_queues, reserve_of}
use Rattle.stream.specs.Replies.{granted, refused_by}
use Rattle.stream.specs.Steps.{attempt, arrive_of}
use Rattle.record.specs.Queues.{queues_at}
use Rattle.record.specs.Head.{open_at, with_open, prior_at}
use Rattle.record.specs.Entry.{stream_at, with_stream, drain_at, with_drain, drains_at}
use Rattle.header.specs.Header.{length_fits}
use Rattle.fitness.specs.Clauses.{prior_fits}
use Rattle.steps.specs.Outcome.{outcome}
use Rattle.gates.specs.Refusals.{withdraw_refusal}
use Rattle.port_laws.specs.Counting.{to_withdraw}
use Rattle.port_laws.specs.Lists.{fresh_record}
use Rattle.guarantee.specs.Claims.{tick_count, reserved_octets, offers, answers}
use Rattle.guarantee.specs.Own.{own}
use Rattle.guarantee.specs.Draining.{ticks_in}
use Rattle.guarantee.specs.Instances.{charge_in, quiet_tick}
use Rattle.guarantee_examples.specs.Examples.{busy, light, withheld, permitted200, untagged}
use Rattle.guarantee_examples.specs.LeftOpen.{crowded_opening, crowded_grant, crowded_before, crowded_place, crowded_frame, too_soon, crowded, crowded_own, busy_before, busy_next_arrival, busy_last_arrival, busy_with, second_frame, third_frame, busy_second, busy_third, purges_none, alone_own, six_answers, alone, discards, queue_full, shortest_frame, unfit_record, kept_tag, number_tag}
use Rattle.guarantee_examples.specs.Withdrawn.{draining_reply, free_reply, handed_before, handed_third, handed_to_fourth_tick, handed_grant, handed_frame, withdrawn_opening, withdrawn_grant, withdrawn, remaining_others, leaving_after, leaving_frame, leaving_first, tried_while, between_calls, hurried}
use Rattle.guarantee_examples.specs.AddUp.{sent_at, brought_at, accepted, purged, frames_accepted, frames_sent, frames_purged, by_rule, tag_sent, number_sent, EventsAddUp}

light_frame : sent_at light 5 ≡ brought_at light 3
light_frame = refl

withheld_octets : accepted 5 withheld ≡ reserved_octets withheld + purged withheld
withheld_octets = refl

crowded_number : crowded_frame.number ≡ length (crowded_opening ++ (crowded_grant ∷ crowded_before))
crowded_number = refl

second_number : second_frame.number ≡ length busy_before
second_number = refl

third_number : third_frame.number ≡ length (busy_before ++ (busy_next_arrival ∷ []))
third_number = refl

first_tick : tick_count [] + 1 ≡ too_soon
first_tick = refl

pub crowded_six : answers 6 crowded ≡ six_answers
crowded_six = refl

pub shortest_fits : length_fits (untagged shortest_frame) ≡ true
unfolding length_fits
shortest_fits = refl

unfit_prior : prior_fits unfit_record ≡ false
unfolding prior_at queues_at
unfit_prior = refl

crowded_joins : crowded_place ≡ (by_rule 200 120).first
unfolding attempt arrive_of
crowded_joins = refl

crowded_own_lem : map charge_in (own 5 crowded) ≡ map charge_in crowded_own
crowded_own_lem = refl

alone_own_lem : map charge_in (own 6 alone) ≡ map charge_in alone_own
alone_own_lem = refl

busy_frames : frames_accepted 5 (busy_with busy_second busy_third purges_none) ≡ frames_sent busy + frames_purged (busy_with busy_second busy_third purges_none)
busy_frames = refl

full_no_discard : eqb queue_full discards ≡ false
full_no_discard = refl

tag_of_call : kept_tag ≡ tag_sent (brought_at permitted200 2)
tag_of_call = refl

number_of_call : number_tag ≡ number_sent (brought_at permitted200 2)
number_of_call = refl

handed_number : (handed_frame 6).number ≡ length (handed_before ++ (busy_last_arrival ∷ (handed_to_fourth_tick handed_third ++ (quiet_tick ∷ handed_grant 6))))
handed_number = refl

leaving_number : leaving_frame.number ≡ length (withdrawn_opening ++ (withdrawn_grant ∷ []))
leaving_number = refl

tried_ticks : tick_count (tried_while (refused_by 25) (refused_by 25) (refused_by 25) (refused_by 25)) + 1 ≡ least_queues
tried_ticks = refl

between_ticks : ticks_in between_calls + 1 ≡ least_queues
between_ticks = refl

withdrawn_calls : length (remaining_others 5 withdrawn) ≡ length (remaining_others 5 permitted200)
withdrawn_calls = refl

leaving_offers : ltb 200 (120 + offers 5 (leaving_after leaving_first)) ≡ true
leaving_offers = refl

draining_gate : withdraw_refusal (with_drain (with_stream (with_open fresh_record) 5 (reserve_of 200)) 5 least_queues) 5 ≡ draining_reply.refusal
unfolding open_at with_open stream_at with_stream drain_at with_drain drains_at two_of withdraw_refusal
draining_gate = refl

free_gate : withdraw_refusal (with_open fresh_record) 5 ≡ free_reply.refusal
unfolding open_at with_open stream_at drain_at drains_at two_of withdraw_refusal
free_gate = refl

withdrawn_answer : answers 5 withdrawn ≡ draining_reply ∷ []
withdrawn_answer = refl

hurried_drain : drain_at (hurried (to_withdraw 5) (outcome (granted 0 0) fresh_record [])).port 5 + 2 ≡ least_queues
unfolding queues_at drain_at with_drain
hurried_drain = refl

pub events_add_up : EventsAddUp
events_add_up =
    record {
      light_frame = light_frame;
      withheld_octets = withheld_octets;
      crowded_number = crowded_number;
      second_number = second_number;
      third_number = third_number;
      first_tick = first_tick;
      crowded_six = crowded_six;
      shortest_fits = shortest_fits;
      unfit_prior = unfit_prior;
      crowded_joins = crowded_joins;
      crowded_own_lem = crowded_own_lem;
      alone_own_lem = alone_own_lem;
      busy_frames = busy_frames;
      full_no_discard = full_no_discard;
      tag_of_call = tag_of_call;
      number_of_call = number_of_call;
      handed_number = handed_number;
      leaving_number = leaving_number;
      tried_ticks = tried_ticks;
      between_ticks = between_ticks;
      withdrawn_calls = withdrawn_calls;
      leaving_offers = leaving_offers;
      draining_gate = draining_gate;
      free_gate = free_gate;
      withdrawn_answer = withdrawn_answer;
      hurried_drain = hurried_drain;
    }
