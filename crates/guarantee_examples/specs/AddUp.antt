-- What adds up in the events of the examples themselves, whatever the port: the numbers of frames, what was accepted, and the replies to a stream.
use Rattle.std.specs.Prelude.{ℕ, ◌+◌, ◌-◌, true, false, ◌&&◌, cond, ◌≡◌, List, [], ◌∷◌, ◌++◌, map, length, get_or, eqb, ltb}
use Rattle.lists.specs.Turns.{sum_of}
use Rattle.stream.specs.declared.Reply.{Reply}
use Rattle.stream.specs.State.{least_queues, reserve_of}
use Rattle.stream.specs.Replies.{granted, refused_by}
use Rattle.stream.specs.Alone.{StreamEvent, arrival, replies}
use Rattle.header.specs.Header.{length_fits}
use Rattle.fitness.specs.Clauses.{prior_fits}
use Rattle.steps.specs.Call.{ticking}
use Rattle.steps.specs.Outcome.{outcome}
use Rattle.record.specs.Head.{with_open}
use Rattle.record.specs.Entry.{with_stream, drain_at, with_drain}
use Rattle.gates.specs.Refusals.{withdraw_refusal}
use Rattle.port_laws.specs.Counting.{to_withdraw, action_of}
use Rattle.port_laws.specs.Lists.{fresh_record}
use Rattle.guarantee.specs.Events.{Sent, reserved_sent, best_effort_sent, none, Event, action, brought_by}
use Rattle.guarantee.specs.Claims.{is_tick, tick_count, reserved_octets, offer, offers, is_arrive_of, answers}
use Rattle.guarantee.specs.Own.{own}
use Rattle.guarantee.specs.Draining.{ticks_in}
use Rattle.guarantee.specs.Instances.{charge_in, quiet_tick}
use Rattle.guarantee_examples.specs.Examples.{busy, light, withheld, permitted200, untagged, calls_of}
use Rattle.guarantee_examples.specs.LeftOpen.{crowded_opening, crowded_grant, crowded_before, crowded_place, crowded_frame, too_soon, crowded, crowded_own, busy_before, busy_next_arrival, busy_last_arrival, busy_with, second_frame, third_frame, busy_second, busy_third, purges_none, alone_own, six_answers, alone, discards, queue_full, shortest_frame, unfit_record, kept_tag, number_tag}
use Rattle.guarantee_examples.specs.Withdrawn.{draining_reply, free_reply, handed_before, handed_third, handed_to_fourth_tick, handed_grant, handed_frame, withdrawn_opening, withdrawn_grant, withdrawn, remaining_others, leaving_after, leaving_frame, leaving_first, tried_while, between_calls, hurried}

-- what event number n of a list sends, and what its call brings
abbrev pub sent_at : List Event → ℕ → Sent
sent_at es n = get_or (map (λ (e : Event). e.sent) es) n none

abbrev pub brought_at : List Event → ℕ → Sent
brought_at es n = brought_by n (action_of (get_or (calls_of es) n ticking))

-- the octets of a stream that are accepted, and those that ticks purge
abbrev pub accepted : ℕ → List Event → ℕ
accepted s = sum_of (λ e. cond (eqb e.reply.refusal 0) (offer s (action e)) 0)

abbrev pub purged : List Event → ℕ
purged = sum_of (λ e. cond (is_tick (action e)) e.reply.second 0)

-- the reserved frames that are accepted on a stream, that are sent, and that ticks purge
abbrev pub frames_accepted : ℕ → List Event → ℕ
frames_accepted s = sum_of (λ e. cond (is_arrive_of s (action e) && eqb e.reply.refusal 0) 1 0)

abbrev frames_of : Sent → ℕ
frames_of (reserved_sent f) = 1
frames_of (best_effort_sent f) = 0
frames_of none = 0

abbrev pub frames_sent : List Event → ℕ
frames_sent = sum_of (λ e. frames_of e.sent)

abbrev pub frames_purged : List Event → ℕ
frames_purged = sum_of (λ e. cond (is_tick (action e)) e.reply.first 0)

-- the replies of a stream by itself, of a port with four queues, and the reply to its one arrival
abbrev pub replies_alone : ℕ → List StreamEvent → List Reply
replies_alone permitted es = replies (least_queues - 1) (reserve_of permitted) es

abbrev pub by_rule : ℕ → ℕ → Reply
by_rule permitted charge = get_or (replies_alone permitted (arrival charge ∷ [])) 0 (refused_by 0)

-- the tag and the number of a reserved frame
abbrev pub tag_sent : Sent → ℕ
tag_sent (reserved_sent f) = f.tag
tag_sent (best_effort_sent f) = 0
tag_sent none = 0

abbrev pub number_sent : Sent → ℕ
number_sent (reserved_sent f) = f.number
number_sent (best_effort_sent f) = 0
number_sent none = 0

pub record EventsAddUp : Type 0 where
  -- the frame that `light` sends first is that of its fourth call
  pub light_frame : sent_at light 5 ≡ brought_at light 3
  -- no frame of `withheld` is left waiting: what is accepted is sent or purged
  pub withheld_octets : accepted 5 withheld ≡ reserved_octets withheld + purged withheld
  -- the frames of which Derived speaks have the numbers of their calls
  pub crowded_number : crowded_frame.number ≡ length (crowded_opening ++ (crowded_grant ∷ crowded_before))
  pub second_number : second_frame.number ≡ length busy_before
  pub third_number : third_frame.number ≡ length (busy_before ++ (busy_next_arrival ∷ []))
  -- no tick is before the first
  pub first_tick : tick_count [] + 1 ≡ too_soon
  -- the replies to stream 6 in the crowd
  pub crowded_six : answers 6 crowded ≡ six_answers
  -- the shortest frame is within the range of lengths
  pub shortest_fits : length_fits (untagged shortest_frame) ≡ true
  -- the queue that is prior in the unfit record is none
  pub unfit_prior : prior_fits unfit_record ≡ false
  -- the frame of `crowded` joins the queue that the rule of its stream alone chooses
  pub crowded_joins : crowded_place ≡ (by_rule 200 120).first
  -- the octets of stream 5's own events in the crowd, and of stream 6's alone
  pub crowded_own_lem : map charge_in (own 5 crowded) ≡ map charge_in crowded_own
  pub alone_own_lem : map charge_in (own 6 alone) ≡ map charge_in alone_own
  -- no frame of `busy` is lost: those accepted are sent or purged
  pub busy_frames : frames_accepted 5 (busy_with busy_second busy_third purges_none) ≡ frames_sent busy + frames_purged (busy_with busy_second busy_third purges_none)
  -- a full queue is no discard
  pub full_no_discard : eqb queue_full discards ≡ false
  -- the tags that the memories keep are that of the call which brought the frame, and its number
  pub tag_of_call : kept_tag ≡ tag_sent (brought_at permitted200 2)
  pub number_of_call : number_tag ≡ number_sent (brought_at permitted200 2)
  -- the frames of lists with a withdrawal have the numbers of their calls
  pub handed_number : (handed_frame 6).number ≡ length (handed_before ++ (busy_last_arrival ∷ (handed_to_fourth_tick handed_third ++ (quiet_tick ∷ handed_grant 6))))
  pub leaving_number : leaving_frame.number ≡ length (withdrawn_opening ++ (withdrawn_grant ∷ []))
  -- with the one tick more that frees the stream there are as many as queues
  pub tried_ticks : tick_count (tried_while (refused_by 25) (refused_by 25) (refused_by 25) (refused_by 25)) + 1 ≡ least_queues
  pub between_ticks : ticks_in between_calls + 1 ≡ least_queues
  -- the withdrawal is not among the calls that remain without it
  pub withdrawn_calls : length (remaining_others 5 withdrawn) ≡ length (remaining_others 5 permitted200)
  -- the stream that conforms until its withdrawal would not conform with what it offers after that
  pub leaving_offers : ltb 200 (120 + offers 5 (leaving_after leaving_first)) ≡ true
  -- what a gate asks of a stream that drains, and of one that is free, is what the theorems have replied
  pub draining_gate : withdraw_refusal (with_drain (with_stream (with_open fresh_record) 5 (reserve_of 200)) 5 least_queues) 5 ≡ draining_reply.refusal
  pub free_gate : withdraw_refusal (with_open fresh_record) 5 ≡ free_reply.refusal
  -- the one arrival after the withdrawal is refused so
  pub withdrawn_answer : answers 5 withdrawn ≡ draining_reply ∷ []
  -- the machine that drains too briefly does so by two ticks
  pub hurried_drain : drain_at (hurried (to_withdraw 5) (outcome (granted 0 0) fresh_record [])).port 5 + 2 ≡ least_queues
