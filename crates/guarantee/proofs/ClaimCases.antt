-- What the definitions of the claims count, on events and calls that are written out: each law is of one number or truth value. Assumes nothing.
use Prim.Native.Nat.{ℕ}
use mathlib.Core.Bool.{Bool, true, false}
use mathlib.Core.Path.{◌≡◌, refl, sym, ap}
use mathlib.Core.Logic.{inl, inr}
use mathlib.Core.List.{List, [], ◌∷◌, ◌++◌, map}
use native.Mathlib.Omega.{arith}
use lib.ListN.{length, get_or, replicate, length-append}
use Rattle.lists.specs.Turns.{all_to}
use Rattle.lists.specs.Equal.{octets_equal}
use Rattle.lists.proofs.EachLaws.{differ}
use Rattle.stream.specs.declared.Reply.{Reply}
use Rattle.stream.specs.Replies.{refused_by}
use Rattle.header.specs.Header.{charge_of, length_fits, tagged_frame}
use Rattle.binding.specs.Finding.{frame_lookup}
use Rattle.steps.specs.Call.{Call, reserving, withdrawing, arriving, ticking, transmitting, joining_best_effort, framing}
use Rattle.port_laws.specs.Counting.{Action, to_tick, to_transmit, to_reserve, to_withdraw, to_arrive, to_best_effort, to_frame, neither, action_of}
use Rattle.guarantee.specs.Events.{Sent, reserved_sent, best_effort_sent, none, marked, Made, brought_by, is_transmit, sent_by, Event, events_after, both_runs}
use Rattle.guarantee.specs.Claims.{is_tick, tick_count, reserved_charge, reserved_octets, Idle, Linked, PurgesNothing, reply_of_sent, SaysWhatItSends, AlikeMarked, SameRecord, Sends, is_offer_of, offer, offers, Offered, is_withdraw_of, is_reserve_of, is_arrive_of, remaining, grants, answers, Alike, NotByHost}
use Rattle.guarantee.specs.Own.{own, own_replies}
use Rattle.guarantee.specs.Beyond.{RepliedAlone, withdrawal_grants}
use Rattle.guarantee.specs.Instances.{replied, marked_frame, quiet_tick, purging_tick, joins_current, current_frame, sends_reserved, joins_next, discarded_arrival, too_small, epoch, offered, joins_twice, sends_twice, grant_of_5, allowed, denied, withdrawal_of_5, withdrawal_refused, withdrawal_of_6, refusal_of_6, joins_other, joins_best_effort, mixed, tag_of, charge_in, stacking}

-- the charge and the number of a sent frame
abbrev charge_sent : Sent → ℕ
charge_sent (reserved_sent f) = f.charge
charge_sent (best_effort_sent f) = f.charge
charge_sent none = 0

abbrev number_sent : Sent → ℕ
number_sent (reserved_sent f) = f.number
number_sent (best_effort_sent f) = f.number
number_sent none = 0

abbrev stream_sent : Sent → ℕ
stream_sent (reserved_sent f) = f.stream
stream_sent (best_effort_sent f) = f.stream
stream_sent none = 0

-- the second number of a call's action: P, or the charge
abbrev second_of : Action → ℕ
second_of to_tick = 0
second_of to_transmit = 0
second_of (to_reserve s permitted) = permitted
second_of (to_withdraw s) = 0
second_of (to_arrive s charge tag) = charge
second_of (to_best_effort charge tag) = charge
second_of (to_frame octets tag) = 0
second_of neither = 0

-- `marked`: a frame's call has the call's number for a tag, a reservation keeps its P, and a withdrawal its stream
marked_arrive : tag_of (action_of (marked 3 (arriving 5 120 7))) ≡ 3
marked_arrive = refl

marked_best_effort : tag_of (action_of (marked 3 (joining_best_effort 300 7))) ≡ 3
marked_best_effort = refl

marked_frame_lem : tag_of (action_of (marked 3 (framing [] 7))) ≡ 3
marked_frame_lem = refl

marked_charge : second_of (action_of (marked 3 (arriving 5 120 7))) ≡ 120
marked_charge = refl

marked_reserve : second_of (action_of (marked 3 (reserving 5 200))) ≡ 200
marked_reserve = refl

marked_withdraw : is_withdraw_of 5 (action_of (marked 3 (withdrawing 5))) ≡ true
marked_withdraw = refl

-- `made`: of three calls, what the last replies in each run, on the record and on the memory that the calls before it left in that run
abbrev three : List Call
three = arriving 5 120 7 ∷ joining_best_effort 300 8 ∷ transmitting ∷ []

abbrev last_shown : Reply
last_shown = get_or (map (λ (x : Made). x.shown.reply) (both_runs stacking three (4 ∷ []) (4 ∷ []))) 2 (record { refusal = 99; first = 99; second = 99 })

abbrev last_real : Reply
last_real = get_or (map (λ (x : Made). x.real.reply) (both_runs stacking three (4 ∷ []) (4 ∷ []))) 2 (record { refusal = 99; first = 99; second = 99 })

own_record : last_real.first ≡ 8
own_record = refl

own_memory : last_real.second ≡ 8
own_memory = refl

shown_record : last_shown.first ≡ 1
shown_record = refl

shown_memory : last_shown.second ≡ 1
shown_memory = refl

-- the mark is the number of the calls before
marked_number : get_or (map (λ (x : Made). get_or x.shown.memory 0 99) (both_runs stacking three [] [])) 0 99 ≡ 0
marked_number = refl

-- and both runs begin on the record and the memory that are given
abbrev first_shown : Reply
first_shown = get_or (map (λ (x : Made). x.shown.reply) (both_runs stacking three (4 ∷ []) (3 ∷ []))) 0 (record { refusal = 99; first = 99; second = 99 })

begins_record : first_shown.first ≡ 4
begins_record = refl

begins_memory : first_shown.second ≡ 3
begins_memory = refl

-- a Frame of 60 octets is told of as the Best effort that it becomes on the record
frame_counted : map (λ (x : Made). second_of (action_of x.call)) (both_runs stacking (framing (replicate {A = ℕ} 60 0) 7 ∷ []) [] []) ≡ 84 ∷ []
unfolding all_to octets_equal charge_of length_fits tagged_frame frame_lookup
frame_counted = refl

-- `brought_by`: the frame of an Arrive is a reserved one, that of a Best effort is of stream 255, and a refused Frame brings none
brought_reserved : reserved_charge (brought_by 3 (to_arrive 5 120 7)) ≡ 120
brought_reserved = refl

brought_number : number_sent (brought_by 3 (to_arrive 5 120 7)) ≡ 3
brought_number = refl

brought_best_effort : stream_sent (brought_by 3 (to_best_effort 300 7)) ≡ 255
brought_best_effort = refl

brought_unreserved : reserved_charge (brought_by 3 (to_best_effort 300 7)) ≡ 0
brought_unreserved = refl

brought_frame : number_sent (brought_by 3 (to_frame [] 7)) ≡ 0
brought_frame = refl

brought_withdraw : number_sent (brought_by 3 (to_withdraw 5)) ≡ 0
brought_withdraw = refl

-- `is_transmit`, of each sort of call that could be taken for one
tick_no_transmit : is_transmit to_tick ≡ false
tick_no_transmit = refl

transmit_is : is_transmit to_transmit ≡ true
transmit_is = refl

arrive_no_transmit : is_transmit (to_arrive 5 120 7) ≡ false
arrive_no_transmit = refl

withdraw_no_transmit : is_transmit (to_withdraw 5) ≡ false
withdraw_no_transmit = refl

-- `sent_by`: a Transmit sends the frame of the call whose number it shows, and no other call sends one
transmit_sends : charge_sent (sent_by three transmitting (record { refusal = 0; first = 5; second = 0 })) ≡ 120
transmit_sends = refl

sends_second : charge_sent (sent_by three transmitting (record { refusal = 0; first = 0; second = 1 })) ≡ 300
sends_second = refl

tick_sends_none : charge_sent (sent_by three ticking (record { refusal = 0; first = 0; second = 0 })) ≡ 0
tick_sends_none = refl

-- `events_after`: the replies are those of the two runs, and a transmit is held to all calls before it
abbrev two_made : List Event
two_made = events_after (ticking ∷ []) (joins_twice ∷ sends_twice ∷ [])

event_reply : get_or (map (λ (e : Event). e.reply.second) two_made) 1 99 ≡ 7
event_reply = refl

event_shown : get_or (map (λ (e : Event). e.shown.second) two_made) 1 99 ≡ 1
event_shown = refl

event_sent : get_or (map (λ (e : Event). charge_sent e.sent) two_made) 1 99 ≡ 120
event_sent = refl

-- `is_tick`, `tick_count`
tick_is : is_tick to_tick ≡ true
tick_is = refl

transmit_no_tick : is_tick to_transmit ≡ false
transmit_no_tick = refl

other_no_tick : is_tick neither ≡ false
other_no_tick = refl

withdraw_no_tick : is_tick (to_withdraw 5) ≡ false
withdraw_no_tick = refl

ticks_counted : tick_count (quiet_tick ∷ joins_current ∷ joins_next ∷ quiet_tick ∷ joins_current ∷ []) ≡ 2
ticks_counted = refl

-- `reserved_charge`, `reserved_octets`: frames of best effort are not in it
best_effort_charge : reserved_charge (best_effort_sent (marked_frame 255 300 2 5)) ≡ 0
best_effort_charge = refl

octets_sent : reserved_octets (sends_reserved ∷ sends_reserved ∷ []) ≡ 240
octets_sent = refl

-- `reply_of_sent`
reply_stream : (reply_of_sent (λ f. f.tag) (reserved_sent (marked_frame 5 120 7 3))).first ≡ 5
reply_stream = refl

reply_tag : (reply_of_sent (λ f. f.tag) (reserved_sent (marked_frame 5 120 7 3))).second ≡ 7
reply_tag = refl

reply_number : (reply_of_sent (λ f. f.number) (best_effort_sent (marked_frame 255 300 2 5))).second ≡ 5
reply_number = refl

reply_nothing : (reply_of_sent (λ f. f.tag) none).first ≡ 254
reply_nothing = refl

-- `offer`, `offers`: of this stream alone, of charges in their range alone, and not of best effort
offer_counted : offer 5 (to_arrive 5 120 7) ≡ 120
offer_counted = refl

offer_of_another : offer 5 (to_arrive 6 120 7) ≡ 0
offer_of_another = refl

offer_too_small : offer 5 (to_arrive 5 83 7) ≡ 0
offer_too_small = refl

offer_best_effort : offer 5 (to_best_effort 300 7) ≡ 0
offer_best_effort = refl

offer_reserve : offer 5 (to_reserve 5 200) ≡ 0
offer_reserve = refl

offer_withdraw : offer 5 (to_withdraw 5) ≡ 0
offer_withdraw = refl

offers_counted : offers 5 (joins_current ∷ joins_next ∷ joins_other ∷ []) ≡ 220
offers_counted = refl

-- `is_reserve_of`, `is_arrive_of`
reserve_of_another : is_reserve_of 5 (to_reserve 6 200) ≡ false
reserve_of_another = refl

arrive_no_reserve : is_reserve_of 5 (to_arrive 5 120 7) ≡ false
arrive_no_reserve = refl

arrive_of_another : is_arrive_of 5 (to_arrive 6 120 7) ≡ false
arrive_of_another = refl

reserve_no_arrive : is_arrive_of 5 (to_reserve 5 200) ≡ false
reserve_no_arrive = refl

-- `is_withdraw_of`, and a withdrawal is neither of the two
withdraw_is : is_withdraw_of 5 (to_withdraw 5) ≡ true
withdraw_is = refl

withdraw_of_another : is_withdraw_of 5 (to_withdraw 6) ≡ false
withdraw_of_another = refl

reserve_no_withdraw : is_withdraw_of 5 (to_reserve 5 200) ≡ false
reserve_no_withdraw = refl

arrive_no_withdraw : is_withdraw_of 5 (to_arrive 5 120 7) ≡ false
arrive_no_withdraw = refl

withdraw_no_reserve : is_reserve_of 5 (to_withdraw 5) ≡ false
withdraw_no_reserve = refl

withdraw_no_arrive : is_arrive_of 5 (to_withdraw 5) ≡ false
withdraw_no_arrive = refl

-- `remaining`: the ticks, the stream's reservations, its withdrawals and its arrivals, and no other calls
ticks_remain : length (remaining 5 (quiet_tick ∷ quiet_tick ∷ [])) ≡ 2
ticks_remain = refl

reservations_remain : length (remaining 5 (grant_of_5 ∷ [])) ≡ 1
reservations_remain = refl

withdrawals_remain : length (remaining 5 (withdrawal_of_5 ∷ withdrawal_refused ∷ [])) ≡ 2
withdrawals_remain = refl

arrivals_remain : length (remaining 5 (joins_current ∷ joins_next ∷ discarded_arrival ∷ [])) ≡ 3
arrivals_remain = refl

others_struck_out : length (remaining 5 (refusal_of_6 ∷ withdrawal_of_6 ∷ joins_other ∷ joins_best_effort ∷ sends_reserved ∷ [])) ≡ 0
others_struck_out = refl

-- `grants`, `answers`
granted_so : grants 5 (grant_of_5 ∷ []) ≡ true ∷ []
granted_so = refl

refused_so : grants 6 (refusal_of_6 ∷ []) ≡ false ∷ []
refused_so = refl

answers_so : map (λ (r : Reply). r.refusal) (answers 5 (grant_of_5 ∷ joins_current ∷ discarded_arrival ∷ [])) ≡ 0 ∷ 14 ∷ []
answers_so = refl

-- `is_offer_of`, `own`, `own_replies`: the offers of this stream alone, of charges in their range alone, and the ticks
another_no_offer : is_offer_of 5 (to_arrive 6 120 7) ≡ false
another_no_offer = refl

too_small_no_offer : is_offer_of 5 (to_arrive 5 83 7) ≡ false
too_small_no_offer = refl

largest_is_offer : is_offer_of 5 (to_arrive 5 2020 7) ≡ true
largest_is_offer = refl

too_large_no_offer : is_offer_of 5 (to_arrive 5 2021 7) ≡ false
too_large_no_offer = refl

reserve_no_offer : is_offer_of 5 (to_reserve 5 200) ≡ false
reserve_no_offer = refl

withdraw_no_offer : is_offer_of 5 (to_withdraw 5) ≡ false
withdraw_no_offer = refl

own_ticks : length (own 5 (quiet_tick ∷ quiet_tick ∷ [])) ≡ 2
own_ticks = refl

own_charges : map charge_in (own 5 (joins_current ∷ joins_other ∷ joins_next ∷ [])) ≡ 120 ∷ 100 ∷ []
own_charges = refl

others_left_out : length (own 5 (refusal_of_6 ∷ withdrawal_of_5 ∷ joins_other ∷ joins_best_effort ∷ sends_reserved ∷ [])) ≡ 0
others_left_out = refl

own_answers : map (λ (r : Reply). r.refusal) (own_replies 5 (grant_of_5 ∷ joins_current ∷ too_small ∷ joins_other ∷ discarded_arrival ∷ [])) ≡ 0 ∷ 14 ∷ []
own_answers = refl

mixed_own : map charge_in (own 5 mixed) ≡ 120 ∷ 100 ∷ 0 ∷ 200 ∷ []
mixed_own = refl

-- all of it in one list
mixed_counted : (tick_count mixed ≡ 1) × ((reserved_octets mixed ≡ 120) × ((offers 5 mixed ≡ 420) × (length (remaining 5 mixed) ≡ 6)))
mixed_counted = (refl, (refl, (refl, refl)))

-- and what the claims say of one event or one epoch: 516 octets are less than a share of 600, and a transmit of a reserved frame is not idle
epoch_fails : Linked 600 epoch → ⊥
epoch_fails (inl enough) = omega arith
epoch_fails (inr (inl idle)) = idle.1 (marked_frame 5 516 7 2) refl
epoch_fails (inr (inr x'')) = elim x'' [ ]

busy_not_idle : Idle sends_reserved → ⊥
busy_not_idle idle = idle.1 current_frame refl

-- 168 octets are more than 84
offered_too_much : Offered 5 84 offered → ⊥
offered_too_much within = omega arith

-- a tick that purges a frame is told from one that does not
purge_told : PurgesNothing purging_tick → ⊥
purge_told nothing = omega (arith, ap (λ (r : Reply). r.first) (nothing refl))

-- and nothing is said of the reply to an arrival
arrival_replies : PurgesNothing joins_current
arrival_replies t = differ (sym t)

-- a reserved frame is sent by the transmit that shows it and replies its stream and tag
sends_so : Sends current_frame sends_reserved
sends_so = (refl, refl)

-- a transmit replies the frame's tag, and its number where that is the tag; no other call's replies differ, and the records do not
transmit_says : SaysWhatItSends sends_reserved
transmit_says t = (refl, refl)

transmit_not_alike : AlikeMarked sends_reserved
transmit_not_alike t = differ t

records_alike : SameRecord joins_twice
records_alike = refl

-- which of a stream's withdrawals are granted, and no other stream's
withdrawals_told : withdrawal_grants 5 (withdrawal_of_5 ∷ withdrawal_of_6 ∷ quiet_tick ∷ withdrawal_refused ∷ []) ≡ true ∷ false ∷ []
withdrawals_told = refl

-- where a reservation is granted in one list and refused in the other nothing is said of the replies
grants_differ : Alike 5 allowed denied
grants_differ calls grant = differ (ap (λ (b : List Bool). get_or b 0 true) grant)

-- nor where the calls differ
calls_differ : Alike 5 allowed (grant_of_5 ∷ joins_next ∷ [])
calls_differ calls grant = absurd (omega (arith, ap (λ (cs : List Call). tag_of (action_of (get_or cs 1 ticking))) calls))

-- where no reservation is granted nothing is said of the stream by itself
none_granted : (last : ℕ) → RepliedAlone last denied
none_granted last s permitted [] while rest g split call is stays = absurd (omega (arith, ap (λ (es : List Event). (get_or es 0 quiet_tick).reply.refusal) split))
none_granted last s permitted (b ∷ []) while rest g split call is stays =
    absurd (omega (arith, ap (λ (es : List Event). tag_of (action_of (get_or es 1 quiet_tick).call)) split, ap (λ (c : Call). tag_of (action_of c)) call))
none_granted last s permitted (b ∷ c ∷ before) while rest g split call is stays =
    absurd (omega (arith, ap (λ (es : List Event). length es) split, length-append before (g ∷ (while ++ rest))))

-- a discard is not the host's fault, nor is a Frame that is too short
discard_allowed : NotByHost discarded_arrival
discard_allowed = (λ e. omega arith, (λ e. omega arith, λ e. omega arith))

short_frame_allowed : NotByHost (replied (framing [] 9) (refused_by 17))
short_frame_allowed = (λ e. omega arith, (λ e. omega arith, λ e. omega arith))
