-- What calls count as, and what a list of calls replies, in cases that are written out: each law is of one number. Assumes nothing.
use Prim.Native.Nat.{ℕ}
use mathlib.Core.Bool.{false}
use mathlib.Core.Path.{◌≡◌, refl}
use mathlib.Core.List.{List, [], ◌∷◌, map}
use lib.ListN.{length, get_or, replicate}
use Rattle.lists.specs.Turns.{all_to}
use Rattle.lists.specs.Equal.{octets_equal}
use Rattle.octets.specs.Numbers.{two_of}
use Rattle.stream.specs.declared.Reply.{Reply}
use Rattle.stream.specs.Replies.{granted}
use Rattle.record.specs.Head.{open_at}
use Rattle.record.specs.Entry.{bound_at, vid_at, address_at, with_binding}
use Rattle.header.specs.Header.{charge_of, length_fits, tagged_frame, vid_of}
use Rattle.binding.specs.Finding.{compared_back, compared_at, lookup_from, lookup, frame_lookup}
use Rattle.steps.specs.Call.{terms, Call, opening, reserving, withdrawing, arriving, ticking, transmitting, joining_best_effort, binding, framing}
use Rattle.steps.specs.Outcome.{Outcome, outcome}
use Rattle.port_laws.specs.Lists.{replies, fresh_record, fresh_memory}
use Rattle.port_laws.specs.Counting.{Action, to_tick, to_transmit, to_reserve, to_withdraw, to_arrive, to_best_effort, to_frame, neither, action_of, counts_as}
use Rattle.port_laws.specs.Cases.{case_link, case_address, case_tagged}

-- an action's sort as a number, its stream, and its P or charge
abbrev sort_of : Action → ℕ
sort_of to_tick = 1
sort_of to_transmit = 2
sort_of (to_reserve s permitted) = 3
sort_of (to_withdraw s) = 7
sort_of (to_arrive s charge tag) = 4
sort_of (to_best_effort charge tag) = 5
sort_of (to_frame octets tag) = 6
sort_of neither = 0

abbrev stream_of : Action → ℕ
stream_of to_tick = 0
stream_of to_transmit = 0
stream_of (to_reserve s permitted) = s
stream_of (to_withdraw s) = s
stream_of (to_arrive s charge tag) = s
stream_of (to_best_effort charge tag) = 0
stream_of (to_frame octets tag) = 0
stream_of neither = 0

abbrev octets_of : Action → ℕ
octets_of to_tick = 0
octets_of to_transmit = 0
octets_of (to_reserve s permitted) = permitted
octets_of (to_withdraw s) = 0
octets_of (to_arrive s charge tag) = charge
octets_of (to_best_effort charge tag) = charge
octets_of (to_frame octets tag) = length octets
octets_of neither = 0

-- `action_of`
tick_action : sort_of (action_of ticking) ≡ 1
tick_action = refl

transmit_action : sort_of (action_of transmitting) ≡ 2
transmit_action = refl

withdraw_action : sort_of (action_of (withdrawing 5)) ≡ 7
withdraw_action = refl

withdraw_stream : stream_of (action_of (withdrawing 5)) ≡ 5
withdraw_stream = refl

open_action : sort_of (action_of (opening (terms case_link 1))) ≡ 0
open_action = refl

bind_action : sort_of (action_of (binding 5 case_address 100)) ≡ 0
bind_action = refl

reserve_action : octets_of (action_of (reserving 5 200)) ≡ 200
reserve_action = refl

arrive_action : stream_of (action_of (arriving 5 120 7)) ≡ 5
arrive_action = refl

best_effort_action : octets_of (action_of (joining_best_effort 300 7)) ≡ 300
best_effort_action = refl

frame_action : octets_of (action_of (framing (case_tagged 60) 7)) ≡ 60
frame_action = refl

-- `counts_as`, on the front of a record in which stream 1 is bound to the case's pair: a Frame of that pair is an Arrive on the stream, one without a
-- VLAN tag is a Best effort, one that is too short is itself, and so are an Arrive and a Withdraw
abbrev bound1 : List ℕ
bound1 = with_binding (replicate 96 0) 1 case_address 100

frame_arrives : stream_of (action_of (counts_as bound1 (framing (case_tagged 60) 7))) ≡ 1
unfolding all_to octets_equal two_of bound_at vid_at address_at with_binding charge_of length_fits tagged_frame vid_of compared_back compared_at lookup_from lookup frame_lookup
frame_arrives = refl

frame_joins : sort_of (action_of (counts_as bound1 (framing (replicate {A = ℕ} 60 0) 7))) ≡ 5
unfolding all_to octets_equal two_of bound_at vid_at address_at with_binding charge_of length_fits tagged_frame vid_of compared_back compared_at lookup_from lookup frame_lookup
frame_joins = refl

short_frame_itself : sort_of (action_of (counts_as bound1 (framing (replicate {A = ℕ} 59 0) 7))) ≡ 6
unfolding all_to octets_equal two_of bound_at vid_at address_at with_binding charge_of length_fits tagged_frame vid_of compared_back compared_at lookup_from lookup frame_lookup
short_frame_itself = refl

arrive_itself : octets_of (action_of (counts_as bound1 (arriving 5 120 7))) ≡ 120
arrive_itself = refl

withdraw_itself : sort_of (action_of (counts_as bound1 (withdrawing 5))) ≡ 7
withdraw_itself = refl

best_effort_itself : sort_of (action_of (counts_as bound1 (joining_best_effort 300 7))) ≡ 5
best_effort_itself = refl

-- `replies`, by a machine that is no port: it replies the heads of record and memory, and puts 1 before the one and 2 before the other. Each call gets
-- both as the one before it left them
abbrev heads : Call → List ℕ → List ℕ → Outcome
heads c p m = outcome (granted (get_or p 0 0) (get_or m 0 0)) (1 ∷ p) (2 ∷ m)

record_passed : map (λ (r : Reply). r.first) (replies heads (ticking ∷ ticking ∷ []) [] []) ≡ 0 ∷ 1 ∷ []
record_passed = refl

memory_passed : map (λ (r : Reply). r.second) (replies heads (ticking ∷ ticking ∷ []) [] []) ≡ 0 ∷ 2 ∷ []
memory_passed = refl

-- `fresh_record`, `fresh_memory`
fresh_record_length : length fresh_record ≡ 1088
fresh_record_length = refl

fresh_closed : open_at fresh_record ≡ false
unfolding open_at
fresh_closed = refl

fresh_memory_length : length fresh_memory ≡ 10240
fresh_memory_length = refl
