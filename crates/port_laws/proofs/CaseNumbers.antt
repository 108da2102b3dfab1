-- What the cases expect, one number of each, as the rules of a share, of one stream and of a frame's charge have it: no port is run here. Assumes
-- nothing.
use Prim.Native.Nat.{ℕ, ◌+◌, ◌-◌, ◌*◌}
use mathlib.Core.Bool.{cond}
use mathlib.Core.Path.{◌≡◌, refl}
use mathlib.Core.List.{List, [], ◌∷◌}
use lib.ListN.{get_or}
use lib.Dec.{ltb}
use Rattle.stream.specs.declared.Reply.{Reply}
use Rattle.stream.specs.State.{least_queues, reserve_of}
use Rattle.stream.specs.Steps.{attempt, arrive_of, tick_of}
use Rattle.stream.specs.Replies.{refused_by}
use Rattle.stream.specs.Alone.{StreamEvent, arrival, tick, replies}
use Rattle.ranges.specs.Ranges.{least_charge, greatest_charge, share_of, greatest_share, link_of}
use Rattle.header.specs.Header.{charge_of, length_fits}
use Rattle.steps.specs.Call.{Call, opening, reserving, withdrawing, arriving, ticking, transmitting, joining_best_effort, binding, framing}
use Rattle.port_laws.specs.Cases.{Case, case_link, c1, c2, c4, c5, sample, c7, c8, c9, c10, c11, c12, case_tagged, case_untagged, frames_case, long_frames_case, withdraw_case}

-- the reply that is expected to call number n of a case, and the rule's reply to arrival number n of a stream with P = 200
abbrev expected_of : Case → ℕ → Reply
expected_of c n = get_or c.expected n (refused_by 98)

abbrev by_rule : List StreamEvent → ℕ → Reply
by_rule es n = get_or (replies (least_queues - 1) (reserve_of 200) es) n (refused_by 99)

-- a call of a case by its number; what it comes with: a number, L, P or a charge, and a tag
abbrev call_of : Case → ℕ → Call
call_of c n = get_or c.calls n ticking

abbrev given_in : Call → ℕ × ℕ
given_in (opening t) = (t.link, 0)
given_in (reserving s permitted) = (permitted, 0)
given_in (withdrawing s) = (0, 0)
given_in (arriving s charge tag) = (charge, tag)
given_in ticking = (0, 0)
given_in transmitting = (0, 0)
given_in (joining_best_effort charge tag) = (charge, tag)
given_in (binding s address vid) = (0, 0)
given_in (framing octets tag) = (0, tag)

abbrev number_in : Call → ℕ
number_in c = (given_in c).0

abbrev tag_of : Call → ℕ
tag_of c = (given_in c).1

-- C1 and C2 are at the ends of L, each with the number beside it
c1_least : number_in (call_of c1 1) ≡ link_of least_charge
c1_least = refl

c1_below : number_in (call_of c1 0) + 1 ≡ link_of least_charge
c1_below = refl

c2_greatest : number_in (call_of c2 1) ≡ link_of greatest_share
c2_greatest = refl

c2_above : number_in (call_of c2 0) ≡ link_of greatest_share + 1
c2_above = refl

-- their shares, and what P = 200 and P = 400 leave of that of C4
c1_share : (expected_of c1 1).first ≡ share_of (number_in (call_of c1 1))
c1_share = refl

c2_share : (expected_of c2 1).first ≡ share_of (number_in (call_of c2 1))
c2_share = refl

c4_rest : (expected_of c4 3).first ≡ share_of case_link - (200 + 400)
c4_rest = refl

-- C5 to C10 by the rule of one stream
c5_left : (expected_of c5 2).second ≡ (by_rule (arrival 200 ∷ []) 0).second
unfolding attempt arrive_of
c5_left = refl

c7_place : (expected_of c7 5).first ≡ (by_rule (arrival 120 ∷ arrival 100 ∷ arrival 90 ∷ arrival 84 ∷ []) 3).first
unfolding attempt arrive_of
c7_place = refl

c8_refusal : (expected_of c8 5).refusal ≡ (by_rule (arrival 200 ∷ arrival 200 ∷ arrival 200 ∷ arrival 84 ∷ []) 3).refusal
unfolding attempt arrive_of
c8_refusal = refl

c9_place : (expected_of c9 7).first ≡ (by_rule (arrival 200 ∷ arrival 200 ∷ arrival 200 ∷ arrival 84 ∷ tick ∷ arrival 84 ∷ []) 4).first
unfolding attempt arrive_of tick_of
c9_place = refl

c10_refusal : (expected_of c10 3).refusal ≡ (by_rule (arrival 201 ∷ arrival 84 ∷ []) 1).refusal
unfolding attempt arrive_of
c10_refusal = refl

-- the frames of the sample are sent in the order of their arrivals
sample_tag : (expected_of sample 4).second ≡ tag_of (call_of sample 2)
sample_tag = refl

-- C11 is beside the ends of a charge, and C12 begins with the greatest
c11_below : number_in (call_of c11 2) + 1 ≡ least_charge
c11_below = refl

c11_above : number_in (call_of c11 3) ≡ greatest_charge + 1
c11_above = refl

c12_greatest : number_in (call_of c12 2) ≡ greatest_charge
c12_greatest = refl

-- K times what is not reserved of L is best effort's limit there: the second frame reaches it, and a third is above
c12_waits : (expected_of c12 3).first ≡ 1 * (case_link - 200)
c12_waits = refl

c12_refusal : (expected_of c12 4).refusal ≡ cond (ltb (1 * (case_link - 200)) (greatest_charge + 400 + 84)) 16 0
c12_refusal = refl

-- a withdrawn stream's number is free after as many ticks as a port has queues, and its share with it
drains_still : (expected_of withdraw_case (3 + 2 * (least_queues - 1))).refusal ≡ 25
drains_still = refl

free_then : (expected_of withdraw_case (3 + 2 * least_queues)).first ≡ share_of case_link - 200
free_then = refl

-- a Frame's charge, to its stream and to best effort
frame_left : (expected_of frames_case 3).second ≡ (by_rule (arrival (charge_of (case_tagged 60)) ∷ []) 0).second
unfolding attempt arrive_of charge_of
frame_left = refl

frame_waits : (expected_of frames_case 4).first ≡ charge_of (case_untagged 60)
unfolding charge_of
frame_waits = refl

-- the long ones: the longest is as much as the stream may have in an epoch, and as much as the limit leaves best effort; one octet more is no frame
long_share : (expected_of long_frames_case 0).first ≡ share_of (number_in (call_of long_frames_case 0))
long_share = refl

long_left : (expected_of long_frames_case 3).second ≡ charge_of (case_tagged 1996)
unfolding charge_of
long_left = refl

long_refusal : (expected_of long_frames_case 4).refusal ≡ cond (length_fits (case_tagged 1997)) 0 17
unfolding length_fits
long_refusal = refl

long_waits : (expected_of long_frames_case 5).first ≡ 1 * (number_in (call_of long_frames_case 0) - number_in (call_of long_frames_case 1))
long_waits = refl

long_next : (expected_of long_frames_case 6).second ≡ number_in (call_of long_frames_case 1) - charge_of (case_tagged 1519)
unfolding charge_of
long_next = refl
