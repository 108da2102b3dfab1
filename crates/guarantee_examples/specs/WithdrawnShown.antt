-- What the lists with a withdrawal show: that demand 3 cannot promise more of a withdrawn stream than it does, nor a machine drain for much less; and what
-- follows of their open parts from the theorem that each comment names, and would be lost with it.
use Rattle.std.specs.Prelude.{ℕ, ◌+◌, ◌-◌, true, ◌≡◌, ◌⊎◌, List, [], ◌∷◌, ◌++◌, length}
use Rattle.lists.specs.Each.{All}
use Rattle.stream.specs.declared.Reply.{Reply}
use Rattle.stream.specs.State.{least_queues}
use Rattle.stream.specs.Replies.{granted, refused_by}
use Rattle.ranges.specs.Ranges.{charge_fits}
use Rattle.stream.specs.Alone.{arrival}
use Rattle.steps.specs.Call.{reserving, arriving}
use Rattle.port_laws.specs.Lists.{fresh_record, fresh_memory}
use Rattle.guarantee.specs.Events.{Sent, reserved_sent, Event, events}
use Rattle.guarantee.specs.Claims.{Tick, tick_count, LinkCondition, PurgesNothing, OffersWithin, Prompt, grants, answers}
use Rattle.guarantee.specs.Own.{own, own_replies}
use Rattle.guarantee.specs.Withdrawal.{WithdrawalOf, DrainsUntil, RefusedAsFree, FreeFrom}
use Rattle.guarantee_examples.specs.Examples.{Happens, permitted200, calls_of}
use Rattle.guarantee_examples.specs.LeftOpen.{transmitted, crowded_place, third_frame, purges_none}
use Rattle.guarantee_examples.specs.AddUp.{replies_alone}
use Rattle.guarantee_examples.specs.Withdrawn.{draining_reply, free_reply, handed_third, handed_with, handed_frame, handed_last, handed, withdrawn_after, withdrawn, remaining_others, leaving_with, leaving_frame, leaving, left_alone_with, leaving_answers, left_alone, tried_with, tried, hurriedly, hurry}

-- the lists happen with the open parts as they are written: the share goes to another stream, and to the same number again
pub record WithdrawnHappen : Type 0 where
  pub handed_to_6 : Happens (handed 6)
  pub handed_to_5 : Happens (handed 5)
  pub withdrawn_happens : Happens withdrawn
  pub leaving_happens : Happens leaving
  pub left_alone_happens : Happens left_alone
  pub tried_happens : Happens tried
  pub hurry_happens : events hurriedly (calls_of hurry) fresh_record fresh_memory ≡ hurry

-- what `ConformingPrompt` would say if it did not end at the withdrawal
abbrev pub PromptBeyond : List Event → Type 0
PromptBeyond es =
    (s permitted : ℕ) (before while rest : List Event) (g : Event) → es ≡ before ++ (g ∷ (while ++ rest))
    → g.call ≡ reserving s permitted → g.reply.refusal ≡ 0 → OffersWithin s permitted while
    → (earlier later : List Event) (e : Event) (charge tag : ℕ) → while ≡ earlier ++ (e ∷ later)
    → e.call ≡ arriving s charge tag → charge_fits charge ≡ true
    → Prompt (record { stream = s; charge = charge; tag = tag; number = length before + 1 + length earlier }) e (later ++ rest)

-- what `FreeFrom` would say if a reservation that is granted again did not end it
abbrev pub FreeBeyond : ℕ → List Event → Type 0
FreeBeyond queues es =
    (s : ℕ) (before while after rest : List Event) (g t : Event) → es ≡ before ++ (g ∷ (while ++ (t ∷ (after ++ rest))))
    → WithdrawalOf s g → tick_count while + 1 ≡ queues → Tick t
    → All (RefusedAsFree s) after

pub record WithdrawnShow : Type 0 where
  pub happen : WithdrawnHappen
  -- the link condition is met, before the share is granted again and after it
  pub handed_6_links : LinkCondition 84 (handed 6)
  pub handed_5_links : LinkCondition 84 (handed 5)
  -- a stream's withdrawals are among its own calls: two lists that differ in a Withdraw alone give its arrival other replies
  pub withdrawn_same_calls : remaining_others 5 permitted200 ≡ remaining_others 5 withdrawn
  pub withdrawn_same_grants : grants 5 permitted200 ≡ grants 5 withdrawn
  pub withdrawn_other_answers : answers 5 permitted200 ≡ answers 5 withdrawn → ⊥
  -- the promise to a conforming stream ends at its withdrawal, and so do the replies of the stream by itself
  pub withdrawn_offers : OffersWithin 5 200 withdrawn_after
  pub withdrawn_not_prompt : PromptBeyond withdrawn → ⊥
  pub withdrawn_not_alone : own_replies 5 withdrawn_after ≡ replies_alone 200 (own 5 withdrawn_after) → ⊥
  -- a later tick cannot be said to end the draining, nor an earlier one, and the stream is free only until it is reserved again
  pub tried_not_longer : DrainsUntil (least_queues + 1) tried → ⊥
  pub tried_not_sooner : FreeFrom (least_queues - 1) tried → ⊥
  pub tried_not_beyond : FreeBeyond least_queues tried → ⊥
  -- demand 3 is false of a machine whose withdrawn streams drain for two ticks fewer than there are queues
  pub hurry_links : LinkCondition 84 hurry
  pub hurry_purges : All PurgesNothing hurry → ⊥

-- what follows from the theorems on lists
pub record WithdrawnSays : Type 0 where
  -- `all_sent`: the last frame of the withdrawn stream is sent before the tick that frees it, and the last one of the stream that has the share after
  -- that before the fourth tick after it
  pub handed_third_lem : (s : ℕ) (sent : Sent) (said shown : Reply) → let es = handed_with s (transmitted sent said shown) (granted 0 0) (handed_last s) (granted 0 0) in
      Happens es → LinkCondition 84 es → sent ≡ reserved_sent third_frame
  pub handed_last_lem : (s : ℕ) (sent : Sent) (said shown : Reply) → let es = handed_with s handed_third (granted 0 0) (transmitted sent said shown) (granted 0 0) in
      Happens es → LinkCondition 84 es → sent ≡ reserved_sent (handed_frame s)
  -- `no_purge`: neither the tick that frees it nor the fourth one after the grant purges
  pub handed_zeros : (s : ℕ) (fourth reply : Reply) → Happens (handed_with s handed_third fourth (handed_last s) reply) → (fourth ≡ purges_none) × (reply ≡ purges_none)
  -- `prompt`: a frame that a conforming stream offers before its withdrawal joins current, and is sent before the second tick, which comes after it
  pub leaving_joins : (reply : Reply) (sent : Sent) (said shown : Reply) → let es = leaving_with reply (transmitted sent said shown) in
      Happens es → LinkCondition 600 es → (reply.refusal ≡ 0) × (reply.first ≡ crowded_place)
  pub leaving_sends : (reply : Reply) (sent : Sent) (said shown : Reply) → let es = leaving_with reply (transmitted sent said shown) in
      Happens es → LinkCondition 600 es → sent ≡ reserved_sent leaving_frame
  -- `replied_as_alone`: until then the stream gets the replies that it gets by itself
  pub leaving_alone : (reply : Reply) (sent : Sent) (said shown : Reply) → Happens (leaving_with reply (transmitted sent said shown))
      → reply ∷ [] ≡ replies_alone 200 (arrival 120 ∷ [])
  -- `alike`: with a withdrawal among the stream's own calls, where L, K and the calls of all others differ
  pub alike_withdrawn : (first second : Reply) → Happens (left_alone_with first second) → first ∷ second ∷ [] ≡ leaving_answers
  -- `withdrawals`: a stream's own calls are refused as draining before each tick to the fourth ..
  pub tried_draining : (first second third fourth fifth sixth seventh last : Reply) → Happens (tried_with first second third fourth fifth sixth seventh last)
      → first ∷ second ∷ third ∷ fourth ∷ [] ≡ draining_reply ∷ draining_reply ∷ draining_reply ∷ draining_reply ∷ []
  -- .. and from it on as those of a free one, a reservation for its P alone ..
  pub tried_free_lem : (first second third fourth fifth sixth seventh last : Reply) → Happens (tried_with first second third fourth fifth sixth seventh last)
      → fifth ∷ sixth ∷ [] ≡ free_reply ∷ free_reply ∷ []
  pub tried_asked : (first second third fourth fifth sixth seventh last : Reply) → Happens (tried_with first second third fourth fifth sixth seventh last)
      → (seventh.refusal ≡ 0) ⊎ ((seventh ≡ refused_by 7) ⊎ (seventh ≡ refused_by 8))
  -- .. until one is granted, which it is before a frame is accepted
  pub tried_granted : (first second third fourth fifth sixth last : Reply) → Happens (tried_with first second third fourth fifth sixth (refused_by 7) last)
      → last.refusal ≡ 0
