-- What the theorems on lists say of the lists with a withdrawal. Assumes nothing.
use Prim.Native.Nat.{ℕ}
use mathlib.Core.Path.{◌≡◌, refl, sym, ap, subst, ◌∙◌}
use mathlib.Core.Logic.{◌⊎◌, inl, inr, ⊎_elim}
use mathlib.Core.List.{List, [], ◌∷◌, ◌++◌}
use native.Mathlib.Omega.{arith}
use Rattle.lists.specs.Each.{All, Some}
use Rattle.lists.proofs.EachLaws.{all_rest, differ}
use Rattle.lists.proofs.Order.{eq_or_not}
use Rattle.stream.specs.declared.Reply.{Reply}
use Rattle.stream.specs.Replies.{granted, refused_by}
use Rattle.stream.specs.State.{least_queues}
use Rattle.stream.specs.Alone.{arrival}
use Rattle.record.specs.Queues.{queues_at}
use Rattle.steps.specs.Call.{reserving, arriving, ticking}
use Rattle.guarantee.specs.Events.{Sent, reserved_sent, Event}
use Rattle.guarantee.specs.Claims.{LinkCondition, PurgesNothing, Sends, Prompt, answers}
use Rattle.guarantee.specs.Withdrawal.{RefusedAsDraining, NotGranted, RefusedAsFree, WithdrawalHolds}
use Rattle.guarantee.specs.Instances.{replied, quiet_tick, withdrawal_of_5}
use Rattle.guarantee.proofs.Theorem.{withdrawals}
use Rattle.guarantee_examples.specs.Examples.{Happens}
use Rattle.guarantee_examples.specs.LeftOpen.{transmitted, busy_last_arrival, third_frame, purges_none}
use Rattle.guarantee_examples.specs.AddUp.{replies_alone}
use Rattle.guarantee_examples.specs.Withdrawn.{draining_reply, free_reply, handed_before, handed_third, handed_to_third, handed_to_fourth_tick, handed_grant, handed_last_arrival, handed_epochs, handed_to_last_tick, handed_after, handed_from_grant, handed_with, handed_frame, handed_last, withdrawn_opening, withdrawn_grant, leaving_to_first, leaving_second, leaving_to_second_tick, leaving_after, leaving_with, leaving_frame, leaving, left_alone_with, leaving_answers, tried_before, tried_while, tried_free, tried_reserved, tried_arrival, tried_after, tried_with}
use Rattle.guarantee_examples.specs.WithdrawnShown.{WithdrawnSays}
use Rattle.guarantee_examples.proofs.LinkTest.{link_holds}
use Rattle.guarantee_examples.proofs.OffersTest.{within_holds}
use Rattle.guarantee_examples.proofs.StaysTest.{stays_hold}
use Rattle.guarantee_examples.proofs.Applied.{by_numbers, promised_of, alike_of, replied_alone_of, only}
use Rattle.guarantee_examples.proofs.WithdrawnHappen.{withdrawn_happen}

module _ (s : ℕ) (sent : Sent) (said shown : Reply) where
  abbrev unknown : Event
  unknown = transmitted sent said shown

  -- from `all_sent`, the last frame of the stream that is withdrawn
  third_sends : Happens (handed_with s unknown (granted 0 0) (handed_last s) (granted 0 0)) → LinkCondition 84 (handed_with s unknown (granted 0 0) (handed_last s) (granted 0 0))
      → Some (Sends third_frame) (handed_to_fourth_tick unknown)
  third_sends happens link =
      (promised_of (handed_with s unknown (granted 0 0) (handed_last s) (granted 0 0)) happens link).all_sent
      handed_before (handed_to_fourth_tick unknown ++ (quiet_tick ∷ handed_from_grant s (handed_last s) (granted 0 0))) busy_last_arrival
      5 84 7 refl refl refl (handed_to_fourth_tick unknown) (handed_from_grant s (handed_last s) (granted 0 0)) quiet_tick refl refl refl

  -- and of the one that has the share after it
  abbrev before_last_arrival : List Event
  before_last_arrival = handed_before ++ (busy_last_arrival ∷ (handed_to_fourth_tick handed_third ++ (quiet_tick ∷ handed_grant s)))

  last_sends : Happens (handed_with s handed_third (granted 0 0) unknown (granted 0 0)) → LinkCondition 84 (handed_with s handed_third (granted 0 0) unknown (granted 0 0))
      → Some (Sends (handed_frame s)) (handed_to_last_tick s unknown)
  last_sends happens link =
      (promised_of (handed_with s handed_third (granted 0 0) unknown (granted 0 0)) happens link).all_sent
      before_last_arrival (handed_after s unknown (granted 0 0)) (handed_last_arrival s)
      s 84 8 refl refl refl (handed_to_last_tick s unknown) [] quiet_tick refl refl refl

-- a tick that purges nothing, by its numbers
quiet : (reply : Reply) → reply ≡ granted 0 0 → reply ≡ purges_none
quiet reply z =
    by_numbers reply purges_none (omega (arith, ap (λ (r : Reply). r.refusal) z)) (omega (arith, ap (λ (r : Reply). r.first) z)) (omega (arith, ap (λ (r : Reply). r.second) z))

module _ (s : ℕ) (fourth reply : Reply) (happens : Happens (handed_with s handed_third fourth (handed_last s) reply)) where
  -- from `no_purge`
  no_purges : All PurgesNothing (handed_with s handed_third fourth (handed_last s) reply)
  no_purges =
      let es = handed_with s handed_third fourth (handed_last s) reply in
      (promised_of es happens (link_holds 84 es refl)).no_purge

  abbrev to_fourth_tick : List Event
  to_fourth_tick = handed_before ++ (busy_last_arrival ∷ handed_to_fourth_tick handed_third)

  abbrev from_fourth_tick : List Event
  from_fourth_tick = replied ticking fourth ∷ (handed_grant s ++ (handed_last_arrival s ∷ handed_to_last_tick s (handed_last s)))

  zeros : (fourth ≡ purges_none) × (reply ≡ purges_none)
  zeros = (
    quiet fourth ((all_rest PurgesNothing to_fourth_tick (replied ticking fourth ∷ handed_from_grant s (handed_last s) reply) no_purges).0 refl),
    quiet reply ((all_rest PurgesNothing (to_fourth_tick ++ from_fourth_tick) (replied ticking reply ∷ []) no_purges).0 refl),
  )

module _ (reply : Reply) (sent : Sent) (said shown : Reply) (happens : Happens (leaving_with reply (transmitted sent said shown))) where
  abbrev first : Event
  first = transmitted sent said shown

  abbrev arrives : Event
  arrives = replied (arriving 5 120 7) reply

  -- from `prompt`, of the one event from the grant to the withdrawal
  leaving_prompt : LinkCondition 600 (leaving_with reply first) → Prompt leaving_frame arrives (leaving_after first)
  leaving_prompt link =
      (promised_of (leaving_with reply first) happens link).prompt 5 200 withdrawn_opening (arrives ∷ []) (leaving_after first) withdrawn_grant refl refl refl
      (within_holds 5 200 (arrives ∷ []) refl) (stays_hold 5 (arrives ∷ []) refl) [] [] arrives 120 7 refl refl refl

  leaving_sent : LinkCondition 600 (leaving_with reply first) → sent ≡ reserved_sent leaving_frame
  leaving_sent link =
      only leaving_frame leaving_to_first leaving_second first refl refl
      ((leaving_prompt link).1.1 (leaving_to_second_tick first) [] quiet_tick refl refl refl)

  -- from `replied_as_alone`
  leaving_replied : reply ∷ [] ≡ replies_alone 200 (arrival 120 ∷ [])
  leaving_replied =
      replied_alone_of (leaving_with reply first) happens 5 200 withdrawn_opening (arrives ∷ []) (leaving_after first) withdrawn_grant refl refl refl
      (stays_hold 5 (arrives ∷ []) refl)

-- the replies to the arrivals of `leaving`
leaving_answers_lem : answers 5 leaving ≡ leaving_answers
leaving_answers_lem = refl

module _ (first second third fourth fifth sixth seventh last : Reply) (happens : Happens (tried_with first second third fourth fifth sixth seventh last)) where
  abbrev while : List Event
  while = tried_while first second third fourth

  -- from `withdrawals`, on a port with four queues
  holds : WithdrawalHolds least_queues (tried_with first second third fourth fifth sixth seventh last)
  unfolding queues_at
  holds = subst (WithdrawalHolds least_queues) happens.so (withdrawals happens.list)

  refused_draining : All (RefusedAsDraining 5) while
  refused_draining = holds.draining 5 tried_before while (quiet_tick ∷ tried_after fifth sixth seventh last) withdrawal_of_5 refl (refl, refl) (omega arith)

  draining_replies : first ∷ second ∷ third ∷ fourth ∷ [] ≡ draining_reply ∷ draining_reply ∷ draining_reply ∷ draining_reply ∷ []
  draining_replies =
      let d = refused_draining in
      rw (d.0 refl, d.1.1.1.0 refl, d.1.1.1.1.1.1.0 refl, d.1.1.1.1.1.1.1.1.1.0 refl)

  -- after the fourth tick: as far as no reservation is granted
  refused_free : (after rest : List Event) → tried_after fifth sixth seventh last ≡ after ++ rest → All (NotGranted 5) after → All (RefusedAsFree 5) after
  refused_free after rest split none =
      holds.free 5 tried_before while after rest withdrawal_of_5 quiet_tick
      (ap (λ (es : List Event). tried_before ++ (withdrawal_of_5 ∷ (while ++ (quiet_tick ∷ es)))) split) (refl, refl) refl refl none

  free_replies : fifth ∷ sixth ∷ [] ≡ free_reply ∷ free_reply ∷ []
  free_replies =
      let f = refused_free (tried_free fifth sixth) (tried_reserved seventh last ++ (tried_arrival ∷ [])) refl
      (λ e. differ (sym e), (λ e. differ (sym e), (λ e. differ (sym e), tt))) in
      rw (f.1.0.0 refl, f.1.1.0.0 refl)

  asked_alone : (seventh.refusal ≡ 0) ⊎ ((seventh ≡ refused_by 7) ⊎ (seventh ≡ refused_by 8))
  asked_alone =
      ⊎_elim (λ (z : seventh.refusal ≡ 0). inl z)
      (λ (no : seventh.refusal ≡ 0 → ⊥). inr ((refused_free (tried_free fifth sixth ++ (replied (reserving 5 83) seventh ∷ [])) (replied (reserving 5 200) last ∷ tried_arrival ∷ []) refl
      (λ e. differ (sym e), (λ e. differ (sym e), (λ e. differ (sym e), (λ e. no, tt))))).1.1.1.0.1 refl))
      (eq_or_not seventh.refusal 0)

-- with the first reservation refused, the last one granted: else the arrival after it would be refused
last_granted : (first second third fourth fifth sixth last : Reply) → Happens (tried_with first second third fourth fifth sixth (refused_by 7) last) → last.refusal ≡ 0
last_granted first second third fourth fifth sixth last happens =
    ⊎_elim (λ (z : last.refusal ≡ 0). z)
    (λ (no : last.refusal ≡ 0 → ⊥).
    (let f = refused_free first second third fourth fifth sixth (refused_by 7) last happens (tried_after fifth sixth (refused_by 7) last) [] refl
    (λ e. differ (sym e), (λ e. differ (sym e), (λ e. differ (sym e), (λ e z. omega (arith, z), (λ e. no, (λ e. differ (sym e), tt)))))) in
    let z : ◌≡◌ {A = ℕ} 0 12 = ap (λ (r : Reply). r.refusal) (f.1.1.1.1.1.0.0 refl) in
    absurd (omega arith)))
    (eq_or_not last.refusal 0)

pub withdrawn_says : WithdrawnSays
withdrawn_says =
    record {
      handed_third_lem = λ s sent said shown happens link.
          only third_frame handed_to_third [] (transmitted sent said shown) refl refl (third_sends s sent said shown happens link);
      handed_last_lem = λ s sent said shown happens link.
          only (handed_frame s) (handed_epochs s) [] (transmitted sent said shown) refl refl (last_sends s sent said shown happens link);
      handed_zeros = zeros;
      leaving_joins = λ reply sent said shown happens link. let p = leaving_prompt reply sent said shown happens link in (p.0, omega (arith, p.1.0));
      leaving_sends = leaving_sent;
      leaving_alone = leaving_replied;
      alike_withdrawn = λ first second happens.
          sym (alike_of leaving withdrawn_happen.leaving_happens (left_alone_with first second) 5 happens refl refl) ∙ leaving_answers_lem;
      tried_draining = draining_replies;
      tried_free_lem = free_replies;
      tried_asked = asked_alone;
      tried_granted = last_granted;
    }
