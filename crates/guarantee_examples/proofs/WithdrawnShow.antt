-- What the lists with a withdrawal show. Assumes nothing.
use Prim.Native.Nat.{ℕ, ◌+◌, ◌-◌}
use mathlib.Core.Path.{◌≡◌, refl, sym, ap}
use mathlib.Core.Logic.{⊎_elim}
use mathlib.Core.List.{List, [], ◌∷◌, ◌++◌}
use native.Mathlib.Omega.{arith}
use Rattle.lists.specs.Each.{All}
use Rattle.lists.proofs.EachLaws.{all_rest, differ}
use Rattle.stream.specs.declared.Reply.{Reply}
use Rattle.stream.specs.State.{least_queues}
use Rattle.stream.specs.Replies.{granted, refused_by}
use Rattle.stream.specs.Steps.{attempt, arrive_of}
use Rattle.steps.specs.Call.{reserving, arriving, ticking}
use Rattle.guarantee.specs.Events.{Event}
use Rattle.guarantee.specs.Claims.{PurgesNothing, answers}
use Rattle.guarantee.specs.Own.{own, own_replies}
use Rattle.guarantee.specs.Withdrawal.{RefusedAsDraining, DrainsUntil, FreeFrom}
use Rattle.guarantee.specs.Instances.{replied, quiet_tick, withdrawal_of_5}
use Rattle.guarantee_examples.specs.Examples.{permitted200}
use Rattle.guarantee_examples.specs.LeftOpen.{busy_last_arrival, busy_to_second_tick}
use Rattle.guarantee_examples.specs.AddUp.{replies_alone}
use Rattle.guarantee_examples.specs.Withdrawn.{handed_before, handed_second, handed_third, handed, withdrawn_opening, withdrawn_grant, withdrawn_arrival, withdrawn_after, withdrawn, remaining_others, tried_before, tried_to_third_tick, tried_third_epoch, tried_while, tried_free, tried_reserved, tried_arrival, tried_after, tried, hurry}
use Rattle.guarantee_examples.specs.WithdrawnShown.{PromptBeyond, FreeBeyond, WithdrawnShow}
use Rattle.guarantee_examples.proofs.LinkTest.{link_holds}
use Rattle.guarantee_examples.proofs.OffersTest.{within_holds}
use Rattle.guarantee_examples.proofs.ExamplesShow.{first_refusal}
use Rattle.guarantee_examples.proofs.WithdrawnHappen.{withdrawn_happen}

-- but for the withdrawal the stream's calls are the same
same_calls : remaining_others 5 permitted200 ≡ remaining_others 5 withdrawn
same_calls = refl

-- the arrival is accepted without the withdrawal, and refused as draining after it
answers_differ : answers 5 permitted200 ≡ answers 5 withdrawn → ⊥
answers_differ e = let z : ◌≡◌ {A = ℕ} 0 25 = ap first_refusal e in omega arith

-- a promise that did not end there would have it accepted
not_prompt : PromptBeyond withdrawn → ⊥
not_prompt prompt =
    let z = prompt 5 200 withdrawn_opening withdrawn_after [] withdrawn_grant refl refl refl (within_holds 5 200 withdrawn_after refl)
    (withdrawal_of_5 ∷ []) [] withdrawn_arrival 120 7 refl refl refl in
    omega (arith, z.0)

-- and so would the stream by itself
not_alone : own_replies 5 withdrawn_after ≡ replies_alone 200 (own 5 withdrawn_after) → ⊥
unfolding attempt arrive_of
not_alone e = let z : ◌≡◌ {A = ℕ} 25 0 = ap first_refusal e in omega arith

-- after the fourth tick an arrival is refused, and not as draining
not_longer : DrainsUntil (least_queues + 1) tried → ⊥
not_longer drains =
    let while = tried_while (refused_by 25) (refused_by 25) (refused_by 25) (refused_by 25) ++ (quiet_tick ∷ tried_free (refused_by 12) (refused_by 12)) in
    let d = drains 5 tried_before while (tried_reserved (refused_by 7) (granted 400 0) ++ (tried_arrival ∷ [])) withdrawal_of_5 refl (refl, refl) (omega arith) in
    let z : ◌≡◌ {A = ℕ} 12 25 = ap (λ (r : Reply). r.refusal) ((all_rest (RefusedAsDraining 5) (tried_while (refused_by 25) (refused_by 25) (refused_by 25) (refused_by 25) ++ (quiet_tick ∷ [])) (tried_free (refused_by 12) (refused_by 12)) d).1.0 refl) in
    omega arith

-- after the third tick a reservation is refused, and not for its P
not_sooner : FreeFrom (least_queues - 1) tried → ⊥
not_sooner free =
    let f = free 5 tried_before (tried_to_third_tick (refused_by 25) (refused_by 25) (refused_by 25)) (tried_third_epoch (refused_by 25))
    (quiet_tick ∷ tried_after (refused_by 12) (refused_by 12) (refused_by 7) (granted 400 0)) withdrawal_of_5 quiet_tick refl (refl, refl) refl refl
    (λ e. differ (sym e), (λ e z. omega (arith, z), tt)) in
    ⊎_elim
    (λ (e : refused_by 25 ≡ refused_by 7). (let z : ◌≡◌ {A = ℕ} 25 7 = ap (λ (r : Reply). r.refusal) e in omega arith))
    (λ (e : refused_by 25 ≡ refused_by 8). (let z : ◌≡◌ {A = ℕ} 25 8 = ap (λ (r : Reply). r.refusal) e in omega arith))
    (f.1.0.1 refl)

-- after the stream is reserved again its frame is accepted
not_beyond : FreeBeyond least_queues tried → ⊥
not_beyond free =
    let f = free 5 tried_before (tried_while (refused_by 25) (refused_by 25) (refused_by 25) (refused_by 25)) (tried_after (refused_by 12) (refused_by 12) (refused_by 7) (granted 400 0)) []
    withdrawal_of_5 quiet_tick refl (refl, refl) refl refl in
    let z : ◌≡◌ {A = ℕ} 0 12 = ap (λ (r : Reply). r.refusal) (f.1.1.1.1.1.0.0 refl) in
    omega arith

-- what comes before the last tick of the machine that drains for two ticks fewer
abbrev hurry_before : List Event
hurry_before =
    handed_before
    ++ (busy_last_arrival ∷ withdrawal_of_5 ∷ (busy_to_second_tick
    ++ (quiet_tick ∷ replied (reserving 6 84) (granted 0 0) ∷ replied (arriving 6 84 8) (granted 1 84) ∷ handed_second ∷ quiet_tick ∷ handed_third ∷ [])))

hurry_purged : All PurgesNothing hurry → ⊥
hurry_purged none =
    let z : ◌≡◌ {A = ℕ} 1 0 = ap (λ (r : Reply). r.first) ((all_rest PurgesNothing hurry_before (replied ticking (granted 1 84) ∷ []) none).0 refl) in
    omega arith

pub withdrawn_show : WithdrawnShow
withdrawn_show =
    record {
      happen = withdrawn_happen;
      handed_6_links = link_holds 84 (handed 6) refl;
      handed_5_links = link_holds 84 (handed 5) refl;
      withdrawn_same_calls = same_calls;
      withdrawn_same_grants = refl;
      withdrawn_other_answers = answers_differ;
      withdrawn_offers = within_holds 5 200 withdrawn_after refl;
      withdrawn_not_prompt = not_prompt;
      withdrawn_not_alone = not_alone;
      tried_not_longer = not_longer;
      tried_not_sooner = not_sooner;
      tried_not_beyond = not_beyond;
      hurry_links = link_holds 84 hurry refl;
      hurry_purges = hurry_purged;
    }
