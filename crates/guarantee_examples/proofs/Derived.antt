-- What demand 3 says of the lists with open parts. Assumes nothing.
use Prim.Native.Nat.{ℕ}
use mathlib.Core.Path.{◌≡◌, refl, sym, ap, subst, ◌∙◌}
use mathlib.Core.List.{List, [], ◌∷◌, ◌++◌}
use native.Mathlib.Omega.{arith}
use Rattle.lists.specs.Each.{All, Some}
use Rattle.lists.proofs.EachLaws.{all_rest}
use Rattle.stream.specs.declared.Reply.{Reply}
use Rattle.stream.specs.Replies.{granted, refused_by}
use Rattle.steps.specs.Call.{arriving, ticking}
use Rattle.guarantee.specs.Events.{Sent, reserved_sent, Event}
use Rattle.guarantee.specs.Claims.{SameRecord, LinkCondition, PurgesNothing, SaysWhatItSends, Sends, Prompt, OffersWithin}
use Rattle.guarantee.specs.Instances.{replied}
use Rattle.guarantee_examples.specs.Examples.{Happens, permitted200}
use Rattle.guarantee_examples.specs.LeftOpen.{transmitted, crowded_opening, crowded_grant, crowded_before, crowded_between, crowded_fourth, crowded_to_second_tick, crowded_after, crowded_with, crowded_frame, crowded_place, crowded, busy_before, busy_next_arrival, busy_last_arrival, busy_to_third_tick, busy_to_fourth_tick, busy_after, busy_with, third_frame, busy_second, busy_third, purges_none, alone_with, arrived_with, discards, too_short, unfit, queue_full}
use Rattle.guarantee_examples.specs.Derived.{DemandSays}
use Rattle.guarantee_examples.proofs.LinkTest.{link_holds}
use Rattle.guarantee_examples.proofs.OffersTest.{within_holds}
use Rattle.guarantee_examples.proofs.StaysTest.{stays_hold}
use Rattle.guarantee_examples.proofs.AddUp.{crowded_six}
use Rattle.guarantee_examples.proofs.Applied.{by_numbers, promised_of, alike_of, records_of, says_of, marks_of, not_by_host_of, only}
use Rattle.guarantee_examples.proofs.OpenPartsHappen.{crowded_made, list_of, happened}

module _ (reply : Reply) (sent : Sent) (said shown : Reply) where
  abbrev third : Event
  third = transmitted sent said shown

  -- the events after the grant of stream 5
  abbrev granted5 : List Event
  granted5 = crowded_before ++ (replied (arriving 5 120 7) reply ∷ crowded_after third)

  -- from `prompt`
  crowded_prompt : Happens (crowded_with reply third) → LinkCondition 600 (crowded_with reply third)
      → Prompt crowded_frame (replied (arriving 5 120 7) reply) (crowded_after third)
  crowded_prompt happens link =
      (promised_of (crowded_with reply third) happens link).prompt 5 200 crowded_opening granted5 [] crowded_grant refl refl refl
      (within_holds 5 200 granted5 refl) (stays_hold 5 granted5 refl) crowded_before (crowded_after third) (replied (arriving 5 120 7) reply) 120 7 refl refl refl

  crowded_sends : Happens (crowded_with reply third) → LinkCondition 600 (crowded_with reply third)
      → Some (Sends crowded_frame) (crowded_to_second_tick third)
  crowded_sends happens link = (crowded_prompt happens link).1.1 (crowded_to_second_tick third) [] (replied ticking (granted 0 0)) refl refl refl

module _ (sent : Sent) (said shown : Reply) where
  abbrev busy_last : Event
  busy_last = transmitted sent said shown

  -- from `all_sent`
  busy_sends : Happens (busy_with busy_second busy_last purges_none) → LinkCondition 84 (busy_with busy_second busy_last purges_none)
      → Some (Sends third_frame) (busy_to_fourth_tick busy_second busy_last)
  busy_sends happens link =
      (promised_of (busy_with busy_second busy_last purges_none) happens link).all_sent
      (busy_before ++ (busy_next_arrival ∷ [])) (busy_after busy_second busy_last purges_none) busy_last_arrival
      5 84 7 refl refl refl (busy_to_fourth_tick busy_second busy_last) [] (replied ticking purges_none) refl refl refl

-- from `no_purge`
fourth_tick : (reply : Reply) → Happens (busy_with busy_second busy_third reply) → reply ≡ purges_none
fourth_tick reply happens =
    let z = (all_rest PurgesNothing (busy_before ++ (busy_next_arrival ∷ busy_last_arrival ∷ busy_to_fourth_tick busy_second busy_third)) (replied ticking reply ∷ [])
    (promised_of (busy_with busy_second busy_third reply) happens (link_holds 84 (busy_with busy_second busy_third reply) refl)).no_purge).0 refl in
    by_numbers reply purges_none (omega (arith, ap (λ (r : Reply). r.refusal) z)) (omega (arith, ap (λ (r : Reply). r.first) z)) (omega (arith, ap (λ (r : Reply). r.second) z))

-- `crowded` as it was made
crowded_happens : Happens crowded
crowded_happens = record { list = list_of crowded_made; so = happened crowded_made }

-- the events of `crowded` before its third transmit
abbrev before_third : List Event
before_third = crowded_opening ++ (crowded_grant ∷ (crowded_before ++ (replied (arriving 5 120 7) (granted crowded_place 80) ∷ crowded_between)))

-- from `says`
third_says : (said shown : Reply) → Happens (crowded_with (granted crowded_place 80) (transmitted (reserved_sent crowded_frame) said shown))
    → (said ≡ granted 5 7) × (shown ≡ granted 5 10)
third_says said shown happens =
    let third = transmitted (reserved_sent crowded_frame) said shown in
    (all_rest SaysWhatItSends before_third (third ∷ (crowded_fourth ++ (replied ticking (granted 0 0) ∷ []))) (says_of (crowded_with (granted crowded_place 80) third) happens)).0 refl

-- from `marks`, and from `not_by_host`
discard_marked : (shown : Reply) → Happens (arrived_with (refused_by discards) shown) → shown ≡ refused_by discards
discard_marked shown happens = (marks_of (arrived_with (refused_by discards) shown) happens).1.1.0 refl

never : (number : ℕ) → Happens (arrived_with (refused_by number) (refused_by number)) → (number ≡ 18 → ⊥) × ((number ≡ 19 → ⊥) × (number ≡ 20 → ⊥))
never number happens = (not_by_host_of (arrived_with (refused_by number) (refused_by number)) happens).1.1.0

-- stream 6 offers three times its P, and 84 more, before the first tick
six_offers : OffersWithin 6 200 crowded_before → ⊥
six_offers within = let z = within [] crowded_before [] refl (refl, (refl, (refl, (refl, (refl, (refl, (refl, (refl, tt)))))))) in omega arith

pub demand_says : DemandSays
demand_says =
    record {
      prompt_joins = λ reply sent said shown happens link. let p = crowded_prompt reply sent said shown happens link in (p.0, omega (arith, p.1.0));
      prompt_sends = crowded_sends;
      prompt_sends_third = λ reply sent said shown happens link.
          only crowded_frame crowded_between crowded_fourth (transmitted sent said shown) refl refl (crowded_sends reply sent said shown happens link);
      prompt_not_sooner = λ sooner. sooner [] _ (replied ticking (granted 0 0)) refl refl (omega arith);
      prompt_six_offers = six_offers;
      all_sent_third = λ sent said shown happens link.
          only third_frame (busy_to_third_tick busy_second ++ (replied ticking (granted 0 0) ∷ [])) [] (transmitted sent said shown) refl refl
          (busy_sends sent said shown happens link);
      no_purge_zeros = fourth_tick;
      alike_six = λ first second third fourth happens.
          sym (alike_of crowded crowded_happens (alone_with first second third fourth) 6 happens refl refl) ∙ crowded_six;
      records_same = λ happens before after x split.
          (all_rest SameRecord before (x ∷ after) (subst (All SameRecord) split (records_of permitted200 happens))).0;
      says_frame = third_says;
      marks_discard = discard_marked;
      never_18 = λ happens. (never too_short happens).0 (omega arith);
      never_19 = λ happens. (never unfit happens).1.0 (omega arith);
      never_20 = λ happens. (never queue_full happens).1.1 (omega arith);
    }
