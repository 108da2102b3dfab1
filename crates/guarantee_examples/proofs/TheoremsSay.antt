-- What the theorems beside demand 3 say of lists and records in hand. Assumes nothing.
use Prim.Native.Nat.{ℕ, ◌+◌, ◌-◌, ◌≤◌}
use mathlib.Core.Bool.{true, false}
use mathlib.Core.Path.{◌≡◌, refl, sym, ap, subst, ◌∙◌}
use mathlib.Core.Logic.{◌⊎◌, inl, inr}
use mathlib.Core.List.{List, [], ◌∷◌, ◌++◌, map}
use native.Mathlib.Omega.{arith}
use Rattle.lists.specs.Each.{Some}
use Rattle.lists.proofs.EachLaws.{all_rest}
use Rattle.stream.specs.declared.Reply.{Reply}
use Rattle.stream.specs.Replies.{granted}
use Rattle.stream.specs.State.{least_queues}
use Rattle.record.specs.Queues.{queues_at}
use Rattle.ranges.specs.Ranges.{least_charge, share_of, link_of}
use Rattle.header.specs.Header.{charge_of, length_fits, tagged_frame}
use Rattle.binding.specs.Finding.{frame_lookup}
use Rattle.lists.specs.Equal.{octets_equal}
use Rattle.lists.specs.Turns.{all_to}
use Rattle.steps.specs.Call.{terms, Call, opening, arriving, ticking, joining_best_effort, framing}
use Rattle.port.specs.Calls.{called}
use Rattle.port.specs.Quick.{quickly_called}
use Rattle.port_laws.specs.Lists.{replies, fresh_record, fresh_memory}
use Rattle.port_laws.proofs.FreshFit.{fresh_fits}
use Rattle.port_laws.proofs.QuickLaws.{quick_call}
use Rattle.port_laws.proofs.StayLaws.{stays_fit, granted_open_fits, quick_replies}
use Rattle.port_laws.proofs.FrameLaws.{frame_becomes, frame_refused, frame_not_17}
use Rattle.guarantee.specs.Events.{Sent, reserved_sent, made, Event, events_after}
use Rattle.guarantee.specs.Claims.{reserved_octets, Idle, LinkCondition, PurgesNothing, Sends, SentBefore}
use Rattle.guarantee.specs.Beyond.{SentByReply}
use Rattle.guarantee.specs.Demand3.{Promised}
use Rattle.guarantee.proofs.Theorem.{promised_by_less, sent_as_replied, quick_events_lem}
use Rattle.guarantee.specs.Instances.{replied}
use Rattle.guarantee_examples.specs.Examples.{Happens, untagged}
use Rattle.guarantee_examples.specs.LeftOpen.{transmitted, crowded_opening, crowded_grant, crowded_before, crowded_after, crowded_with, busy_before, busy_next_arrival, busy_last_arrival, busy_to_second_tick, busy_to_third_tick, busy_after, busy_with, second_frame, busy_second, busy_third, purges_none, nearly_before, nearly_epoch, nearly_with, nearly, crowded, crowded_own, alone_calls, alone_opening, alone_grant, alone_later, alone_with, alone_own, alone, unfit_record, shortest_frame}
use Rattle.guarantee_examples.specs.AddUp.{replies_alone}
use Rattle.guarantee_examples.specs.Derived.{OpenPartsHappen, TheoremsSay}
use Rattle.guarantee_examples.proofs.LinkTest.{links, link_holds, none_idle}
use Rattle.guarantee_examples.proofs.StaysTest.{stays_hold}
use Rattle.guarantee_examples.proofs.AddUp.{shortest_fits}
use Rattle.guarantee_examples.proofs.Applied.{by_numbers, replied_alone_of, first_share, first_share_lem, link_of_lem, none_sends, only}
use Rattle.guarantee_examples.proofs.OpenPartsHappen.{list_of, happened, crowded_made, nearly_made, alone_made, unfit_before, unfit_refused, unfit_opened, busy_made, arrived_made}

module _ (sent : Sent) (said shown : Reply) where
  abbrev busy_next : Event
  busy_next = transmitted sent said shown

  -- from `sent_as_replied`
  next_sends : Happens (busy_with busy_next busy_third purges_none) → LinkCondition 84 (busy_with busy_next busy_third purges_none)
      → Some (Sends second_frame) (busy_last_arrival ∷ busy_to_third_tick busy_next)
  next_sends happens link =
      subst SentByReply happens.so
      (sent_as_replied happens.list (link_of_lem _ happens link))
      busy_before (busy_last_arrival ∷ busy_after busy_next busy_third purges_none) busy_next_arrival 5 84 7 refl refl refl
      (busy_last_arrival ∷ busy_to_third_tick busy_next) (busy_third ∷ replied ticking purges_none ∷ []) (replied ticking (granted 0 0)) refl refl refl

  next_sent : Happens (busy_with busy_next busy_third purges_none) → LinkCondition 84 (busy_with busy_next busy_third purges_none)
      → sent ≡ reserved_sent second_frame
  next_sent happens link =
      only second_frame (busy_last_arrival ∷ (busy_to_second_tick ++ (replied ticking (granted 0 0) ∷ []))) [] busy_next refl refl (next_sends happens link)

not_sooner : SentBefore 2 second_frame (busy_last_arrival ∷ busy_after busy_second busy_third purges_none) → ⊥
not_sooner sooner =
    none_sends second_frame (busy_last_arrival ∷ busy_to_second_tick) refl
    (sooner (busy_last_arrival ∷ busy_to_second_tick) (busy_second ∷ replied ticking (granted 0 0) ∷ busy_third ∷ replied ticking purges_none ∷ [])
    (replied ticking (granted 0 0)) refl refl refl)

-- from `replied_as_alone`
five_alone : (reply : Reply) (sent : Sent) (said shown : Reply) → Happens (crowded_with reply (transmitted sent said shown))
    → reply ∷ granted 1 80 ∷ [] ≡ replies_alone 200 crowded_own
five_alone reply sent said shown happens =
    let third = transmitted sent said shown in
    let while = crowded_before ++ (replied (arriving 5 120 7) reply ∷ crowded_after third) in
    replied_alone_of (crowded_with reply third) happens 5 200 crowded_opening while [] crowded_grant refl refl refl (stays_hold 5 while refl)

six_alone : (first second third fourth : Reply) → Happens (alone_with first second third fourth)
    → first ∷ second ∷ third ∷ fourth ∷ [] ≡ replies_alone 200 alone_own
six_alone first second third fourth happens =
    let while = alone_later first second third fourth in
    replied_alone_of (alone_with first second third fourth) happens 6 200 alone_opening while [] alone_grant refl refl refl (stays_hold 6 while refl)

-- the epoch that sends 83 octets less than the share
epoch_fails : (600 ≤ reserved_octets nearly_epoch) ⊎ Some Idle nearly_epoch → ⊥
epoch_fails (inl enough) = omega arith
epoch_fails (inr idle) = none_idle nearly_epoch refl idle

fails : LinkCondition 600 nearly → ⊥
fails link = epoch_fails (link nearly_before nearly_epoch [] (replied ticking (granted 0 0)) (replied ticking purges_none) refl refl refl (refl, tt))

-- from `promised_by_less`, at 83 octets less than the share
abbrev least_asked : ℕ
least_asked = 600 + 1 - least_charge

nearly_promised : (es : List Event) → Happens es → first_share es ≡ 600 → LinkCondition least_asked es → Promised least_queues es
unfolding queues_at
nearly_promised es happens share-so link =
    let same : share_of happens.list.terms.link ≡ 600 = sym (first_share_lem es happens) ∙ share-so in
    subst (Promised least_queues) happens.so
    (promised_by_less happens.list least_asked (rw same (omega arith)) (subst (LinkCondition least_asked) (sym happens.so) link))

nearly_links : links least_asked nearly ≡ true
nearly_links = refl

second_tick : (reply : Reply) → Happens (nearly_with reply) → reply ≡ purges_none
second_tick reply happens =
    let z = (all_rest PurgesNothing (nearly_before ++ (replied ticking (granted 0 0) ∷ nearly_epoch)) (replied ticking reply ∷ [])
    (nearly_promised (nearly_with reply) happens refl (link_holds least_asked (nearly_with reply) refl)).no_purge).0 refl in
    by_numbers reply purges_none (omega (arith, ap (λ (r : Reply). r.refusal) z)) (omega (arith, ap (λ (r : Reply). r.first) z)) (omega (arith, ap (λ (r : Reply). r.second) z))

-- the replies of a list's events are the replies of its calls
replies_of : (cs earlier : List Call) (p m q k : List ℕ) → map (λ (e : Event). e.reply) (events_after earlier (made called earlier cs p m q k)) ≡ replies called cs p m
replies_of [] earlier p m q k = refl
replies_of (c ∷ cs) earlier p m q k = ap (λ (rs : List Reply). (called c p m).reply ∷ rs) (replies_of cs _ _ _ _ _)

-- from `quick_replies`
alone_quick : replies quickly_called (opening (terms (link_of 200) 3) ∷ alone_calls) fresh_record fresh_memory ≡ map (λ (e : Event). e.reply) alone
alone_quick =
    quick_replies (opening (terms (link_of 200) 3) ∷ alone_calls) fresh_record fresh_memory fresh_fits
    ∙ (sym (replies_of (opening (terms (link_of 200) 3) ∷ alone_calls) [] fresh_record fresh_memory fresh_record fresh_memory) ∙ ap (map (λ (e : Event). e.reply)) (happened alone_made))

-- from `frame_becomes`: without a VLAN tag no pair is looked up
untagged_so : (p m : List ℕ) → called (framing (untagged shortest_frame) 9) p m ≡ called (joining_best_effort 84 9) p m
unfolding charge_of tagged_frame frame_lookup octets_equal all_to
untagged_so p m = frame_becomes p m (untagged shortest_frame) 9 shortest_fits

short_unfit : length_fits (untagged (shortest_frame - 1)) ≡ false
unfolding length_fits
short_unfit = refl

pub theorems_say : TheoremsSay
theorems_say =
    record {
      replied_second = next_sent;
      replied_not_sooner = not_sooner;
      crowd_alone = five_alone;
      frame_alone = six_alone;
      nearly_fails = fails;
      nearly_purges_none = second_tick;
      quick_crowded = quick_events_lem (list_of crowded_made) ∙ happened crowded_made;
      quick_alone = alone_quick;
      quick_second = λ c d. quick_call d _ _ (stays_fit c fresh_record fresh_memory fresh_fits);
      unfit_before = unfit_before;
      unfit_refused = unfit_refused;
      unfit_opened = unfit_opened;
      fit_after = granted_open_fits unfit_record fresh_memory (terms (link_of 600) 1) (ap (λ (r : Reply). r.refusal) unfit_opened);
      untagged_joins = untagged_so;
      untagged_not_17 = λ p m. frame_not_17 p m (untagged shortest_frame) 9 shortest_fits;
      untagged_short = λ p opened. frame_refused p (untagged (shortest_frame - 1)) opened short_unfit;
    }

pub open_parts_happen : OpenPartsHappen
open_parts_happen =
    record {
      crowded_happens = happened crowded_made;
      crowded_links = link_holds 600 crowded refl;
      busy_happens = busy_made;
      nearly_happens = happened nearly_made;
      alone_happens = happened alone_made;
      arrived_happens = arrived_made;
    }
