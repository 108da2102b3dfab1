-- What the examples show. Assumes nothing.
use Prim.Native.Nat.{ℕ, ◌-◌, ◌≤◌}
use mathlib.Core.Path.{◌≡◌, refl, ap}
use mathlib.Core.Logic.{◌⊎◌, inl, inr}
use mathlib.Core.List.{List, [], ◌∷◌, ◌++◌}
use native.Mathlib.Omega.{arith}
use Rattle.lists.specs.Each.{All, Some}
use Rattle.stream.specs.declared.Reply.{Reply}
use Rattle.stream.specs.State.{least_queues}
use Rattle.stream.specs.Replies.{granted}
use Rattle.ranges.specs.Ranges.{least_charge, link_of}
use Rattle.steps.specs.Call.{terms, opening, reserving, arriving, ticking}
use Rattle.guarantee.specs.Events.{Marked, reserved_sent, Event}
use Rattle.guarantee.specs.Claims.{reserved_octets, Idle, LinkCondition, PurgesNothing, Sends, AllSentBefore}
use Rattle.guarantee.proofs.CallLaws.{none_reserved}
use Rattle.guarantee.specs.Instances.{marked_frame, replied}
use Rattle.guarantee_examples.specs.Examples.{sending, busy, light, withheld, silent}
use Rattle.guarantee_examples.specs.Shown.{ExamplesShow}
use Rattle.guarantee_examples.proofs.LinkTest.{link_holds, none_idle}
use Rattle.guarantee_examples.proofs.ExamplesHappen.{all_happen}

-- the refusal of the first reply
abbrev pub first_refusal : List Reply → ℕ
first_refusal [] = 0
first_refusal (r ∷ rs) = r.refusal

-- frames of different calls are different
other_frame : (f g : Marked) → (f.number ≡ g.number → ⊥) → reserved_sent f ≡ reserved_sent g → ⊥
other_frame f g o e = let z : f.number ≡ g.number = cc in o z

-- between the third frame's arrival and the third tick the first two frames are sent, and not the third
abbrev third : Marked
third = marked_frame 5 84 7 4

abbrev to_third_tick : List Event
to_third_tick =
    replied ticking (granted 0 0)
    ∷ sending (reserved_sent (marked_frame 5 84 7 2)) (granted 5 7)
    ∷ replied ticking (granted 0 0)
    ∷ sending (reserved_sent (marked_frame 5 84 7 3)) (granted 5 7)
    ∷ []

third_unsent : Some (Sends third) to_third_tick → ⊥
third_unsent (inl s) = none_reserved third s.0
third_unsent (inr (inl s)) = other_frame (marked_frame 5 84 7 2) third (λ e. omega arith) s.0
third_unsent (inr (inr (inl s))) = none_reserved third s.0
third_unsent (inr (inr (inr (inl s)))) = other_frame (marked_frame 5 84 7 3) third (λ e. omega arith) s.0
third_unsent (inr (inr (inr (inr x4)))) = elim x4 [ ]

not_by_third : AllSentBefore (least_queues - 1) busy → ⊥
not_by_third all =
    third_unsent
    (all
    (replied (opening (terms (link_of 84) 1)) (granted 84 0) ∷ replied (reserving 5 84) (granted 0 0) ∷ replied (arriving 5 84 7) (granted 1 84) ∷ replied (arriving 5 84 7) (granted 2 84) ∷ [])
    (to_third_tick ++ (replied ticking (granted 0 0) ∷ sending (reserved_sent third) (granted 5 7) ∷ replied ticking (granted 0 0) ∷ []))
    (replied (arriving 5 84 7) (granted 3 0))
    5 84 7 refl refl refl to_third_tick (sending (reserved_sent third) (granted 5 7) ∷ replied ticking (granted 0 0) ∷ []) (replied ticking (granted 0 0)) refl refl refl)

-- the epoch in which too little is sent
abbrev epoch : List Event
epoch = sending (reserved_sent (marked_frame 5 516 7 2)) (granted 5 7) ∷ []

-- the tick that purges
purges : All PurgesNothing withheld → ⊥
purges (a, (b, (c, (d, (e, (f, (g, h))))))) = let z : ◌≡◌ {A = ℕ} 1 0 = ap (λ (r : Reply). r.first) (g refl) in omega arith

-- and the epoch before it
epoch_fails : (600 ≤ reserved_octets epoch) ⊎ Some Idle epoch → ⊥
epoch_fails (inl enough) = omega arith
epoch_fails (inr idle) = none_idle epoch refl idle

fails : LinkCondition 600 withheld → ⊥
fails link =
    epoch_fails
    (link
    (replied (opening (terms (link_of 600) 1)) (granted 600 0) ∷ replied (reserving 5 600) (granted 0 0) ∷ replied (arriving 5 516 7) (granted 1 84) ∷ replied (arriving 5 84 8) (granted 1 600) ∷ [])
    epoch [] (replied ticking (granted 0 0)) (replied ticking (granted 1 84)) refl refl refl (refl, tt))

-- the tick after the silent transmit
silent_purged : All PurgesNothing silent → ⊥
silent_purged (a, (b, (c, (d, (e, (f, g)))))) = let z : ◌≡◌ {A = ℕ} 1 0 = ap (λ (r : Reply). r.first) (f refl) in omega arith

pub examples_show : ExamplesShow
examples_show =
    record {
      happen = all_happen;
      busy_links = link_holds 84 busy refl;
      busy_never_idle = none_idle busy refl;
      busy_not_by_third = not_by_third;
      light_links = link_holds 600 light refl;
      light_octets = omega arith;
      light_not_by_first = λ sent. sent [] _ (replied ticking (granted 0 0)) refl refl refl;
      withheld_fails = fails;
      withheld_purges = purges;
      withheld_nearly_links = link_holds (600 - least_charge) withheld refl;
      same_grants = refl;
      other_answers = λ e. let z : ◌≡◌ {A = ℕ} 0 14 = ap (λ (rs : List Reply). first_refusal rs) e in omega arith;
      framed_offers = refl;
      framed_remaining = refl;
      silent_links = link_holds 600 silent refl;
      silent_purges = silent_purged;
    }
