-- The link condition of events in hand, by a test. Assumes nothing.
use Prim.Native.Nat.{ℕ, ◌+◌, ◌≤◌}
use mathlib.Core.Bool.{Bool, true, false, not, ◌&&◌, ◌||◌, cond}
use mathlib.Core.Path.{◌≡◌, refl, sym, ap, subst, ◌∙◌}
use mathlib.Core.Logic.{◌⊎◌, inl, inr, ⊎_elim}
use mathlib.Core.List.{List, [], ◌∷◌, ◌++◌}
use native.Mathlib.Omega.{arith}
use borrow.Author.Tests.{leb-true}
use lib.Dec.{leb}
use Rattle.lists.specs.Each.{All, Some}
use Rattle.lists.proofs.TurnLaws.{both}
use Rattle.guarantee.specs.Events.{Marked, Sent, reserved_sent, best_effort_sent, none, is_transmit, Event, action}
use Rattle.guarantee.specs.Claims.{is_tick, Tick, NoTick, reserved_charge, reserved_octets, Idle, LinkCondition}
use Rattle.lists.proofs.EachLaws.{differ}

-- whether an event is a transmit without a reserved frame
abbrev is_reserved : Sent → Bool
is_reserved (reserved_sent f) = true
is_reserved (best_effort_sent f) = false
is_reserved none = false

abbrev is_idle : Event → Bool
is_idle e = is_transmit (action e) && not (is_reserved e.sent)

not_so : (b : Bool) → not b ≡ true → b ≡ false
not_so true e = sym e
not_so false e = refl

idle_so : (e : Event) → is_idle e ≡ true → Idle e
idle_so e is =
    let b = both (is_transmit (action e)) (not (is_reserved e.sent)) is in
    (b.0, λ f s. differ (ap is_reserved (sym s) ∙ not_so (is_reserved e.sent) b.1))

either : (a b : Bool) → (a || b) ≡ true → (a ≡ true) ⊎ (b ≡ true)
either true b e = inl refl
either false b e = inr e

-- from a point on: whether a tick has been, and since then the reserved octets sent and whether a transmit was idle
abbrev links_from : ℕ → Bool → ℕ → Bool → List Event → Bool
links_from share ticked octets idle [] = true
links_from share ticked octets idle (e ∷ es) =
    cond (is_tick (action e))
    ((not ticked || (leb share octets || idle)) && links_from share true 0 false es)
    (links_from share ticked (octets + reserved_charge e.sent) (idle || is_idle e) es)

abbrev pub links : ℕ → List Event → Bool
links share es = links_from share false 0 false es

-- after some events the test goes on somehow
record Goes (share : ℕ) (es : List Event) : Type 0 where
  ticked : Bool
  octets : ℕ
  idle : Bool
  on : links_from share ticked octets idle es ≡ true

-- one event of the test
goes_step : (share : ℕ) (e : Event) (rest es : List Event) → ((ticked : Bool) (octets : ℕ) (idle : Bool) → links_from share ticked octets idle rest ≡ true → Goes share es)
    → (ticked : Bool) (octets : ℕ) (idle : Bool) → links_from share ticked octets idle (e ∷ rest) ≡ true → Goes share es
goes_step share e rest es on ticked octets idle h = told (is_tick (action e)) refl
  where
    told : (b : Bool) → is_tick (action e) ≡ b → Goes share es
    told true is =
        on true 0 false (both (not ticked || (leb share octets || idle)) (links_from share true 0 false rest) (rw is at h)).1
    told false is = on ticked (octets + reserved_charge e.sent) (idle || is_idle e) (rw is at h)

goes : (share : ℕ) (before es : List Event) (ticked : Bool) (octets : ℕ) (idle : Bool) → links_from share ticked octets idle (before ++ es) ≡ true → Goes share es
goes share [] es = λ ticked octets idle h. record { ticked = ticked; octets = octets; idle = idle; on = h }
goes share (e ∷ before) es = goes_step share e (before ++ es) es (goes share before es)

-- and at a tick after a tick it asked what the link condition asks
asked : (share : ℕ) (between after : List Event) (u : Event) (octets : ℕ) (idle : Bool) → All NoTick between → Tick u
    → links_from share true octets idle (between ++ (u ∷ after)) ≡ true → (share ≤ octets + reserved_octets between) ⊎ ((idle ≡ true) ⊎ Some Idle between)
asked share [] after u octets idle no-ticks tick h =
    ⊎_elim
    (λ (e : leb share octets ≡ true). inl (omega (arith, leb-true share octets e)))
    (λ (e : idle ≡ true). inr (inl e))
    (either (leb share octets) idle (both (leb share octets || idle) (links_from share true 0 false after) (rw tick at h)).0)
asked share (e ∷ between) after u octets idle (no_tick, no-ticks) tick h =
    ⊎_elim
    (λ (enough : share ≤ octets + reserved_charge e.sent + reserved_octets between). inl (omega arith))
    (λ (i : ((idle || is_idle e) ≡ true) ⊎ Some Idle between).
    ⊎_elim
    (λ (j : (idle || is_idle e) ≡ true).
    ⊎_elim (λ (k : idle ≡ true). inr (inl k)) (λ (k : is_idle e ≡ true). inr (inr (inl (idle_so e k)))) (either idle (is_idle e) j))
    (λ (j : Some Idle between). inr (inr (inr j)))
    i)
    (asked share between after u (octets + reserved_charge e.sent) (idle || is_idle e) no-ticks tick (rw no_tick at h))

-- so events that pass the test meet the condition
pub link_holds : (share : ℕ) (es : List Event) → links share es ≡ true → LinkCondition share es
link_holds share es h before between after t u split tick next_tick no-ticks =
    let on = goes share before (t ∷ (between ++ (u ∷ after))) false 0 false (subst (λ (zs : List Event). links share zs ≡ true) split h) in
    let here = (both (not on.ticked || (leb share on.octets || on.idle)) (links_from share true 0 false (between ++ (u ∷ after))) (rw tick at on.on)).1 in
    ⊎_elim
    (λ (enough : share ≤ 0 + reserved_octets between). inl (omega arith))
    (λ (i : (◌≡◌ {A = Bool} false true) ⊎ Some Idle between). ⊎_elim (λ (e : ◌≡◌ {A = Bool} false true). differ (sym e)) (λ (j : Some Idle between). inr j) i)
    (asked share between after u 0 false no-ticks next_tick here)

-- and events of which none passes the test of an idle transmit have none
abbrev pub any_idle : List Event → Bool
any_idle [] = false
any_idle (e ∷ es) = is_idle e || any_idle es

neither : (a b : Bool) → (a || b) ≡ false → (a ≡ false) × (b ≡ false)
neither true b e = differ e
neither false b e = (refl, e)

so_idle : (t : Sent) → ((f : Marked) → t ≡ reserved_sent f → ⊥) → is_reserved t ≡ false
so_idle (reserved_sent f) h = absurd (h f refl)
so_idle (best_effort_sent f) h = refl
so_idle none h = refl

pub none_idle : (es : List Event) → any_idle es ≡ false → Some Idle es → ⊥
none_idle (e ∷ es) h (inl (call, sent)) =
    let so : is_idle e ≡ true = rw (call, so_idle e.sent sent) in
    differ (sym so ∙ (neither (is_idle e) (any_idle es) h).0)
none_idle (e ∷ es) h (inr i) = none_idle es (neither (is_idle e) (any_idle es) h).1 i
none_idle [] h x'' = elim x'' [ ]
