-- That a stream's offers in events in hand are within P, by a test. Assumes nothing.
use Prim.Native.Nat.{ℕ, ◌+◌, ◌≤◌}
use mathlib.Core.Bool.{Bool, true, false, ◌&&◌, cond}
use mathlib.Core.Path.{◌≡◌, refl, subst}
use mathlib.Core.List.{List, [], ◌∷◌, ◌++◌}
use native.Mathlib.Omega.{arith}
use borrow.Author.Tests.{leb-true}
use lib.Dec.{leb}
use Rattle.lists.specs.Each.{All}
use Rattle.lists.proofs.TurnLaws.{both}
use Rattle.guarantee.specs.Events.{Event, action}
use Rattle.guarantee.specs.Claims.{is_tick, NoTick, offer, offers, OffersWithin}

-- from a point on: the octets offered since the last tick
abbrev pub offers_from : ℕ → ℕ → ℕ → List Event → Bool
offers_from s permitted octets [] = leb octets permitted
offers_from s permitted octets (e ∷ es) =
    cond (is_tick (action e)) (leb octets permitted && offers_from s permitted 0 es) (offers_from s permitted (octets + offer s (action e)) es)

module _ (s permitted : ℕ) where
  -- after some events the test goes on somehow
  record Goes (es : List Event) : Type 0 where
    octets : ℕ
    on : offers_from s permitted octets es ≡ true

  goes : (before es : List Event) (octets : ℕ) → offers_from s permitted octets (before ++ es) ≡ true → Goes es
  goes [] es octets h = record { octets = octets; on = h }
  goes (e ∷ before) es octets h = told (is_tick (action e)) refl (goes before es)
    where
      told : (b : Bool) → is_tick (action e) ≡ b → ((next : ℕ) → offers_from s permitted next (before ++ es) ≡ true → Goes es) → Goes es
      told true is on = on 0 (both (leb octets permitted) (offers_from s permitted 0 (before ++ es)) (rw is at h)).1
      told false is on = on (octets + offer s (action e)) (rw is at h)

  -- what was offered before a point is within P
  so_far : (es : List Event) (octets : ℕ) → offers_from s permitted octets es ≡ true → octets ≤ permitted
  so_far [] octets h = leb-true octets permitted h
  so_far (e ∷ es) octets h = told (is_tick (action e)) refl (so_far es)
    where
      told : (b : Bool) → is_tick (action e) ≡ b → ((next : ℕ) → offers_from s permitted next es ≡ true → next ≤ permitted) → octets ≤ permitted
      told true is on = leb-true octets permitted (both (leb octets permitted) (offers_from s permitted 0 es) (rw is at h)).0
      told false is on = omega (arith, on (octets + offer s (action e)) (rw is at h))

  -- and so is what is offered from it on before a tick
  stretch : (between after : List Event) (octets : ℕ) → All NoTick between → offers_from s permitted octets (between ++ after) ≡ true
      → octets + offers s between ≤ permitted
  stretch [] after octets no-ticks h = omega (arith, so_far after octets h)
  stretch (e ∷ between) after octets (no_tick, no-ticks) h =
      omega (arith, stretch between after (octets + offer s (action e)) no-ticks (rw no_tick at h))

  -- so events that pass the test are within P
  pub within_holds : (es : List Event) → offers_from s permitted 0 es ≡ true → OffersWithin s permitted es
  within_holds es h before between after split no-ticks =
      let on = goes before (between ++ after) 0 (subst (λ (zs : List Event). offers_from s permitted 0 zs ≡ true) split h) in
      omega (arith, stretch between after on.octets no-ticks on.on)
