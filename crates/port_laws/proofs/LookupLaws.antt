-- On a fit record the lookup finds the stream that is bound to an address and a VID, and no other. Assumes nothing.
use Prim.Native.Nat.{ℕ, ◌≤◌, ◌<◌}
use mathlib.Core.Path.{◌≡◌, refl, sym, ap₂, ◌∙◌}
use mathlib.Core.Bool.{Bool, true, false, not, ◌&&◌, cond}
use mathlib.Core.Logic.{⊎_elim}
use mathlib.Core.List.{List}
use native.Mathlib.Omega.{arith}
use Rattle.lists.specs.Window.{get}
use Rattle.lists.proofs.EachLaws.{differ}
use Rattle.lists.proofs.Order.{le_or_lt, eq_or_not}
use Rattle.lists.proofs.TurnLaws.{both, all_to_at}
use Rattle.record.specs.Layout.{stream_count, address_length}
use Rattle.record.specs.Entry.{stream_at, bound_at, vid_at, address_at, same_pair}
use Rattle.record.proofs.PairLaws.{pair_same, same_pair_lem}
use Rattle.ranges.specs.Ranges.{vid_fits}
use Rattle.fitness.specs.Clauses.{unlike_earlier}
use Rattle.fitness.specs.Fit.{record_fits}
use Rattle.fitness.proofs.FitLaws.{fit_record}
use Rattle.std.specs.Prelude.{Option, Some, None}
use Rattle.binding.specs.Finding.{lookup}
use Rattle.binding.specs.LookupClaims.{bound_to}
use Rattle.binding.proofs.FindingLaws.{finds, finds_only}

-- stream s is bound to the address and the VID
pub record BoundTo (p : List ℕ) (s : ℕ) (address : List ℕ) (vid : ℕ) : Type 0 where
  pub below : s < stream_count
  pub bound : bound_at p s ≡ true
  pub same_vid : vid_at p s ≡ vid
  pub same_address : address_at p s ≡ get address 0 address_length

-- a stream is bound to them where the test says so, and nowhere else
module _ (p : List ℕ) (s : ℕ) (address : List ℕ) (vid : ℕ) where
  tested : BoundTo p s address vid → bound_to p address vid s ≡ true
  tested h = ap₂ ◌&&◌ h.bound (same_pair_lem (vid_at p s) (address_at p s) vid (get address 0 address_length) h.same_vid h.same_address)

  bound_to_lem : s < stream_count → bound_to p address vid s ≡ true → BoundTo p s address vid
  bound_to_lem b h =
      let here = both (bound_at p s) (same_pair (vid_at p s) (address_at p s) vid (get address 0 address_length)) h in
      let same = pair_same (vid_at p s) (address_at p s) vid (get address 0 address_length) here.1 in
      record { below = b; bound = here.0; same_vid = same.0; same_address = same.1 }

-- the lookup on a fit record
module _ (p m address : List ℕ) (vid : ℕ) (fit : record_fits p m ≡ true) where
  -- of two streams that are bound to one pair, neither is before the other
  not_before : (s t : ℕ) → t < s → BoundTo p t address vid → BoundTo p s address vid → ⊥
  not_before s t c there here =
      let unlike : unlike_earlier p s ≡ true = (both ((stream_at p s).reserved && vid_fits (vid_at p s)) (unlike_earlier p s) (rw here.bound at ((fit_record p m fit).bindings s here.below))).1 in
      let same : same_pair (vid_at p t) (address_at p t) (vid_at p s) (address_at p s) ≡ true =
      same_pair_lem (vid_at p t) (address_at p t) (vid_at p s) (address_at p s) (there.same_vid ∙ sym here.same_vid) (there.same_address ∙ sym here.same_address) in
      let z : ◌≡◌ {A = Bool} false true =
      sym (ap₂ (λ (b same : Bool). cond b (not same) true) there.bound same)
      ∙ all_to_at (λ i. cond (bound_at p i) (not (same_pair (vid_at p i) (address_at p i) (vid_at p s) (address_at p s))) true) s t c unlike in
      differ (sym z)

  one_stream : (s t : ℕ) → BoundTo p s address vid → BoundTo p t address vid → t ≡ s
  one_stream s t is also =
      ⊎_elim
      (λ (e : t ≡ s). e)
      (λ (o : t ≡ s → ⊥).
      ⊎_elim
      (λ (le : s ≤ t). absurd (not_before t s (less s t le (λ e. o (sym e))) is also))
      (λ (lt : t < s). absurd (not_before s t lt also is))
      (le_or_lt s t))
      (eq_or_not t s)
    where
      less : (x y : ℕ) → x ≤ y → (x ≡ y → ⊥) → x < y
      less x y a n = ⊎_elim (λ (h : y ≤ x). absurd (n (omega arith))) (λ (h : x < y). h) (le_or_lt y x)

  -- the stream that is bound to them is found
  pub bound_found : (s : ℕ) → BoundTo p s address vid → (lookup p address vid).found ≡ Some s
  bound_found s h = finds_only p address vid s h.below (tested p s address vid h) (λ t b also. one_stream s t h (bound_to_lem p t address vid b also))

  -- what is found is bound to them
  pub found_bound : (s : ℕ) → (lookup p address vid).found ≡ Some s → BoundTo p s address vid
  found_bound s e = let f = finds p address vid s e in bound_to_lem p s address vid f.0 f.1.0

  -- and none is found where none is
  pub none_found : ((s : ℕ) → BoundTo p s address vid → ⊥) → (lookup p address vid).found ≡ None
  none_found none = told (lookup p address vid).found refl
    where
      told : (found : Option ℕ) → (lookup p address vid).found ≡ found → found ≡ None
      told (Some s) e = absurd (none s (found_bound s e))
      told None e = refl
