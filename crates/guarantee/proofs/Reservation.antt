-- A stream as the proof of demand 3 sees it: its reservation, and the ticks that it still drains, 0 where it is not withdrawn. Assumes nothing.
use Prim.Native.Nat.{ℕ, suc, ◌+◌, ◌-◌, ◌≤◌, ◌<◌}
use mathlib.Core.Bool.{Bool, true, false, not, cond}
use mathlib.Core.Path.{◌≡◌, refl, sym, ap, subst, ◌∙◌}
use mathlib.Core.Logic.{⊎_elim}
use native.Mathlib.Omega.{arith}
use lib.Dec.{leb, ltb, eqb}
use borrow.Author.Tests.{lt-ltb, le-ltb, eq-eqb, ne_eqb}
use Rattle.lists.proofs.Order.{le_or_lt, eq_or_not}
use Rattle.stream.specs.declared.Stream.{Stream}
use Rattle.stream.specs.State.{current_place, StreamFit}
use Rattle.stream.specs.Steps.{tick_of}
use Rattle.stream.proofs.FitLaws.{fit_tick, permitted_tick}
use Rattle.stream.proofs.TickLaws.{stays_current}
use Rattle.stream.proofs.Room.{room_ahead}
use Rattle.stream.proofs.Used.{used, used_most, used_tick}
use Rattle.record.specs.Layout.{stream_count}
use Rattle.ranges.specs.Ranges.{charge_fits, permitted_fits}

pub record Reservation : Type 0 where
  pub stream : Stream
  pub drain : ℕ

abbrev pub reservation : Stream → ℕ → Reservation
reservation x ticks = record { stream = x; drain = ticks }

-- one that does not drain
abbrev pub keeping : Stream → Reservation
keeping x = reservation x 0

-- a stream that is not reserved is seen as this one: it has used nothing of any queue, and a tick leaves it as it is
abbrev pub free_stream : Stream
free_stream = record { reserved = false; permitted = 0; place = current_place; left = 0 }

abbrev pub free : Reservation
free = keeping free_stream

-- "It drains until the fourth tick after the withdrawal": in general, the tick whose number is that of the queues
abbrev pub withdrawn : ℕ → Reservation → Reservation
withdrawn queues x = reservation x.stream queues

-- a tick moves the stream, and frees one that drains for one more tick
abbrev pub ticked : Reservation → Reservation
ticked x = cond (eqb x.drain 1) free (reservation (tick_of x.stream) (x.drain - 1))

-- whether it drains
abbrev pub draining : Reservation → Bool
draining x = not (eqb x.drain 0)

-- the refusals of an arrival and of a withdrawal, which do not depend on any other stream; 0 where there is none
abbrev pub arrival_refusal : ℕ → Reservation → ℕ → ℕ
arrival_refusal s x charge =
    cond (leb stream_count s) 5
    (cond (draining x) 25
    (cond (not x.stream.reserved) 12
    (cond (not (charge_fits charge)) 13 0)))

abbrev pub withdrawal_refusal : ℕ → Reservation → ℕ
withdrawal_refusal s x = cond (leb stream_count s) 5 (cond (draining x) 25 (cond (not x.stream.reserved) 12 0))

-- the refusals of a reservation, where so much of the share is taken
abbrev pub reservation_refusal : ℕ → ℕ → ℕ → Reservation → ℕ → ℕ
reservation_refusal share taken s x permitted =
    cond (leb stream_count s) 5
    (cond (draining x) 25
    (cond x.stream.reserved 6
    (cond (not (permitted_fits permitted)) 7
    (cond (ltb share (taken + permitted)) 8 0))))

-- whether it drains, by its count
pub drains_not : (x : Reservation) → x.drain ≡ 0 → draining x ≡ false
drains_not x e = rw (eq-eqb x.drain 0 e)

pub drains_so : (x : Reservation) → 0 < x.drain → draining x ≡ true
drains_so x h = rw (ne_eqb x.drain 0 (λ e. omega arith))

-- what a tick does, by the count
module _ (x : Reservation) where
  -- the count of an only tick frees it
  pub ticked_frees : x.drain ≡ 1 → ticked x ≡ free
  ticked_frees e = rw (eq-eqb x.drain 1 e)

  -- any other is moved, and drains for one tick less
  pub ticked_moves : (x.drain ≡ 1 → ⊥) → ticked x ≡ reservation (tick_of x.stream) (x.drain - 1)
  ticked_moves o = rw (ne_eqb x.drain 1 o)

  pub ticked_cases : (G : Reservation → Type 0) → (x.drain ≡ 1 → G free) → ((x.drain ≡ 1 → ⊥) → G (reservation (tick_of x.stream) (x.drain - 1)))
      → G (ticked x)
  ticked_cases G frees moves =
      ⊎_elim
      (λ (e : x.drain ≡ 1). subst G (sym (ticked_frees e)) (frees e))
      (λ (o : x.drain ≡ 1 → ⊥). subst G (sym (ticked_moves o)) (moves o))
      (eq_or_not x.drain 1)

  -- so one that does not drain is moved and nothing else
  pub ticked_keeping : x.drain ≡ 0 → ticked x ≡ keeping (tick_of x.stream)
  ticked_keeping e = ticked_moves (λ f. omega arith) ∙ ap (reservation (tick_of x.stream)) (omega (arith, e))

  -- and the count of one that drains on is one less
  pub ticked_drain : 1 < x.drain → (ticked x).drain ≡ x.drain - 1
  ticked_drain h = ap (λ (y : Reservation). y.drain) (ticked_moves (λ e. omega arith))

  -- a tick keeps it fit, and P is as it was or free
  pub fit_ticked : (last : ℕ) → current_place ≤ last → StreamFit last x.stream → StreamFit last (ticked x).stream
  fit_ticked last some f = ticked_cases (λ y. StreamFit last y.stream) (λ e. omega arith) (λ o. fit_tick last x.stream f)

  pub permitted_ticked : (ticked x).stream.permitted ≤ x.stream.permitted
  permitted_ticked =
      ticked_cases (λ y. y.stream.permitted ≤ x.stream.permitted) (λ e. omega arith) (λ o. omega (arith, permitted_tick x.stream))

-- a free one stays free
pub ticked_free : ticked free ≡ free
ticked_free = ticked_keeping free refl ∙ ap keeping (stays_current free_stream (omega arith))

-- what it can have waiting in the queue in role k: what the stream has used of it; while it drains for so many ticks more, up to P in each role below
-- their number, and nothing from there on
abbrev pub used_by : ℕ → Reservation → ℕ
used_by k x = cond (draining x) (cond (ltb k x.drain) x.stream.permitted 0) (used k x.stream)

module _ (k : ℕ) (x : Reservation) where
  pub used_keeping : x.drain ≡ 0 → used_by k x ≡ used k x.stream
  used_keeping e = rw (drains_not x e)

  pub used_near : k < x.drain → used_by k x ≡ x.stream.permitted
  used_near h = rw (drains_so x (omega arith), lt-ltb k x.drain h)

  pub used_far : 0 < x.drain → x.drain ≤ k → used_by k x ≡ 0
  used_far h a = rw (drains_so x h, le-ltb k x.drain a)

-- by the count
by_drain : {A : Type 0} (k : ℕ) (x : Reservation) → (x.drain ≡ 0 → A) → (k < x.drain → A) → (0 < x.drain → x.drain ≤ k → A) → A
by_drain k x none near far =
    ⊎_elim none (λ (o : x.drain ≡ 0 → ⊥). ⊎_elim (λ (a : x.drain ≤ k). far (omega arith) a) near (le_or_lt x.drain k)) (eq_or_not x.drain 0)

-- it is never more than P
pub used_by_most : (k : ℕ) (x : Reservation) → used_by k x ≤ x.stream.permitted
used_by_most k x =
    by_drain k x
    (λ e. omega (arith, used_keeping k x e, used_most k x.stream))
    (λ h. omega (arith, used_near k x h))
    (λ h a. omega (arith, used_far k x h a))

-- nothing ahead of the place is used
used_ahead : (k : ℕ) (x : Stream) → x.place < k → used k x ≡ 0
unfolding used
used_ahead k x h = omega (arith, room_ahead k x h)

-- a withdrawal takes nothing of it: no place is above the last
pub used_withdrawn : (last k : ℕ) (x : Reservation) → StreamFit last x.stream → x.drain ≡ 0 → used_by k x ≤ used_by k (withdrawn (last + 1) x)
used_withdrawn last k x f e =
    ⊎_elim
    (λ (a : last + 1 ≤ k). omega (arith, used_keeping k x e, used_ahead k x.stream (omega arith)))
    (λ (h : k < last + 1). omega (arith, used_near k (withdrawn (last + 1) x) h, used_by_most k x))
    (le_or_lt (last + 1) k)

-- a tick brings each queue a place nearer, and it has used no less of it: all that one that is freed can still have waiting is purged
pub used_nearer : (last k : ℕ) (x : Reservation) → StreamFit last x.stream → used_by (suc k) x ≤ used_by k (ticked x)
used_nearer last k x f =
    by_drain (suc k) x
    (λ e.
    let one_less : suc k - 1 ≡ k = omega arith in
    let nearer : used (suc k) x.stream ≤ used k (tick_of x.stream) = rw one_less at (used_tick last (suc k) x.stream f) in
    rw (ticked_keeping x e) (omega (arith, used_keeping (suc k) x e, nearer)))
    (λ h.
    let y : Reservation = reservation (tick_of x.stream) (x.drain - 1) in
    rw (ticked_moves x (λ e. omega arith)) (omega (arith, used_near (suc k) x h, used_near k y (omega arith), permitted_tick x.stream)))
    (λ h a. omega (arith, used_far (suc k) x h a))
