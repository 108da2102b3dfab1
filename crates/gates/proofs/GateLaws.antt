-- What a gate that refuses nothing tells. Assumes nothing.
use Prim.Native.Nat.{ℕ, ◌+◌, ◌≤◌, ◌<◌}
use mathlib.Core.Path.{◌≡◌, refl, sym, ◌∙◌}
use mathlib.Core.Bool.{Bool, true, false, not, cond}
use mathlib.Core.List.{List}
use native.Mathlib.Omega.{arith}
use lib.Dec.{leb, ltb}
use borrow.Author.Tests.{leb-false, ltb-false, not-false}
use Rattle.queue.specs.Ring.{place_count}
use Rattle.record.specs.Layout.{stream_count}
use Rattle.record.specs.Queues.{best_effort_at}
use Rattle.record.specs.Head.{open_at, link_at, waits_at, queue_at}
use Rattle.record.specs.Entry.{stream_at, drains_at}
use Rattle.ranges.specs.Ranges.{least_charge, greatest_charge, greatest_share, greatest_delay, charge_fits, share_of, link_of, link_fits, delay_fits, permitted_fits}
use Rattle.ranges.proofs.RangeLaws.{within_bounds}
use Rattle.record.specs.Reservations.{permitted_sum}
use Rattle.steps.specs.Call.{Terms, terms}
use Rattle.gates.specs.Refusals.{open_refusal, reserve_refusal, stream_refusal, withdraw_refusal, arrive_refusal, best_effort_limit, best_effort_refusal}

-- a test that a gate is past does not hold, and the rest refuses nothing either
pub past : (b : Bool) (n rest : ℕ) → 0 < n → cond b n rest ≡ 0 → (b ≡ false) × (rest ≡ 0)
past true n rest h e = absurd (omega arith)
past false n rest h e = (refl, e)

-- the facts that a gate's 0 stands for
pub record OpenAllowed (p : List ℕ) (t : Terms) : Type 0 where
  pub closed : open_at p ≡ false
  pub link_fits_lem : link_fits t.link ≡ true
  pub delay_fits_lem : delay_fits t.delay ≡ true

pub open_allowed : (p : List ℕ) (t : Terms) → open_refusal p t ≡ 0 → OpenAllowed p t
unfolding open_refusal
open_allowed p t e =
    let a = past (open_at p) 2 (cond (not (link_fits t.link)) 3 (cond (not (delay_fits t.delay)) 4 0)) (omega arith) e in
    let b = past (not (link_fits t.link)) 3 (cond (not (delay_fits t.delay)) 4 0) (omega arith) a.1 in
    let c = past (not (delay_fits t.delay)) 4 0 (omega arith) b.1 in
    record { closed = a.0; link_fits_lem = not-false (link_fits t.link) b.0; delay_fits_lem = not-false (delay_fits t.delay) c.0 }

pub record ReserveAllowed (p : List ℕ) (s permitted : ℕ) : Type 0 where
  pub opened : open_at p ≡ true
  pub stream : s < stream_count
  pub keeps : drains_at p s ≡ false
  pub free : (stream_at p s).reserved ≡ false
  pub permitted_fits_lem : permitted_fits permitted ≡ true
  pub share : permitted_sum p + permitted ≤ share_of (link_at p)

pub reserve_allowed : (p : List ℕ) (s permitted : ℕ) → reserve_refusal p s permitted ≡ 0 → ReserveAllowed p s permitted
unfolding reserve_refusal
reserve_allowed p s permitted e =
    let above : ℕ = cond (ltb (share_of (link_at p)) (permitted_sum p + permitted)) 8 0 in
    let below : ℕ = cond (not (permitted_fits permitted)) 7 above in
    let taken : ℕ = cond (stream_at p s).reserved 6 below in
    let draining : ℕ = cond (drains_at p s) 25 taken in
    let a = past (not (open_at p)) 1 (cond (leb stream_count s) 5 draining) (omega arith) e in
    let b = past (leb stream_count s) 5 draining (omega arith) a.1 in
    let c = past (drains_at p s) 25 taken (omega arith) b.1 in
    let d = past (stream_at p s).reserved 6 below (omega arith) c.1 in
    let f = past (not (permitted_fits permitted)) 7 above (omega arith) d.1 in
    let g = past (ltb (share_of (link_at p)) (permitted_sum p + permitted)) 8 0 (omega arith) f.1 in
    record {
      opened = not-false (open_at p) a.0;
      stream = leb-false stream_count s b.0;
      keeps = c.0;
      free = d.0;
      permitted_fits_lem = not-false (permitted_fits permitted) f.0;
      share = ltb-false (share_of (link_at p)) (permitted_sum p + permitted) g.0;
    }

pub record WithdrawAllowed (p : List ℕ) (s : ℕ) : Type 0 where
  pub opened : open_at p ≡ true
  pub stream : s < stream_count
  pub keeps : drains_at p s ≡ false
  pub reserved : (stream_at p s).reserved ≡ true

pub withdraw_allowed : (p : List ℕ) (s : ℕ) → withdraw_refusal p s ≡ 0 → WithdrawAllowed p s
unfolding withdraw_refusal
withdraw_allowed p s e =
    let unreserved : ℕ = cond (not (stream_at p s).reserved) 12 0 in
    let draining : ℕ = cond (drains_at p s) 25 unreserved in
    let a = past (not (open_at p)) 1 (cond (leb stream_count s) 5 draining) (omega arith) e in
    let b = past (leb stream_count s) 5 draining (omega arith) a.1 in
    let c = past (drains_at p s) 25 unreserved (omega arith) b.1 in
    let d = past (not (stream_at p s).reserved) 12 0 (omega arith) c.1 in
    record {
      opened = not-false (open_at p) a.0;
      stream = leb-false stream_count s b.0;
      keeps = c.0;
      reserved = not-false (stream_at p s).reserved d.0;
    }

pub record ArriveAllowed (p : List ℕ) (s charge : ℕ) : Type 0 where
  pub opened : open_at p ≡ true
  pub stream : s < stream_count
  pub keeps : drains_at p s ≡ false
  pub reserved : (stream_at p s).reserved ≡ true
  pub charge_fits_lem : charge_fits charge ≡ true

pub arrive_allowed : (p : List ℕ) (s charge : ℕ) → arrive_refusal p s charge ≡ 0 → ArriveAllowed p s charge
unfolding arrive_refusal
arrive_allowed p s charge e =
    let outside : ℕ = cond (not (charge_fits charge)) 13 0 in
    let unreserved : ℕ = cond (not (stream_at p s).reserved) 12 outside in
    let draining : ℕ = cond (drains_at p s) 25 unreserved in
    let a = past (not (open_at p)) 1 (cond (leb stream_count s) 5 draining) (omega arith) e in
    let b = past (leb stream_count s) 5 draining (omega arith) a.1 in
    let c = past (drains_at p s) 25 unreserved (omega arith) b.1 in
    let d = past (not (stream_at p s).reserved) 12 outside (omega arith) c.1 in
    let f = past (not (charge_fits charge)) 13 0 (omega arith) d.1 in
    record {
      opened = not-false (open_at p) a.0;
      stream = leb-false stream_count s b.0;
      keeps = c.0;
      reserved = not-false (stream_at p s).reserved d.0;
      charge_fits_lem = not-false (charge_fits charge) f.0;
    }

pub record BestEffortAllowed (p : List ℕ) (charge : ℕ) : Type 0 where
  pub opened : open_at p ≡ true
  pub charge_fits_lem : charge_fits charge ≡ true
  pub free : (queue_at p (best_effort_at p)).count < place_count
  pub limit : waits_at p + charge ≤ best_effort_limit p

pub best_effort_allowed : (p : List ℕ) (charge : ℕ) → best_effort_refusal p charge ≡ 0 → BestEffortAllowed p charge
unfolding best_effort_refusal
best_effort_allowed p charge e =
    let above : ℕ = cond (ltb (best_effort_limit p) (waits_at p + charge)) 16 0 in
    let full : ℕ = cond (leb place_count (queue_at p (best_effort_at p)).count) 15 above in
    let a = past (not (open_at p)) 1 (cond (not (charge_fits charge)) 13 full) (omega arith) e in
    let b = past (not (charge_fits charge)) 13 full (omega arith) a.1 in
    let c = past (leb place_count (queue_at p (best_effort_at p)).count) 15 above (omega arith) b.1 in
    let d = past (ltb (best_effort_limit p) (waits_at p + charge)) 16 0 (omega arith) c.1 in
    record {
      opened = not-false (open_at p) a.0;
      charge_fits_lem = not-false (charge_fits charge) b.0;
      free = leb-false place_count (queue_at p (best_effort_at p)).count c.0;
      limit = ltb-false (best_effort_limit p) (waits_at p + charge) d.0;
    }

-- what code that asks a gate needs where it refuses nothing: numbers that fit their types, and a stream of the record
module _ (p : List ℕ) where
  module _ (link delay : ℕ) (e : 0 ≡ open_refusal p (terms link delay)) where
    pub open_link : link < 65536
    open_link =
        omega (arith, (within_bounds (link_of least_charge) (link_of greatest_share) link (open_allowed p (terms link delay) (sym e)).link_fits_lem).1)

    pub open_delay : delay < 256
    open_delay = omega (arith, (within_bounds 1 greatest_delay delay (open_allowed p (terms link delay) (sym e)).delay_fits_lem).1)

  pub reserve_stream : (s permitted : ℕ) → 0 ≡ reserve_refusal p s permitted → s < stream_count
  reserve_stream s permitted e = (reserve_allowed p s permitted (sym e)).stream

  pub stream_below : (s : ℕ) → 0 ≡ stream_refusal p s → s < stream_count
  unfolding stream_refusal
  stream_below s e =
      let a = past (not (open_at p)) 1 (cond (leb stream_count s) 5 (cond (drains_at p s) 25 0)) (omega arith) (sym e) in
      leb-false stream_count s (past (leb stream_count s) 5 (cond (drains_at p s) 25 0) (omega arith) a.1).0

  pub withdraw_stream : (s : ℕ) → 0 ≡ withdraw_refusal p s → s < stream_count
  withdraw_stream s e = (withdraw_allowed p s (sym e)).stream

  module _ (s charge : ℕ) (e : 0 ≡ arrive_refusal p s charge) where
    pub arrive_stream : s < stream_count
    arrive_stream = (arrive_allowed p s charge (sym e)).stream

    pub arrive_charge : charge < 65536
    arrive_charge = omega (arith, (within_bounds least_charge greatest_charge charge (arrive_allowed p s charge (sym e)).charge_fits_lem).1)

  module _ (charge : ℕ) (e : 0 ≡ best_effort_refusal p charge) where
    pub best_effort_charge : charge < 65536
    best_effort_charge = omega (arith, (within_bounds least_charge greatest_charge charge (best_effort_allowed p charge (sym e)).charge_fits_lem).1)

    pub best_effort_free : (queue_at p (best_effort_at p)).count < place_count
    best_effort_free = (best_effort_allowed p charge (sym e)).free
