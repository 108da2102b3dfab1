-- What a fit record has, clause by clause, as facts that a proof uses; and so what refusals 18 and 19 ask. Assumes nothing.
use Prim.Native.Nat.{ℕ, ◌+◌, ◌<◌, ◌≤◌}
use mathlib.Core.Path.{◌≡◌, refl, ap₂}
use mathlib.Core.Bool.{Bool, true, false, ◌&&◌, cond}
use mathlib.Core.List.{List}
use native.Mathlib.Omega.{arith}
use lib.ListN.{length}
use lib.Dec.{leb, ltb}
use borrow.Author.Tests.{leb-true, ltb-true, ltb-false, eqb-true, le-leb, lt-ltb, le-ltb, eq-eqb}
use Rattle.lists.specs.Turns.{all_to, all_of}
use Rattle.lists.proofs.TurnLaws.{both, all_to_at, all_to_all}
use Rattle.queue.specs.Waiting.{waiting, charges_of}
use Rattle.record.specs.Layout.{stream_count, record_length, memory_length}
use Rattle.record.specs.Queues.{queues_at, last_place_at, best_effort_at, HasMemory}
use Rattle.record.specs.Head.{open_at, prior_at, delay_at, link_at, waits_at, queue_at}
use Rattle.record.specs.Entry.{stream_at, drain_at}
use Rattle.ranges.specs.Ranges.{share_of, link_fits, delay_fits}
use Rattle.record.specs.Reservations.{permitted_sum}
use Rattle.fitness.specs.Clauses.{prior_fits, queue_fits, queues_fit, stream_fits, streams_fit, binding_fits, unlike_earlier, bindings_fit, frame_fits, frames_fit, waits_fit, reservation_fits, plan_fits, open_fits}
use Rattle.fitness.specs.Fit.{record_fits, lent_refusal}
use Rattle.fitness.proofs.TestLaws.{if_asked}

-- the clauses, in their order
pub record Fit (p m : List ℕ) : Type 0 where
  pub long : record_length ≤ length p
  pub prior : prior_at p < queues_at p
  pub queues : (q : ℕ) → q < queues_at p + 1 → queue_fits (queue_at p q) ≡ true
  pub streams : (s : ℕ) → s < stream_count → stream_fits (last_place_at p) (stream_at p s) (drain_at p s) ≡ true
  pub bindings : (s : ℕ) → s < stream_count → binding_fits p s (unlike_earlier p s) ≡ true
  pub frames : (q : ℕ) → q < queues_at p + 1 → all_of (frame_fits (best_effort_at p) q) (waiting m q (queue_at p q)) ≡ true
  pub waits : waits_at p ≡ charges_of (waiting m (best_effort_at p) (queue_at p (best_effort_at p)))
  pub plan : open_fits p ≡ true

-- a record that passes the test is fit
pub fit_record : (p m : List ℕ) → record_fits p m ≡ true → Fit p m
unfolding record_fits
fit_record p m h =
    let to-waits = both _ (open_fits p) h in
    let to-frames = both _ (waits_fit p m) to-waits.0 in
    let to-bindings = both _ (frames_fit p m) to-frames.0 in
    let to-streams = both _ (bindings_fit p) to-bindings.0 in
    let to-queues = both _ (streams_fit p) to-streams.0 in
    let to-prior = both _ (queues_fit p) to-queues.0 in
    let to-long = both (leb record_length (length p)) (prior_fits p) to-prior.0 in
    record {
      long = leb-true record_length (length p) to-long.0;
      prior = ltb-true (prior_at p) (queues_at p) to-long.1;
      queues = λ q b. all_to_at (λ i. queue_fits (queue_at p i)) (queues_at p + 1) q b to-prior.1;
      streams = λ s b. all_to_at (λ i. stream_fits (last_place_at p) (stream_at p i) (drain_at p i)) stream_count s b to-queues.1;
      bindings = λ s b. all_to_at (λ i. binding_fits p i (unlike_earlier p i)) stream_count s b to-streams.1;
      frames = λ q b. all_to_at (λ i. all_of (frame_fits (best_effort_at p) i) (waiting m i (queue_at p i))) (queues_at p + 1) q b to-bindings.1;
      waits = eqb-true (waits_at p) (charges_of (waiting m (best_effort_at p) (queue_at p (best_effort_at p)))) to-frames.1;
      plan = to-waits.1;
    }

-- and a fit record passes it
pub record_fit : (p m : List ℕ) → Fit p m → record_fits p m ≡ true
unfolding record_fits
record_fit p m f =
    ap₂ ◌&&◌
    (ap₂ ◌&&◌
    (ap₂ ◌&&◌
    (ap₂ ◌&&◌
    (ap₂ ◌&&◌
    (ap₂ ◌&&◌ (ap₂ ◌&&◌ (le-leb record_length (length p) f.long) (lt-ltb (prior_at p) (queues_at p) f.prior)) (all_to_all _ (queues_at p + 1) f.queues))
    (all_to_all _ stream_count f.streams))
    (all_to_all _ stream_count f.bindings))
    (all_to_all _ (queues_at p + 1) f.frames))
    (eq-eqb (waits_at p) (charges_of (waiting m (best_effort_at p) (queue_at p (best_effort_at p)))) f.waits))
    f.plan

-- the last clause on an open port, as facts
pub record Plan (p : List ℕ) : Type 0 where
  pub link : link_fits (link_at p) ≡ true
  pub delay : delay_fits (delay_at p) ≡ true
  pub reservations : (s : ℕ) → s < stream_count → reservation_fits (stream_at p s) ≡ true
  pub sum : permitted_sum p ≤ share_of (link_at p)

pub fit_plan : (p : List ℕ) → open_at p ≡ true → open_fits p ≡ true → Plan p
fit_plan p opened h =
    let ranges : Bool = link_fits (link_at p) && delay_fits (delay_at p) in
    let each : Bool = all_to (λ s. reservation_fits (stream_at p s)) stream_count in
    let to-each = both (ranges && each) (leb (permitted_sum p) (share_of (link_at p))) (rw opened at h) in
    let to-ranges = both ranges each to-each.0 in
    let to-link = both (link_fits (link_at p)) (delay_fits (delay_at p)) to-ranges.0 in
    record {
      link = to-link.0;
      delay = to-link.1;
      reservations = λ s b. all_to_at (λ i. reservation_fits (stream_at p i)) stream_count s b to-ranges.1;
      sum = leb-true (permitted_sum p) (share_of (link_at p)) to-each.1;
    }

pub plan_fit : (p : List ℕ) → Plan p → open_fits p ≡ true
plan_fit p plan =
    if_asked (open_at p) (plan_fits p)
    (ap₂ ◌&&◌
    (ap₂ ◌&&◌ (ap₂ ◌&&◌ plan.link plan.delay) (all_to_all (λ s. reservation_fits (stream_at p s)) stream_count plan.reservations))
    (le-leb (permitted_sum p) (share_of (link_at p)) plan.sum))

-- neither 18 nor 19: the memory has its places, and the record passes the test
pub lent_fit : (p m : List ℕ) → lent_refusal p m ≡ 0 → (HasMemory p m) × (record_fits p m ≡ true)
unfolding lent_refusal
lent_fit p m h = told (ltb (length m) (memory_length (queues_at p))) (record_fits p m) refl refl h
  where
    told : (short fit : Bool) → ltb (length m) (memory_length (queues_at p)) ≡ short → record_fits p m ≡ fit → ◌≡◌ {A = ℕ} (cond short 18 (cond fit 0 19)) 0
        → (HasMemory p m) × (record_fits p m ≡ true)
    told true fit a b e = absurd (omega arith)
    told false true a b e = (ltb-false (length m) (memory_length (queues_at p)) a, b)
    told false false a b e = absurd (omega arith)

pub fit_lent : (p m : List ℕ) → HasMemory p m → record_fits p m ≡ true → lent_refusal p m ≡ 0
unfolding lent_refusal
fit_lent p m long fit = rw (le-ltb (length m) (memory_length (queues_at p)) long, fit)
