-- A reservation keeps a record fit, and adds its P to R. Assumes nothing.
use Prim.Native.Nat.{ℕ, ◌+◌, ◌≤◌, ◌<◌}
use mathlib.Core.Path.{◌≡◌, refl, ap, ◌∙◌}
use mathlib.Core.Bool.{Bool, true, false, cond}
use mathlib.Core.Logic.{⊎_elim}
use mathlib.Core.List.{List}
use native.Mathlib.Omega.{arith}
use Rattle.lists.proofs.Order.{eq_or_not}
use Rattle.lists.proofs.TurnLaws.{sum_to_change}
use Rattle.stream.specs.State.{reserve_of}
use Rattle.stream.proofs.FitLaws.{fit_reserve}
use Rattle.record.specs.Layout.{Whole, stream_count}
use Rattle.record.specs.Queues.{last_place_at, best_effort_at}
use Rattle.record.specs.Head.{open_at, link_at}
use Rattle.record.specs.Entry.{stream_at, drain_at}
use Rattle.record.proofs.QueueLaws.{queues_least, queues_most}
use Rattle.record.proofs.EntryPairs.{stream_stream, other_stream, stream_cases, prior_stream, waits_stream, queue_stream}
use Rattle.record.proofs.KeepLaws.{keeps_stream}
use Rattle.record.proofs.DrainPairs.{drain_stream, other_drain_stream}
use Rattle.ranges.specs.Ranges.{share_of, link_fits, delay_fits, permitted_fits}
use Rattle.record.specs.Reservations.{permitted_of, permitted_sum}
use Rattle.fitness.specs.Clauses.{stream_fits, reservation_fits}
use Rattle.fitness.specs.Fit.{record_fits}
use Rattle.fitness.proofs.FitLaws.{fit_record, record_fit, Plan, fit_plan, plan_fit}
use Rattle.fitness.proofs.TestLaws.{fit_stream}
use Rattle.opening.specs.Opening.{reserved_record}
use Rattle.port_laws.proofs.WriteFit.{bindings_stay}

module _ (p : List ℕ) (s permitted : ℕ) (whole : Whole p) (b : s < stream_count) where
  -- R rises by P
  pub reserved_sum : (stream_at p s).reserved ≡ false → permitted_sum (reserved_record p s permitted) ≡ permitted_sum p + permitted
  reserved_sum free =
      let k = reserved_record p s permitted in
      let none : permitted_of (stream_at p s) ≡ 0 = ap (λ (r : Bool). cond r (stream_at p s).permitted 0) free in
      let here : permitted_of (stream_at k s) ≡ permitted = ap permitted_of (stream_stream p s (reserve_of permitted) whole b) in
      let change : permitted_sum k + permitted_of (stream_at p s) ≡ permitted_sum p + permitted_of (stream_at k s) =
      sum_to_change (λ t. permitted_of (stream_at k t)) (λ t. permitted_of (stream_at p t)) stream_count s b
      (λ t o. ap permitted_of (other_stream p s (reserve_of permitted) t o)) in
      omega (arith, none, here, change)

  -- and the plan stays fit where P is in its range and the sum within the share
  reserved_plan : Plan p → (stream_at p s).reserved ≡ false → permitted_fits permitted ≡ true → permitted_sum p + permitted ≤ share_of (link_at p)
      → Plan (reserved_record p s permitted)
  reserved_plan plan free least share =
      let x = reserve_of permitted in
      let keeps = keeps_stream p s x in
      record {
        link = ap link_fits keeps.link ∙ plan.link;
        delay = ap delay_fits keeps.delay ∙ plan.delay;
        reservations = λ t c. stream_cases p s x (λ y. reservation_fits y ≡ true) t whole c (λ e. least) (λ o. plan.reservations t c);
        sum = omega (arith, reserved_sum free, share, keeps.link);
      }

-- a stream that was not reserved, and a P within the share still free
pub reserve_fits : (p m : List ℕ) (s permitted : ℕ) → record_fits p m ≡ true → open_at p ≡ true → s < stream_count → (stream_at p s).reserved ≡ false
    → permitted_fits permitted ≡ true
    → permitted_sum p + permitted ≤ share_of (link_at p)
    → record_fits (reserved_record p s permitted) m ≡ true
reserve_fits p m s permitted h opened b free least share =
    let fit = fit_record p m h in
    let x = reserve_of permitted in
    let k = reserved_record p s permitted in
    let keeps = keeps_stream p s x in
    let same = keeps.queues in
    let stream_fits_lem : (t : ℕ) → t < stream_count → stream_fits (last_place_at p) (stream_at k t) (drain_at k t) ≡ true =
    λ t c.
    ⊎_elim
    (λ (e : t ≡ s).
    rw (e, stream_stream p s x fit.long b, drain_stream p s x fit.long b)
    (fit_stream (last_place_at p) x 0 (fit_reserve (last_place_at p) permitted (omega (arith, queues_least p))) (omega arith)))
    (λ (o : t ≡ s → ⊥). rw (other_stream p s x t o, other_drain_stream p s x t o) (fit.streams t c))
    (eq_or_not t s) in
    record_fit k m
    (record {
      long = omega (arith, keeps.long, fit.long);
      prior = omega (arith, prior_stream p s x, same, fit.prior);
      queues = λ q c. rw (queue_stream p s x q (omega (arith, queues_most k))) (fit.queues q (omega (arith, same)));
      streams = λ t c. rw same (stream_fits_lem t c);
      bindings = bindings_stay p k m fit keeps (λ t c r. stream_cases p s x (λ y. y.reserved ≡ true) t fit.long c (λ e. refl) (λ o. r));
      frames = λ q c. rw (same, queue_stream p s x q (omega (arith, queues_most k))) (fit.frames q (omega (arith, same)));
      waits = rw (same, waits_stream p s x, queue_stream p s x (best_effort_at p) (omega (arith, queues_most p))) fit.waits;
      plan = plan_fit k (reserved_plan p s permitted fit.long b (fit_plan p opened fit.plan) free least share);
    })
