-- A record stays fit where a stream is dropped, whichever: its binding goes with it, and R falls. Assumes nothing.
use Prim.Native.Nat.{ℕ, ◌+◌, ◌≤◌, ◌<◌}
use mathlib.Core.Path.{◌≡◌, refl, sym, ap, ap₂, ◌∙◌}
use mathlib.Core.Bool.{Bool, true, false, not, ◌&&◌, cond, true≢false}
use mathlib.Core.Logic.{⊎_elim}
use mathlib.Core.List.{List}
use native.Mathlib.Omega.{arith}
use Rattle.lists.proofs.Order.{eq_or_not, le_or_lt}
use Rattle.lists.proofs.TurnLaws.{both, all_to_at, all_to_all, sum_to_same, sum_to_change}
use Rattle.record.specs.Layout.{stream_count}
use Rattle.record.specs.Queues.{last_place_at, best_effort_at}
use Rattle.record.specs.Head.{open_at}
use Rattle.record.specs.Entry.{stream_at, drain_at, bound_at, vid_at, address_at, same_pair, dropped}
use Rattle.record.specs.Reservations.{permitted_of, permitted_sum}
use Rattle.record.proofs.QueueLaws.{queues_most, queues_dropped}
use Rattle.record.proofs.DropPairs.{length_dropped, open_dropped, prior_dropped, delay_dropped, link_dropped, waits_dropped, queue_dropped, stream_dropped, bound_dropped, other_stream_dropped, other_drain_dropped, other_bound_dropped, vid_dropped, address_dropped}
use Rattle.ranges.specs.Ranges.{link_fits, delay_fits, vid_fits}
use Rattle.fitness.specs.Clauses.{stream_fits, binding_fits, unlike_earlier, reservation_fits, open_fits}
use Rattle.fitness.proofs.FitLaws.{Fit, Plan, fit_plan, plan_fit}
use Rattle.fitness.proofs.TestLaws.{free_fits}
use Rattle.port_laws.proofs.BindFit.{if_bound}

-- what is asked of a bound stream is asked of fewer
fewer : (was is answer : Bool) → (is ≡ true → was ≡ true) → cond was answer true ≡ true → cond is answer true ≡ true
fewer was true answer h e = rw (h refl) at e
fewer was false answer h e = refl

module _ (p m : List ℕ) (fit : Fit p m) (s : ℕ) where
  abbrev after : List ℕ
  after = dropped p s

  -- what holds of the stream that is dropped and of every other holds of each
  each : (G : ℕ → Type 0) → (s < stream_count → G s) → ((t : ℕ) → t < stream_count → (t ≡ s → ⊥) → G t) → (t : ℕ) → t < stream_count → G t
  each G here other t b = ⊎_elim (λ (e : t ≡ s). rw e (here (omega arith))) (λ (o : t ≡ s → ⊥). other t b o) (eq_or_not t s)

  streams_fit_lem : (t : ℕ) → t < stream_count → stream_fits (last_place_at after) (stream_at after t) (drain_at after t) ≡ true
  streams_fit_lem =
      each (λ t. stream_fits (last_place_at after) (stream_at after t) (drain_at after t) ≡ true)
      (λ b. free_fits (last_place_at after) (stream_at after s) (drain_at after s) (stream_dropped p s fit.long b))
      (λ t b o. rw (queues_dropped p s, other_stream_dropped p s t o, other_drain_dropped p s t o) (fit.streams t b))

  -- no stream is bound by it
  bound_before : (t : ℕ) → t < stream_count → bound_at after t ≡ true → bound_at p t ≡ true
  bound_before =
      each (λ t. bound_at after t ≡ true → bound_at p t ≡ true)
      (λ b e. absurd (true≢false (sym e ∙ bound_dropped p s fit.long b)))
      (λ t b o e. sym (other_bound_dropped p s t o) ∙ e)

  unlike_still : (t : ℕ) → t < stream_count → unlike_earlier p t ≡ true → unlike_earlier after t ≡ true
  unlike_still t b unlike =
      all_to_all (λ u. cond (bound_at after u) (not (same_pair (vid_at after u) (address_at after u) (vid_at after t) (address_at after t))) true) t
      (λ u c.
      rw (vid_dropped p s u, address_dropped p s u, vid_dropped p s t, address_dropped p s t)
      (fewer (bound_at p u) (bound_at after u) (not (same_pair (vid_at p u) (address_at p u) (vid_at p t) (address_at p t))) (bound_before u (omega arith))
      (all_to_at (λ i. cond (bound_at p i) (not (same_pair (vid_at p i) (address_at p i) (vid_at p t) (address_at p t))) true) t u c unlike)))

  other_bindings_fit : (t : ℕ) → t < stream_count → (t ≡ s → ⊥) → binding_fits after t (unlike_earlier after t) ≡ true
  other_bindings_fit t b o =
      if_bound (bound_at after t) (stream_at after t).reserved (vid_fits (vid_at after t)) (unlike_earlier after t)
      (λ e.
      let was : ((stream_at p t).reserved && vid_fits (vid_at p t) && unlike_earlier p t) ≡ true = rw (bound_before t b e) at (fit.bindings t b) in
      let front = both ((stream_at p t).reserved && vid_fits (vid_at p t)) (unlike_earlier p t) was in
      let still : ((stream_at after t).reserved && vid_fits (vid_at after t)) ≡ true = rw (other_stream_dropped p s t o, vid_dropped p s t) front.0 in
      ap₂ ◌&&◌ still (unlike_still t b front.1))

  bindings_fit_lem : (t : ℕ) → t < stream_count → binding_fits after t (unlike_earlier after t) ≡ true
  bindings_fit_lem = each (λ t. binding_fits after t (unlike_earlier after t) ≡ true) (λ b. rw (bound_dropped p s fit.long b)) other_bindings_fit

  -- R falls by its P
  sum_falls : permitted_sum after ≤ permitted_sum p
  sum_falls =
      ⊎_elim
      (λ (beyond : stream_count ≤ s).
      let same : permitted_sum after ≡ permitted_sum p =
      sum_to_same (λ t. permitted_of (stream_at after t)) (λ t. permitted_of (stream_at p t)) stream_count
      (λ t b. ap permitted_of (other_stream_dropped p s t (λ e. omega arith))) in
      omega (arith, same))
      (λ (b : s < stream_count).
      let none : permitted_of (stream_at after s) ≡ 0 = ap (λ (r : Bool). cond r (stream_at after s).permitted 0) (stream_dropped p s fit.long b) in
      let change : permitted_sum after + permitted_of (stream_at p s) ≡ permitted_sum p + permitted_of (stream_at after s) =
      sum_to_change (λ t. permitted_of (stream_at after t)) (λ t. permitted_of (stream_at p t)) stream_count s b
      (λ t o. ap permitted_of (other_stream_dropped p s t o)) in
      omega (arith, none, change))
      (le_or_lt stream_count s)

  plan_still : Plan p → Plan after
  plan_still plan =
      record {
        link = ap link_fits (link_dropped p s) ∙ plan.link;
        delay = ap delay_fits (delay_dropped p s) ∙ plan.delay;
        reservations =
            each (λ t. reservation_fits (stream_at after t) ≡ true) (λ b. rw (stream_dropped p s fit.long b))
            (λ t b o. rw (other_stream_dropped p s t o) (plan.reservations t b));
        sum = omega (arith, sum_falls, plan.sum, link_dropped p s);
      }

  open_still : open_fits after ≡ true
  open_still = told (open_at p) refl
    where
      told : (b : Bool) → open_at p ≡ b → open_fits after ≡ true
      told true e = plan_fit after (plan_still (fit_plan p e fit.plan))
      told false e = rw (open_dropped p s ∙ e)

  -- nothing is asked of the stream, whose number may be any
  pub fits_dropped : Fit (dropped p s) m
  fits_dropped =
      record {
        long = omega (arith, length_dropped p s, fit.long);
        prior = omega (arith, prior_dropped p s, queues_dropped p s, fit.prior);
        queues = λ q b. rw (queue_dropped p s q (omega (arith, queues_most after))) (fit.queues q (omega (arith, queues_dropped p s)));
        streams = streams_fit_lem;
        bindings = bindings_fit_lem;
        frames = λ q b. rw (queues_dropped p s, queue_dropped p s q (omega (arith, queues_most after))) (fit.frames q (omega (arith, queues_dropped p s)));
        waits = rw (queues_dropped p s, waits_dropped p s, queue_dropped p s (best_effort_at p) (omega (arith, queues_most p))) fit.waits;
        plan = open_still;
      }
