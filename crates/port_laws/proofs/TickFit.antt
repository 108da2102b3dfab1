-- A tick keeps a record fit. Assumes nothing.
use Prim.Native.Nat.{ℕ, ◌-◌}
use mathlib.Core.Path.{◌≡◌, refl, ap}
use mathlib.Core.Bool.{Bool, true, false, cond}
use mathlib.Core.List.{List}
use native.Mathlib.Omega.{arith}
use Rattle.lists.specs.Turns.{all_of}
use Rattle.lists.proofs.TurnLaws.{iterate_keeps}
use Rattle.stream.specs.Steps.{tick_of}
use Rattle.stream.proofs.FitLaws.{fit_tick, permitted_tick}
use Rattle.queue.specs.Ring.{empty_queue}
use Rattle.queue.proofs.WaitingLaws.{empty_waits}
use Rattle.record.specs.Layout.{stream_count}
use Rattle.record.specs.Queues.{last_place_at, best_effort_at}
use Rattle.record.specs.Head.{with_prior, with_queue}
use Rattle.record.specs.Entry.{stream_at, drain_at}
use Rattle.record.proofs.QueueLaws.{queues_queue}
use Rattle.fitness.specs.Clauses.{frame_fits}
use Rattle.fitness.specs.Fit.{record_fits}
use Rattle.fitness.proofs.FitLaws.{Fit, fit_record, record_fit}
use Rattle.fitness.proofs.TestLaws.{stream_fit, lower_fits}
use Rattle.steps.specs.Roles.{role_at, prior_role, current_role}
use Rattle.steps.specs.Moves.{moved}
use Rattle.ticking.specs.Ticking.{drained_at, ticked_at, ticked_record}
use Rattle.steps.proofs.RoleLaws.{role_below}
use Rattle.port_laws.proofs.WriteFit.{fits_prior, fits_moved, fits_drain, fits_queue}
use Rattle.port_laws.proofs.DropFit.{fits_dropped}
use Rattle.port_laws.proofs.TurnKeeps.{drained_keeps}

-- a stream that drains, if it does
drained_fits : (m : List ℕ) (s : ℕ) (l : List ℕ) → Fit l m → Fit (drained_at s l) m
drained_fits m s =
    drained_keeps (λ l. Fit l m) s
    (λ l fit. fits_dropped l m fit s)
    (λ l fit. fits_drain l m fit s (drain_at l s - 1) (λ b. lower_fits (last_place_at l) (stream_at l s) (drain_at l s) (drain_at l s - 1) (omega arith) (fit.streams s b)))

-- one stream's tick
ticked_fits : (m : List ℕ) (s : ℕ) (l : List ℕ) → Fit l m → Fit (ticked_at s l) m
ticked_fits m s l fit = told (stream_at l s).reserved refl
  where
    told : (b : Bool) → (stream_at l s).reserved ≡ b → Fit (cond b (drained_at s (moved l s (tick_of (stream_at l s)))) l) m
    told true e =
        drained_fits m s (moved l s (tick_of (stream_at l s)))
        (fits_moved l m fit s (tick_of (stream_at l s))
        (λ b. fit_tick (last_place_at l) (stream_at l s) (stream_fit (last_place_at l) (stream_at l s) (drain_at l s) e (fit.streams s b)))
        e
        (permitted_tick (stream_at l s)))
    told false e = fit

-- the purge, the roles, and every stream
pub tick_fits : (p m : List ℕ) → record_fits p m ≡ true → record_fits (ticked_record p) m ≡ true
unfolding ticked_record
tick_fits p m h =
    let fit = fit_record p m h in
    let prior = role_at p prior_role in
    let current = role_at p current_role in
    let purged : Fit (with_queue p prior empty_queue) m =
    fits_queue p m fit m prior empty_queue (refl, ap (all_of (frame_fits (best_effort_at p) prior)) (empty_waits m prior)) (λ r y o. refl) (role_below p prior_role) in
    record_fit _ m
    (iterate_keeps (λ l. Fit l m) ticked_at stream_count (with_prior (with_queue p prior empty_queue) current) (ticked_fits m)
    (fits_prior (with_queue p prior empty_queue) m purged current (omega (arith, role_below p current_role, queues_queue p prior empty_queue))))
