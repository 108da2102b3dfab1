-- A transmit keeps a record fit. Assumes nothing.
use Prim.Native.Nat.{ℕ, ◌+◌, ◌-◌, ◌<◌}
use mathlib.Core.Path.{◌≡◌, refl, sym, ap, ◌∙◌}
use mathlib.Core.Bool.{true}
use mathlib.Core.List.{List}
use native.Mathlib.Omega.{arith}
use Rattle.lists.specs.Turns.{all_of}
use Rattle.lists.proofs.TurnLaws.{both}
use Rattle.queue.specs.Ring.{front_of, sent_queue}
use Rattle.queue.specs.Waiting.{waiting}
use Rattle.queue.proofs.WaitingLaws.{sends, sends_charges}
use Rattle.record.specs.Queues.{queues_at, best_effort_at}
use Rattle.record.specs.Head.{waits_at, with_waits, queue_at, with_queue}
use Rattle.fitness.specs.Clauses.{frame_fits}
use Rattle.fitness.specs.Fit.{record_fits}
use Rattle.fitness.proofs.FitLaws.{Fit, fit_record, record_fit}
use Rattle.fitness.proofs.TestLaws.{queue_bounds, bounds_queue}
use Rattle.steps.specs.Roles.{role_at, prior_role, current_role}
use Rattle.sending.specs.Sending.{transmit_step}
use Rattle.steps.proofs.RoleLaws.{role_below}
use Rattle.sending.proofs.SendLaws.{first_cases}
use Rattle.port_laws.proofs.WriteFit.{FitQueue, fits_queue, fits_best_effort}

module _ (p m : List ℕ) (fit : Fit p m) where
  -- a queue without its oldest frame
  sent_waits : (q : ℕ) → q < queues_at p + 1 → ((queue_at p q).count ≡ 0 → ⊥) → FitQueue (best_effort_at p) m q (sent_queue (queue_at p q))
  sent_waits q b some =
      let x = queue_at p q in
      let all = ap (all_of (frame_fits (best_effort_at p) q)) (sym (sends m q x (omega arith))) ∙ fit.frames q b in (
        bounds_queue (sent_queue x) (omega arith) (omega (arith, (queue_bounds x (fit.queues q b)).1)),
        (both (frame_fits (best_effort_at p) q (front_of m q x)) (all_of (frame_fits (best_effort_at p) q) (waiting m q (sent_queue x))) all).1,
      )

  sent_fits : (q : ℕ) → q < queues_at p → ((queue_at p q).count ≡ 0 → ⊥) → Fit (with_queue p q (sent_queue (queue_at p q))) m
  sent_fits q b some = fits_queue p m fit m q (sent_queue (queue_at p q)) (sent_waits q (omega arith) some) (λ r y o. refl) b

  -- best effort: W falls by the charge of the frame that is sent
  sent_best_effort_fits : ((queue_at p (best_effort_at p)).count ≡ 0 → ⊥)
      → Fit (with_waits (with_queue p (best_effort_at p) (sent_queue (queue_at p (best_effort_at p)))) (waits_at p - (front_of m (best_effort_at p) (queue_at p (best_effort_at p))).charge)) m
  sent_best_effort_fits some =
      let best = best_effort_at p in
      let x = queue_at p best in
      fits_best_effort p m fit m (sent_queue x) (waits_at p - (front_of m best x).charge)
      (sent_waits best (omega arith) some)
      (λ r y o. refl)
      (omega (arith, fit.waits, sends_charges m best x (omega arith)))

-- by which queue has a frame
pub transmit_fits : (p m : List ℕ) → record_fits p m ≡ true → record_fits (transmit_step p m).port (transmit_step p m).memory ≡ true
unfolding transmit_step
transmit_fits p m h =
    let fit = fit_record p m h in
    let prior = role_at p prior_role in
    let current = role_at p current_role in
    first_cases p m prior current (best_effort_at p) (queue_at p prior) (queue_at p current) (queue_at p (best_effort_at p)) (λ o. record_fits o.port o.memory ≡ true)
    (λ i. record_fit _ m (sent_fits p m fit prior (role_below p prior_role) i))
    (λ i j. record_fit _ m (sent_fits p m fit current (role_below p current_role) j))
    (λ i j k. record_fit _ m (sent_best_effort_fits p m fit k))
    (λ i j k. h)
