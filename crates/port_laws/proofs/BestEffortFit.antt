-- A frame that joins best effort keeps a record fit, whether or not W is within its limit. Assumes nothing.
use Prim.Native.Nat.{ℕ, ◌+◌, ◌<◌}
use mathlib.Core.Path.{◌≡◌, refl, sym, ap, ◌∙◌}
use mathlib.Core.Bool.{true}
use mathlib.Core.List.{List}
use native.Mathlib.Omega.{arith}
use borrow.Author.Tests.{eq-eqb}
use Rattle.queue.specs.Ring.{place_count, joined_memory, joined_queue}
use Rattle.queue.proofs.WaitingLaws.{joins_charges, joins_elsewhere}
use Rattle.record.specs.Queues.{best_effort_at, HasMemory}
use Rattle.record.specs.Head.{waits_at, queue_at}
use Rattle.ranges.specs.Ranges.{charge_fits}
use Rattle.fitness.specs.Fit.{record_fits}
use Rattle.fitness.proofs.FitLaws.{fit_record, record_fit}
use Rattle.best_effort.specs.BestEffort.{best_effort_frame, best_effort_step}
use Rattle.port_laws.proofs.WriteFit.{fits_joined, fits_best_effort}

-- W rises by the charge of the frame, and so does the sum of the charges waiting
pub best_effort_fits : (p m : List ℕ) (a tag : ℕ) → HasMemory p m → record_fits p m ≡ true → charge_fits a ≡ true
    → (queue_at p (best_effort_at p)).count < place_count
    → record_fits (best_effort_step p m a tag).port (best_effort_step p m a tag).memory ≡ true
unfolding best_effort_step
best_effort_fits p m a tag room h charge free =
    let fit = fit_record p m h in
    let best = best_effort_at p in
    let x = queue_at p best in
    let f = best_effort_frame a tag in
    record_fit (best_effort_step p m a tag).port (best_effort_step p m a tag).memory
    (fits_best_effort p m fit (joined_memory m best x f) (joined_queue x) (waits_at p + a)
    (fits_joined p m fit best f (omega arith) room free (rw (eq-eqb best best refl) charge))
    (λ r y o. joins_elsewhere m best r x y f o)
    (ap (λ (n : ℕ). n + a) fit.waits ∙ sym (joins_charges m best x f free (omega arith))))
