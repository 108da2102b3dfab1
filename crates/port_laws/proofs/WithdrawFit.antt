-- A withdrawal keeps a record fit. Assumes nothing.
use Prim.Native.Nat.{ℕ, ◌<◌}
use mathlib.Core.Path.{◌≡◌}
use mathlib.Core.Bool.{true}
use mathlib.Core.List.{List}
use native.Mathlib.Omega.{arith}
use Rattle.record.specs.Layout.{stream_count}
use Rattle.record.specs.Queues.{queues_at, last_place_at}
use Rattle.record.specs.Entry.{stream_at, drain_at}
use Rattle.record.proofs.QueueLaws.{queues_least}
use Rattle.fitness.specs.Fit.{record_fits}
use Rattle.fitness.proofs.FitLaws.{fit_record, record_fit}
use Rattle.fitness.proofs.TestLaws.{stream_fit, fit_stream}
use Rattle.opening.specs.Withdrawing.{withdrawn_record}
use Rattle.port_laws.proofs.WriteFit.{fits_drain}

-- the count is the number of the queues, the most that is fit
pub withdraw_fits : (p m : List ℕ) (s : ℕ) → record_fits p m ≡ true → (stream_at p s).reserved ≡ true → record_fits (withdrawn_record p s) m ≡ true
withdraw_fits p m s h reserved =
    let fit = fit_record p m h in
    record_fit (withdrawn_record p s) m
    (fits_drain p m fit s (queues_at p)
    (λ (b : s < stream_count).
    fit_stream (last_place_at p) (stream_at p s) (queues_at p) (stream_fit (last_place_at p) (stream_at p s) (drain_at p s) reserved (fit.streams s b)) (omega (arith, queues_least p))))
