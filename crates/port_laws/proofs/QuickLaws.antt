-- On a fit record a quick call equals the call. Assumes nothing.
use Prim.Native.Nat.{ℕ}
use mathlib.Core.Path.{◌≡◌, ap, ◌∙◌, sym}
use mathlib.Core.Bool.{Bool, true, cond}
use mathlib.Core.List.{List}
use lib.ListN.{length}
use lib.Dec.{ltb}
use borrow.Author.Tests.{le-ltb}
use Rattle.record.specs.Layout.{record_length, memory_length}
use Rattle.record.specs.Queues.{queues_at}
use Rattle.fitness.specs.Fit.{record_fits, lent_refusal}
use Rattle.steps.specs.Call.{Call}
use Rattle.steps.specs.Outcome.{gated, performed}
use Rattle.gates.specs.Table.{refusal_of, step_of}
use Rattle.port.specs.Calls.{called}
use Rattle.port.specs.Quick.{length_refusal, quickly_called}
use Rattle.fitness.proofs.FitLaws.{fit_record}

-- the lengths alone refuse what 18 and 19 refuse
pub same_refusal : (p m : List ℕ) → record_fits p m ≡ true → length_refusal p m ≡ lent_refusal p m
unfolding length_refusal lent_refusal
same_refusal p m fit =
    ap (cond (ltb (length m) (memory_length (queues_at p))) 18)
    (ap (λ (b : Bool). cond b 19 0) (le-ltb (length p) record_length (fit_record p m fit).long) ∙ sym (ap (λ (b : Bool). cond b 0 19) fit))

-- so every quick call is the call
pub quick_call : (c : Call) (p m : List ℕ) → record_fits p m ≡ true → quickly_called c p m ≡ called c p m
quick_call c p m fit = ap (λ (g : ℕ). gated g p m (performed (refusal_of c) (step_of c) p m)) (same_refusal p m fit)
