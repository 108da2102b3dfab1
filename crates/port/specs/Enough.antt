-- Record and memory that neither way to look refuses are long enough. Assumes nothing.
use Prim.Native.Nat.{ℕ}
use mathlib.Core.Path.{◌≡◌}
use mathlib.Core.Bool.{cond}
use mathlib.Core.List.{List}
use native.Mathlib.Omega.{arith}
use lib.ListN.{length}
use lib.Dec.{ltb}
use borrow.Author.Tests.{ltb-false}
use Rattle.record.specs.Layout.{record_length, memory_length}
use Rattle.record.specs.Queues.{queues_at}
use Rattle.fitness.specs.Fit.{lent_refusal}
use Rattle.fitness.proofs.FitLaws.{fit_record, lent_fit}
use Rattle.gates.proofs.GateLaws.{past}
use Rattle.port.specs.Long.{Long}
use Rattle.port.specs.Quick.{length_refusal}

pub long_enough : (p m : List ℕ) → length_refusal p m ≡ 0 → Long p m
unfolding length_refusal
long_enough p m e =
    let a = past (ltb (length m) (memory_length (queues_at p))) 18 (cond (ltb (length p) record_length) 19 0) (omega arith) e in
    let b = past (ltb (length p) record_length) 19 0 (omega arith) a.1 in
    record { whole = ltb-false (length p) record_length b.0; room = ltb-false (length m) (memory_length (queues_at p)) a.0 }

-- so are a record and a memory that 18 and 19 do not refuse
pub lent_enough : (p m : List ℕ) → lent_refusal p m ≡ 0 → Long p m
lent_enough p m e = let a = lent_fit p m e in record { whole = (fit_record p m a.1).long; room = a.0 }
