-- The calls: 18 and 19, then the call's own refusals, then its step. Each gives reply, record and memory for every record, memory and argument.
use Rattle.std.specs.Prelude.{ℕ, List}
use Rattle.fitness.specs.Fit.{lent_refusal}
use Rattle.steps.specs.Call.{Call}
use Rattle.steps.specs.Outcome.{Outcome, gated, performed}
use Rattle.gates.specs.Table.{refusal_of, step_of}

-- the call by what is refused of record and memory, with these refusals of its own and this step
abbrev pub looked : (List ℕ → List ℕ → ℕ) → (List ℕ → ℕ) → (List ℕ → List ℕ → Outcome) → List ℕ → List ℕ → Outcome
looked lent refusal step p m = gated (lent p m) p m (performed refusal step p m)

-- every call by what is refused of record and memory, by the table
abbrev pub called_by : (List ℕ → List ℕ → ℕ) → Call → List ℕ → List ℕ → Outcome
called_by lent c = looked lent (refusal_of c) (step_of c)

-- the call with these refusals of its own and this step
abbrev pub checked : (List ℕ → ℕ) → (List ℕ → List ℕ → Outcome) → List ℕ → List ℕ → Outcome
checked refusal step p m = gated (lent_refusal p m) p m (performed refusal step p m)

-- every call, by the table
abbrev pub called : Call → List ℕ → List ℕ → Outcome
called c = checked (refusal_of c) (step_of c)
