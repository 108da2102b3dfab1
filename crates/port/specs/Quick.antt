-- The quick calls, for a host that alone writes the record: of 18 and 19 they ask only the two lengths, and scan nothing. On a fit record each
-- equals the call; on any other it is what is said here.
use Rattle.std.specs.Prelude.{ℕ, cond, List, length, ltb}
use Rattle.record.specs.Layout.{record_length, memory_length}
use Rattle.record.specs.Queues.{queues_at}
use Rattle.steps.specs.Call.{Call}
use Rattle.steps.specs.Outcome.{Outcome, gated, performed}
use Rattle.gates.specs.Table.{refusal_of, step_of}

-- 18 where the memory is too short, 19 where the record is
unfoldable pub length_refusal : List ℕ → List ℕ → ℕ
length_refusal p m = cond (ltb (length m) (memory_length (queues_at p))) 18 (cond (ltb (length p) record_length) 19 0)

-- the quick call with these refusals of its own and this step
abbrev pub unscanned : (List ℕ → ℕ) → (List ℕ → List ℕ → Outcome) → List ℕ → List ℕ → Outcome
unscanned refusal step p m = gated (length_refusal p m) p m (performed refusal step p m)

-- every quick call, by the table
abbrev pub quickly_called : Call → List ℕ → List ℕ → Outcome
quickly_called c = unscanned (refusal_of c) (step_of c)
