-- Refusals 18 and 19 of a record and a memory of any length and content.
use Rattle.std.specs.Prelude.{ℕ, Bool, ◌&&◌, cond, List, length, leb, ltb}
use Rattle.record.specs.Layout.{record_length, memory_length}
use Rattle.record.specs.Queues.{queues_at}
use Rattle.fitness.specs.Clauses.{prior_fits, queues_fit, streams_fit, bindings_fit, frames_fit, waits_fit, open_fits}

-- the record is fit: none of the clauses of 19 holds of it, and the slice is no shorter than the record
unfoldable pub record_fits : List ℕ → List ℕ → Bool
record_fits p m =
    leb record_length (length p)
    && prior_fits p
    && queues_fit p
    && streams_fit p
    && bindings_fit p
    && frames_fit p m
    && waits_fit p m
    && open_fits p

-- "18 lent memory under 1,280 places; 19 port record unfit"; 0 where neither is the case
unfoldable pub lent_refusal : List ℕ → List ℕ → ℕ
lent_refusal p m = cond (ltb (length m) (memory_length (queues_at p))) 18 (cond (record_fits p m) 0 19)
