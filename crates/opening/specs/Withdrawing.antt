-- Withdraw(s).
use Rattle.std.specs.Prelude.{ℕ, List}
use Rattle.stream.specs.Replies.{granted}
use Rattle.record.specs.Queues.{queues_at}
use Rattle.record.specs.Entry.{with_drain}
use Rattle.steps.specs.Outcome.{Outcome, outcome}

-- "It drains until the fourth tick after the withdrawal": until the tick whose number is that of the queues. "It still counts as reserved, with its P in
-- R and the share", and "its frames already queued stay queued": nothing else is written
abbrev pub withdrawn_record : List ℕ → ℕ → List ℕ
withdrawn_record p s = with_drain p s (queues_at p)

-- "A withdrawal replies two zeros"
abbrev pub withdraw_step : List ℕ → List ℕ → ℕ → Outcome
withdraw_step p m s = outcome (granted 0 0) (withdrawn_record p s) m
