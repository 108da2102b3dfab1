-- What the functions of the replay promise each other of an event. The output's definition does not rest on it.
use Rattle.std.specs.Prelude.{ℕ, List}
use Rattle.steps.specs.Outcome.{Outcome}
use Rattle.port.specs.Quick.{quickly_called}
use Rattle.capture.specs.Events.{call_at}

-- what the quick call of record i replies, and leaves of a record and a memory
abbrev pub quick_event : List ℕ → ℕ → List ℕ → List ℕ → Outcome
quick_event f i p m = quickly_called (call_at f i) p m
