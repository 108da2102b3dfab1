-- Bind(s, address, VID).
use Rattle.std.specs.Prelude.{ℕ, List}
use Rattle.stream.specs.Replies.{granted}
use Rattle.record.specs.Entry.{with_binding}
use Rattle.steps.specs.Outcome.{Outcome, outcome}

-- "gives a stream a destination address of six octets and a VLAN id"; "Bind replies two zeros"
abbrev pub bind_step : List ℕ → List ℕ → ℕ → List ℕ → ℕ → Outcome
bind_step p m s address vid = outcome (granted 0 0) (with_binding p s address vid) m
