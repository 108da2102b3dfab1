-- The step of Frame(octets, tag): the call that the frame becomes, with that call's own refusals.
use Rattle.std.specs.Prelude.{ℕ, List, Option, Some, None}
use Rattle.header.specs.Header.{charge_of}
use Rattle.steps.specs.Call.{Call, arriving, joining_best_effort}
use Rattle.steps.specs.Outcome.{Outcome, gated}
use Rattle.arriving.specs.Arriving.{arrive_step}
use Rattle.best_effort.specs.BestEffort.{best_effort_step}
use Rattle.binding.specs.Finding.{frame_lookup}
use Rattle.gates.specs.Refusals.{arrive_refusal, best_effort_refusal}

-- "A bound pair is an Arrive on its stream; all else is best effort", with the frame's charge and tag
abbrev pub becoming : List ℕ → ℕ → Option ℕ → Call
becoming octets tag (Some s) = arriving s (charge_of octets) tag
becoming octets tag None = joining_best_effort (charge_of octets) tag

-- what that call does, by what the lookup of the header answers
abbrev pub becomes : List ℕ → List ℕ → ℕ → ℕ → Option ℕ → Outcome
becomes p m charge tag (Some s) = gated (arrive_refusal p s charge) p m (arrive_step p m s charge tag)
becomes p m charge tag None = gated (best_effort_refusal p charge) p m (best_effort_step p m charge tag)

-- the step of Frame
abbrev pub frame_step : List ℕ → List ℕ → List ℕ → ℕ → Outcome
frame_step p m octets tag = becomes p m (charge_of octets) tag (frame_lookup p octets)
