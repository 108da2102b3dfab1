-- The table of calls: what each refuses of a record and memory that are long enough, and the step that it makes where nothing refuses it.
use Rattle.std.specs.Prelude.{ℕ, List}
use Rattle.steps.specs.Call.{Call, opening, reserving, withdrawing, arriving, ticking, transmitting, joining_best_effort, binding, framing}
use Rattle.steps.specs.Outcome.{Outcome}
use Rattle.opening.specs.Opening.{open_step, reserve_step}
use Rattle.opening.specs.Withdrawing.{withdraw_step}
use Rattle.arriving.specs.Arriving.{arrive_step}
use Rattle.ticking.specs.Ticking.{tick_step}
use Rattle.sending.specs.Sending.{transmit_step}
use Rattle.best_effort.specs.BestEffort.{best_effort_step}
use Rattle.binding.specs.Binding.{bind_step}
use Rattle.gates.specs.Refusals.{open_refusal, reserve_refusal, withdraw_refusal, arrive_refusal, closed_refusal, best_effort_refusal}
use Rattle.gates.specs.FrameRefusals.{bind_refusal, frame_refusal}
use Rattle.gates.specs.Becoming.{frame_step}

-- the number of the first refusal that applies, or 0
abbrev pub refusal_of : Call → List ℕ → ℕ
refusal_of (opening t) p = open_refusal p t
refusal_of (reserving s permitted) p = reserve_refusal p s permitted
refusal_of (withdrawing s) p = withdraw_refusal p s
refusal_of (arriving s charge tag) p = arrive_refusal p s charge
refusal_of ticking p = closed_refusal p
refusal_of transmitting p = closed_refusal p
refusal_of (joining_best_effort charge tag) p = best_effort_refusal p charge
refusal_of (binding s address vid) p = bind_refusal p s address vid
refusal_of (framing octets tag) p = frame_refusal p octets

-- what is done where it is 0
abbrev pub step_of : Call → List ℕ → List ℕ → Outcome
step_of (opening t) p m = open_step p m t
step_of (reserving s permitted) p m = reserve_step p m s permitted
step_of (withdrawing s) p m = withdraw_step p m s
step_of (arriving s charge tag) p m = arrive_step p m s charge tag
step_of ticking p m = tick_step p m
step_of transmitting p m = transmit_step p m
step_of (joining_best_effort charge tag) p m = best_effort_step p m charge tag
step_of (binding s address vid) p m = bind_step p m s address vid
step_of (framing octets tag) p m = frame_step p m octets tag
