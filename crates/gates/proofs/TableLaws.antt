-- What a function of this crate promises is what the table says of its call. Assumes nothing.
use Prim.Native.Nat.{ℕ}
use mathlib.Core.Path.{◌≡◌, refl}
use mathlib.Core.List.{List}
use Rattle.steps.specs.Call.{Terms, Call, opening, reserving, withdrawing, arriving, ticking, transmitting, joining_best_effort, binding, framing}
use Rattle.steps.specs.Outcome.{Outcome, performed}
use Rattle.opening.specs.Opening.{open_step, reserve_step}
use Rattle.opening.specs.Withdrawing.{withdraw_step}
use Rattle.arriving.specs.Arriving.{arrive_step}
use Rattle.ticking.specs.Ticking.{tick_step}
use Rattle.sending.specs.Sending.{transmit_step}
use Rattle.best_effort.specs.BestEffort.{best_effort_step}
use Rattle.binding.specs.Binding.{bind_step}
use Rattle.gates.specs.Refusals.{open_refusal, reserve_refusal, withdraw_refusal, arrive_refusal, closed_refusal, best_effort_refusal}
use Rattle.gates.specs.FrameRefusals.{bind_refusal, frame_refusal}
use Rattle.gates.specs.Becoming.{frame_step}
use Rattle.gates.specs.Table.{refusal_of, step_of}

module _ (p m : List ℕ) where
  -- what the table says of a call
  abbrev row : Call → Outcome
  row c = performed (refusal_of c) (step_of c) p m

  pub open_row : (t : Terms) → row (opening t) ≡ performed (λ p. open_refusal p t) (λ p m. open_step p m t) p m
  open_row t = refl

  pub reserve_row : (s permitted : ℕ) → row (reserving s permitted) ≡ performed (λ p. reserve_refusal p s permitted) (λ p m. reserve_step p m s permitted) p m
  reserve_row s permitted = refl

  pub withdraw_row : (s : ℕ) → row (withdrawing s) ≡ performed (λ p. withdraw_refusal p s) (λ p m. withdraw_step p m s) p m
  withdraw_row s = refl

  pub arrive_row : (s charge tag : ℕ) → row (arriving s charge tag) ≡ performed (λ p. arrive_refusal p s charge) (λ p m. arrive_step p m s charge tag) p m
  arrive_row s charge tag = refl

  pub tick_row : row ticking ≡ performed closed_refusal tick_step p m
  tick_row = refl

  pub transmit_row : row transmitting ≡ performed closed_refusal transmit_step p m
  transmit_row = refl

  pub best_effort_row : (charge tag : ℕ) → row (joining_best_effort charge tag) ≡ performed (λ p. best_effort_refusal p charge) (λ p m. best_effort_step p m charge tag) p m
  best_effort_row charge tag = refl

  pub bind_row : (s : ℕ) (address : List ℕ) (vid : ℕ) → row (binding s address vid) ≡ performed (λ p. bind_refusal p s address vid) (λ p m. bind_step p m s address vid) p m
  bind_row s address vid = refl

  pub frame_row : (octets : List ℕ) (tag : ℕ) → row (framing octets tag) ≡ performed (λ p. frame_refusal p octets) (λ p m. frame_step p m octets tag) p m
  frame_row octets tag = refl
