-- Which numbers a call's own refusals have, and what an open port refuses. Assumes nothing.
use Prim.Native.Nat.{ℕ}
use mathlib.Core.Path.{◌≡◌}
use mathlib.Core.Bool.{true}
use mathlib.Core.List.{List}
use Rattle.record.specs.Head.{open_at}
use Rattle.steps.specs.Call.{Terms, Call, opening, reserving, withdrawing, arriving, ticking, transmitting, joining_best_effort, binding, framing}
use Rattle.gates.specs.Refusals.{open_refusal, reserve_refusal, withdraw_refusal, arrive_refusal, closed_refusal, best_effort_refusal}
use Rattle.gates.specs.FrameRefusals.{bind_refusal, frame_refusal}
use Rattle.gates.specs.Table.{refusal_of}
use borrow.Author.Rules.{rules}
use Rattle.gates.proofs.NumberLaws.{Outside, outside_low, low_test, high_test}

-- an open port refuses Open with 2, and neither Tick nor Transmit
pub open_taken : (p : List ℕ) (t : Terms) → open_at p ≡ true → open_refusal p t ≡ 2
unfolding open_refusal
open_taken p t opened = rw opened

pub closed_passes : (p : List ℕ) → open_at p ≡ true → closed_refusal p ≡ 0
unfolding closed_refusal
closed_passes p opened = rw opened

-- a number that is none of the host's, 18 to 20
abbrev pub Own : ℕ → Type 0
Own = Outside 18 20

-- each call's own refusals have such numbers
pub refusal_own : (c : Call) (p : List ℕ) → Own (refusal_of c p)
unfolding open_refusal reserve_refusal withdraw_refusal arrive_refusal closed_refusal best_effort_refusal bind_refusal frame_refusal
refusal_own (opening t) p = search (low_test, outside_low, rules) depth 9
refusal_own (reserving s permitted) p = search (low_test, high_test, outside_low, rules) depth 9
refusal_own (withdrawing s) p = search (low_test, high_test, outside_low, rules) depth 9
refusal_own (arriving s charge tag) p = search (low_test, high_test, outside_low, rules) depth 9
refusal_own ticking p = search (low_test, outside_low, rules) depth 9
refusal_own transmitting p = search (low_test, outside_low, rules) depth 9
refusal_own (joining_best_effort charge tag) p = search (low_test, outside_low, rules) depth 9
refusal_own (binding s address vid) p = search (low_test, high_test, outside_low, rules) depth 9
refusal_own (framing octets tag) p = search (low_test, outside_low, rules) depth 9
