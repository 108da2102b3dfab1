-- `gates::refusals::best_effort` meets its contract. Check after check. Assumes nothing.
use mathlib.Core.Path.{◌≡◌, sym, ◌∙◌}
use native.Mathlib.Omega.{arith}
use borrow.Author.Rules.{rules}
use Rattle.stream.specs.Replies.{refusal_number, number_of}
use Rattle.stream.proofs.AnswerLaws.{number_some}
use Rattle.gates.specs.Refusals.{best_effort_refusal}
use Rattle.gates.proofs.TestLaws.{tests}
use Rattle.gates.proofs.refusals.best_effort.Goals as goal

pub returns-in_err-closed : goal.returns-in_err-closed
unfolding best_effort_refusal
returns-in_err-closed c =
    let same : refusal_number c.from_residual.result ≡ number_of c.in_err-closed.field-0.0 = search rules in
    (search tests depth 12 fits 8000, λ zero. absurd (number_some c.in_err-closed.field-0.0 (sym same ∙ zero)))

pub returns-then-not-charge_fits : goal.returns-then-not-charge_fits
unfolding best_effort_refusal
returns-then-not-charge_fits c = (search tests depth 12 fits 8000, λ zero. absurd (omega (arith, zero)))

pub returns-then-is_full : goal.returns-then-is_full
unfolding best_effort_refusal
returns-then-is_full c = (search tests depth 12 fits 8000, λ zero. absurd (omega (arith, zero)))

pub returns-then-exceeds_limit : goal.returns-then-exceeds_limit
unfolding best_effort_refusal
returns-then-exceeds_limit c = (search tests depth 12 fits 8000, λ zero. absurd (omega (arith, zero)))

pub returns : goal.returns
unfolding best_effort_refusal
returns c = (search tests depth 12 fits 8000, λ zero. c.exceeds_limit.ensures.1 c.if-exceeds_limit.false)
