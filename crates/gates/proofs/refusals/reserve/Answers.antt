-- `gates::refusals::reserve` meets its contract. Check after check. Assumes nothing.
use mathlib.Core.Path.{◌≡◌, sym, ◌∙◌}
use native.Mathlib.Omega.{arith}
use borrow.Author.Rules.{rules}
use Rattle.stream.specs.Replies.{refusal_number, number_of}
use Rattle.stream.proofs.AnswerLaws.{number_some}
use Rattle.gates.specs.Refusals.{reserve_refusal}
use Rattle.gates.proofs.TestLaws.{tests}
use Rattle.gates.proofs.refusals.reserve.Goals as goal

pub returns-in_err-on_stream : goal.returns-in_err-on_stream
unfolding reserve_refusal
returns-in_err-on_stream c =
    let same : refusal_number c.from_residual.result ≡ number_of c.in_err-on_stream.field-0.0 = search rules in
    (search tests depth 12 fits 8000, λ zero. absurd (number_some c.in_err-on_stream.field-0.0 (sym same ∙ zero)))

pub returns-then-stream_at : goal.returns-then-stream_at
unfolding reserve_refusal
returns-then-stream_at c = (search tests depth 12 fits 8000, λ zero. absurd (omega (arith, zero)))

pub returns-then-not-permitted_fits : goal.returns-then-not-permitted_fits
unfolding reserve_refusal
returns-then-not-permitted_fits c = (search tests depth 12 fits 8000, λ zero. absurd (omega (arith, zero)))

pub returns-then-exceeds_share : goal.returns-then-exceeds_share
unfolding reserve_refusal
returns-then-exceeds_share c = (search tests depth 12 fits 8000, λ zero. absurd (omega (arith, zero)))

pub returns : goal.returns
unfolding reserve_refusal
returns c = (search tests depth 12 fits 8000, λ zero. c.exceeds_share.ensures.1 c.if-exceeds_share.false)
