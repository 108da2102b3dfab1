-- `gates::refusals::on_reserved` meets its contract. Check after check. Assumes nothing.
use Rattle.gates.specs.Refusals.{withdraw_refusal}
use Rattle.gates.proofs.TestLaws.{tests}
use Rattle.gates.proofs.refusals.on_reserved.Goals as goal

pub returns-in_err-on_stream : goal.returns-in_err-on_stream
unfolding withdraw_refusal
returns-in_err-on_stream c = search tests depth 12 fits 8000

pub returns-then-not-stream_at : goal.returns-then-not-stream_at
unfolding withdraw_refusal
returns-then-not-stream_at c = search tests depth 12 fits 8000

pub returns : goal.returns
unfolding withdraw_refusal
returns c = search tests depth 12 fits 8000
