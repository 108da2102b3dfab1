-- `gates::refusals::on_stream` meets its contract. Check after check. Assumes nothing.
use Rattle.gates.specs.Refusals.{stream_refusal}
use Rattle.gates.proofs.TestLaws.{tests}
use Rattle.gates.proofs.refusals.on_stream.Goals as goal

pub returns-in_err-closed : goal.returns-in_err-closed
unfolding stream_refusal
returns-in_err-closed c = search tests depth 12 fits 8000

pub returns-then-stream-ge-STREAMS : goal.returns-then-stream-ge-STREAMS
unfolding stream_refusal
returns-then-stream-ge-STREAMS c = search tests depth 12 fits 8000

pub returns-then-drains : goal.returns-then-drains
unfolding stream_refusal
returns-then-drains c = search tests depth 12 fits 8000

pub returns : goal.returns
unfolding stream_refusal
returns c = search tests depth 12 fits 8000
