-- `gates::refusals::frame` meets its contract. Check after check. Assumes nothing.
use Rattle.gates.specs.FrameRefusals.{frame_refusal}
use Rattle.gates.proofs.TestLaws.{tests}
use Rattle.gates.proofs.refusals.frame.Goals as goal

pub returns-in_err-closed : goal.returns-in_err-closed
unfolding frame_refusal
returns-in_err-closed c = search tests depth 12 fits 8000

pub returns-then-not-length_fits : goal.returns-then-not-length_fits
unfolding frame_refusal
returns-then-not-length_fits c = search tests depth 12 fits 8000

pub returns : goal.returns
unfolding frame_refusal
returns c = search tests depth 12 fits 8000
