-- `gates::refusals::bind` meets its contract. Check after check. Assumes nothing.
use Rattle.gates.specs.FrameRefusals.{bind_refusal}
use Rattle.gates.proofs.TestLaws.{tests}
use Rattle.gates.proofs.refusals.bind.Goals as goal

pub returns-in_err-on_reserved : goal.returns-in_err-on_reserved
unfolding bind_refusal
returns-in_err-on_reserved c = search tests depth 12 fits 8000

pub returns-then-not-vid_fits : goal.returns-then-not-vid_fits
unfolding bind_refusal
returns-then-not-vid_fits c = search tests depth 12 fits 8000

pub returns-then-is_bound : goal.returns-then-is_bound
unfolding bind_refusal
returns-then-is_bound c = search tests depth 12 fits 8000

pub returns-then-is_some : goal.returns-then-is_some
unfolding bind_refusal
returns-then-is_some c = search tests depth 12 fits 8000

pub returns : goal.returns
unfolding bind_refusal
returns c = search tests depth 12 fits 8000
