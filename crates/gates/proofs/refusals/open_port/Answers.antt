-- `gates::refusals::open_port` meets its contract. Check after check. Assumes nothing.
use Rattle.gates.specs.Refusals.{open_refusal}
use Rattle.gates.proofs.TestLaws.{tests}
use Rattle.gates.proofs.refusals.open_port.Goals as goal

pub returns-then-is_open : goal.returns-then-is_open
unfolding open_refusal
returns-then-is_open c = search tests depth 12 fits 8000

pub returns-then-not-link_fits : goal.returns-then-not-link_fits
unfolding open_refusal
returns-then-not-link_fits c = search tests depth 12 fits 8000

pub returns-then-not-delay_fits : goal.returns-then-not-delay_fits
unfolding open_refusal
returns-then-not-delay_fits c = search tests depth 12 fits 8000

pub returns : goal.returns
unfolding open_refusal
returns c = search tests depth 12 fits 8000
