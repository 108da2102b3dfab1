-- `gates::refusals::arrive` meets its contract. Check after check. Assumes nothing.
use Rattle.gates.specs.Refusals.{arrive_refusal}
use Rattle.gates.proofs.TestLaws.{tests}
use Rattle.gates.proofs.refusals.arrive.Goals as goal

pub returns-in_err-on_reserved : goal.returns-in_err-on_reserved
unfolding arrive_refusal
returns-in_err-on_reserved c = search tests depth 12 fits 8000

pub returns-then-not-charge_fits : goal.returns-then-not-charge_fits
unfolding arrive_refusal
returns-then-not-charge_fits c = search tests depth 12 fits 8000

pub returns : goal.returns
unfolding arrive_refusal
returns c = search tests depth 12 fits 8000
