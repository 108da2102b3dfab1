-- `gates::refusals::closed` meets its contract. Assumes nothing.
use Rattle.gates.specs.Refusals.{closed_refusal}
use Rattle.gates.proofs.TestLaws.{tests}
use Rattle.gates.proofs.refusals.closed.Goals as goal

pub returns-then-not-is_open : goal.returns-then-not-is_open
unfolding closed_refusal
returns-then-not-is_open c = search tests depth 12 fits 8000

pub returns : goal.returns
unfolding closed_refusal
returns c = search tests depth 12 fits 8000
