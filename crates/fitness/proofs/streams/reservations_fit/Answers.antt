-- `fitness::streams::reservations_fit` meets its contract. What `all` answers over the streams is the definition by turns. Assumes nothing.
use mathlib.Core.Path.{refl}
use borrow.Author.Rules.{rules}
use borrow.Author.Tests.{tests}
use Rattle.fitness.proofs.AllLaws.{all_below}
use Rattle.fitness.proofs.streams.reservations_fit.Goals as goal

pub returns : goal.returns
returns c = all_below _ _ _ _ _ refl c.all.ensures.ran (λ x b q k. search (rules, tests))
