-- `fitness::frames::fit` meets its contract. What `all` answers over the queues is the definition by turns. Assumes nothing.
use mathlib.Core.Path.{refl, sym}
use borrow.Author.Rules.{rules}
use borrow.Author.Tests.{tests}
use Rattle.lists.specs.Turns.{all_of}
use Rattle.queue.specs.Waiting.{waiting}
use Rattle.record.specs.Head.{queue_at}
use Rattle.fitness.specs.Clauses.{frame_fits}
use Rattle.fitness.proofs.AllLaws.{all_below}
use Rattle.fitness.proofs.frames.fit.Goals as goal

pub returns : goal.returns
returns c =
    rw (sym c.queues-best.ensures.0) (all_below (λ q. all_of (frame_fits c.queues-best.result q) (waiting c.args.memory.now q (queue_at c.args.port.now q))) _ _ _ _ refl c.all.ensures.ran (λ x b q k. search (rules, tests)))
