-- `fitness::frames::queue_fits` meets its contract. What `all` answers by turns is what all the waiting frames answer. Assumes nothing.
use mathlib.Core.Path.{refl, sym, ◌∙◌}
use borrow.Author.Rules.{rules}
use borrow.Author.Tests.{tests}
use Rattle.queue.specs.Place.{frame_at}
use Rattle.queue.specs.Ring.{memory_offset}
use Rattle.fitness.specs.Clauses.{frame_fits}
use Rattle.fitness.proofs.TestLaws.{all_waiting}
use Rattle.fitness.proofs.AllLaws.{all_below}
use Rattle.fitness.proofs.frames.queue_fits.Goals as goal

pub returns : goal.returns
returns c =
    let a = c.args in
    all_below (λ k. frame_fits a.best a.number (frame_at a.memory.now (memory_offset a.number a.queue k))) _ _ _ _ refl c.all.ensures.ran (λ x b q k. search (rules, tests)) ∙ sym (all_waiting (frame_fits a.best a.number) a.memory.now a.number a.queue)
