-- `registers::notes::tick` meets its contract. By the frames purged. Assumes nothing.
use borrow.Author.Tests.{eq-eqb, ne_eqb}
use Rattle.registers.specs.Notes.{tick_noted}
use Rattle.registers.proofs.notes.tick.Goals as goal

pub returns-then-frames-ne0 : goal.returns-then-frames-ne0
unfolding tick_noted
returns-then-frames-ne0 c = simp (ne_eqb _ _ c.if-frames-ne0.true) c.purge.ensures

pub returns-else-frames-ne0 : goal.returns-else-frames-ne0
unfolding tick_noted
returns-else-frames-ne0 c = simp (eq-eqb _ _ c.if-frames-ne0.false)
