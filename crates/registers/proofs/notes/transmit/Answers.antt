-- `registers::notes::transmit` meets its contract. By the stream of the frame sent. Assumes nothing.
use borrow.Author.Tests.{eq-eqb, ne_eqb}
use Rattle.registers.specs.Notes.{transmit_noted}
use Rattle.registers.proofs.notes.transmit.Goals as goal

pub returns-then-stream-eq-NOTHING : goal.returns-then-stream-eq-NOTHING
unfolding transmit_noted
returns-then-stream-eq-NOTHING c = simp (eq-eqb _ _ c.if-stream-eq-NOTHING.true) c.send_nothing.ensures

pub returns-else-stream-eq-NOTHING : goal.returns-else-stream-eq-NOTHING
unfolding transmit_noted
returns-else-stream-eq-NOTHING c = simp (ne_eqb _ _ c.if-stream-eq-NOTHING.false) c.send.ensures
