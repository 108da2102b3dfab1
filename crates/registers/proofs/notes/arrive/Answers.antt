-- `registers::notes::arrive` meets its contract. By what the arrival answers. Assumes nothing.
use borrow.Author.Tests.{ne_eqb}
use Rattle.stream.proofs.AnswerLaws.{number_some, discard_only}
use Rattle.registers.specs.Notes.{arrival_noted}
use Rattle.registers.proofs.notes.arrive.Goals as goal

pub returns-in-Ok : goal.returns-in-Ok
unfolding arrival_noted
returns-in-Ok c = rw c.in-Ok.is c.accept.ensures

pub returns-in-Discard : goal.returns-in-Discard
unfolding arrival_noted
returns-in-Discard c = rw (c.in-Err.is, c.in-Discard.is) c.discard.ensures

pub returns-in_default : goal.returns-in_default
unfolding arrival_noted
returns-in_default c = rw c.in-Err.is (simp (ne_eqb _ _ (number_some c.in-Err.refusal), ne_eqb _ _ (λ e. c.in_default.not-Discard (discard_only c.in-Err.refusal e))))
