-- `registers::accesses::register_offset` meets its contract. Test after test. Assumes nothing.
use Rattle.registers.specs.Accesses.{offset_refusal}
use borrow.Author.Tests.{eq-eqb, ne_eqb, lt-ltb, le-ltb}
use Rattle.registers.proofs.accesses.register_offset.Goals as goal

pub returns-then-offset-ne0 : goal.returns-then-offset-ne0
unfolding offset_refusal
returns-then-offset-ne0 c = simp (ne_eqb _ _ c.if-offset-ne0.true)

pub returns-then-offset-gt-LAST_OFFSET : goal.returns-then-offset-gt-LAST_OFFSET
unfolding offset_refusal
returns-then-offset-gt-LAST_OFFSET c = simp (eq-eqb _ _ c.if-offset-ne0.false, lt-ltb _ _ c.if-offset-gt-LAST_OFFSET.true)

pub returns : goal.returns
unfolding offset_refusal
returns c = simp (eq-eqb _ _ c.if-offset-ne0.false, le-ltb _ _ c.if-offset-gt-LAST_OFFSET.false)
