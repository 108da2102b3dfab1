-- `registers::accesses::write` meets its contract. By the offset. Assumes nothing.
use mathlib.Core.Path.{◌≡◌}
use borrow.Author.Rules.{rules}
use Rattle.stream.specs.Replies.{answered, refused_by, number_of}
use Rattle.stream.proofs.AnswerLaws.{number_some}
use Rattle.steps.proofs.OutcomeLaws.{stopped, went_on}
use Rattle.port.specs.Calls.{called_by}
use Rattle.registers.specs.Accesses.{write_by}
use Rattle.registers.proofs.AccessLaws.{written_control, written_other}
use Rattle.registers.proofs.accesses.write.Goals as goal

pub returns-in_err-register_offset : goal.returns-in_err-register_offset
unfolding write_by
returns-in_err-register_offset g c =
    let told : answered c.from_residual.result ≡ refused_by (number_of c.in_err-register_offset.field-0.0) = search rules in
    stopped _ _ _ _ _ _ told (number_some _) c.in_err-register_offset.ensures

pub returns-then-offset-eq-CONTROL_OFFSET : goal.returns-then-offset-eq-CONTROL_OFFSET
unfolding write_by
returns-then-offset-eq-CONTROL_OFFSET g c =
    went_on _ _ _ _ _ (written_control (called_by g.L.Look.lent) g.L.Look.lent _ _ _ _ _ c.if-offset-eq-CONTROL_OFFSET.true c.control.ensures) c.in_ok-register_offset.ensures

pub returns : goal.returns
unfolding write_by
returns g c =
    went_on _ _ _ _ _ (written_other (called_by g.L.Look.lent) g.L.Look.lent _ _ _ _ _ c.if-offset-eq-CONTROL_OFFSET.false c.put.ensures) c.in_ok-register_offset.ensures
