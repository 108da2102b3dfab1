-- `registers::accesses::read` meets its contract. Check after check; then the register. Assumes nothing.
use Prim.Native.Nat.{ℕ}
use mathlib.Core.Path.{◌≡◌, refl, ap, ◌∙◌}
use borrow.Author.Rules.{rules}
use Rattle.stream.specs.Replies.{granted, answered, refused_by, number_of}
use Rattle.stream.proofs.AnswerLaws.{number_some}
use Rattle.steps.proofs.OutcomeLaws.{same_outcome, stopped, went_on}
use Rattle.registers.specs.Accesses.{read_by}
use Rattle.registers.proofs.PartLaws.{lent_enough}
use Rattle.registers.proofs.accesses.read.Goals as goal

pub returns-in_err-register_offset : goal.returns-in_err-register_offset
unfolding read_by
returns-in_err-register_offset g c =
    let told : answered c.from_residual.result ≡ refused_by (number_of c.in_err-register_offset.field-0.0) = search rules in
    stopped _ _ _ _ _ _ told (number_some _) c.in_err-register_offset.ensures

pub returns-in_err-lent : goal.returns-in_err-lent
unfolding read_by
returns-in_err-lent g c =
    let told : answered c.from_residual-in_err-lent.result ≡ refused_by (number_of c.in_err-lent.field-0.0) = search rules in
    went_on _ _ _ _ _ (stopped _ _ _ _ _ _ told (number_some _) c.in_err-lent.ensures) c.in_ok-register_offset.ensures

pub register_at-requires : goal.register_at-requires
register_at-requires g c = lent_enough g.L.Look.lent _ _ 0 refl c.in_ok-lent.ensures

pub returns : goal.returns
unfolding read_by
returns g c =
    went_on _ _ _ _ _ (went_on _ _ _ _ _ (same_outcome _ _ _ _ _ _ (c.new.ensures ∙ ap (λ (n : ℕ). granted n 0) c.register_at.ensures) refl refl) c.in_ok-lent.ensures)
    c.in_ok-register_offset.ensures
