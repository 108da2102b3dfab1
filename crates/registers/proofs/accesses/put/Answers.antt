-- `registers::accesses::put` meets its contract. By 18 and 19; then the block. Assumes nothing.
use mathlib.Core.Path.{◌≡◌, refl, ap, ap₂, ◌∙◌}
use mathlib.Core.List.{List, ◌++◌}
use Prim.Native.Nat.{ℕ}
use native.Mathlib.Omega.{arith}
use borrow.Author.Rules.{rules}
use Rattle.stream.specs.Replies.{answered, refused_by, number_of}
use Rattle.stream.proofs.AnswerLaws.{number_some}
use Rattle.steps.proofs.OutcomeLaws.{same_outcome, stopped, went_on}
use Rattle.register_block.specs.Written.{written_at}
use Rattle.registers.specs.Lent.{in_block}
use Rattle.registers.proofs.PartLaws.{lent_enough}
use Rattle.registers.proofs.accesses.put.Goals as goal

pub returns-in_err-lent : goal.returns-in_err-lent
returns-in_err-lent g c =
    let told : answered c.from_residual.result ≡ refused_by (number_of c.in_err-lent.field-0.0) = search rules in
    stopped _ _ _ _ _ _ told (number_some _) c.in_err-lent.ensures

pub split_at_mut-block-requires : goal.split_at_mut-block-requires
split_at_mut-block-requires g c = let whole = lent_enough g.L.Look.lent _ _ 0 refl c.in_ok-lent.ensures in omega (arith, whole)

pub write_at-requires : goal.write_at-requires
write_at-requires g c = let whole = lent_enough g.L.Look.lent _ _ 0 refl c.in_ok-lent.ensures in omega (arith, whole, c.split_at_mut-block.ensures.back_len)

pub returns : goal.returns
unfolding in_block
returns g c =
    let s = c.split_at_mut-block.ensures in
    went_on _ _ _ _ _
    (same_outcome _ _ _ _ _ _ c.new.ensures
    (ap₂ (λ (front back : List ℕ). front ++ back) s.front (c.write_at.ensures ∙ ap (written_at c.args.offset c.args.number) s.back)) refl)
    c.in_ok-lent.ensures
