-- `registers::accesses::lent` meets its contract. By the length of the slice; then 18 and 19 of record and memory. Assumes nothing.
use mathlib.Core.Path.{◌≡◌, refl, sym, ◌∙◌}
use borrow.Author.Rules.{rules}
use Rattle.stream.specs.Replies.{refusal_number, number_of}
use Rattle.stream.proofs.AnswerLaws.{number_some}
use Rattle.registers.proofs.PartLaws.{part_long, lent_short, lent_else}
use Rattle.registers.proofs.accesses.lent.Goals as goal

pub returns-in_err-lengths : goal.returns-in_err-lengths
returns-in_err-lengths g c =
    let told : refusal_number c.from_residual.result ≡ number_of c.in_err-lengths.field-0.0 = search rules in
    told ∙ lent_short g.L.Look.lent _ _ _ (number_some _) c.in_err-lengths.ensures

pub slice_bounds-look-end : goal.slice_bounds-look-end
slice_bounds-look-end g c = part_long _ _ 0 refl c.in_ok-lengths.ensures

pub returns : goal.returns
returns g c = lent_else g.L.Look.lent _ _ 0 _ refl c.in_ok-lengths.ensures c.look.ensures
