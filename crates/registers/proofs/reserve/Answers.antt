-- `registers::reserve` meets its contract. The call on the record. Assumes nothing.
use mathlib.Core.Path.{◌≡◌, refl}
use borrow.Author.Rules.{rules}
use Rattle.stream.specs.Replies.{answered, refused_by, number_of}
use Rattle.port.specs.Calls.{called_by}
use Rattle.registers.proofs.PartLaws.{record_within, refused_short, made_noted}
use Rattle.registers.proofs.reserve.Goals as goal

pub returns-in_err-lengths : goal.returns-in_err-lengths
returns-in_err-lengths g c =
    let told : answered c.from_residual.result ≡ refused_by (number_of c.in_err-lengths.field-0.0) = search rules in
    refused_short (called_by g.L.Look.lent) _ _ _ _ _ told c.in_err-lengths.ensures

pub split_at_mut-record-requires : goal.split_at_mut-record-requires
split_at_mut-record-requires g c = record_within _ _ c.in_ok-lengths.ensures

pub returns : goal.returns
returns g c =
    let s = c.split_at_mut-record.ensures in
    made_noted (called_by g.L.Look.lent) _ _ _ _ _ c.in_ok-lengths.ensures s.front s.back _ _ _ _ c.reserve.ensures refl
