-- `registers::tick` meets its contract. The call on the record; then its note in the block. Assumes nothing.
use mathlib.Core.Path.{◌≡◌}
use borrow.Author.Rules.{rules}
use Rattle.stream.specs.Replies.{answered, refused_by, number_of}
use Rattle.port.specs.Calls.{called_by}
use Rattle.registers.proofs.PartLaws.{record_within, block_whole, refused_short, made_noted, made_refused, tick_quiet}
use Rattle.registers.proofs.tick.Goals as goal

pub returns-in_err-lengths : goal.returns-in_err-lengths
returns-in_err-lengths g c =
    let told : answered c.from_residual.result ≡ refused_by (number_of c.in_err-lengths.field-0.0) = search rules in
    refused_short (called_by g.L.Look.lent) _ _ _ _ _ told c.in_err-lengths.ensures

pub split_at_mut-record-requires : goal.split_at_mut-record-requires
split_at_mut-record-requires g c = record_within _ _ c.in_ok-lengths.ensures

pub returns-in_err-purged : goal.returns-in_err-purged
returns-in_err-purged g c =
    let s = c.split_at_mut-record.ensures in
    let told : answered c.from_residual-in_err-purged.result ≡ refused_by (number_of c.in_err-purged.field-0.0) = search rules in
    made_refused (called_by g.L.Look.lent) _ _ _ _ _ c.in_ok-lengths.ensures s.front s.back _ _ _ _ told c.in_err-purged.ensures (tick_quiet _ _ _)

pub tick-requires-2 : goal.tick-requires-2
tick-requires-2 g c = block_whole _ _ _ c.in_ok-lengths.ensures c.split_at_mut-record.ensures.back_len

pub returns : goal.returns
returns g c =
    let s = c.split_at_mut-record.ensures in
    made_noted (called_by g.L.Look.lent) _ _ _ _ _ c.in_ok-lengths.ensures s.front s.back _ _ _ _ c.in_ok-purged.ensures c.tick-2.ensures
