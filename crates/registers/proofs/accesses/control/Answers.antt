-- `registers::accesses::control` meets its contract. By its two bits. Assumes nothing.
use mathlib.Core.Bool.{true, false}
use Rattle.port.specs.Calls.{called_by}
use Rattle.registers.proofs.AccessLaws.{named_bits, written_named, written_both}
use Rattle.registers.proofs.accesses.control.Goals as goal

pub returns-then-transmits : goal.returns-then-transmits
returns-then-transmits g c =
    written_named (called_by g.L.Look.lent) g.L.Look.lent _ _ _ _ _ _
    (named_bits _ _ _ true true c.bit_of.ensures c.bit_of-transmits.ensures c.if-bit_of.true c.if-transmits.true)
    (written_both (called_by g.L.Look.lent) g.L.Look.lent c.args.number _ _ _ _ _ _ _ _ c.tick-ticked.ensures c.transmit.ensures)

pub returns-then-bit_of : goal.returns-then-bit_of
returns-then-bit_of g c =
    written_named (called_by g.L.Look.lent) g.L.Look.lent _ _ _ _ _ _
    (named_bits _ _ _ true false c.bit_of.ensures c.bit_of-transmits.ensures c.if-bit_of.true c.if-transmits.false) c.tick-ticked.ensures

pub returns-then-transmits-2 : goal.returns-then-transmits-2
returns-then-transmits-2 g c =
    written_named (called_by g.L.Look.lent) g.L.Look.lent _ _ _ _ _ _
    (named_bits _ _ _ false true c.bit_of.ensures c.bit_of-transmits.ensures c.if-bit_of.false c.if-transmits-2.true) c.transmit-then-transmits-2.ensures

pub returns : goal.returns
returns g c =
    written_named (called_by g.L.Look.lent) g.L.Look.lent _ _ _ _ _ _
    (named_bits _ _ _ false false c.bit_of.ensures c.bit_of-transmits.ensures c.if-bit_of.false c.if-transmits-2.false) c.put.ensures
