-- `registers::lookup::of_pair` meets its contract. By the length of the slice; then the lookup on the record. Assumes nothing.
use mathlib.Core.Path.{◌≡◌, sym, ap, ◌∙◌}
use mathlib.Core.Bool.{true, false}
use native.Mathlib.Omega.{arith}
use lib.ListN.{length}
use lib.Dec.{ltb}
use borrow.Author.Rules.{rules}
use borrow.Author.Tests.{lt-ltb, le-ltb}
use Rattle.binding.specs.Finding.{lookup_reply}
use Rattle.registers.specs.Lent.{port_length}
use Rattle.registers.specs.PortLookup.{port_lookup}
use Rattle.registers.proofs.PartLaws.{record_long}
use Rattle.registers.proofs.lookup.of_pair.Goals as goal

pub returns-then-port-lt-PORT_LENGTH : goal.returns-then-port-lt-PORT_LENGTH
unfolding port_lookup
returns-then-port-lt-PORT_LENGTH c =
    let short : ltb (length c.args.port.now) port_length ≡ true = lt-ltb _ _ c.if-port-lt-PORT_LENGTH.true in
    simp short

pub slice_bounds-of_pair-end : goal.slice_bounds-of_pair-end
slice_bounds-of_pair-end c = sym (record_long c.args.port.now c.if-port-lt-PORT_LENGTH.false)

pub of_pair-answer-requires : goal.of_pair-answer-requires
of_pair-answer-requires c = (omega (arith, record_long c.args.port.now c.if-port-lt-PORT_LENGTH.false), search rules)

pub returns : goal.returns
unfolding port_lookup
returns c =
    let long : ltb (length c.args.port.now) port_length ≡ false = le-ltb _ _ c.if-port-lt-PORT_LENGTH.false in
    simp long (c.from.ensures ∙ ap lookup_reply c.of_pair-answer.ensures)
