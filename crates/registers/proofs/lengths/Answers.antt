-- `registers::lengths` meets its contract. Test after test. Assumes nothing.
use lib.ListN.{length}
use mathlib.Core.Path.{◌≡◌}
use Rattle.registers.specs.Lent.{port_length, short_refusal}
use borrow.Author.Tests.{lt-ltb, le-ltb}
use mathlib.Core.Bool.{true, false}
use Rattle.record.specs.Layout.{memory_length}
use Rattle.record.specs.Queues.{queues_at}
use lib.Dec.{ltb}
use Rattle.registers.proofs.lengths.Goals as goal

pub returns-then-port-ge-PORT_LENGTH : goal.returns-then-port-ge-PORT_LENGTH
unfolding short_refusal
returns-then-port-ge-PORT_LENGTH c = simp (le-ltb _ _ c.if-port-ge-PORT_LENGTH.true)

pub returns-then-memory-memory_length : goal.returns-then-memory-memory_length
unfolding short_refusal
returns-then-memory-memory_length c = let a = c.args in let less : ltb (length a.port.now) port_length ≡ true = lt-ltb _ port_length c.if-port-ge-PORT_LENGTH.false in let little : ltb (length a.memory.now) (memory_length (queues_at a.port.now)) ≡ true = lt-ltb _ _ (rw c.memory_length.ensures at c.if-memory-memory_length.true) in simp (less, little)

pub returns : goal.returns
unfolding short_refusal
returns c = let a = c.args in let less : ltb (length a.port.now) port_length ≡ true = lt-ltb _ port_length c.if-port-ge-PORT_LENGTH.false in let room : ltb (length a.memory.now) (memory_length (queues_at a.port.now)) ≡ false = le-ltb _ _ (rw c.memory_length.ensures at c.if-memory-memory_length.false) in simp (less, room)
