-- `port::look::UnscannedLook::look` meets its contract. Test after test. Assumes nothing.
use mathlib.Core.Bool.{true, false}
use mathlib.Core.Path.{◌≡◌}
use lib.Dec.{ltb}
use lib.ListN.{length}
use borrow.Author.Tests.{lt-ltb, le-ltb}
use Rattle.record.specs.Layout.{record_length, memory_length}
use Rattle.record.specs.Queues.{queues_at}
use Rattle.port.specs.Quick.{length_refusal}
use Rattle.port.proofs.look.UnscannedLook.look.Goals as goal

pub returns-then-memory-memory_length : goal.returns-then-memory-memory_length
unfolding length_refusal
returns-then-memory-memory_length c =
    let a = c.args in
    let short : ltb (length a.memory.now) (memory_length (queues_at a.port.now)) ≡ true = lt-ltb _ _ (rw c.memory_length.ensures at c.if-memory-memory_length.true) in
    simp short

pub returns-then-port-lt-RECORD_LENGTH : goal.returns-then-port-lt-RECORD_LENGTH
unfolding length_refusal
returns-then-port-lt-RECORD_LENGTH c =
    let a = c.args in
    let enough : ltb (length a.memory.now) (memory_length (queues_at a.port.now)) ≡ false = le-ltb _ _ (rw c.memory_length.ensures at c.if-memory-memory_length.false) in
    let short : ltb (length a.port.now) record_length ≡ true = lt-ltb _ record_length c.if-port-lt-RECORD_LENGTH.true in
    simp (enough, short)

pub returns : goal.returns
unfolding length_refusal
returns c =
    let a = c.args in
    let enough : ltb (length a.memory.now) (memory_length (queues_at a.port.now)) ≡ false = le-ltb _ _ (rw c.memory_length.ensures at c.if-memory-memory_length.false) in
    let long : ltb (length a.port.now) record_length ≡ false = le-ltb _ record_length c.if-port-lt-RECORD_LENGTH.false in
    simp (enough, long)
