-- `registers::counts::of_stream` meets its contract. By the length of the slice, and whether the number is a stream's;
-- then the counts in the block. Assumes nothing.
use mathlib.Core.Path.{refl}
use Rattle.registers.proofs.CountLaws.{counts_short, counts_none, counts_stream}
use Rattle.registers.proofs.counts.of_stream.Goals as goal

pub returns-then-port-lt-PORT_LENGTH : goal.returns-then-port-lt-PORT_LENGTH
returns-then-port-lt-PORT_LENGTH c = counts_short _ _ _ refl c.if-port-lt-PORT_LENGTH.true

pub returns-then-stream-ge-STREAMS : goal.returns-then-stream-ge-STREAMS
returns-then-stream-ge-STREAMS c = counts_none _ _ _ refl c.if-port-lt-PORT_LENGTH.false c.if-stream-ge-STREAMS.true

pub returns : goal.returns
returns c = counts_stream _ _ _ _ _ c.if-port-lt-PORT_LENGTH.false c.if-stream-ge-STREAMS.false c.of-accepted.ensures c.of-discarded.ensures c.new.ensures
