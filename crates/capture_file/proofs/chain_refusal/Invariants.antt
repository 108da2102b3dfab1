-- `capture_file::chain_refusal` meets its contract. The walk from the record on refuses what the whole chain does, and goes forward. Assumes nothing.
use mathlib.Core.Path.{◌≡◌}
use Rattle.capture_file.proofs.ChainLaws.{Walk, ahead}
use Rattle.capture_file.proofs.chain_refusal.Given as goal

abbrev pub invariant-loop-record : goal.invariant-loop-record
invariant-loop-record l = (l.record.file.now ≡ l.first.file.now) × Walk l.first.file.now l.first.index l.record.index

abbrev pub decreases-loop-record : goal.decreases-loop-record
decreases-loop-record l = ahead l.record.file.now l.record.index
