-- `capture_file::chain_refusal` meets its contract. A record that is not refused leads forward, to the rest of the walk. Assumes nothing.
use mathlib.Core.Path.{◌≡◌, refl}
use native.Mathlib.Omega.{arith}
use Rattle.std.proofs.lemmas.Grind.{common_steps}
use Rattle.capture_file.proofs.ChainLaws.{ahead_falls, next_has, record_passed, walk_goes_on}
use Rattle.capture_file.specs.Checks.{record_refusal}
use Rattle.capture_file.proofs.chain_refusal.Goals as goal

pub new-record-requires : goal.new-record-requires
new-record-requires c =
    let r = c.loop-record.record in
    let good : record_refusal r.file.now r.index ≡ 0 = grind (arith, common_steps) in
    rw c.next.ensures (next_has r.file.now r.index r.in_file (record_passed r.file.now r.index good).1)

pub loop-record-smaller : goal.loop-record-smaller
loop-record-smaller c =
    let r = c.loop-record.record in
    let good : record_refusal r.file.now r.index ≡ 0 = grind (arith, common_steps) in
    rw (c.new-record.ensures.of_file, c.new-record.ensures.at_index, c.next.ensures)
    (ahead_falls r.file.now r.index c.loop-record-test.true r.in_file (record_passed r.file.now r.index good).1)

pub loop-record-preserved : goal.loop-record-preserved
loop-record-preserved c =
    let r = c.loop-record.record in
    let same = c.loop-record.invariant.0 in
    let good : record_refusal r.file.now r.index ≡ 0 = grind (arith, common_steps) in
    rw (c.new-record.ensures.of_file, c.new-record.ensures.at_index, c.next.ensures, same)
    (refl, walk_goes_on _ _ r.index c.loop-record-test.true (rw same at r.in_file) (rw same at good) c.loop-record.invariant.1)
