-- `binding::finding::of_pair` meets its contract. What is looked for is among the streams not yet passed over. Assumes nothing.
use Prim.Native.Nat.{◌-◌, ◌*◌, ◌≤◌}
use mathlib.Core.Path.{◌≡◌}
use Rattle.record.specs.Layout.{stream_count, address_length}
use Rattle.binding.specs.Finding.{lookup_from, lookup}
use Rattle.binding.proofs.finding.of_pair.Given as goal

abbrev pub invariant-loop-s : goal.invariant-loop-s
invariant-loop-s l =
    (l.s ≤ stream_count)
    × ((l.compared ≤ address_length * l.s) × (lookup l.port l.address l.vid ≡ lookup_from l.port l.address l.vid l.s (stream_count - l.s) l.compared))
