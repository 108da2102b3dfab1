-- `binding::finding::compare_back` meets its contract. What is compared is among the octets not yet passed. Assumes nothing.
use Prim.Native.Nat.{◌+◌, ◌≤◌}
use mathlib.Core.Path.{◌≡◌}
use Rattle.record.specs.Layout.{address_length}
use Rattle.record.specs.Entry.{address_at}
use Rattle.binding.specs.Finding.{compared_back}
use Rattle.binding.proofs.finding.compare_back.Given as goal

abbrev pub invariant-loop-index : goal.invariant-loop-index
invariant-loop-index l =
    (l.index ≤ address_length)
    × ((l.compared + l.index ≡ l.before + address_length)
    × (compared_back (address_at l.port l.stream) l.address address_length l.before ≡ compared_back (address_at l.port l.stream) l.address l.index l.compared))
