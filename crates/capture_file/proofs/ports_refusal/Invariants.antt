-- `capture_file::ports_refusal` meets its contract. The ports from this one on refuse what all ports do. Assumes nothing.
use Prim.Native.Nat.{◌-◌}
use mathlib.Core.Path.{◌≡◌}
use Rattle.capture_file.specs.Checks.{ports_refusal}
use Rattle.capture_file.specs.File.{port_count}
use Rattle.capture_file.proofs.ports_refusal.Given as goal

abbrev pub invariant-loop-port : goal.invariant-loop-port
invariant-loop-port l = ports_refusal l.header.file.now l.port (port_count - l.port) ≡ ports_refusal l.header.file.now 0 port_count
