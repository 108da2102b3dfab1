-- `capture::put_ports` meets its contract. After each port the lines of the ports so far are written. Assumes nothing.
use Prim.Native.Nat.{◌*◌, ◌+◌, ◌≤◌}
use mathlib.Core.Path.{◌≡◌}
use lib.ListN.{length}
use Rattle.capture.specs.Output.{port_text_bound, ports_text}
use Rattle.text.specs.Pages.{Written}
use Rattle.capture.proofs.put_ports.Given as goal

abbrev pub invariant-loop-port : goal.invariant-loop-port
invariant-loop-port l = record {
  written : Written l.fn.page (ports_text l.header.file.now l.port) l.page;
  room : length l.page.octets.now ≡ length l.fn.page.octets.now;
  bound : l.page.end ≤ l.fn.page.end + l.port * port_text_bound;
}
