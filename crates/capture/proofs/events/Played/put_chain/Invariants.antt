-- `capture::events::Played::put_chain` meets its contract. What is written with the lines still to come is the lines of the chain. Assumes nothing.
use Prim.Native.Nat.{◌-◌}
use mathlib.Core.Path.{◌≡◌}
use Rattle.capture_file.specs.File.{record_count}
use Rattle.capture.proofs.PlayLaws.{Came}
use Rattle.capture.proofs.events.Played.put_chain.Given as goal

abbrev pub invariant-loop-event : goal.invariant-loop-event
invariant-loop-event l = record {
  file : l.event.file.now ≡ l.first.file.now;
  number : l.self.number ≡ l.fn.self.number;
  lent : l.page.octets.ghost_name ≡ l.fn.page.octets.ghost_name;
  came : Came l.first.file.now l.fn.self.number l.first.index l.fn.page.end l.fn.self.port l.fn.self.memory l.fn.page.octets.now l.self.port l.self.memory l.page.octets.now l.page.end l.event.index l.number;
}

abbrev pub decreases-loop-event : goal.decreases-loop-event
decreases-loop-event l = record_count l.first.file.now - l.number
