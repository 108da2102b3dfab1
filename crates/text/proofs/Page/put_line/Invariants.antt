-- `text::Page::put_line` meets its contract. What is written with the line of the numbers that are left is the line of all. Assumes nothing.
use Prim.Native.Nat.{◌+◌}
use mathlib.Core.Path.{◌≡◌}
use lib.ListN.{drop, length}
use Rattle.lists.specs.Window.{put}
use Rattle.text.specs.Lines.{line_of}
use Rattle.text.proofs.Page.put_line.Given as goal

abbrev pub invariant-loop-i : goal.invariant-loop-i
invariant-loop-i l = record {
  room : length l.self.octets.now ≡ length l.fn.self.octets.now;
  left : l.self.end + length (line_of (drop l.i l.numbers)) ≡ l.fn.self.end + length (line_of l.numbers);
  written : put l.self.octets.now l.self.end (line_of (drop l.i l.numbers)) ≡ put l.fn.self.octets.now l.fn.self.end (line_of l.numbers);
  same : l.self.octets.ghost_name ≡ l.fn.self.octets.ghost_name;
}
