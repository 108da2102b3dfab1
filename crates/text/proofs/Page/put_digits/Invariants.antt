-- `text::Page::put_digits` meets its contract. What is written with the digits of what is left is the digits of the number. Assumes nothing.
use Prim.Native.Nat.{◌+◌, ◌≤◌}
use mathlib.Core.Path.{◌≡◌}
use lib.ListN.{length}
use Rattle.lists.specs.Window.{put}
use Rattle.text.specs.Digits.{digits}
use Rattle.text.proofs.Page.put_digits.Given as goal

abbrev pub invariant-loop-place : goal.invariant-loop-place
invariant-loop-place l = record {
  left : l.place ≡ l.first + length (digits l.rest);
  room : l.end ≤ length l.self.octets.now;
  written : put l.self.octets.now l.first (digits l.rest) ≡ put l.fn.self.octets.now l.first (digits l.number);
  same : l.self.octets.ghost_name ≡ l.fn.self.octets.ghost_name;
}
