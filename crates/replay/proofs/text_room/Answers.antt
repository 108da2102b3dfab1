-- `replay::text_room` meets its contract. An array of so many zeros is as long as that. Assumes nothing.
use mathlib.Core.Path.{sym}
use Prim.Native.Nat.{ℕ}
use lib.ListN.{length-replicate}
use Rattle.capture.specs.Output.{text_length}
use Rattle.replay.proofs.text_room.Goals as goal

pub returns : goal.returns
returns c = sym (length-replicate {0} {A = ℕ} text_length 0)
