-- `registers::accesses::register_at` meets its contract. The block lent out of the slice. Assumes nothing.
use mathlib.Core.Path.{◌∙◌, ap₂}
use Rattle.registers.proofs.PartLaws.{block_mid}
use mathlib.Core.List.{List}
use Prim.Native.Nat.{ℕ}
use mathlib.Core.Bool.{Bool}
use Rattle.register_block.specs.Shown.{register_at}
use Rattle.registers.proofs.accesses.register_at.Goals as goal

pub returns : goal.returns
returns c = c.register_at.ensures ∙ ap₂ (λ (o : Bool) (b : List ℕ). register_at o b c.args.offset) c.is_open-opened.ensures (block_mid c.args.port.now)
