-- `header::is_tagged` meets its contract. The part of the frame that is compared is octets 12 and 13. Assumes nothing.
use Prim.Native.Nat.{ℕ}
use mathlib.Core.List.{List}
use mathlib.Core.Path.{ap, ◌∙◌}
use native.Mathlib.Omega.{arith}
use Rattle.header.specs.Header.{vlan_tag, tagged_frame}
use Rattle.lists.specs.Equal.{octets_equal}
use Rattle.lists.proofs.EqualLaws.{same_is}
use Rattle.lists.proofs.WindowLaws.{mid_get}
use Rattle.header.proofs.is_tagged.Goals as goal

pub returns : goal.returns
unfolding tagged_frame
returns c = same_is c.same.result _ _ c.same.ensures ∙ ap (λ (l : List ℕ). octets_equal l vlan_tag) (mid_get c.args.frame.now 12 2 (omega arith))
