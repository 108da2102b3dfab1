-- `capture_file::header::Header::has_letters` meets its contract. The part of the file that is compared is its first four octets. Assumes nothing.
use Prim.Native.Nat.{ℕ}
use mathlib.Core.Path.{◌∙◌, ap}
use mathlib.Core.List.{List}
use native.Mathlib.Omega.{arith}
use Rattle.capture_file.specs.File.{letters, letters_of}
use Rattle.lists.proofs.EqualLaws.{same_is}
use Rattle.lists.proofs.WindowLaws.{mid_get}
use Rattle.lists.specs.Equal.{octets_equal}
use Rattle.capture_file.proofs.header.Header.has_letters.Goals as goal

pub returns : goal.returns
unfolding letters_of
returns c = same_is c.same.result _ _ c.same.ensures ∙ ap (λ (l : List ℕ). octets_equal l letters) (mid_get c.args.self.file.now 0 4 (omega arith))
