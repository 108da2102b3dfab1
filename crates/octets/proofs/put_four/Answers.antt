-- `octets::put_four` meets its contract. The octets of the number are copied into their part. Assumes nothing.
use mathlib.Core.Path.{◌≡◌, ap, ◌∙◌}
use mathlib.Core.List.{List}
use Prim.Native.Nat.{ℕ}
use native.Mathlib.Omega.{arith}
use lib.ListN.{length}
use borrow.Rule.Slice.PartMut.{put_mid}
use Rattle.octets.specs.Numbers.{four_octets}
use Rattle.octets.proofs.NumberLaws.{part_put, four_bytes}
use Rattle.octets.proofs.put_four.Goals as goal

pub returns : goal.returns
returns c =
    let same : c.copy_from_slice.new.self ≡ four_octets c.args.number =
    c.copy_from_slice.ensures.after ∙ (c.to_be_bytes.ensures ∙ four_bytes c.args.number (omega (arith, c.ranges.number))) in
    ap (put_mid c.args.at _ c.args.octets.now) same
    ∙ part_put c.args.at _ c.args.octets.now (four_octets c.args.number) (omega arith) (omega (arith, c.copy_from_slice.ensures.len, ap length same))
