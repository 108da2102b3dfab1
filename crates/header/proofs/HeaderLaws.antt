-- What a frame whose length is in its range has: a whole header, and a charge in its range. Assumes nothing.
use Prim.Native.Nat.{ℕ, ◌-◌, ◌≤◌}
use mathlib.Core.Bool.{true, ◌&&◌}
use mathlib.Core.Path.{◌≡◌, ap₂}
use mathlib.Core.List.{List}
use native.Mathlib.Omega.{arith}
use lib.ListN.{length}
use borrow.Author.Tests.{le-leb}
use Rattle.ranges.specs.Ranges.{least_charge, greatest_charge, charge_fits}
use Rattle.ranges.proofs.RangeLaws.{within_bounds}
use Rattle.header.specs.Header.{on_wire, charge_of, length_fits, header_length}

pub length_bounds : (f : List ℕ) → length_fits f ≡ true → (least_charge - on_wire ≤ length f) × (length f ≤ greatest_charge - on_wire)
unfolding length_fits
length_bounds f h = within_bounds (least_charge - on_wire) (greatest_charge - on_wire) (length f) h

pub header_whole : (f : List ℕ) → length_fits f ≡ true → header_length ≤ length f
header_whole f h = omega (arith, (length_bounds f h).0)

pub charge_in_range : (f : List ℕ) → length_fits f ≡ true → charge_fits (charge_of f) ≡ true
unfolding charge_of
charge_in_range f h =
    ap₂ ◌&&◌ (le-leb least_charge (charge_of f) (omega (arith, (length_bounds f h).0))) (le-leb (charge_of f) greatest_charge (omega (arith, (length_bounds f h).1)))
