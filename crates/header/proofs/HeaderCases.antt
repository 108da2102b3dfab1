-- The lengths and charges of frames in the documents' own numbers, at the ends of their range and beside them. Assumes nothing.
use Prim.Native.Nat.{ℕ}
use mathlib.Core.Path.{◌≡◌, refl}
use mathlib.Core.Bool.{true, false}
use lib.ListN.{replicate}
use Rattle.header.specs.Header.{charge_of, length_fits}

-- "17 (60 to 1,996)"
shortest : length_fits (replicate {A = ℕ} 60 0) ≡ true
unfolding length_fits
shortest = refl

too_short_lem : length_fits (replicate {A = ℕ} 59 0) ≡ false
unfolding length_fits
too_short_lem = refl

longest : length_fits (replicate {A = ℕ} 1996 0) ≡ true
unfolding length_fits
longest = refl

too_long : length_fits (replicate {A = ℕ} 1997 0) ≡ false
unfolding length_fits
too_long = refl

-- "frames of up to 2,000 octets with check sequence": of the longest the charge is the largest
longest_charge_lem : charge_of (replicate {A = ℕ} 1996 0) ≡ 2020
unfolding charge_of
longest_charge_lem = refl
