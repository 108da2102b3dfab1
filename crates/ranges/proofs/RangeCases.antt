-- The ranges in the documents' own numbers, at their ends and beside them. Assumes nothing.
use mathlib.Core.Path.{◌≡◌, refl}
use mathlib.Core.Bool.{true, false}
use Rattle.ranges.specs.Ranges.{charge_fits, share_of, link_fits}

-- "The largest charge becomes 2,020"
charge_least : charge_fits 84 ≡ true
charge_least = refl

charge_below : charge_fits 83 ≡ false
charge_below = refl

charge_greatest : charge_fits 2020 ≡ true
charge_greatest = refl

charge_above : charge_fits 2021 ≡ false
charge_above = refl

-- "so the share is L − 2,020"
share_of_cases : share_of 2620 ≡ 600
share_of_cases = refl

share_least : share_of 2104 ≡ 84
share_least = refl

share_greatest : share_of 23524 ≡ 21504
share_greatest = refl

-- "and L runs from 2,104 to 23,524"
link_least : link_fits 2104 ≡ true
link_least = refl

link_below : link_fits 2103 ≡ false
link_below = refl

link_greatest : link_fits 23524 ≡ true
link_greatest = refl

link_above : link_fits 23525 ≡ false
link_above = refl
