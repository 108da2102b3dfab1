-- How many of a list's calls are ticks, in numbers. Assumes nothing.
use mathlib.Core.Path.{◌≡◌, refl}
use mathlib.Core.List.{[], ◌∷◌}
use Rattle.steps.specs.Call.{arriving, ticking}
use Rattle.guarantee.specs.Draining.{ticks_in}

ticks_counted : ticks_in (ticking ∷ arriving 5 120 7 ∷ ticking ∷ []) ≡ 2
ticks_counted = refl
