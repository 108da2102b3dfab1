-- Document 01's cases hold of the definitions. Assumes nothing.
use mathlib.Core.Path.{◌≡◌, refl}
use mathlib.Core.List.{map}
use Rattle.stream.specs.Steps.{attempt, arrive_of, tick_of}
use Rattle.stream.specs.Cases.{cases, replies_to}

pub cases_hold : map replies_to cases ≡ map (λ c. c.expected) cases
unfolding attempt arrive_of tick_of
cases_hold = refl
