-- What was read lies in the room that it was read into.
use Rattle.std.specs.Prelude.{ℕ, ◌≤◌, List, length, Result, IfOk}

abbrev pub FitsRoom : {E : Type 0} → Result ℕ E → List ℕ → Type 0
FitsRoom read room = IfOk read (λ octets. octets ≤ length room)
