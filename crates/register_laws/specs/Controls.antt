-- "Any list of control writes does to the port what the named calls do".
use Rattle.std.specs.Prelude.{ℕ, ◌≡◌, List, [], ◌∷◌, ◌++◌, map}
use Rattle.port_laws.specs.Lists.{replies}
use Rattle.steps.specs.Call.{Call}
use Rattle.register_block.specs.Layout.{control_offset}
use Rattle.registers.specs.Calls.{port_call}
use Rattle.registers.specs.Accesses.{named, in_turn, register_write}
use Rattle.register_laws.specs.Uses.{Use, writing, lent, ran}
use Rattle.register_laws.specs.Happenings.{happenings, replies_in}

-- control writes of these numbers, and the calls that they name
abbrev pub control_writes : List ℕ → List Use
control_writes = map (writing control_offset)

abbrev pub named_in : List ℕ → List Call
named_in [] = []
named_in (v ∷ vs) = named v ++ named_in vs

-- a control write that names a call is its calls in turn: reply, slice and memory
abbrev pub ControlNamed : Type 0
ControlNamed = (v : ℕ) (p m : List ℕ) → (named v ≡ [] → ⊥) → register_write control_offset v p m ≡ in_turn port_call (lent p m) (named v)

-- a list of control writes leaves slice and memory as the named calls do, and their calls reply the same
pub record ControlsNamed (vs : List ℕ) (p m : List ℕ) : Type 0 where
  pub slice : (ran (control_writes vs) p m).port ≡ (in_turn port_call (lent p m) (named_in vs)).port
  pub memory : (ran (control_writes vs) p m).memory ≡ (in_turn port_call (lent p m) (named_in vs)).memory
  pub told : replies_in (happenings (control_writes vs) p m) ≡ replies port_call (named_in vs) p m
