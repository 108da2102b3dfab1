-- What each call with registers is by its way to look at what is lent: it is made with the way's refusal, and by `Scanned`'s that is the call, by
-- `Unscanned`'s the quick call. Assumes nothing.
use Prim.Native.Nat.{ℕ}
use mathlib.Core.Path.{◌≡◌, refl}
use mathlib.Core.List.{List}
use Rattle.fitness.specs.Fit.{lent_refusal}
use Rattle.steps.specs.Call.{Call}
use Rattle.port.specs.Calls.{called_by}
use Rattle.port.specs.Quick.{length_refusal}
use Rattle.registers.specs.Calls.{registered, port_call, quick_port_call}

-- scanned, each is the call, for every slice and memory,
pub scanned_is_call : (c : Call) (p m : List ℕ) → registered (called_by lent_refusal) c p m ≡ port_call c p m
scanned_is_call c p m = refl

-- and unscanned the quick call
pub unscanned_is_quick_call : (c : Call) (p m : List ℕ) → registered (called_by length_refusal) c p m ≡ quick_port_call c p m
unscanned_is_quick_call c p m = refl
