-- What a number written to control names, and what a write is by its offset and the bits. Assumes nothing.
use Prim.Native.Nat.{ℕ}
use mathlib.Core.Path.{◌≡◌, sym, ap, ap₂, ◌∙◌}
use mathlib.Core.Bool.{Bool, cond}
use mathlib.Core.List.{List, [], ◌∷◌, ◌++◌}
use lib.Dec.{eqb}
use borrow.Author.Tests.{ne_eqb}
use Rattle.stream.specs.declared.Reply.{Reply}
use Rattle.steps.specs.Call.{Call, ticking, transmitting}
use Rattle.steps.specs.Outcome.{Outcome, outcome}
use Rattle.register_block.specs.Layout.{control_offset}
use Rattle.register_block.specs.Fields.{bit_of, bit0, bit1}
use Rattle.registers.specs.Calls.{registered}
use Rattle.registers.specs.Accesses.{named, written_by}

-- the calls by two bits
abbrev named_by : Bool → Bool → List Call
named_by ticks transmits = cond ticks (ticking ∷ []) [] ++ cond transmits (transmitting ∷ []) []

-- what the bits are is what is named, where code has asked them
pub named_bits : (number : ℕ) (x y a b : Bool) → x ≡ bit_of number bit0 → y ≡ bit_of number bit1 → x ≡ a → y ≡ b → named number ≡ named_by a b
unfolding named
named_bits number x y a b first second ticks transmits = ap₂ named_by (sym first ∙ ticks) (sym second ∙ transmits)

module _ (call : Call → List ℕ → List ℕ → Outcome) (refusal : List ℕ → List ℕ → ℕ) (number : ℕ) (p m : List ℕ) where
  -- a control write by the calls that it names
  pub written_named : (cs ds : List Call) (o : Outcome) → cs ≡ ds → o ≡ written_by call refusal control_offset number p m ds
      → o ≡ written_by call refusal control_offset number p m cs
  written_named cs ds o same made = made ∙ ap (written_by call refusal control_offset number p m) (sym same)

  -- both calls, the second on what the first left
  pub written_both : (r s : Reply) (q l n k : List ℕ) → outcome r q n ≡ registered call ticking p m → outcome s l k ≡ registered call transmitting q n
      → outcome s l k ≡ written_by call refusal control_offset number p m (ticking ∷ transmitting ∷ [])
  written_both r s q l n k ticks transmits = transmits ∙ ap (λ (o : Outcome). registered call transmitting o.port o.memory) ticks

  -- a write to control, and one to any other register
  pub written_control : (offset : ℕ) (o : Outcome) → offset ≡ control_offset → o ≡ written_by call refusal control_offset number p m (named number)
      → o ≡ written_by call refusal offset number p m (cond (eqb offset control_offset) (named number) [])
  written_control offset o is made = made ∙ ap (λ (k : ℕ). written_by call refusal k number p m (cond (eqb k control_offset) (named number) [])) (sym is)

  pub written_other : (offset : ℕ) (o : Outcome) → (offset ≡ control_offset → ⊥) → o ≡ written_by call refusal offset number p m []
      → o ≡ written_by call refusal offset number p m (cond (eqb offset control_offset) (named number) [])
  written_other offset o isnt made =
      made ∙ ap (λ (b : Bool). written_by call refusal offset number p m (cond b (named number) [])) (sym (ne_eqb offset control_offset isnt))
