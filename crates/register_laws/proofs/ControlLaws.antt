-- Control writes do to the port what the named calls do. Assumes nothing.
use Prim.Native.Nat.{ℕ}
use mathlib.Core.Path.{◌≡◌, refl, sym, ap, ap₂, ◌∙◌}
use mathlib.Core.Bool.{Bool, true, false, cond}
use mathlib.Core.Logic.{⊎_elim}
use mathlib.Core.List.{List, [], ◌∷◌, ◌++◌}
use lib.ListN.{take-append-drop}
use lib.Dec.{eqb}
use Rattle.lists.proofs.Order.{eq_or_not}
use Rattle.stream.specs.declared.Reply.{Reply}
use Rattle.stream.specs.Replies.{granted}
use Rattle.record.specs.Layout.{record_length}
use Rattle.fitness.specs.Fit.{lent_refusal}
use Rattle.steps.specs.Call.{Call}
use Rattle.steps.specs.Outcome.{Outcome, outcome, gated}
use Rattle.steps.proofs.OutcomeLaws.{grants, refuses}
use Rattle.port.specs.Calls.{called}
use Rattle.port_laws.specs.Lists.{replies}
use Rattle.register_block.specs.Layout.{control_offset}
use Rattle.register_block.specs.Written.{written_at}
use Rattle.registers.specs.Lent.{in_block, port_refusal}
use Rattle.registers.specs.Calls.{port_call}
use Rattle.registers.specs.Accesses.{offset_refusal, named, in_turn, written_by, write_by, register_write}
use Rattle.register_laws.specs.Uses.{used, lent}
use Rattle.register_laws.specs.Happenings.{written, replied_to, write_happens, happenings, replies_in}
use Rattle.register_laws.specs.Controls.{control_writes, named_in, ControlNamed, ControlsNamed}
use Rattle.register_laws.proofs.FollowLaws.{replies_after, in_turn_both, replies_both, control_calls, same_after}

-- a control write that names a call is its calls in turn
pub control_named : ControlNamed
control_named v p m some = by_calls (named v) refl some
  where
    by_calls : (cs : List Call) → named v ≡ cs → (cs ≡ [] → ⊥) → register_write control_offset v p m ≡ in_turn port_call (lent p m) cs
    by_calls [] e none = absurd (none refl)
    by_calls (c ∷ cs) e none = control_calls control_offset v p m c cs e

-- one that names none leaves slice and memory as they were
control_none : (v : ℕ) (p m : List ℕ) → named v ≡ [] → ((register_write control_offset v p m).port ≡ p) × ((register_write control_offset v p m).memory ≡ m)
unfolding write_by in_block offset_refusal written_at
control_none v p m none =
    let done = outcome (granted 0 0) (in_block (written_at control_offset v) p) m in
    let made : register_write control_offset v p m ≡ gated (port_refusal lent_refusal p m) p m done = ap (written_by called lent_refusal control_offset v p m) none in
    ⊎_elim
    (λ (free : port_refusal lent_refusal p m ≡ 0).
    let so = made ∙ grants (port_refusal lent_refusal p m) p m done free in
    (ap (λ (o : Outcome). o.port) so ∙ take-append-drop record_length p, ap (λ (o : Outcome). o.memory) so))
    (λ (some : port_refusal lent_refusal p m ≡ 0 → ⊥).
    let so = made ∙ refuses (port_refusal lent_refusal p m) p m done some in (ap (λ (o : Outcome). o.port) so, ap (λ (o : Outcome). o.memory) so))
    (eq_or_not (port_refusal lent_refusal p m) 0)

-- either leaves slice and memory as its calls do
control_leaves : (v : ℕ) (p m : List ℕ)
    → ((register_write control_offset v p m).port ≡ (in_turn port_call (lent p m) (named v)).port)
    × ((register_write control_offset v p m).memory ≡ (in_turn port_call (lent p m) (named v)).memory)
control_leaves v p m = by_calls (named v) refl
  where
    by_calls : (cs : List Call) → named v ≡ cs
        → ((register_write control_offset v p m).port ≡ (in_turn port_call (lent p m) cs).port) × ((register_write control_offset v p m).memory ≡ (in_turn port_call (lent p m) cs).memory)
    by_calls [] e = control_none v p m e
    by_calls (c ∷ cs) e =
        let so = control_calls control_offset v p m c cs e in (ap (λ (o : Outcome). o.port) so, ap (λ (o : Outcome). o.memory) so)

-- and its calls reply the same
control_told : (v : ℕ) (p m : List ℕ) → replies_in (write_happens control_offset v p m (named v)) ≡ replies port_call (named v) p m
control_told v p m = by_calls (named v)
  where
    by_grant : (t : Bool) → replies_in (cond t (written control_offset v ∷ []) []) ≡ []
    by_grant true = refl
    by_grant false = refl

    all_told : (cs : List Call) (p m : List ℕ) → replies_in (replied_to cs p m) ≡ replies port_call cs p m
    all_told [] p m = refl
    all_told (c ∷ cs) p m = let o = port_call c p m in ap (λ (rs : List Reply). o.reply ∷ rs) (all_told cs o.port o.memory)

    by_calls : (cs : List Call) → replies_in (write_happens control_offset v p m cs) ≡ replies port_call cs p m
    by_calls [] = by_grant (eqb (register_write control_offset v p m).reply.refusal 0)
    by_calls (c ∷ cs) = all_told (c ∷ cs) p m

-- every list of them
pub controls_named : (vs : List ℕ) (p m : List ℕ) → ControlsNamed vs p m
controls_named [] p m = record { slice = refl; memory = refl; told = refl }
controls_named (v ∷ vs) p m =
    let o = register_write control_offset v p m in
    let u = in_turn port_call (lent p m) (named v) in
    let left = control_leaves v p m in
    let rest = controls_named vs o.port o.memory in
    let uses = same_after used (control_writes vs) o (lent o.port o.memory) refl refl in
    let calls = same_after port_call (named_in vs) (lent o.port o.memory) u left.0 left.1 in
    record {
      slice = uses.0 ∙ rest.slice ∙ calls.0 ∙ ap (λ (x : Outcome). x.port) (sym (in_turn_both port_call (named v) (named_in vs) (lent p m)));
      memory = uses.1 ∙ rest.memory ∙ calls.1 ∙ ap (λ (x : Outcome). x.memory) (sym (in_turn_both port_call (named v) (named_in vs) (lent p m)));
      told =
          replies_both (write_happens control_offset v p m (named v)) (happenings (control_writes vs) o.port o.memory)
          ∙ ap₂ ◌++◌ (control_told v p m) (rest.told ∙ ap₂ (replies port_call (named_in vs)) left.0 left.1)
          ∙ sym (replies_after port_call (named v) (named_in vs) (lent p m));
    }
