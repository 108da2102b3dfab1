-- On a fit record the quick calls and register accesses equal the calls and accesses, and leave a fit record; so they do in every list. Assumes nothing.
use Prim.Native.Nat.{ℕ, ◌≤◌}
use mathlib.Core.Path.{◌≡◌, refl, sym, ap, ap₂, subst, ◌∙◌}
use mathlib.Core.Bool.{true, cond}
use mathlib.Core.Logic.{⊎_elim}
use mathlib.Core.List.{List, [], ◌∷◌}
use native.Mathlib.Omega.{arith}
use lib.ListN.{length, length-take}
use lib.Seq.{length-take-le, take_at}
use lib.Dec.{eqb}
use Rattle.lists.proofs.Order.{eq_or_not}
use Rattle.stream.specs.declared.Reply.{Reply}
use Rattle.stream.specs.Replies.{granted}
use Rattle.record.specs.Layout.{record_length}
use Rattle.record.specs.Head.{open_at}
use Rattle.fitness.specs.Fit.{record_fits, lent_refusal}
use Rattle.fitness.proofs.FitLaws.{fit_record}
use Rattle.steps.specs.Call.{Call}
use Rattle.steps.specs.Outcome.{Outcome, outcome, gated}
use Rattle.steps.proofs.OutcomeLaws.{refuses}
use Rattle.port.specs.Calls.{called}
use Rattle.port.specs.Quick.{length_refusal, quickly_called}
use Rattle.port_laws.specs.Counting.{counts_as}
use Rattle.port_laws.proofs.CallKeeps.{either}
use Rattle.port_laws.proofs.QuickLaws.{same_refusal, quick_call}
use Rattle.port_laws.proofs.StayLaws.{stays_fit}
use Rattle.register_block.specs.Shown.{register_at}
use Rattle.register_block.specs.Written.{written_at}
use Rattle.registers.specs.Lent.{record_part, block_part, in_block, short_refusal, port_refusal}
use Rattle.registers.specs.Calls.{with_note, registered, port_call, quick_port_call}
use Rattle.registers.proofs.PartLaws.{enough}
use Rattle.registers.specs.Accesses.{offset_refusal, in_turn, read_by, written_by, write_by, register_read, register_write, quick_register_read, quick_register_write}
use Rattle.register_laws.specs.Uses.{Use, calling, reading, writing, used, quickly_used, lent, calls_of}
use Rattle.register_laws.specs.Cases.{uses_reply}
use Rattle.register_laws.proofs.FollowLaws.{call_follows, read_leaves, control_calls}

-- the record's part is fit for the memory
abbrev pub Fit : List ℕ → List ℕ → Type 0
Fit p m = record_fits (record_part p) m ≡ true

-- a quick call is the call
pub quick_registered : (c : Call) (p m : List ℕ) → Fit p m → quick_port_call c p m ≡ port_call c p m
unfolding registered
quick_registered c p m fit = ap (λ (o : Outcome). gated (short_refusal p m) p m (with_note (counts_as (record_part p) c) (block_part p) o)) (quick_call c (record_part p) m fit)

-- the lengths alone refuse what 18 and 19 refuse
quick_lent : (p m : List ℕ) → Fit p m → port_refusal length_refusal p m ≡ port_refusal lent_refusal p m
quick_lent p m fit = ap (λ (n : ℕ). cond (eqb (short_refusal p m) 0) n (short_refusal p m)) (same_refusal (record_part p) m fit)

-- a quick read is the read
pub quick_read : (offset : ℕ) (p m : List ℕ) → Fit p m → quick_register_read offset p m ≡ register_read offset p m
unfolding read_by
quick_read offset p m fit =
    ap (λ (n : ℕ). gated (offset_refusal offset) p m (gated n p m (outcome (granted (register_at (open_at p) (block_part p) offset) 0) p m))) (quick_lent p m fit)

-- a call leaves a fit record fit, also where the slice is too short
fit_call : (c : Call) (p m : List ℕ) → Fit p m → Fit (port_call c p m).port (port_call c p m).memory
unfolding registered
fit_call c p m fit =
    ⊎_elim
    (λ (free : short_refusal p m ≡ 0).
    let f = call_follows p m (enough p m free) c in
    ap₂ record_fits f.same_record f.same_memory ∙ stays_fit c (record_part p) m fit)
    (λ (some : short_refusal p m ≡ 0 → ⊥).
    subst (λ (o : Outcome). Fit o.port o.memory) (sym (refuses (short_refusal p m) p m (with_note (counts_as (record_part p) c) (block_part p) (called c (record_part p) m)) some)) fit)
    (eq_or_not (short_refusal p m) 0)

-- so do calls in turn, and the quick ones are they
quick_turn : (cs : List Call) (o : Outcome) → Fit o.port o.memory → in_turn quick_port_call o cs ≡ in_turn port_call o cs
quick_turn [] o fit = refl
quick_turn (c ∷ cs) o fit =
    ap (λ (u : Outcome). in_turn quick_port_call u cs) (quick_registered c o.port o.memory fit)
    ∙ quick_turn cs (port_call c o.port o.memory) (fit_call c o.port o.memory fit)

fit_turn : (cs : List Call) (o : Outcome) → Fit o.port o.memory → Fit (in_turn port_call o cs).port (in_turn port_call o cs).memory
fit_turn [] o fit = fit
fit_turn (c ∷ cs) o fit = fit_turn cs (port_call c o.port o.memory) (fit_call c o.port o.memory fit)

-- a write that makes no call leaves the record as it is
fit_plain : (offset number : ℕ) (p m : List ℕ) → calls_of (writing offset number) ≡ [] → Fit p m → Fit (register_write offset number p m).port (register_write offset number p m).memory
unfolding write_by in_block
fit_plain offset number p m none fit =
    let Leaves : Outcome → Type 0 = λ o. Fit o.port o.memory in
    let body = written_by called lent_refusal offset number p m [] in
    let first : register_write offset number p m ≡ gated (offset_refusal offset) p m body = ap (λ (cs : List Call). gated (offset_refusal offset) p m (written_by called lent_refusal offset number p m cs)) none in
    let long : record_length ≤ length p = omega (arith, (fit_record (record_part p) m fit).long, length-take record_length p) in
    let kept : record_part (in_block (written_at offset number) p) ≡ record_part p = take_at (record_part p) (written_at offset number (block_part p)) record_length (length-take-le record_length p long) in
    subst Leaves (sym first)
    (either Leaves (eqb (offset_refusal offset) 0) body _ (either Leaves (eqb (port_refusal lent_refusal p m) 0) _ _ (ap (λ (q : List ℕ). record_fits q m) kept ∙ fit) fit) fit)

-- a quick write is the write
pub quick_write : (offset number : ℕ) (p m : List ℕ) → Fit p m → quick_register_write offset number p m ≡ register_write offset number p m
unfolding write_by
quick_write offset number p m fit = ap (gated (offset_refusal offset) p m) (by_calls (calls_of (writing offset number)))
  where
    by_calls : (cs : List Call) → written_by quickly_called length_refusal offset number p m cs ≡ written_by called lent_refusal offset number p m cs
    by_calls [] = ap (λ (n : ℕ). gated n p m (outcome (granted 0 0) (in_block (written_at offset number) p) m)) (quick_lent p m fit)
    by_calls (c ∷ cs) = quick_turn (c ∷ cs) (lent p m) fit

-- every use,
pub quick_use : (u : Use) (p m : List ℕ) → Fit p m → quickly_used u p m ≡ used u p m
quick_use (calling c) p m fit = quick_registered c p m fit
quick_use (reading offset) p m fit = quick_read offset p m fit
quick_use (writing offset number) p m fit = quick_write offset number p m fit

-- which leaves a fit record fit,
pub fit_use : (u : Use) (p m : List ℕ) → Fit p m → Fit (used u p m).port (used u p m).memory
fit_use (calling c) p m fit = fit_call c p m fit
fit_use (reading offset) p m fit = let left = read_leaves lent_refusal offset p m in subst (λ (q : List ℕ). Fit q (register_read offset p m).memory) (sym left.0) (subst (Fit p) (sym left.1) fit)
fit_use (writing offset number) p m fit = by_calls (calls_of (writing offset number)) refl
  where
    by_calls : (cs : List Call) → calls_of (writing offset number) ≡ cs → Fit (register_write offset number p m).port (register_write offset number p m).memory
    by_calls [] none = fit_plain offset number p m none fit
    by_calls (c ∷ cs) e = subst (λ (o : Outcome). Fit o.port o.memory) (sym (control_calls offset number p m c cs e)) (fit_turn (c ∷ cs) (lent p m) fit)

-- and every list of them: replies, slice and memory
pub quick_list_lem : (us : List Use) (o : Outcome) → Fit o.port o.memory → in_turn quickly_used o us ≡ in_turn used o us
quick_list_lem [] o fit = refl
quick_list_lem (u ∷ us) o fit =
    ap (λ (x : Outcome). in_turn quickly_used x us) (quick_use u o.port o.memory fit)
    ∙ quick_list_lem us (used u o.port o.memory) (fit_use u o.port o.memory fit)

pub quick_uses : (us : List Use) (p m : List ℕ) → Fit p m → uses_reply quickly_used us p m ≡ uses_reply used us p m
quick_uses [] p m fit = refl
quick_uses (u ∷ us) p m fit =
    let o = used u p m in
    ap (λ (x : Outcome). x.reply ∷ uses_reply quickly_used us x.port x.memory) (quick_use u p m fit)
    ∙ ap (λ (rs : List Reply). o.reply ∷ rs) (quick_uses us o.port o.memory (fit_use u p m fit))
