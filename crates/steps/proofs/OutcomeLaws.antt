-- Outcomes with the same reply, record and memory are the same; what a gate lets through and what it stops. Assumes nothing.
use Prim.Native.Nat.{ℕ}
use mathlib.Core.Path.{◌≡◌, refl, sym, ap, ap₂, ◌∙◌}
use mathlib.Core.Bool.{Bool, cond}
use mathlib.Core.Logic.{⊎_elim}
use mathlib.Core.List.{List}
use borrow.Author.Tests.{eq-eqb, ne_eqb}
use Rattle.lists.proofs.Order.{eq_or_not}
use Rattle.stream.specs.declared.Reply.{Reply}
use Rattle.stream.specs.declared.answer.Refusal.{Refusal}
use Rattle.stream.specs.Replies.{refused_by, number_of}
use Rattle.stream.proofs.AnswerLaws.{number_some}
use Rattle.steps.specs.Outcome.{Outcome, outcome, refused, gated}

pub same_outcome : (r s : Reply) (p q m n : List ℕ) → r ≡ s → p ≡ q → m ≡ n → outcome r p m ≡ outcome s q n
same_outcome r s p q m n a b c = ap (λ (x : Reply). outcome x p m) a ∙ ap₂ (λ (x y : List ℕ). outcome s x y) b c

module _ (g : ℕ) (p m : List ℕ) (done : Outcome) where
  -- a gate that answers 0 lets the call through
  pub grants : g ≡ 0 → gated g p m done ≡ done
  grants e = ap (λ (b : Bool). cond b done (refused g p m)) (eq-eqb g 0 e)

  -- one that does not refuses it, and nothing changes
  pub refuses : (g ≡ 0 → ⊥) → gated g p m done ≡ refused g p m
  refuses h = ap (λ (b : Bool). cond b done (refused g p m)) (ne_eqb g 0 h)

  -- so a gated call that is granted was let through
  pub let_through : (gated g p m done).reply.refusal ≡ 0 → g ≡ 0
  let_through e =
      ⊎_elim
      (λ (zero : g ≡ 0). zero)
      (λ (some : g ≡ 0 → ⊥). absurd (some (sym (ap (λ (o : Outcome). o.reply.refusal) (refuses some)) ∙ e)))
      (eq_or_not g 0)

-- the same for code that asks a gate and goes by its answer r: where it stops it replies the refusal,
pub stopped : (r g : ℕ) (reply : Reply) (p m : List ℕ) (done : Outcome) → reply ≡ refused_by r → (r ≡ 0 → ⊥) → r ≡ g → outcome reply p m ≡ gated g p m done
stopped r g reply p m done told some e =
    same_outcome _ _ _ _ _ _ told refl refl ∙ sym (refuses r p m done some) ∙ ap (λ (n : ℕ). gated n p m done) e

-- and where it goes on it does what the gate lets through
pub passed : (r g : ℕ) (p m : List ℕ) (left done : Outcome) → left ≡ done → r ≡ 0 → r ≡ g → left ≡ gated g p m done
passed r g p m left done does zero e = does ∙ sym (grants r p m done zero) ∙ ap (λ (n : ℕ). gated n p m done) e

-- also where it writes no memory, and its contract tells reply and record apart
pub passed_record : (r g : ℕ) (p q k m : List ℕ) (reply told : Reply) → reply ≡ told → q ≡ k → r ≡ 0 → r ≡ g → outcome reply q m ≡ gated g p m (outcome told k m)
passed_record r g p q k m reply told replies writes zero e = passed r g p m _ _ (same_outcome reply told q k m m replies writes refl) zero e

-- code that passes a refusal on by `?` replies it,
pub refused_on : (refusal : Refusal) (g : ℕ) (p m : List ℕ) (done : Outcome) → number_of refusal ≡ g → outcome (refused_by (number_of refusal)) p m ≡ gated g p m done
refused_on refusal g p m done e = stopped (number_of refusal) g _ p m done refl (number_some refusal) e

-- and where there is none it goes on, with an answer of its own or with two numbers
pub went_on : (g : ℕ) (p m : List ℕ) (left done : Outcome) → left ≡ done → 0 ≡ g → left ≡ gated g p m done
went_on g p m left done does e = passed 0 g p m left done does refl e

pub went_on_record : (g : ℕ) (p q k m : List ℕ) (reply told : Reply) → reply ≡ told → q ≡ k → 0 ≡ g → outcome reply q m ≡ gated g p m (outcome told k m)
went_on_record g p q k m reply told replies writes e = passed_record 0 g p q k m reply told replies writes refl e
