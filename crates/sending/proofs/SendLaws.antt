-- Which frame a transmit sends, under plain hypotheses. Assumes nothing.
use Prim.Native.Nat.{ℕ}
use mathlib.Core.Path.{◌≡◌, sym, ap, ap₂, subst, ◌∙◌}
use mathlib.Core.Bool.{Bool, cond}
use mathlib.Core.Logic.{⊎_elim}
use mathlib.Core.List.{List}
use borrow.Author.Tests.{eq-eqb, ne_eqb}
use Rattle.lists.proofs.Order.{eq_or_not}
use Rattle.stream.specs.Replies.{granted}
use Rattle.queue.specs.declared.Queue.{Queue}
use Rattle.steps.specs.Outcome.{Outcome, outcome}
use Rattle.sending.specs.Sending.{sent, sent_best_effort, nothing, if_waiting, sent_first}

-- a queue where frames wait, and one where none does
waits : (q : Queue) (done else : Outcome) → (q.count ≡ 0 → ⊥) → if_waiting q done else ≡ done
waits q done else h = ap (λ (b : Bool). cond b else done) (ne_eqb q.count 0 h)

none : (q : Queue) (done else : Outcome) → q.count ≡ 0 → if_waiting q done else ≡ else
none q done else h = ap (λ (b : Bool). cond b else done) (eq-eqb q.count 0 h)

module _ (p m : List ℕ) (prior current best : ℕ) (a b c : Queue) where
  pub sends_prior : (a.count ≡ 0 → ⊥) → sent_first p m prior current best a b c ≡ sent p m prior a
  sends_prior h = waits a _ _ h

  pub sends_current : a.count ≡ 0 → (b.count ≡ 0 → ⊥) → sent_first p m prior current best a b c ≡ sent p m current b
  sends_current i h = none a _ _ i ∙ waits b _ _ h

  pub sends_best_effort_lem : a.count ≡ 0 → b.count ≡ 0 → (c.count ≡ 0 → ⊥) → sent_first p m prior current best a b c ≡ sent_best_effort p m best c
  sends_best_effort_lem i j h = none a _ _ i ∙ none b _ _ j ∙ waits c _ _ h

  pub sends_nothing_lem : a.count ≡ 0 → b.count ≡ 0 → c.count ≡ 0 → sent_first p m prior current best a b c ≡ outcome (granted nothing 0) p m
  sends_nothing_lem i j h = none a _ _ i ∙ none b _ _ j ∙ none c _ _ h

  -- what holds of each of the four holds of what is sent
  pub first_cases : (G : Outcome → Type 0)
      → ((a.count ≡ 0 → ⊥) → G (sent p m prior a))
      → (a.count ≡ 0 → (b.count ≡ 0 → ⊥) → G (sent p m current b))
      → (a.count ≡ 0 → b.count ≡ 0 → (c.count ≡ 0 → ⊥) → G (sent_best_effort p m best c))
      → (a.count ≡ 0 → b.count ≡ 0 → c.count ≡ 0 → G (outcome (granted nothing 0) p m))
      → G (sent_first p m prior current best a b c)
  first_cases G in-prior in-current in-best-effort in-none =
      ⊎_elim
      (λ (i : a.count ≡ 0).
      ⊎_elim
      (λ (j : b.count ≡ 0).
      ⊎_elim
      (λ (k : c.count ≡ 0). subst G (sym (sends_nothing_lem i j k)) (in-none i j k))
      (λ (k : c.count ≡ 0 → ⊥). subst G (sym (sends_best_effort_lem i j k)) (in-best-effort i j k))
      (eq_or_not c.count 0))
      (λ (j : b.count ≡ 0 → ⊥). subst G (sym (sends_current i j)) (in-current i j))
      (eq_or_not b.count 0))
      (λ (i : a.count ≡ 0 → ⊥). subst G (sym (sends_prior i)) (in-prior i))
      (eq_or_not a.count 0)

-- the same queues send the same
pub same_queues : (p m : List ℕ) (prior current best prior' current' best' : ℕ) (a b c a' b' c' : Queue)
    → prior ≡ prior' → current ≡ current' → best ≡ best' → a ≡ a' → b ≡ b' → c ≡ c'
    → sent_first p m prior current best a b c ≡ sent_first p m prior' current' best' a' b' c'
same_queues p m prior current best prior' current' best' a b c a' b' c' r s t i j k =
    ap₂ (λ (x y : ℕ). sent_first p m x y best a b c) r s
    ∙ ap (λ (x : ℕ). sent_first p m prior' current' x a b c) t
    ∙ ap₂ (λ (x y : Queue). sent_first p m prior' current' best' x y c) i j
    ∙ ap (sent_first p m prior' current' best' a' b') k
