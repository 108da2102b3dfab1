-- Where an arriving frame joins, and what is left: the rule without its recursion. After one advance left is P, so a frame joins at the
-- place, or at the one after it, or nowhere. Assumes nothing.
use Prim.Native.Nat.{ℕ, zero, suc, ◌+◌, ◌-◌, ◌≤◌, ◌<◌}
use mathlib.Core.Path.{◌≡◌, ◌∙◌, ap, sym, subst}
use mathlib.Core.Logic.{⊎_elim}
use native.Mathlib.Omega.{arith}
use native.Mathlib.Nat.{eq-or-lt_of_le}
use borrow.Author.Tests.{le-leb, lt-leb, lt-ltb, le-ltb, eq-eqb, ne_eqb}
use Rattle.stream.specs.declared.Stream.{Stream}
use Rattle.stream.specs.declared.Arrival.{Arrival}
use Rattle.stream.specs.declared.Arrival.TheVariants.{Joined}
use Rattle.lists.proofs.Order.{le_or_lt}
use Rattle.stream.specs.State.{at_place}
use Rattle.stream.specs.Steps.{advanced, joined, discarded, attempt, arrive_of}

module _ (last : ℕ) (s : Stream) (a : ℕ) where
  -- a frame that fits joins at the place
  pub joins_here : a ≤ s.left → arrive_of last s a ≡ joined last s a
  unfolding arrive_of attempt
  joins_here h = tried (last - s.place)
    where
      tried : (n : ℕ) → attempt last n s a ≡ joined last s a
      tried zero = rw (le-leb a s.left h)
      tried (suc n) = rw (le-leb a s.left h)

  -- one that does not is tried at the place after it, unless the place is last
  tried_next : s.left < a → s.place < last → arrive_of last s a ≡ attempt last (last - (s.place + 1)) (advanced s) a
  unfolding arrive_of attempt
  tried_next h p = let e : last - s.place ≡ suc (last - (s.place + 1)) = omega arith in rw (e, lt-leb a s.left h)

  -- at last it is discarded
  pub discards_at_last : s.left < a → last ≤ s.place → arrive_of last s a ≡ discarded last s
  unfolding arrive_of attempt
  discards_at_last h p = let e : last - s.place ≡ zero = omega arith in rw (e, lt-leb a s.left h)

-- a frame of more than P that does not fit is discarded wherever it is tried
over : (last n : ℕ) (s : Stream) (a : ℕ) → s.left < a → s.permitted < a → attempt last n s a ≡ discarded last s
unfolding attempt
over last zero s a h p = rw (lt-leb a s.left h)
over last (suc n) s a h p = rw (lt-leb a s.left h) (over last n (advanced s) a p p)

module _ (last : ℕ) (s : Stream) (a : ℕ) where
  -- a frame of at most P that does not fit joins at the place after it
  pub joins_next_lem : s.left < a → s.place < last → a ≤ s.permitted → arrive_of last s a ≡ joined last (advanced s) a
  unfolding arrive_of
  joins_next_lem h p q = tried_next last s a h p ∙ joins_here last (advanced s) a q

  -- a frame of more than P that does not fit is discarded
  pub discards_over : s.left < a → s.permitted < a → arrive_of last s a ≡ discarded last s
  unfolding arrive_of
  discards_over h p = over last (last - s.place) s a h p

  -- what is left after a frame that leaves some, after an exact fit before last, and after an exact fit at last
  pub leaves_some : a < s.left → joined last s a ≡ Joined s.place (at_place s s.place (s.left - a))
  leaves_some h = rw (ne_eqb (s.left - a) 0 (λ e. omega arith))

  pub exact_before_last : a ≡ s.left → s.place < last → joined last s a ≡ Joined s.place (advanced s)
  exact_before_last h p = rw (eq-eqb (s.left - a) 0 (omega arith), lt-ltb s.place last p)

  pub exact_at_last : a ≡ s.left → last ≤ s.place → joined last s a ≡ Joined s.place (at_place s s.place 0)
  exact_at_last h p = rw (eq-eqb (s.left - a) 0 (omega arith), le-ltb s.place last p) (ap (λ (n : ℕ). Joined s.place (at_place s s.place n)) (omega arith))

-- Whatever holds of each way in which an arrival can end holds of the arrival: it joins at the place, joins at the one after it, or is
-- discarded, since the place is last or since it is of more than P.
pub arrive_cases : (last : ℕ) (s : Stream) (a : ℕ) (G : Arrival → Type 0)
    → (a ≤ s.left → G (joined last s a))
    → (s.left < a → s.place < last → a ≤ s.permitted → G (joined last (advanced s) a))
    → (s.left < a → last ≤ s.place → G (discarded last s))
    → (s.left < a → s.permitted < a → G (discarded last s))
    → G (arrive_of last s a)
arrive_cases last s a G here next at_last too_large =
    ⊎_elim
    (λ (h : a ≤ s.left). subst G (sym (joins_here last s a h)) (here h))
    (λ (h : s.left < a).
    ⊎_elim
    (λ (p : last ≤ s.place). subst G (sym (discards_at_last last s a h p)) (at_last h p))
    (λ (p : s.place < last).
    ⊎_elim
    (λ (q : a ≤ s.permitted). subst G (sym (joins_next_lem last s a h p q)) (next h p q))
    (λ (q : s.permitted < a). subst G (sym (discards_over last s a h q)) (too_large h q))
    (le_or_lt a s.permitted))
    (le_or_lt last s.place))
    (le_or_lt a s.left)

-- whatever holds of each way in which a frame that fits can end holds of it: some is left, or it is an exact fit before last or at last
pub joined_cases : (last : ℕ) (s : Stream) (a : ℕ) (G : Arrival → Type 0)
    → a ≤ s.left
    → (a < s.left → G (Joined s.place (at_place s s.place (s.left - a))))
    → (a ≡ s.left → s.place < last → G (Joined s.place (advanced s)))
    → (a ≡ s.left → last ≤ s.place → G (Joined s.place (at_place s s.place 0)))
    → G (joined last s a)
joined_cases last s a G h some before at_last =
    ⊎_elim
    (λ (e : a ≡ s.left).
    ⊎_elim
    (λ (p : last ≤ s.place). subst G (sym (exact_at_last last s a e p)) (at_last e p))
    (λ (p : s.place < last). subst G (sym (exact_before_last last s a e p)) (before e p))
    (le_or_lt last s.place))
    (λ (l : a < s.left). subst G (sym (leaves_some last s a l)) (some l))
    (eq-or-lt_of_le h)
