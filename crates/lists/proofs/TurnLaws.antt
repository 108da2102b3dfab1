-- Laws of `all_to`, `sum_to`, `list_to`, `all_of`, `sum_of` and `iterate`. Assumes nothing.
use Prim.Native.Nat.{ℕ, zero, suc, ◌+◌, ◌≤◌, ◌<◌}
use mathlib.Core.Path.{◌≡◌, refl, sym, ap, ap₂, subst, ◌∙◌}
use mathlib.Core.Bool.{Bool, true, false, ◌&&◌}
use mathlib.Core.Logic.{⊎_elim}
use native.Mathlib.Nat.{eq-or-lt_of_le}
use mathlib.Core.List.{List, [], ◌∷◌, ◌++◌}
use native.Mathlib.Omega.{arith}
use lib.ListN.{length, length-append}
use Rattle.lists.specs.Turns.{all_to, sum_to, list_to, all_of, sum_of, iterate}

-- both halves of a test that is true
pub both : (a b : Bool) → (a && b) ≡ true → (a ≡ true) × (b ≡ true)
both true b h = (refl, h)
both false b h = let z : ◌≡◌ {A = ℕ} 0 1 = cc in absurd (omega arith)

-- what holds of every number below n holds of each
pub all_to_at : (f : ℕ → Bool) (n k : ℕ) → k < n → all_to f n ≡ true → f k ≡ true
unfolding all_to
all_to_at f zero k h e = absurd (omega arith)
all_to_at f (suc n) k h e =
    ⊎_elim
    (λ (q : k ≡ n). ap f q ∙ (both (f n) (all_to f n) e).0)
    (λ (l : k < n). all_to_at f n k l (both (f n) (all_to f n) e).1)
    (eq-or-lt_of_le (omega arith))

-- what holds of each number below n holds of all
pub all_to_all : (f : ℕ → Bool) (n : ℕ) → ((k : ℕ) → k < n → f k ≡ true) → all_to f n ≡ true
unfolding all_to
all_to_all f zero h = refl
all_to_all f (suc n) h = ap₂ ◌&&◌ (h n (omega arith)) (all_to_all f n (λ k b. h k (omega arith)))

-- equal tests, equal answers
pub all_to_same : (f g : ℕ → Bool) (n : ℕ) → ((k : ℕ) → k < n → f k ≡ g k) → all_to f n ≡ all_to g n
unfolding all_to
all_to_same f g zero h = refl
all_to_same f g (suc n) h = ap₂ ◌&&◌ (h n (omega arith)) (all_to_same f g n (λ k b. h k (omega arith)))

-- equal values, equal sums
pub sum_to_same : (f g : ℕ → ℕ) (n : ℕ) → ((k : ℕ) → k < n → f k ≡ g k) → sum_to f n ≡ sum_to g n
unfolding sum_to
sum_to_same f g zero h = refl
sum_to_same f g (suc n) h = ap₂ ◌+◌ (sum_to_same f g n (λ k b. h k (omega arith))) (h n (omega arith))

-- lesser values, a lesser sum
pub sum_to_le : (f g : ℕ → ℕ) (n : ℕ) → ((k : ℕ) → f k ≤ g k) → sum_to f n ≤ sum_to g n
unfolding sum_to
sum_to_le f g zero h = omega arith
sum_to_le f g (suc n) h = omega (arith, h n, sum_to_le f g n h)

-- a sum of nothing
pub sum_to_none : (n : ℕ) → sum_to (λ k. 0) n ≡ 0
unfolding sum_to
sum_to_none zero = refl
sum_to_none (suc n) = omega (arith, sum_to_none n)

-- sums whose values differ at one number differ by what they have there
pub sum_to_change : (f g : ℕ → ℕ) (n k : ℕ) → k < n → ((i : ℕ) → (i ≡ k → ⊥) → f i ≡ g i) → sum_to f n + g k ≡ sum_to g n + f k
unfolding sum_to
sum_to_change f g zero k h same = absurd (omega arith)
sum_to_change f g (suc n) k h same =
    ⊎_elim
    (λ (q : k ≡ n). rw q
    (let below : sum_to f n ≡ sum_to g n = sum_to_same f g n (λ i b. same i (λ (e : i ≡ k). absurd (omega (arith, q)))) in omega (arith, below)))
    (λ (l : k < n).
    (let below : sum_to f n + g k ≡ sum_to g n + f k = sum_to_change f g n k l same in
    let there : f n ≡ g n = same n (λ (e : n ≡ k). absurd (omega arith)) in
    omega (arith, below, there)))
    (eq-or-lt_of_le (omega arith))

module _ {A : Type 0} where
  -- the test of a list with one more at its end
  pub all_of_snoc : (g : A → Bool) (l : List A) (a : A) → all_of g (l ++ (a ∷ [])) ≡ (g a && all_of g l)
  all_of_snoc g [] a = refl
  all_of_snoc g (x ∷ l) a = ap (λ (b : Bool). g x && b) (all_of_snoc g l a) ∙ swapped (g x) (g a) (all_of g l)
    where
      swapped : (b c d : Bool) → (b && (c && d)) ≡ (c && (b && d))
      swapped true c d = refl
      swapped false true d = refl
      swapped false false d = refl

  -- a test by turns is the test of the list of the turns' values
  pub all_to_list : (g : A → Bool) (f : ℕ → A) (n : ℕ) → all_to (λ i. g (f i)) n ≡ all_of g (list_to f n)
  unfolding all_to list_to
  all_to_list g f zero = refl
  all_to_list g f (suc n) = ap (λ (b : Bool). g (f n) && b) (all_to_list g f n) ∙ sym (all_of_snoc g (list_to f n) (f n))

  -- equal values, equal lists
  pub list_to_same : (f g : ℕ → A) (n : ℕ) → ((k : ℕ) → k < n → f k ≡ g k) → list_to f n ≡ list_to g n
  unfolding list_to
  list_to_same f g zero h = refl
  list_to_same f g (suc n) h = ap₂ (λ (l : List A) (a : A). l ++ (a ∷ [])) (list_to_same f g n (λ k b. h k (omega arith))) (h n (omega arith))

  -- the first value taken off the list
  pub list_to_first : (f : ℕ → A) (n : ℕ) → list_to f (suc n) ≡ f 0 ∷ list_to (λ k. f (suc k)) n
  unfolding list_to
  list_to_first f zero = refl
  list_to_first f (suc n) = ap (λ (l : List A). l ++ (f (suc n) ∷ [])) (list_to_first f n)

  -- one value for each number below n
  pub length_list_to : (f : ℕ → A) (n : ℕ) → length (list_to f n) ≡ n
  unfolding list_to
  length_list_to f zero = refl
  length_list_to f (suc n) = length-append (list_to f n) (f n ∷ []) ∙ omega (arith, length_list_to f n)

  -- the sum over a list with one more at its end
  pub sum_of_snoc : (g : A → ℕ) (l : List A) (a : A) → sum_of g (l ++ (a ∷ [])) ≡ sum_of g l + g a
  sum_of_snoc g [] a = omega arith
  sum_of_snoc g (x ∷ l) a = omega (arith, sum_of_snoc g l a)

  -- a sum by turns is the sum over the list of the turns' values
  pub sum_to_list : (g : A → ℕ) (f : ℕ → A) (n : ℕ) → sum_to (λ i. g (f i)) n ≡ sum_of g (list_to f n)
  unfolding sum_to list_to
  sum_to_list g f zero = refl
  sum_to_list g f (suc n) = omega (arith, sum_to_list g f n, sum_of_snoc g (list_to f n) (f n))

  -- what each turn keeps is kept by all
  pub iterate_keeps : (P : A → Type 0) (f : ℕ → A → A) (n : ℕ) (a : A) → ((k : ℕ) (x : A) → P x → P (f k x)) → P a → P (iterate f n a)
  unfolding iterate
  iterate_keeps P f zero a h p = p
  iterate_keeps P f (suc n) a h p = h n (iterate f n a) (iterate_keeps P f n a h p)

  -- what each turn brings for its number, and later turns keep, holds of every number after all
  pub iterate_each : (G : ℕ → A → Type 0) (f : ℕ → A → A) (n : ℕ) (a : A)
      → ((k : ℕ) (x : A) → G k (f k x))
      → ((k i : ℕ) (x : A) → k < i → G k x → G k (f i x))
      → (k : ℕ) → k < n → G k (iterate f n a)
  unfolding iterate
  iterate_each G f zero a brings keeps k h = absurd (omega arith)
  iterate_each G f (suc n) a brings keeps k h =
      ⊎_elim
      (λ (q : k ≡ n). subst (λ (i : ℕ). G i (f n (iterate f n a))) (sym q) (brings n (iterate f n a)))
      (λ (l : k < n). keeps k n (iterate f n a) l (iterate_each G f n a brings keeps k l))
      (eq-or-lt_of_le (omega arith))
