-- Laws of what holds of each and of some of a list, and of a list with one more at its end. Assumes nothing.
use Prim.Native.Nat.{ℕ, zero, suc, ◌<◌}
use mathlib.Core.Bool.{Bool, true, false}
use mathlib.Core.Path.{◌≡◌, refl, ap}
use mathlib.Core.Logic.{◌⊎◌, inl, inr, ⊎_elim}
use mathlib.Core.List.{List, [], ◌∷◌, ◌++◌}
use native.Mathlib.Omega.{arith}
use lib.ListN.{length, get_or}
use Rattle.lists.specs.Each.{All, Some}

-- true is not false
pub differ : {A : Type 0} → ◌≡◌ {A = Bool} true false → A
differ e = let z : ◌≡◌ {A = ℕ} 0 1 = cc in absurd (omega arith)

module _ {A : Type 0} where
  -- a list with a first is not empty, and one without length is
  pub some_not_none : {B : Type 0} (x : A) (l : List A) → ◌≡◌ {A = List A} (x ∷ l) [] → B
  some_not_none x l e = let z : length (x ∷ l) ≡ length {A = A} [] = ap length e in absurd (omega arith)

  pub none_long : (l : List A) → length l ≡ 0 → l ≡ []
  none_long [] e = refl
  none_long (x ∷ l) e = absurd (omega arith)

  -- with one more at the end, what was in the list stands where it stood, and the one more after it
  pub get_or_before : (l : List A) (x d : A) (i : ℕ) → i < length l → get_or (l ++ (x ∷ [])) i d ≡ get_or l i d
  get_or_before [] x d i h = absurd (omega arith)
  get_or_before (y ∷ l) x d zero h = refl
  get_or_before (y ∷ l) x d (suc i) h = get_or_before l x d i (omega arith)

  pub get_or_last : (l : List A) (x d : A) → get_or (l ++ (x ∷ [])) (length l) d ≡ x
  get_or_last [] x d = refl
  get_or_last (y ∷ l) x d = get_or_last l x d

  module _ (P : A → Type 0) where
    pub all_snoc : (l : List A) (x : A) → All P l → P x → All P (l ++ (x ∷ []))
    all_snoc [] x h p = (p, tt)
    all_snoc (y ∷ l) x h p = (h.0, all_snoc l x h.1 p)

    pub some_snoc : (l : List A) (x : A) → Some P (l ++ (x ∷ [])) → Some P l ⊎ P x
    some_snoc [] x (inl h) = inr h
    some_snoc [] x (inr h) = elim h [ ]
    some_snoc (y ∷ l) x (inl h) = inl (inl h)
    some_snoc (y ∷ l) x (inr h) = ⊎_elim (λ (i : Some P l). inl (inr i)) (λ (i : P x). inr i) (some_snoc l x h)

    pub some_before : (l : List A) (x : A) → Some P l → Some P (l ++ (x ∷ []))
    some_before [] x h = elim h [ ]
    some_before (y ∷ l) x (inl h) = inl h
    some_before (y ∷ l) x (inr h) = inr (some_before l x h)

    pub some_last : (l : List A) (x : A) → P x → Some P (l ++ (x ∷ []))
    some_last [] x h = inl h
    some_last (y ∷ l) x h = inr (some_last l x h)

    -- what holds of each holds of each of the rest
    pub all_rest : (before rest : List A) → All P (before ++ rest) → All P rest
    all_rest [] rest h = h
    all_rest (x ∷ before) rest h = all_rest before rest h.1

  -- what follows for each follows for all
  pub all_map : (P Q : A → Type 0) (l : List A) → ((x : A) → P x → Q x) → All P l → All Q l
  all_map P Q [] f h = tt
  all_map P Q (x ∷ l) f h = (f x h.0, all_map P Q l f h.1)
