-- Laws of `octets_equal`: it is true of a list and itself, and of no two other lists. Assumes nothing.
use Prim.Native.Nat.{ℕ}
use mathlib.Core.Path.{◌≡◌, refl, sym, ap, ap₂, ◌∙◌}
use mathlib.Core.Bool.{Bool, true, false, ◌&&◌}
use mathlib.Core.List.{List}
use lib.ListN.{length, get_or}
use lib.Seq.{ext_get_or}
use lib.Dec.{eqb}
use borrow.Author.Tests.{eqb-true, eq-eqb}
use Rattle.lists.specs.Turns.{all_to}
use Rattle.lists.specs.Equal.{octets_equal}
use Rattle.lists.proofs.TurnLaws.{both, all_to_at, all_to_all}

-- lists that pass the test are equal
pub equal_octets : (xs ys : List ℕ) → octets_equal xs ys ≡ true → xs ≡ ys
unfolding octets_equal
equal_octets xs ys h =
    let e : (eqb (length xs) (length ys) ≡ true) × (all_to (λ i. eqb (get_or xs i 0) (get_or ys i 0)) (length xs) ≡ true) = both _ _ h in
    ext_get_or 0 xs ys (eqb-true _ _ e.0) (λ i b. eqb-true _ _ (all_to_at (λ i. eqb (get_or xs i 0) (get_or ys i 0)) (length xs) i b e.1))

-- a list passes the test with itself
pub octets_equal_lem : (xs : List ℕ) → octets_equal xs xs ≡ true
unfolding octets_equal
octets_equal_lem xs = ap₂ ◌&&◌ (eq-eqb (length xs) (length xs) refl) (all_to_all _ (length xs) (λ i b. eq-eqb (get_or xs i 0) (get_or xs i 0) refl))

-- an answer that is yes of equal lists and of no others is the test
pub same_is : (r : Bool) (xs ys : List ℕ) → (r ≡ true → xs ≡ ys) × (xs ≡ ys → r ≡ true) → r ≡ octets_equal xs ys
same_is true xs ys h = sym (octets_equal_lem xs) ∙ ap (octets_equal xs) (h.0 refl)
same_is false xs ys h = told (octets_equal xs ys) refl
  where
    told : (b : Bool) → octets_equal xs ys ≡ b → false ≡ b
    told true e = h.1 (equal_octets xs ys e)
    told false e = refl
