-- What `all` answers over a range: the definition by turns. Assumes nothing.
use Prim.Native.Nat.{ℕ, zero, suc, ◌+◌}
use mathlib.Core.Path.{◌≡◌, refl, sym, ap, ap₂, ◌∙◌}
use mathlib.Core.Bool.{Bool, true, false, ◌&&◌}
use mathlib.Core.List.{List}
use native.Mathlib.Omega.{arith}
use denote.Param.Members.{Mut}
use Rattle.std.proofs.iter.Yields.{nat_range_steps}
use Rattle.std.proofs.lemmas.Iterator.{YieldsList-from_range}
use Rattle.std.proofs.lemmas.Iterator.Search.{all_from_yields_List}
use Rattle.std.specs.Fn.{Called}
use Rattle.std.specs.Iterator.{YieldsThen}
use Rattle.std.specs.List.{FoldsTo, list_all, range_with_len}
use Rattle.std.specs.Prelude.{Option}
use Rattle.std.specs.Option.{MatchOption}
use Rattle.std.specs.declared.ops.Range.{Range}
use Rattle.lists.specs.Turns.{all_to}
use Rattle.lists.proofs.TurnLaws.{all_to_same}

-- a test of each number below n, the first taken off
all_to_first : (f : ℕ → Bool) (n : ℕ) → all_to f (suc n) ≡ (f 0 && all_to (λ k. f (suc k)) n)
unfolding all_to
all_to_first f zero = refl
all_to_first f (suc n) = ap (λ (b : Bool). f (suc n) && b) (all_to_first f n) ∙ swapped (f (suc n)) (f 0) (all_to (λ k. f (suc k)) n)
  where
    swapped : (b c d : Bool) → (b && (c && d)) ≡ (c && (b && d))
    swapped true c d = refl
    swapped false true d = refl
    swapped false false d = refl

-- a test of the list of n numbers from a on
list_from : (f : ℕ → Bool) (a n : ℕ) → list_all f (range_with_len a n) ≡ all_to (λ k. f (a + k)) n
unfolding all_to
list_from f a zero = refl
list_from f a (suc n) =
    ap₂ ◌&&◌ (ap f (omega arith)) (list_from f (a + 1) n ∙ all_to_same _ _ n (λ k b. ap f (omega arith)))
    ∙ sym (all_to_first (λ k. f (a + k)) n)

-- `all` over the numbers below n, where each call of the closure answers the test and leaves the closure as it was
pub all_below : {F : Type 0} {g : Mut F (ℕ × Unit {0}) Bool} {s : Range ℕ} (test : ℕ → Bool) (n : ℕ) (u : Range ℕ) (f : F) (r : Bool)
    → s ≡ record { start = 0; end = n }
    → (xs : List ℕ) × (o : Option ℕ) × (j : F) × YieldsThen nat_range_steps s xs o u × FoldsTo (λ p x q. Called g p (x, tt) true q) f xs j
    × MatchOption o (r ≡ true) (λ x. (r ≡ false) × ((h : F) × Called g j (x, tt) false h))
    → ((x : ℕ) (b : Bool) (q : F) → Called g f (x, tt) b q → (q ≡ f) × (b ≡ test x))
    → r ≡ all_to test n
all_below test n u f r is ran answers =
    all_from_yields_List test u f r ran (YieldsList-from_range 0 n n is (omega arith)) answers
    ∙ list_from test 0 n
    ∙ all_to_same _ _ n (λ k b. ap test (omega arith))
