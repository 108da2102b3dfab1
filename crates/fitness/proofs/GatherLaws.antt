-- The pairs of the bound streams, gathered by their numbers one after the other: what is asked of each number gathered is asked of each binding, and
-- a binding whose number is another than these repeats none before it. Assumes nothing.
use Prim.Native.Nat.{ℕ, ◌+◌, ◌≤◌}
use mathlib.Core.Path.{◌≡◌, refl, ap, ◌∙◌}
use mathlib.Core.Bool.{Bool, true, false, not, ◌&&◌, cond}
use mathlib.Core.List.{List, [], ◌∷◌, ◌++◌}
use native.Mathlib.Omega.{arith}
use native.Mathlib.Numerals.{add-one}
use lib.ListN.{length, length-append}
use lib.Dec.{eqb}
use Rattle.std.specs.List.{list_all}
use Rattle.lists.specs.Turns.{all_to, all_of}
use Rattle.lists.proofs.TurnLaws.{all_to_same, all_of_snoc}
use Rattle.octets.proofs.NumberLaws.{Octets}
use Rattle.record.specs.Entry.{bound_at}
use Rattle.record.specs.PairNumber.{pair_at}
use Rattle.record.proofs.PairLaws.{numbers_at}
use Rattle.fitness.specs.Clauses.{unlike_earlier}

-- a test of a list, by the library's word and by this repository's
of_list : (h : ℕ → Bool) (l : List ℕ) → list_all h l ≡ all_of h l
of_list h [] = refl
of_list h (x ∷ l) = ap (λ (b : Bool). h x && b) (of_list h l)

-- the pairs are those of the bound streams below s: every test says of both the same
abbrev pub Gathered : List ℕ → List ℕ → ℕ → Type 0
Gathered p pairs s = (h : ℕ → Bool) → all_of h pairs ≡ all_to (λ t. cond (bound_at p t) (h (pair_at p t)) true) s

-- one more pair, or none
one_more : (h : ℕ → Bool) (b : Bool) (pair : ℕ) (pairs : List ℕ) → all_of h (cond b (pairs ++ (pair ∷ [])) pairs) ≡ (cond b (h pair) true && all_of h pairs)
one_more h true pair pairs = all_of_snoc h pairs pair
one_more h false pair pairs = refl

-- what is gathered from one more stream
pub gathers : (p pairs : List ℕ) (s : ℕ) → Gathered p pairs s → Gathered p (cond (bound_at p s) (pairs ++ (pair_at p s ∷ [])) pairs) (s + 1)
unfolding all_to
gathers p pairs s g h =
    rw (add-one s) (one_more h (bound_at p s) (pair_at p s) pairs ∙ ap (λ (b : Bool). cond (bound_at p s) (h (pair_at p s)) true && b) (g h))

-- a stream's number is none of those gathered where its pair is that of no bound stream before it, and nowhere else
pub unlike_gathered : (p pairs : List ℕ) (s : ℕ) → Octets p → Gathered p pairs s → list_all (λ gathered. not (eqb gathered (pair_at p s))) pairs ≡ unlike_earlier p s
unlike_gathered p pairs s o g =
    of_list (λ x. not (eqb x (pair_at p s))) pairs
    ∙ g (λ x. not (eqb x (pair_at p s)))
    ∙ all_to_same _ _ s (λ t b. ap (λ (same : Bool). cond (bound_at p t) (not same) true) (numbers_at p o t s))

-- there are at most as many as streams were passed
pub at_most_one : (b : Bool) (pairs : List ℕ) (pair : ℕ) → length (cond b (pairs ++ (pair ∷ [])) pairs) ≤ length pairs + 1
at_most_one true pairs pair = omega (arith, length-append pairs (pair ∷ []))
at_most_one false pairs pair = omega arith
