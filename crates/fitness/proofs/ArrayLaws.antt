-- The pairs of the bound streams, gathered by their numbers one after the other in an array with a count beside it, as other code may hold them: what is
-- asked of each number gathered is asked of each binding, and a binding whose number is another than these repeats none before it. Assumes nothing.
use Prim.Native.Nat.{ℕ, ◌+◌, ◌≤◌, ◌<◌}
use mathlib.Core.Path.{◌≡◌, ap, ap₂, ◌∙◌}
use mathlib.Core.Bool.{Bool, true, false, not, ◌&&◌, cond}
use mathlib.Core.List.{List}
use native.Mathlib.Omega.{arith}
use native.Mathlib.Numerals.{add-one}
use lib.ListN.{length, get_or, set}
use lib.Dec.{eqb}
use lib.Seq.{get_or-set_same, get_or-set_other}
use Rattle.lists.specs.Turns.{all_to}
use Rattle.lists.proofs.TurnLaws.{all_to_same}
use Rattle.octets.proofs.NumberLaws.{Octets}
use Rattle.record.specs.Entry.{bound_at}
use Rattle.record.specs.PairNumber.{pair_at}
use Rattle.record.proofs.PairLaws.{numbers_at}
use Rattle.fitness.specs.Clauses.{unlike_earlier}

-- the first `count` of the pairs are those of the bound streams below s: every test says of both the same
abbrev pub Gathered : List ℕ → List ℕ → ℕ → ℕ → Type 0
Gathered p pairs count s = (h : ℕ → Bool) → all_to (λ i. h (get_or pairs i 0)) count ≡ all_to (λ t. cond (bound_at p t) (h (pair_at p t)) true) s

-- one more pair, or none
one_more : (h : ℕ → Bool) (b : Bool) (pair : ℕ) (pairs : List ℕ) (count : ℕ) (rest : Bool) → count < length pairs
    → all_to (λ i. h (get_or pairs i 0)) count ≡ rest
    → all_to (λ i. h (get_or (cond b (set pairs count pair) pairs) i 0)) (cond b (count + 1) count) ≡ (cond b (h pair) true && rest)
unfolding all_to
one_more h true pair pairs count rest room e =
    rw (add-one count)
    (ap₂ ◌&&◌
    (ap h (get_or-set_same pairs count pair 0 room))
    (all_to_same _ _ count (λ i below. ap h (get_or-set_other pairs count i pair 0 (λ same. omega arith))) ∙ e))
one_more h false pair pairs count rest room e = e

-- what is gathered from one more stream
pub gathers : (p pairs : List ℕ) (count s : ℕ) → count < length pairs → Gathered p pairs count s
    → Gathered p (cond (bound_at p s) (set pairs count (pair_at p s)) pairs) (cond (bound_at p s) (count + 1) count) (s + 1)
unfolding all_to
gathers p pairs count s room g h =
    rw (add-one s) (one_more h (bound_at p s) (pair_at p s) pairs count (all_to (λ t. cond (bound_at p t) (h (pair_at p t)) true) s) room (g h))

-- a stream's number is none of those gathered where its pair is that of no bound stream before it, and nowhere else
pub unlike_gathered : (p pairs : List ℕ) (count s : ℕ) → Octets p → Gathered p pairs count s
    → all_to (λ i. not (eqb (get_or pairs i 0) (pair_at p s))) count ≡ unlike_earlier p s
unlike_gathered p pairs count s o g =
    g (λ x. not (eqb x (pair_at p s))) ∙ all_to_same _ _ s (λ t b. ap (λ (same : Bool). cond (bound_at p t) (not same) true) (numbers_at p o t s))
