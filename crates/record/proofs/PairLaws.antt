-- Laws of `same_pair`: it is true of two pairs with the same VID and the same address, and of no others. The number of a pair's eight octets, by which
-- the code compares, says the same. Assumes nothing.
use Prim.Native.Nat.{ℕ, ◌+◌}
use mathlib.Core.Path.{◌≡◌, refl, sym, ap, ap₂, ◌∙◌}
use mathlib.Core.Bool.{Bool, true, false, ◌&&◌}
use mathlib.Core.List.{List, ◌++◌}
use native.Mathlib.Omega.{arith}
use lib.ListN.{get_or}
use lib.Dec.{eqb}
use borrow.Author.Tests.{eqb-true, eq-eqb}
use Rattle.lists.specs.Window.{get}
use Rattle.lists.specs.Equal.{octets_equal}
use Rattle.lists.proofs.EqualLaws.{equal_octets, octets_equal_lem}
use Rattle.lists.proofs.TurnLaws.{both}
use Rattle.octets.specs.Numbers.{two_of, two_octets, eight_of}
use Rattle.octets.proofs.NumberLaws.{Octets, two_again, eight_same}
use Rattle.record.specs.Layout.{entry_offset, pair_offset, address_length}
use Rattle.record.specs.Entry.{vid_at, address_at, same_pair}
use Rattle.record.specs.PairNumber.{pair_at}

-- two tests of which each follows from the other answer the same
one_answer : (x y : Bool) → (x ≡ true → y ≡ true) → (y ≡ true → x ≡ true) → x ≡ y
one_answer true y there back = sym (there refl)
one_answer false true there back = back refl
one_answer false false there back = refl

-- pairs that pass the test have the same VID and the same address
pub pair_same : (v : ℕ) (a : List ℕ) (w : ℕ) (b : List ℕ) → same_pair v a w b ≡ true → (v ≡ w) × (a ≡ b)
pair_same v a w b h = let e = both (eqb v w) (octets_equal a b) h in (eqb-true v w e.0, equal_octets a b e.1)

-- and pairs that have both pass it
pub same_pair_lem : (v : ℕ) (a : List ℕ) (w : ℕ) (b : List ℕ) → v ≡ w → a ≡ b → same_pair v a w b ≡ true
same_pair_lem v a w b e f = ap₂ ◌&&◌ (eq-eqb v w e) (ap (octets_equal a) (sym f) ∙ octets_equal_lem a)

-- whichever of the two is first
pub pair_back : (v : ℕ) (a : List ℕ) (w : ℕ) (b : List ℕ) → same_pair v a w b ≡ same_pair w b v a
pair_back v a w b = one_answer (same_pair v a w b) (same_pair w b v a) (turned v a w b) (turned w b v a)
  where
    turned : (x : ℕ) (c : List ℕ) (y : ℕ) (d : List ℕ) → same_pair x c y d ≡ true → same_pair y d x c ≡ true
    turned x c y d h = let e = pair_same x c y d h in same_pair_lem y d x c (sym e.0) (sym e.1)

-- the VID in octets that begin at index i, and the address after it
abbrev vid_from : List ℕ → ℕ → ℕ
vid_from l i = two_of (get l i 2)

abbrev address_from : List ℕ → ℕ → List ℕ
address_from l i = get l (i + 1 + 1) address_length

-- eight octets have the same number as eight others where both are the same in them, and nowhere else
module _ (l k : List ℕ) (i j : ℕ) (o : Octets l) (p : Octets k) where
  number_pair : eqb (eight_of (get l i 8)) (eight_of (get k j 8)) ≡ true → same_pair (vid_from l i) (address_from l i) (vid_from k j) (address_from k j) ≡ true
  number_pair h =
      let octets : get l i 8 ≡ get k j 8 = eight_same l k o p i j (eqb-true _ _ h) in
      same_pair_lem (vid_from l i) (address_from l i) (vid_from k j) (address_from k j) (ap (λ (m : List ℕ). vid_from m 0) octets) (ap (λ (m : List ℕ). address_from m 0) octets)

  pair_number : same_pair (vid_from l i) (address_from l i) (vid_from k j) (address_from k j) ≡ true → eqb (eight_of (get l i 8)) (eight_of (get k j 8)) ≡ true
  pair_number h =
      let e = pair_same (vid_from l i) (address_from l i) (vid_from k j) (address_from k j) h in
      let again = two_again (get_or l i 0) (get_or l (i + 1) 0) (o (i + 1)) in
      let two : get l i 2 ≡ get k j 2 = sym again ∙ ap two_octets e.0 ∙ two_again (get_or k j 0) (get_or k (j + 1) 0) (p (j + 1)) in
      eq-eqb _ _ (ap eight_of (ap₂ ◌++◌ two e.1))

  eight_pair : eqb (eight_of (get l i 8)) (eight_of (get k j 8)) ≡ same_pair (vid_from l i) (address_from l i) (vid_from k j) (address_from k j)
  eight_pair = one_answer _ _ number_pair pair_number

module _ (l : List ℕ) (o : Octets l) where
  -- the address of a binding stands after its VID
  address_after : (s : ℕ) → get l (entry_offset s + pair_offset + 1 + 1) address_length ≡ address_at l s
  unfolding address_at
  address_after s = ap (λ (i : ℕ). get l i address_length) (omega arith)

  -- the numbers of two streams' pairs are equal where VID and address of both are, and nowhere else
  pub numbers_at : (t s : ℕ) → eqb (pair_at l t) (pair_at l s) ≡ same_pair (vid_at l t) (address_at l t) (vid_at l s) (address_at l s)
  unfolding pair_at vid_at
  numbers_at t s =
      eight_pair l l (entry_offset t + pair_offset) (entry_offset s + pair_offset) o o
      ∙ ap₂ (λ (a b : List ℕ). same_pair (vid_at l t) a (vid_at l s) b) (address_after t) (address_after s)
