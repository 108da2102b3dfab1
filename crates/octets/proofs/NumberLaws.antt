-- A number's octets give the number again, octets that give the same number are the same, and a number's octets are those that gave it; what code that
-- copies a number's octets writes. Assumes nothing.
use Prim.Native.Nat.{ℕ, ◌+◌, ◌*◌, ◌/◌, ◌%◌, ◌<◌}
use mathlib.Core.Path.{◌≡◌, refl, sym, ap, ap₂, ◌∙◌}
use mathlib.Core.List.{List, [], ◌∷◌, ◌++◌, append-nil}
use native.Mathlib.Omega.{arith}
use lib.ListN.{get_or, length, take, drop, take-append-drop, drop_of_length-le}
use borrow.Rule.Slice.PartMut.{mid_of, put_mid}
use Rattle.lists.specs.Window.{put, get}
use Rattle.lists.proofs.WindowLaws.{length_put, take_put, put_mid_lem}
use Rattle.octets.specs.Numbers.{two_of, two_octets, four_of, four_octets, eight_of}

pub two_octets_lem : (n : ℕ) → two_of (two_octets n) ≡ n
unfolding two_of
two_octets_lem n = omega arith

pub four_octets_lem : (n : ℕ) → four_of (four_octets n) ≡ n
unfolding two_of four_of
four_octets_lem n = omega arith

-- octets are those of the number that they give
pub two_again : (a b : ℕ) → b < 256 → two_octets (two_of (a ∷ b ∷ [])) ≡ a ∷ b ∷ []
unfolding two_of
two_again a b h = ap₂ (λ (x y : ℕ). x ∷ y ∷ []) (omega arith) (omega arith)

pub four_again : (a b c d : ℕ) → b < 256 → c < 256 → d < 256 → four_octets (four_of (a ∷ b ∷ c ∷ d ∷ [])) ≡ a ∷ b ∷ c ∷ d ∷ []
unfolding two_of four_of
four_again a b c d h i j =
    ap₂ (λ (x y : List ℕ). x ++ y)
    (ap₂ (λ (x y : ℕ). x ∷ y ∷ []) (omega arith) (omega arith))
    (ap₂ (λ (x y : ℕ). x ∷ y ∷ []) (omega arith) (omega arith))

-- a number's upper and lower half by the number, the lower below the base
halves : (a b c d : ℕ) → b < 4294967296 → d < 4294967296 → a * 4294967296 + b ≡ c * 4294967296 + d → (a ≡ c) × (b ≡ d)
halves a b c d h k e = (omega arith, omega arith)

-- four octets by their number
quarters : (a b c d s t u v : ℕ) → b < 256 → c < 256 → d < 256 → t < 256 → u < 256 → v < 256
    → (a * 256 + b) * 65536 + (c * 256 + d) ≡ (s * 256 + t) * 65536 + (u * 256 + v)
    → (a ≡ s) × ((b ≡ t) × ((c ≡ u) × (d ≡ v)))
quarters a b c d s t u v i j k x y z e = (omega arith, (omega arith, (omega arith, omega arith)))

-- each number of the list is an octet
abbrev pub Octets : List ℕ → Type 0
Octets l = (k : ℕ) → get_or l k 0 < 256

four_small : (l : List ℕ) → Octets l → (i : ℕ) → four_of (get l i 4) < 4294967296
unfolding four_of two_of
four_small l o i = omega (arith, o i, o (i + 1), o (i + 1 + 1), o (i + 1 + 1 + 1))

module _ (l k : List ℕ) (o : Octets l) (p : Octets k) where
  -- four octets that give the same number as four others are the same as those
  four_same : (i j : ℕ) → four_of (get l i 4) ≡ four_of (get k j 4) → get l i 4 ≡ get k j 4
  unfolding four_of two_of
  four_same i j e =
      let s =
      quarters (get_or l i 0) (get_or l (i + 1) 0) (get_or l (i + 1 + 1) 0) (get_or l (i + 1 + 1 + 1) 0)
      (get_or k j 0) (get_or k (j + 1) 0) (get_or k (j + 1 + 1) 0) (get_or k (j + 1 + 1 + 1) 0)
      (o (i + 1)) (o (i + 1 + 1)) (o (i + 1 + 1 + 1)) (p (j + 1)) (p (j + 1 + 1)) (p (j + 1 + 1 + 1)) e in
      ap₂ ◌∷◌ s.0 (ap₂ ◌∷◌ s.1.0 (ap₂ ◌∷◌ s.1.1.0 (ap₂ ◌∷◌ s.1.1.1 refl)))

  -- and so are eight
  pub eight_same : (i j : ℕ) → eight_of (get l i 8) ≡ eight_of (get k j 8) → get l i 8 ≡ get k j 8
  unfolding eight_of
  eight_same i j e =
      let i' : ℕ = i + 1 + 1 + 1 + 1 in
      let j' : ℕ = j + 1 + 1 + 1 + 1 in
      let s = halves (four_of (get l i 4)) (four_of (get l i' 4)) (four_of (get k j 4)) (four_of (get k j' 4)) (four_small l o i') (four_small k p j') e in
      ap₂ ◌++◌ (four_same i j s.0) (four_same i' j' s.1)

-- octets copied into the part of their length are put at its start
pub part_put : (a k : ℕ) (xs vs : List ℕ) → k ≡ length vs → length (mid_of a k xs) ≡ length vs → put_mid a k xs vs ≡ put xs a vs
part_put a k xs vs long part =
    ap (put_mid a k xs) (sym whole) ∙ put_mid_lem a k vs xs 0 (omega (arith, long)) ∙ ap (λ (i : ℕ). put xs i vs) (omega arith)
  where
    whole : put (mid_of a k xs) 0 vs ≡ vs
    whole =
        let l : List ℕ = put (mid_of a k xs) 0 vs in
        sym (take-append-drop (length vs) l)
        ∙ ap (λ (rest : List ℕ). take (length vs) l ++ rest) (drop_of_length-le l {i = length vs} (omega (arith, length_put (mid_of a k xs) 0 vs, part)))
        ∙ append-nil _
        ∙ take_put (mid_of a k xs) vs (omega (arith, part))

-- the octets of a number of 32 bits, one by one
pub four_bytes : (n : ℕ) → n < 4294967296 → n / 16777216 % 256 ∷ n / 65536 % 256 ∷ n / 256 % 256 ∷ n % 256 ∷ [] ≡ four_octets n
four_bytes n small = ap₂ ◌∷◌ (omega (arith, small)) (ap₂ ◌∷◌ (omega arith) (ap₂ ◌∷◌ (omega arith) (ap₂ ◌∷◌ (omega arith) refl)))
