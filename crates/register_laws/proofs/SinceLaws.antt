-- What happened since the last of some happenings, and how many of it there are. Assumes nothing.
use Prim.Native.Nat.{ℕ, ◌+◌}
use mathlib.Core.Path.{◌≡◌, refl, sym, ap, ap₂, ◌∙◌}
use mathlib.Core.Bool.{Bool, true, false, cond, ◌||◌}
use mathlib.Core.List.{List, [], ◌∷◌, ◌++◌}
use native.Mathlib.Omega.{arith}
use Rattle.lists.specs.Each.{All}
use Rattle.lists.proofs.EachLaws.{differ}
use Rattle.register_laws.specs.Happenings.{Happening}
use Rattle.register_laws.specs.History.{how_many, is_there, since}

-- a count that goes on from n, and begins anew at some
abbrev pub count_from : (Happening → Bool) → (Happening → Bool) → ℕ → List Happening → ℕ
count_from starts test n [] = n
count_from starts test n (h ∷ hs) = count_from starts test (cond (starts h) 0 (cond (test h) (n + 1) n)) hs

module _ (starts : Happening → Bool) where
  -- none is there where each is none
  pub none_there : (hs : List Happening) → All (λ h. starts h ≡ false) hs → is_there starts hs ≡ false
  none_there [] none = refl
  none_there (h ∷ hs) none = ap₂ ◌||◌ none.0 (none_there hs none.1)

  -- and then all is since the last
  pub since_none : (hs : List Happening) → is_there starts hs ≡ false → since starts hs ≡ hs
  since_none [] none = refl
  since_none (h ∷ hs) none = told (starts h) (is_there starts hs) none
    where
      told : (x y : Bool) → (x || y) ≡ false → cond y (since starts hs) (cond x hs (h ∷ hs)) ≡ h ∷ hs
      told true y e = differ e
      told false true e = differ e
      told false false e = refl

  -- what is since the last of them is what stands after it
  pub since_last : (before after : List Happening) (h : Happening) → starts h ≡ true → All (λ k. starts k ≡ false) after → since starts (before ++ (h ∷ after)) ≡ after
  since_last [] after h is none = ap₂ (λ (x y : Bool). cond y (since starts after) (cond x after (h ∷ after))) is (none_there after none)
  since_last (k ∷ before) after h is none =
      ap (λ (y : Bool). cond y (since starts (before ++ (h ∷ after))) (cond (starts k) (before ++ (h ∷ after)) (k ∷ (before ++ (h ∷ after))))) (some_there before)
      ∙ since_last before after h is none
    where
      or_true : (x : Bool) → (x || true) ≡ true
      or_true true = refl
      or_true false = refl

      some_there : (before : List Happening) → is_there starts (before ++ (h ∷ after)) ≡ true
      some_there [] = ap (λ (x : Bool). x || is_there starts after) is
      some_there (j ∷ before) = ap (λ (x : Bool). starts j || x) (some_there before) ∙ or_true (starts j)

  -- a count that begins anew at some is the number since the last of them
  pub count_since_lem : (test : Happening → Bool) (n : ℕ) (hs : List Happening) → count_from starts test n hs ≡ cond (is_there starts hs) 0 n + how_many test (since starts hs)
  count_since_lem test n [] = omega arith
  count_since_lem test n (h ∷ hs) =
      count_since_lem test (cond (starts h) 0 (cond (test h) (n + 1) n)) hs ∙ told (starts h) (is_there starts hs) refl (test h) refl
    where
      counted : (x y : Bool) (m : ℕ) → cond x 0 (cond y (n + 1) n) + m ≡ cond x 0 n + cond x m (cond y 1 0 + m)
      counted true y m = refl
      counted false true m = omega arith
      counted false false m = omega arith

      among : (x y : Bool) → test h ≡ y → cond x (how_many test hs) (cond y 1 0 + how_many test hs) ≡ how_many test (cond x hs (h ∷ hs))
      among true y is = refl
      among false y is = ap (λ (z : Bool). cond z 1 0 + how_many test hs) (sym is)

      told : (x y : Bool) → is_there starts hs ≡ y → (z : Bool) → test h ≡ z
          → cond y 0 (cond x 0 (cond z (n + 1) n)) + how_many test (since starts hs)
          ≡ cond (x || y) 0 n + how_many test (cond y (since starts hs) (cond x hs (h ∷ hs)))
      told true true there z is = refl
      told false true there z is = refl
      told true false none z is = ap (λ (ks : List Happening). 0 + how_many test ks) (since_none hs none)
      told false false none z is =
          ap (λ (m : ℕ). cond z (n + 1) n + m) (ap (how_many test) (since_none hs none))
          ∙ counted false z (how_many test hs)
          ∙ ap (λ (m : ℕ). n + m) (among false z is)
