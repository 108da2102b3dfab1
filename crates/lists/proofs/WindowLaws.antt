-- Laws of `put` and `get`: what is read where something was put, what is read elsewhere, two writes in either order, and a write in a part
-- of a slice said of the whole slice. Assumes nothing.
use Prim.Native.Nat.{ℕ, zero, suc, ◌+◌, ◌≤◌, ◌<◌}
use mathlib.Core.Path.{◌≡◌, refl, sym, ap, ap₂, ◌∙◌}
use mathlib.Core.List.{List, [], ◌∷◌, ◌++◌}
use native.Mathlib.Omega.{arith}
use lib.ListN.{length, get_or, set, take, drop, length-set}
use lib.Seq.{drop-cons, get_or-set_same, get_or-set_other, set_comm, take-set-le, drop-set-lt, take-set-lt, drop-set-add}
use borrow.Rule.Slice.PartMut.{mid_of, put_mid, put_same}
use Rattle.lists.specs.Window.{put, get, Apart}

-- writing keeps the length
pub length_put : (l : List ℕ) (i : ℕ) (vs : List ℕ) → length (put l i vs) ≡ length l
length_put l i [] = refl
length_put l i (v ∷ vs) = length_put (set l i v) (i + 1) vs ∙ length-set l i v

-- an index outside what was written holds what it held
pub get_or_put : (l : List ℕ) (i : ℕ) (vs : List ℕ) (k : ℕ) → Apart k 1 i (length vs) → get_or (put l i vs) k 0 ≡ get_or l k 0
get_or_put l i [] k h = refl
get_or_put l i (v ∷ vs) k h =
    get_or_put (set l i v) (i + 1) vs k (λ m a b c d. h m a b (omega arith) (omega arith))
    ∙ get_or-set_other l i k v 0 (λ e. h k (omega arith) (omega arith) (omega arith) (omega arith))

-- what is read apart from what was written is what was there
pub get_apart : (l : List ℕ) (i : ℕ) (vs : List ℕ) (j n : ℕ) → Apart j n i (length vs) → get (put l i vs) j n ≡ get l j n
get_apart l i vs j zero h = refl
get_apart l i vs j (suc n) h =
    ap₂ ◌∷◌ (get_or_put l i vs j (λ m a b c d. h m a (omega arith) c d)) (get_apart l i vs (j + 1) n (λ m a b c d. h m (omega arith) (omega arith) c d))

-- what is read where it was written is what was written
pub get_put : (l : List ℕ) (i : ℕ) (vs : List ℕ) → i + length vs ≤ length l → get (put l i vs) i (length vs) ≡ vs
get_put l i [] h = refl
get_put l i (v ∷ vs) h =
    ap₂ ◌∷◌
    (get_or_put (set l i v) (i + 1) vs i (λ m a b c d. omega arith) ∙ get_or-set_same l i v 0 (omega arith))
    (get_put (set l i v) (i + 1) vs (simp length-set (omega arith)))

-- one write after another that ends where it begins is one write of both
pub put_append : (l : List ℕ) (i : ℕ) (vs ws : List ℕ) → put l i (vs ++ ws) ≡ put (put l i vs) (i + length vs) ws
put_append l i [] ws = ap (λ (k : ℕ). put l k ws) (omega arith)
put_append l i (v ∷ vs) ws = put_append (set l i v) (i + 1) vs ws ∙ ap (λ (k : ℕ). put (put (set l i v) (i + 1) vs) k ws) (omega arith)

pub get_or_get : (l : List ℕ) (i m j : ℕ) → j < m → get_or (get l i m) j 0 ≡ get_or l (i + j) 0
get_or_get l i zero j h = absurd (omega arith)
get_or_get l i (suc m) zero h = ap (λ (k : ℕ). get_or l k 0) (omega arith)
get_or_get l i (suc m) (suc j) h = get_or_get l (i + 1) m j (omega arith) ∙ ap (λ (k : ℕ). get_or l k 0) (omega arith)

-- what is read of something read
pub get_get : (l : List ℕ) (i m j n : ℕ) → j + n ≤ m → get (get l i m) j n ≡ get l (i + j) n
get_get l i m j zero h = refl
get_get l i m j (suc n) h =
    ap₂ ◌∷◌ (get_or_get l i m j (omega arith)) (get_get l i m (j + 1) n (omega arith) ∙ ap (λ (k : ℕ). get l k n) (omega arith))

-- the part of a list that a slice of it has, read octet by octet
pub mid_get : (l : List ℕ) (i n : ℕ) → i + n ≤ length l → mid_of i n l ≡ get l i n
mid_get l i zero h = refl
mid_get l i (suc n) h =
    let further : suc i ≡ i + 1 = omega arith in
    ap (take (suc n)) (drop-cons l i 0 (omega arith))
    ∙ ap (λ (r : List ℕ). get_or l i 0 ∷ r) (ap (λ (k : ℕ). mid_of k n l) further ∙ mid_get l (i + 1) n (omega arith))

-- what was written at the front is the front
pub take_put : (l vs : List ℕ) → length vs ≤ length l → take (length vs) (put l 0 vs) ≡ vs
take_put l vs h = mid_get (put l 0 vs) 0 (length vs) (simp length_put (omega arith)) ∙ get_put l 0 vs (omega arith)

-- one octet written before or after others that lie apart
set_put : (l : List ℕ) (i : ℕ) (vs : List ℕ) (k a : ℕ) → Apart k 1 i (length vs) → set (put l i vs) k a ≡ put (set l k a) i vs
set_put l i [] k a h = refl
set_put l i (v ∷ vs) k a h =
    set_put (set l i v) (i + 1) vs k a (λ m p q c d. h m p q (omega arith) (omega arith))
    ∙ ap (λ (x : List ℕ). put x (i + 1) vs) (set_comm l i k v a (λ e. h k (omega arith) (omega arith) (omega arith) (omega arith)))

-- two writes that lie apart may change places
pub put_comm : (l : List ℕ) (i : ℕ) (vs : List ℕ) (j : ℕ) (ws : List ℕ) → Apart j (length ws) i (length vs) → put (put l i vs) j ws ≡ put (put l j ws) i vs
put_comm l i vs j [] h = refl
put_comm l i vs j (w ∷ ws) h =
    ap (λ (x : List ℕ). put x (j + 1) ws) (set_put l i vs j w (λ m a b c d. h m a (omega arith) c d))
    ∙ put_comm (set l j w) i vs (j + 1) ws (λ m a b c d. h m (omega arith) (omega arith) c d)

-- the last of several octets may be written first
pub put_last : (l : List ℕ) (i : ℕ) (vs : List ℕ) (v : ℕ) → put l i (vs ++ (v ∷ [])) ≡ put (set l (i + length vs) v) i vs
put_last l i vs v = put_append l i vs (v ∷ []) ∙ put_comm l i vs (i + length vs) (v ∷ []) (λ k a b c d. omega arith)

-- octets put into the part of k that starts at a are put into the whole from there on
pub put_mid_lem : (a k : ℕ) (vs xs : List ℕ) (j : ℕ) → j + length vs ≤ k → put_mid a k xs (put (mid_of a k xs) j vs) ≡ put xs (a + j) vs
put_mid_lem a k [] xs j h = put_same a k xs
put_mid_lem a k (v ∷ vs) xs j h =
    ap₂ (λ (p q : List ℕ). p ++ (put (set (mid_of a k xs) j v) (j + 1) vs ++ q)) (sym (take-set-le a xs (a + j) v (omega arith))) (sym after)
    ∙ ap (λ (m : List ℕ). put_mid a k (set xs (a + j) v) (put m (j + 1) vs)) (sym within)
    ∙ put_mid_lem a k vs (set xs (a + j) v) (j + 1) (omega arith)
    ∙ ap (λ (i : ℕ). put (set xs (a + j) v) i vs) (omega arith)
  where
    within : mid_of a k (set xs (a + j) v) ≡ set (mid_of a k xs) j v
    within = ap (take k) (drop-set-add a xs j v) ∙ take-set-lt k (drop a xs) j v (omega arith)

    after : drop k (drop a (set xs (a + j) v)) ≡ drop k (drop a xs)
    after = ap (drop k) (drop-set-add a xs j v) ∙ drop-set-lt k (drop a xs) j v (omega arith)
