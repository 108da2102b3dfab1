-- Laws of what is written: one text after another, and how long a number is with the octet that ends it. Assumes nothing.
use Prim.Native.Nat.{◌+◌, ◌-◌, ◌<◌, ◌^◌, ◌≤◌, suc, ℕ}
use mathlib.Core.Path.{◌∙◌, ◌≡◌, ap, ap₂, sym}
use mathlib.Core.List.{List, [], ◌++◌, ◌∷◌}
use native.Mathlib.Omega.{arith}
use lib.ListN.{drop, get_or, length, length-append, length-drop}
use lib.Seq.{drop-cons}
use Rattle.lists.proofs.WindowLaws.{put_append}
use Rattle.lists.specs.Window.{put}
use Rattle.text.proofs.DigitLaws.{length_digits}
use Rattle.text.specs.Digits.{digits}
use Rattle.text.specs.Lines.{Wrote, end_before, line_of, number_then}

-- one text written after another is both, written together
pub wrote_then : (l : List ℕ) (at : ℕ) (s t m n : List ℕ) (i j : ℕ) → Wrote l at s m i → Wrote m i t n j → Wrote l at (s ++ t) n j
wrote_then l at s t m n i j (e, w) (f, v) =
    (omega (arith, e, f, length-append s t), v ∙ ap₂ (λ (k : List ℕ) (a : ℕ). put k a t) w e ∙ sym (put_append l at s t))

-- a number below a power of ten, with the octet that ends it
pub length_number : (k n end : ℕ) → n < 10 ^ suc k → length (number_then n end) ≤ suc k + 1
unfolding number_then
length_number k n end h = omega (arith, length-append (digits n) (end ∷ []), length_digits k n h)

-- the line from number i on: that number, and the line of those after it
pub line_from : (ns : List ℕ) (i : ℕ) → i < length ns → line_of (drop i ns) ≡ number_then (get_or ns i 0) (end_before (length ns - i - 1)) ++ line_of (drop (i + 1) ns)
line_from ns i h =
    let further : suc i ≡ i + 1 = omega arith in
    let after : length (drop (suc i) ns) ≡ length ns - i - 1 = length-drop (suc i) ns ∙ omega arith in
    ap line_of (drop-cons ns i 0 h)
    ∙ ap₂ (λ (more j : ℕ). number_then (get_or ns i 0) (end_before more) ++ line_of (drop j ns)) after further
