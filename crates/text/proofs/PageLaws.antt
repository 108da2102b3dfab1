-- Laws of what is written onto a page. Assumes nothing.
use Prim.Native.Nat.{◌%◌, ◌+◌, ◌/◌, ◌<◌, ◌≤◌, ℕ}
use mathlib.Core.Path.{◌∙◌, ◌≡◌, ap, sym}
use mathlib.Core.List.{List, []}
use native.Mathlib.Omega.{arith}
use lib.ListN.{drop, drop_of_length-le, length, length-append, length-drop, length-set, set, take}
use lib.Seq.{length-take-le}
use borrow.Rule.Slice.PartMut.{mid_of, put_mid}
use Rattle.std.proofs.lemmas.List.{take_all}
use Rattle.lists.proofs.WindowLaws.{length_put, put_append, put_last, put_mid_lem, take_put}
use Rattle.lists.specs.Window.{put}
use Rattle.text.proofs.DigitLaws.{digits_more, digits_one, length_more, length_one, one_left, some_left}
use Rattle.text.proofs.LineLaws.{line_from}
use Rattle.text.specs.Lines.{line_of}
use Rattle.text.specs.Digits.{digit, digits}

-- a list that is written over from its front to its end
put_over : (l vs : List ℕ) → length vs ≡ length l → put l 0 vs ≡ vs
put_over l vs e = sym (take_all (length vs) (put l 0 vs) (omega (arith, length_put l 0 vs))) ∙ take_put l vs (omega (arith, e))

length_mid : (a k : ℕ) (l : List ℕ) → a + k ≤ length l → length (mid_of a k l) ≡ k
length_mid a k l h = length-take-le k (drop a l) (omega (arith, length-drop a l))

pub put_mid_whole : (a k : ℕ) (l vs : List ℕ) → k ≡ length vs → a + k ≤ length l → put_mid a k l vs ≡ put l a vs
put_mid_whole a k l vs e h =
    ap (put_mid a k l) (sym (put_over (mid_of a k l) vs (omega (arith, e, length_mid a k l h))))
    ∙ put_mid_lem a k vs l 0 (omega (arith, e))
    ∙ ap (λ (i : ℕ). put l i vs) (omega arith)

-- the last digit written, and the others still to write
pub later : (l : List ℕ) (at rest to : ℕ) → 10 ≤ rest → to ≡ at + length (digits (rest / 10)) → put (set l to (digit (rest % 10))) at (digits (rest / 10)) ≡ put l at (digits rest)
later l at rest to more e = rw e (sym (put_last l at (digits (rest / 10)) (digit (rest % 10))) ∙ ap (put l at) (sym (digits_more rest more)))

-- the only digit that is left
pub only : (l : List ℕ) (at rest : ℕ) → rest < 10 → set l at (digit rest) ≡ put l at (digits rest)
only l at rest one = ap (put l at) (sym (digits_one rest one))

-- the line of the numbers after the last is empty
pub none_left : (ns : List ℕ) (i : ℕ) → length ns ≤ i → line_of (drop i ns) ≡ []
none_left ns i h = ap line_of (drop_of_length-le ns {i = i} h)

pub ruleset digit_steps = (later, only, one_left, some_left, length_more, length_one, length-set)

pub ruleset number_steps = (put_append, length_put, length-append, length-set)

pub ruleset line_steps = (line_from, none_left, put_append, length_put, length-append)
