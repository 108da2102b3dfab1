-- Code that makes one check after another, and the number that a gate has for it: each law is of one check, which code has made on a callee's answer x where
-- the definition has y, or of the first checks together, which code has a callee make. Assumes nothing.
use Prim.Native.Nat.{ℕ, ◌≤◌, ◌<◌}
use mathlib.Core.Path.{◌≡◌, refl, sym, ap, ◌∙◌}
use mathlib.Core.Bool.{Bool, true, false, not, cond}
use mathlib.Core.List.{List, [], ◌∷◌}
use native.Mathlib.Omega.{arith}
use lib.Dec.{leb}
use borrow.Author.Rules.{rules}
use borrow.Author.Tests.{le-leb, lt-leb}
use Rattle.stream.specs.declared.Stream.{Stream}
use Rattle.stream.specs.declared.answer.Refusal.{Refusal}
use Rattle.stream.specs.Replies.{number_of}
use Rattle.stream.proofs.AnswerLaws.{number_some}
use Rattle.record.specs.Layout.{stream_count}
use Rattle.record.specs.Head.{open_at}
use Rattle.record.specs.Entry.{stream_at, drains_at}
use Rattle.gates.specs.Refusals.{closed_refusal, stream_refusal, withdraw_refusal}

module _ (n rest : ℕ) where
  -- the test holds, and its number is the answer
  pub at_is : (x y : Bool) → x ≡ y → x ≡ true → n ≡ cond y n rest
  at_is x y so taken = ap (λ (b : Bool). cond b n rest) (sym taken ∙ so)

  pub at_is_not : (x y : Bool) → x ≡ y → not x ≡ true → n ≡ cond (not y) n rest
  at_is_not x y so taken = at_is (not x) (not y) (ap not so) taken

  pub at_reserved : (x y : Stream) → x ≡ y → x.reserved ≡ true → n ≡ cond y.reserved n rest
  at_reserved x y so taken = at_is x.reserved y.reserved (ap (λ (s : Stream). s.reserved) so) taken

  pub at_unreserved : (x y : Stream) → x ≡ y → not x.reserved ≡ true → n ≡ cond (not y.reserved) n rest
  at_unreserved x y so taken = at_is_not x.reserved y.reserved (ap (λ (s : Stream). s.reserved) so) taken

  pub at_least : (a b : ℕ) → a ≤ b → n ≡ cond (leb a b) n rest
  at_least a b taken = ap (λ (t : Bool). cond t n rest) (sym (le-leb a b taken))

  -- it does not, and the rest decides
  pub past_is : (r : ℕ) (x y : Bool) → x ≡ y → x ≡ false → r ≡ rest → r ≡ cond y n rest
  past_is r x y so left decides = decides ∙ ap (λ (b : Bool). cond b n rest) (sym left ∙ so)

  pub past_is_not : (r : ℕ) (x y : Bool) → x ≡ y → not x ≡ false → r ≡ rest → r ≡ cond (not y) n rest
  past_is_not r x y so left decides = past_is r (not x) (not y) (ap not so) left decides

  pub past_reserved : (r : ℕ) (x y : Stream) → x ≡ y → x.reserved ≡ false → r ≡ rest → r ≡ cond y.reserved n rest
  past_reserved r x y so left decides = past_is r x.reserved y.reserved (ap (λ (s : Stream). s.reserved) so) left decides

  pub past_unreserved : (r : ℕ) (x y : Stream) → x ≡ y → not x.reserved ≡ false → r ≡ rest → r ≡ cond (not y.reserved) n rest
  past_unreserved r x y so left decides = past_is_not r x.reserved y.reserved (ap (λ (s : Stream). s.reserved) so) left decides

  pub past_least : (r a b : ℕ) → b < a → r ≡ rest → r ≡ cond (leb a b) n rest
  past_least r a b left decides = decides ∙ ap (λ (t : Bool). cond t n rest) (sym (lt-leb a b left))

-- a check: what is asked, and the number of its refusal
record Check : Type 0 where
  pub asked : Bool
  pub number : ℕ

-- the first refusal of some checks, or else what the rest says
abbrev checks : List Check → ℕ → ℕ
checks [] rest = rest
checks (k ∷ ks) rest = cond k.asked k.number (checks ks rest)

abbrev Numbered : List Check → Type 0
Numbered [] = ◌≡◌ {A = ℕ} 0 0
Numbered (k ∷ ks) = (0 < k.number) × Numbered ks

-- where one of the first checks refuses, its refusal is the answer
stops : (ks : List Check) (refusal : Refusal) (rest : ℕ) → number_of refusal ≡ checks ks 0 → number_of refusal ≡ checks ks rest
stops [] refusal rest e = absurd (number_some refusal e)
stops (k ∷ ks) refusal rest e = by_test (stops ks refusal rest) k.asked e
  where
    by_test : (number_of refusal ≡ checks ks 0 → number_of refusal ≡ checks ks rest) → (b : Bool) → number_of refusal ≡ cond b k.number (checks ks 0)
        → number_of refusal ≡ cond b k.number (checks ks rest)
    by_test later true t = t
    by_test later false t = later t

-- and where none does the rest decides
goes : (ks : List Check) (r rest : ℕ) → Numbered ks → 0 ≡ checks ks 0 → r ≡ rest → r ≡ checks ks rest
goes [] r rest numbered e so = so
goes (k ∷ ks) r rest numbered e so = by_test (λ t. goes ks r rest numbered.1 t so) k.asked e
  where
    by_test : (0 ≡ checks ks 0 → r ≡ checks ks rest) → (b : Bool) → 0 ≡ cond b k.number (checks ks 0) → r ≡ cond b k.number (checks ks rest)
    by_test later true t = absurd (omega (arith, t, numbered.0))
    by_test later false t = later t

-- the checks that several calls make first
module _ (p : List ℕ) where
  abbrev closed_first : List Check
  closed_first = record { asked = not (open_at p); number = 1 } ∷ []

  abbrev stream_first : ℕ → List Check
  stream_first s = record { asked = not (open_at p); number = 1 } ∷ record { asked = leb stream_count s; number = 5 } ∷ record { asked = drains_at p s; number = 25 } ∷ []

  abbrev reserved_first : ℕ → List Check
  reserved_first s =
      record { asked = not (open_at p); number = 1 }
      ∷ record { asked = leb stream_count s; number = 5 }
      ∷ record { asked = drains_at p s; number = 25 }
      ∷ record { asked = not (stream_at p s).reserved; number = 12 }
      ∷ []

  pub stops_closed : (refusal : Refusal) (rest : ℕ) → number_of refusal ≡ closed_refusal p → number_of refusal ≡ cond (not (open_at p)) 1 rest
  unfolding closed_refusal
  stops_closed refusal rest e = stops closed_first refusal rest e

  pub goes_closed : (r rest : ℕ) → 0 ≡ closed_refusal p → r ≡ rest → r ≡ cond (not (open_at p)) 1 rest
  unfolding closed_refusal
  goes_closed r rest e so = goes closed_first r rest (omega arith, refl) e so

  module _ (s : ℕ) where
    pub stops_stream : (refusal : Refusal) (rest : ℕ) → number_of refusal ≡ stream_refusal p s
        → number_of refusal ≡ cond (not (open_at p)) 1 (cond (leb stream_count s) 5 (cond (drains_at p s) 25 rest))
    unfolding stream_refusal
    stops_stream refusal rest e = stops (stream_first s) refusal rest e

    pub goes_stream : (r rest : ℕ) → 0 ≡ stream_refusal p s → r ≡ rest → r ≡ cond (not (open_at p)) 1 (cond (leb stream_count s) 5 (cond (drains_at p s) 25 rest))
    unfolding stream_refusal
    goes_stream r rest e so = goes (stream_first s) r rest (omega arith, (omega arith, (omega arith, refl))) e so

    pub stops_reserved : (refusal : Refusal) (rest : ℕ) → number_of refusal ≡ withdraw_refusal p s
        → number_of refusal ≡ cond (not (open_at p)) 1 (cond (leb stream_count s) 5 (cond (drains_at p s) 25 (cond (not (stream_at p s).reserved) 12 rest)))
    unfolding withdraw_refusal
    stops_reserved refusal rest e = stops (reserved_first s) refusal rest e

    pub goes_reserved : (r rest : ℕ) → 0 ≡ withdraw_refusal p s → r ≡ rest
        → r ≡ cond (not (open_at p)) 1 (cond (leb stream_count s) 5 (cond (drains_at p s) 25 (cond (not (stream_at p s).reserved) 12 rest)))
    unfolding withdraw_refusal
    goes_reserved r rest e so = goes (reserved_first s) r rest (omega arith, (omega arith, (omega arith, (omega arith, refl)))) e so

-- what closes a return of code that makes one such check after the other
pub ruleset tests = (stops_closed, goes_closed, stops_stream, goes_stream, stops_reserved, goes_reserved, at_is, at_is_not, at_reserved, at_unreserved, at_least, past_is, past_is_not, past_reserved, past_unreserved, past_least, rules)
