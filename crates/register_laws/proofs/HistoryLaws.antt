-- Counters and flags tell the replies so far, and mask and choice what was last written, where each happening does to them what the laws of the fields say.
-- Assumes nothing.
use Prim.Native.Nat.{ℕ, ◌+◌, ◌%◌, ◌^◌}
use mathlib.Core.Path.{◌≡◌, refl, ap, ◌∙◌}
use mathlib.Core.Bool.{Bool, true, false, cond, ◌||◌}
use mathlib.Core.List.{List, [], ◌∷◌, ◌++◌}
use native.Mathlib.Omega.{arith}
use Rattle.lists.specs.Each.{All}
use Rattle.stream.specs.declared.Reply.{Reply}
use Rattle.register_block.specs.Layout.{WholeBlock}
use Rattle.register_block.specs.Fields.{word_at, flag_at}
use Rattle.register_laws.specs.Happenings.{Happening, replied, written, note, noted_all}
use Rattle.register_laws.specs.History.{Sort, is_reply, clears, is_there, last_from}
use Rattle.register_laws.proofs.NoteLaws.{length_note}
use Rattle.register_laws.proofs.FieldLaws.{Counter, Flag, Written}
use Rattle.register_laws.proofs.SinceLaws.{count_from}

-- the block stays whole
whole_note : (h : Happening) (b : List ℕ) → WholeBlock b → WholeBlock (note h b)
whole_note h b whole = omega (arith, whole, length_note h b)

-- a counter that is n modulo 4,294,967,296 counts on from there
pub counts_from : (octet : ℕ) (starts test : Sort → Reply → Bool) → Counter octet starts test → (hs : List Happening) (b : List ℕ) (n : ℕ) → WholeBlock b
    → word_at b octet ≡ n % 2 ^ 32 → word_at (noted_all hs b) octet ≡ count_from (is_reply starts) (is_reply test) n hs % 2 ^ 32
counts_from octet starts test rule [] b n whole at = at
counts_from octet starts test rule (h ∷ hs) b n whole at =
    counts_from octet starts test rule hs (note h b) (cond (is_reply starts h) 0 (cond (is_reply test h) (n + 1) n)) (whole_note h b whole)
    (rule h b whole ∙ one (is_reply starts h) (is_reply test h))
  where
    one : (x y : Bool) → cond x 0 (cond y ((word_at b octet + 1) % 2 ^ 32) (word_at b octet)) ≡ cond x 0 (cond y (n + 1) n) % 2 ^ 32
    one true y = refl
    one false true = omega (arith, at)
    one false false = at

-- a word that is kept as written is what was last written
pub written_on : (octet offset : ℕ) → Written octet offset → (hs : List Happening) (b : List ℕ) → WholeBlock b
    → word_at (noted_all hs b) octet ≡ last_from offset (word_at b octet) hs
written_on octet offset rule [] b whole = refl
written_on octet offset rule (replied c r ∷ hs) b whole =
    written_on octet offset rule hs (note (replied c r) b) (whole_note (replied c r) b whole) ∙ ap (λ (n : ℕ). last_from offset n hs) (rule (replied c r) b whole)
written_on octet offset rule (written at number ∷ hs) b whole =
    written_on octet offset rule hs (note (written at number) b) (whole_note (written at number) b whole) ∙ ap (λ (n : ℕ). last_from offset n hs) (rule (written at number) b whole)

-- a flag that is not cleared is up where it was up, or there was a reply of its sort
pub flag_on : (flag : ℕ) (test : Sort → Reply → Bool) → Flag flag test → (hs : List Happening) (b : List ℕ) → WholeBlock b
    → All (λ h. clears flag h ≡ false) hs → flag_at (noted_all hs b) flag ≡ (flag_at b flag || is_there (is_reply test) hs)
flag_on flag test rule [] b whole none = or_false (flag_at b flag)
  where
    or_false : (x : Bool) → x ≡ (x || false)
    or_false true = refl
    or_false false = refl
flag_on flag test rule (h ∷ hs) b whole none =
    flag_on flag test rule hs (note h b) (whole_note h b whole) none.1
    ∙ ap (λ (x : Bool). x || is_there (is_reply test) hs) (rule h b whole ∙ ap (λ (x : Bool). cond x false (cond (is_reply test h) true (flag_at b flag))) none.0)
    ∙ regroup (is_reply test h) (flag_at b flag) (is_there (is_reply test) hs)
  where
    regroup : (x y z : Bool) → (cond x true y || z) ≡ (y || (x || z))
    regroup true true z = refl
    regroup true false z = refl
    regroup false y z = refl

-- a flag that was cleared is up where there was one since
pub flag_since : (flag : ℕ) (test : Sort → Reply → Bool) → Flag flag test → (before after : List Happening) (h : Happening) (b : List ℕ) → WholeBlock b
    → clears flag h ≡ true → All (λ k. clears flag k ≡ false) after → flag_at (noted_all (before ++ (h ∷ after)) b) flag ≡ is_there (is_reply test) after
flag_since flag test rule [] after h b whole cleared none =
    flag_on flag test rule after (note h b) (whole_note h b whole) none
    ∙ ap (λ (x : Bool). x || is_there (is_reply test) after) (rule h b whole ∙ ap (λ (x : Bool). cond x false (cond (is_reply test h) true (flag_at b flag))) cleared)
flag_since flag test rule (k ∷ before) after h b whole cleared none = flag_since flag test rule before after h (note k b) (whole_note k b whole) cleared none
