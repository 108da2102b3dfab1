-- What a write to a register does to each field of the block, and when the interrupt line is up. Assumes nothing.
use Rattle.std.proofs.Common.{◌≡◌, ℕ, zero, suc, ◌^◌, ◌<◌, ◌≤◌, Bool, true, false, cond, ◌&&◌, eqb, List, length, refl, ap, ◌∙◌, ⊎_elim, arith, ne_eqb}
use Rattle.lists.specs.Window.{Apart}
use Rattle.lists.proofs.Order.{eq_or_not}
use Rattle.register_block.specs.Layout.{WholeBlock, flags_offset, mask_offset, choice_offset, discard_flag, purge_flag, nothing_flag, flag_count, mask_octet, choice_octet}
use Rattle.register_block.specs.Fields.{flag_at, without_flag, word_at, with_word, bit_of, bit0, bit1, bit2}
use Rattle.register_block.specs.Written.{cleared_by, flags_cleared, written_at}
use Rattle.register_block.proofs.BlockLaws.{length_word, length_cleared, word_word, word_apart, word_unflag, flag_word, flag_cleared, flag_cleared_other}

-- the flags cleared: as long as before,
length_flags : (number : ℕ) (b : List ℕ) → length (flags_cleared number b) ≡ length b
length_flags number b =
    length_cleared nothing_flag bit2 number _ ∙ length_cleared purge_flag bit1 number _ ∙ length_cleared discard_flag bit0 number b

-- and the words as before
word_cleared : (b : List ℕ) (at flag weight number : ℕ) → flag < at → word_at (cleared_by flag weight number b) at ≡ word_at b at
unfolding cleared_by
word_cleared b at flag weight number below = by_bit (bit_of number weight)
  where
    by_bit : (t : Bool) → word_at (cond t (without_flag b flag) b) at ≡ word_at b at
    by_bit true = word_unflag b at flag below
    by_bit false = refl

word_flags : (b : List ℕ) (at number : ℕ) → flag_count ≤ at → word_at (flags_cleared number b) at ≡ word_at b at
word_flags b at number above =
    word_cleared _ at nothing_flag bit2 number (omega (arith, above))
    ∙ word_cleared _ at purge_flag bit1 number (omega (arith, above))
    ∙ word_cleared b at discard_flag bit0 number (omega (arith, above))

-- each flag by its own bit, whose weight is that power of two
flag_flags : (b : List ℕ) (flag number : ℕ) → flag < flag_count → WholeBlock b
    → flag_at (flags_cleared number b) flag ≡ cond (bit_of number (2 ^ flag)) false (flag_at b flag)
flag_flags b zero number below whole =
    flag_cleared_other _ discard_flag nothing_flag bit2 number (λ e. omega arith)
    ∙ flag_cleared_other _ discard_flag purge_flag bit1 number (λ e. omega arith)
    ∙ flag_cleared b discard_flag bit0 number (omega (arith, whole))
flag_flags b (suc zero) number below whole =
    flag_cleared_other _ purge_flag nothing_flag bit2 number (λ e. omega arith)
    ∙ flag_cleared _ purge_flag bit1 number (omega (arith, whole, length_cleared discard_flag bit0 number b))
    ∙ ap (cond (bit_of number bit1) false) (flag_cleared_other b purge_flag discard_flag bit0 number (λ e. omega arith))
flag_flags b (suc (suc zero)) number below whole =
    flag_cleared _ nothing_flag bit2 number
    (omega (arith, whole, length_cleared purge_flag bit1 number (cleared_by discard_flag bit0 number b), length_cleared discard_flag bit0 number b))
    ∙ ap (cond (bit_of number bit2) false)
    (flag_cleared_other _ nothing_flag purge_flag bit1 number (λ e. omega arith) ∙ flag_cleared_other b nothing_flag discard_flag bit0 number (λ e. omega arith))
flag_flags b (suc (suc (suc n))) number below whole = absurd (omega (arith, below))

module _ (offset number : ℕ) (b : List ℕ) where
  -- a write by its offset
  by_offset : (G : List ℕ → Type 0) → G (flags_cleared number b) → G (with_word b mask_octet number) → G (with_word b choice_octet number) → G b
      → G (written_at offset number b)
  unfolding written_at
  by_offset G flags mask choice none = told (eqb offset flags_offset) (eqb offset mask_offset) (eqb offset choice_offset)
    where
      told : (x y z : Bool) → G (cond x (flags_cleared number b) (cond y (with_word b mask_octet number) (cond z (with_word b choice_octet number) b)))
      told true y z = flags
      told false true z = mask
      told false false true = choice
      told false false false = none

  -- no write changes the length, nor a counter
  pub length_written : length (written_at offset number b) ≡ length b
  length_written = by_offset (λ l. length l ≡ length b) (length_flags number b) (length_word b mask_octet number) (length_word b choice_octet number) refl

  pub word_written : (at : ℕ) → flag_count ≤ at → Apart at 4 mask_octet 4 → Apart at 4 choice_octet 4 → word_at (written_at offset number b) at ≡ word_at b at
  word_written at above mask choice =
      by_offset (λ l. word_at l at ≡ word_at b at) (word_flags b at number above) (word_apart b at mask_octet number mask) (word_apart b at choice_octet number choice)
      refl

  -- a flag is cleared by a one at its bit in a write to the flags, and by no other write
  pub flag_written : (flag : ℕ) → flag < flag_count → WholeBlock b
      → flag_at (written_at offset number b) flag ≡ cond (eqb offset flags_offset && bit_of number (2 ^ flag)) false (flag_at b flag)
  unfolding written_at
  flag_written flag below whole = told (eqb offset flags_offset) (eqb offset mask_offset) (eqb offset choice_offset)
    where
      told : (x y z : Bool) → flag_at (cond x (flags_cleared number b) (cond y (with_word b mask_octet number) (cond z (with_word b choice_octet number) b))) flag
          ≡ cond (x && bit_of number (2 ^ flag)) false (flag_at b flag)
      told true y z = flag_flags b flag number below whole
      told false true z = flag_word b flag mask_octet number (omega (arith, below))
      told false false true = flag_word b flag choice_octet number (omega (arith, below))
      told false false false = refl

  -- "kept as written", all 32 bits: the mask takes a write to 12, the choice one to 28, and neither any other
  pub mask_written : WholeBlock b → word_at (written_at offset number b) mask_octet ≡ cond (eqb offset mask_offset) number (word_at b mask_octet)
  unfolding written_at
  mask_written whole =
      ⊎_elim
      (λ (is : offset ≡ mask_offset). rw (is) (word_word b mask_octet number (omega (arith, whole))))
      (λ (isnt : offset ≡ mask_offset → ⊥). rw (ne_eqb offset mask_offset isnt) (told (eqb offset flags_offset) (eqb offset choice_offset)))
      (eq_or_not offset mask_offset)
    where
      told : (x z : Bool) → word_at (cond x (flags_cleared number b) (cond z (with_word b choice_octet number) b)) mask_octet ≡ word_at b mask_octet
      told true z = word_flags b mask_octet number (omega arith)
      told false true = word_apart b mask_octet choice_octet number (λ k x y u v. omega arith)
      told false false = refl

  pub choice_written : WholeBlock b → word_at (written_at offset number b) choice_octet ≡ cond (eqb offset choice_offset) number (word_at b choice_octet)
  unfolding written_at
  choice_written whole =
      ⊎_elim
      (λ (is : offset ≡ choice_offset). rw (is) (word_word b choice_octet number (omega (arith, whole))))
      (λ (isnt : offset ≡ choice_offset → ⊥). rw (ne_eqb offset choice_offset isnt) (told (eqb offset flags_offset) (eqb offset mask_offset)))
      (eq_or_not offset choice_offset)
    where
      told : (x y : Bool) → word_at (cond x (flags_cleared number b) (cond y (with_word b mask_octet number) b)) choice_octet ≡ word_at b choice_octet
      told true y = word_flags b choice_octet number (omega arith)
      told false true = word_apart b choice_octet mask_octet number (λ k x y u v. omega arith)
      told false false = refl
