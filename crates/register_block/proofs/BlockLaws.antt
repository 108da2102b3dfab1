-- What each change of the block does to each of its fields: every change keeps the length, a counter is raised by one modulo 4,294,967,296, and fields that
-- lie apart keep what they hold. Assumes nothing.
use Rattle.std.proofs.Common.{◌≡◌, ℕ, ◌+◌, ◌%◌, ◌^◌, ◌<◌, ◌≤◌, Bool, true, false, cond, eqb, ltb, List, [], ◌∷◌, length, get_or, refl, ap, ◌∙◌, arith, length-set, get_or-set_same, lt-ltb}
use Rattle.lists.specs.Window.{put, Apart}
use Rattle.lists.proofs.WindowLaws.{length_put, get_or_put, get_apart, get_put}
use Rattle.lists.proofs.TurnLaws.{iterate_keeps, iterate_each}
use Rattle.octets.specs.Numbers.{four_of, four_octets, two_of}
use Rattle.octets.proofs.NumberLaws.{four_octets_lem}
use Rattle.record.specs.Layout.{stream_count}
use Rattle.register_block.specs.Layout.{block_length, WholeBlock, accepted_octet, discarded_octet, discard_flag}
use Rattle.register_block.specs.Fields.{flag_at, with_flag, without_flag, word_at, with_word, bit_of}
use Rattle.register_block.specs.Events.{raised, for_stream, accepted, discarded, withdrawn, zeroed}
use Rattle.register_block.specs.Written.{cleared_by}

-- no change is one of the length
module _ (b : List ℕ) where
  pub length_flag : (flag : ℕ) → length (with_flag b flag) ≡ length b
  unfolding with_flag
  length_flag flag = length_put b flag (1 ∷ [])

  pub length_unflag : (flag : ℕ) → length (without_flag b flag) ≡ length b
  unfolding without_flag
  length_unflag flag = length_put b flag (0 ∷ [])

  pub length_word : (octet word : ℕ) → length (with_word b octet word) ≡ length b
  unfolding with_word
  length_word octet word = length_put b octet (four_octets word)

  pub length_raised : (octet : ℕ) → length (raised b octet) ≡ length b
  unfolding raised
  length_raised octet = length_word octet ((word_at b octet + 1) % 2 ^ 32)

  pub length_zeroed : length (zeroed b) ≡ length b
  unfolding zeroed
  length_zeroed = iterate_keeps (λ l. length l ≡ length b) (λ octet l. put l octet (0 ∷ [])) block_length b (λ octet l e. length_put l octet (0 ∷ []) ∙ e) refl

pub length_cleared : (flag weight number : ℕ) (b : List ℕ) → length (cleared_by flag weight number b) ≡ length b
unfolding cleared_by
length_cleared flag weight number b = by_bit (bit_of number weight)
  where
    by_bit : (t : Bool) → length (cond t (without_flag b flag) b) ≡ length b
    by_bit true = length_unflag b flag
    by_bit false = refl

-- what a word is after each change
module _ (b : List ℕ) (at : ℕ) where
  -- written there, and elsewhere
  pub word_word : (word : ℕ) → at + 4 ≤ length b → word_at (with_word b at word) at ≡ word
  unfolding word_at with_word
  word_word word long = ap four_of (get_put b at (four_octets word) long) ∙ four_octets_lem word

  pub word_apart : (octet word : ℕ) → Apart at 4 octet 4 → word_at (with_word b octet word) at ≡ word_at b at
  unfolding word_at with_word
  word_apart octet word apart = ap four_of (get_apart b octet (four_octets word) at 4 apart)

  -- raised there: one more, modulo 4,294,967,296
  pub word_raised : at + 4 ≤ length b → word_at (raised b at) at ≡ (word_at b at + 1) % 2 ^ 32
  unfolding raised
  word_raised long = word_word ((word_at b at + 1) % 2 ^ 32) long

  pub word_raised_apart : (octet : ℕ) → Apart at 4 octet 4 → word_at (raised b octet) at ≡ word_at b at
  unfolding raised
  word_raised_apart octet apart = word_apart octet ((word_at b octet + 1) % 2 ^ 32) apart

  -- flags lie below every word
  pub word_flag : (flag : ℕ) → flag < at → word_at (with_flag b flag) at ≡ word_at b at
  unfolding word_at with_flag
  word_flag flag below = ap four_of (get_apart b flag (1 ∷ []) at 4 (λ k x y u v. omega arith))

  pub word_unflag : (flag : ℕ) → flag < at → word_at (without_flag b flag) at ≡ word_at b at
  unfolding word_at without_flag
  word_unflag flag below = ap four_of (get_apart b flag (0 ∷ []) at 4 (λ k x y u v. omega arith))

-- an octet of a zeroed block is 0,
zeroed_octet : (b : List ℕ) → WholeBlock b → (k : ℕ) → k < block_length → get_or (zeroed b) k 0 ≡ 0
unfolding zeroed
zeroed_octet b whole k below =
    iterate_each (λ octet l. WholeBlock l → octet < block_length → get_or l octet 0 ≡ 0) (λ octet l. put l octet (0 ∷ [])) block_length b
    (λ octet l long inside. get_or-set_same l octet 0 0 (omega (arith, long, length-set l octet 0)))
    (λ octet i l later holds long inside.
    get_or_put l i (0 ∷ []) octet (λ n u v w x. omega arith) ∙ holds (omega (arith, long, length-set l i 0)) inside)
    k below (omega (arith, length_zeroed b, whole)) below

-- so are its words, and its flags are down
pub word_zeroed : (b : List ℕ) (at : ℕ) → WholeBlock b → at + 4 ≤ block_length → word_at (zeroed b) at ≡ 0
unfolding word_at four_of two_of
word_zeroed b at whole inside =
    omega (
      arith,
      zeroed_octet b whole at (omega arith),
      zeroed_octet b whole (at + 1) (omega arith),
      zeroed_octet b whole (at + 1 + 1) (omega arith),
      zeroed_octet b whole (at + 1 + 1 + 1) (omega arith),
    )

pub flag_zeroed : (b : List ℕ) (flag : ℕ) → WholeBlock b → flag < block_length → flag_at (zeroed b) flag ≡ false
unfolding flag_at
flag_zeroed b flag whole inside = ap (λ (n : ℕ). eqb n 1) (zeroed_octet b whole flag inside)

-- what a flag is after each change
module _ (b : List ℕ) (flag : ℕ) where
  -- put up or taken down, and the others
  pub flag_flag : flag < length b → flag_at (with_flag b flag) flag ≡ true
  unfolding flag_at with_flag
  flag_flag inside = ap (λ (n : ℕ). eqb n 1) (get_or-set_same b flag 1 0 inside)

  pub flag_unflag : flag < length b → flag_at (without_flag b flag) flag ≡ false
  unfolding flag_at without_flag
  flag_unflag inside = ap (λ (n : ℕ). eqb n 1) (get_or-set_same b flag 0 0 inside)

  pub flag_other : (other : ℕ) → (flag ≡ other → ⊥) → flag_at (with_flag b other) flag ≡ flag_at b flag
  unfolding flag_at with_flag
  flag_other other apart = ap (λ (n : ℕ). eqb n 1) (get_or_put b other (1 ∷ []) flag (λ k x y u v. apart (omega arith)))

  pub flag_unflag_other : (other : ℕ) → (flag ≡ other → ⊥) → flag_at (without_flag b other) flag ≡ flag_at b flag
  unfolding flag_at without_flag
  flag_unflag_other other apart = ap (λ (n : ℕ). eqb n 1) (get_or_put b other (0 ∷ []) flag (λ k x y u v. apart (omega arith)))

  -- words lie above every flag
  pub flag_word : (octet word : ℕ) → flag < octet → flag_at (with_word b octet word) flag ≡ flag_at b flag
  unfolding flag_at with_word
  flag_word octet word below = ap (λ (n : ℕ). eqb n 1) (get_or_put b octet (four_octets word) flag (λ k x y u v. omega arith))

  pub flag_raised : (octet : ℕ) → flag < octet → flag_at (raised b octet) flag ≡ flag_at b flag
  unfolding raised
  flag_raised octet below = flag_word octet ((word_at b octet + 1) % 2 ^ 32) below

  -- a flag that is cleared by a number's bit, and one that another bit clears
  pub flag_cleared : (weight number : ℕ) → flag < length b → flag_at (cleared_by flag weight number b) flag ≡ cond (bit_of number weight) false (flag_at b flag)
  unfolding cleared_by
  flag_cleared weight number inside = by_bit (bit_of number weight)
    where
      by_bit : (t : Bool) → flag_at (cond t (without_flag b flag) b) flag ≡ cond t false (flag_at b flag)
      by_bit true = flag_unflag inside
      by_bit false = refl

  pub flag_cleared_other : (other weight number : ℕ) → (flag ≡ other → ⊥) → flag_at (cleared_by other weight number b) flag ≡ flag_at b flag
  unfolding cleared_by
  flag_cleared_other other weight number apart = by_bit (bit_of number weight)
    where
      by_bit : (t : Bool) → flag_at (cond t (without_flag b other) b) flag ≡ flag_at b flag
      by_bit true = flag_unflag_other other apart
      by_bit false = refl

-- what is true of the block, and of it changed, is true of a change for whatever number,
for_either : (G : List ℕ → Type 0) (s : ℕ) (change : List ℕ → List ℕ) (b : List ℕ) → G (change b) → G b → G (for_stream s change b)
for_either G s change b changed same = by_test (ltb s stream_count)
  where
    by_test : (t : Bool) → G (cond t (change b) b)
    by_test true = changed
    by_test false = same

-- and for a stream the change is made
for_stream_lem : (s : ℕ) (change : List ℕ → List ℕ) (b : List ℕ) → s < stream_count → for_stream s change b ≡ change b
for_stream_lem s change b below = ap (λ (t : Bool). cond t (change b) b) (lt-ltb s stream_count below)

-- what a change for a stream does: nothing to the length,
module _ (s : ℕ) (b : List ℕ) where
  pub length_accepted : length (accepted s b) ≡ length b
  unfolding accepted
  length_accepted = for_either (λ l. length l ≡ length b) s (λ l. raised l (accepted_octet s)) b (length_raised b (accepted_octet s)) refl

  length_counted : length (for_stream s (λ l. raised l (discarded_octet s)) b) ≡ length b
  length_counted = for_either (λ l. length l ≡ length b) s (λ l. raised l (discarded_octet s)) b (length_raised b (discarded_octet s)) refl

  pub length_discarded : length (discarded s b) ≡ length b
  unfolding discarded
  length_discarded = length_flag (for_stream s (λ l. raised l (discarded_octet s)) b) discard_flag ∙ length_counted

  pub length_withdrawn : length (withdrawn s b) ≡ length b
  unfolding withdrawn
  length_withdrawn =
      for_either (λ l. length l ≡ length b) s (λ l. with_word (with_word l (accepted_octet s) 0) (discarded_octet s) 0) b
      (length_word (with_word b (accepted_octet s) 0) (discarded_octet s) 0 ∙ length_word b (accepted_octet s) 0) refl

  -- its own count is raised, or both begin anew,
  module _ (below : s < stream_count) (whole : WholeBlock b) where
    pub word_accepted : word_at (accepted s b) (accepted_octet s) ≡ (word_at b (accepted_octet s) + 1) % 2 ^ 32
    unfolding accepted
    word_accepted =
        ap (λ (l : List ℕ). word_at l (accepted_octet s)) (for_stream_lem s (λ l. raised l (accepted_octet s)) b below)
        ∙ word_raised b (accepted_octet s) (omega (arith, below, whole))

    pub word_discarded : word_at (discarded s b) (discarded_octet s) ≡ (word_at b (discarded_octet s) + 1) % 2 ^ 32
    unfolding discarded
    word_discarded =
        word_flag (for_stream s (λ l. raised l (discarded_octet s)) b) (discarded_octet s) discard_flag (omega arith)
        ∙ ap (λ (l : List ℕ). word_at l (discarded_octet s)) (for_stream_lem s (λ l. raised l (discarded_octet s)) b below)
        ∙ word_raised b (discarded_octet s) (omega (arith, below, whole))

    withdrawn_so : withdrawn s b ≡ with_word (with_word b (accepted_octet s) 0) (discarded_octet s) 0
    unfolding withdrawn
    withdrawn_so = for_stream_lem s (λ l. with_word (with_word l (accepted_octet s) 0) (discarded_octet s) 0) b below

    pub accepted_withdrawn : word_at (withdrawn s b) (accepted_octet s) ≡ 0
    accepted_withdrawn =
        ap (λ (l : List ℕ). word_at l (accepted_octet s)) withdrawn_so
        ∙ word_apart (with_word b (accepted_octet s) 0) (accepted_octet s) (discarded_octet s) 0 (λ k x y u v. omega arith)
        ∙ word_word b (accepted_octet s) 0 (omega (arith, below, whole))

    pub discarded_withdrawn : word_at (withdrawn s b) (discarded_octet s) ≡ 0
    discarded_withdrawn =
        ap (λ (l : List ℕ). word_at l (discarded_octet s)) withdrawn_so
        ∙ word_word (with_word b (accepted_octet s) 0) (discarded_octet s) 0 (omega (arith, below, whole, length_word b (accepted_octet s) 0))

  -- and every word that lies apart is kept, those of other streams among them
  module _ (at : ℕ) where
    pub accepted_apart : Apart at 4 (accepted_octet s) 4 → word_at (accepted s b) at ≡ word_at b at
    unfolding accepted
    accepted_apart apart =
        for_either (λ l. word_at l at ≡ word_at b at) s (λ l. raised l (accepted_octet s)) b (word_raised_apart b at (accepted_octet s) apart) refl

    pub discarded_apart : discard_flag < at → Apart at 4 (discarded_octet s) 4 → word_at (discarded s b) at ≡ word_at b at
    unfolding discarded
    discarded_apart above apart =
        word_flag (for_stream s (λ l. raised l (discarded_octet s)) b) at discard_flag above
        ∙ for_either (λ l. word_at l at ≡ word_at b at) s (λ l. raised l (discarded_octet s)) b (word_raised_apart b at (discarded_octet s) apart) refl

    pub withdrawn_apart : Apart at 4 (accepted_octet s) 4 → Apart at 4 (discarded_octet s) 4 → word_at (withdrawn s b) at ≡ word_at b at
    unfolding withdrawn
    withdrawn_apart first second =
        for_either (λ l. word_at l at ≡ word_at b at) s (λ l. with_word (with_word l (accepted_octet s) 0) (discarded_octet s) 0) b
        (word_apart (with_word b (accepted_octet s) 0) at (discarded_octet s) 0 second ∙ word_apart b at (accepted_octet s) 0 first) refl

  -- a flag is raised by a discard alone
  module _ (flag : ℕ) (low : flag < accepted_octet 0) where
    pub flag_accepted : flag_at (accepted s b) flag ≡ flag_at b flag
    unfolding accepted
    flag_accepted =
        for_either (λ l. flag_at l flag ≡ flag_at b flag) s (λ l. raised l (accepted_octet s)) b (flag_raised b flag (accepted_octet s) (omega (arith, low))) refl

    flag_counted : flag_at (for_stream s (λ l. raised l (discarded_octet s)) b) flag ≡ flag_at b flag
    flag_counted =
        for_either (λ l. flag_at l flag ≡ flag_at b flag) s (λ l. raised l (discarded_octet s)) b (flag_raised b flag (discarded_octet s) (omega (arith, low))) refl

    pub flag_discarded : (flag ≡ discard_flag → ⊥) → flag_at (discarded s b) flag ≡ flag_at b flag
    unfolding discarded
    flag_discarded other = flag_other (for_stream s (λ l. raised l (discarded_octet s)) b) flag discard_flag other ∙ flag_counted

    pub flag_withdrawn : flag_at (withdrawn s b) flag ≡ flag_at b flag
    unfolding withdrawn
    flag_withdrawn =
        for_either (λ l. flag_at l flag ≡ flag_at b flag) s (λ l. with_word (with_word l (accepted_octet s) 0) (discarded_octet s) 0) b
        (flag_word (with_word b (accepted_octet s) 0) flag (discarded_octet s) 0 (omega (arith, low)) ∙ flag_word b flag (accepted_octet s) 0 (omega (arith, low))) refl

  pub discarded_flag : WholeBlock b → flag_at (discarded s b) discard_flag ≡ true
  unfolding discarded
  discarded_flag whole = flag_flag (for_stream s (λ l. raised l (discarded_octet s)) b) discard_flag (omega (arith, whole, length_counted))
