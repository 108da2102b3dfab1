-- The two parts of what the host lends for a port, the record and the register block: their lengths, and what is left of the slice when a part comes back.
-- And what carries every call of both sorts: a refused one, and one that is made on the record and then noted in the block. Assumes nothing.
use Prim.Native.Nat.{ℕ, ◌+◌, ◌-◌, ◌≤◌}
use mathlib.Core.Path.{◌≡◌, refl, sym, ap, ap₂, ◌∙◌}
use mathlib.Core.Bool.{Bool, true, false, cond}
use mathlib.Core.Logic.{⊎_elim}
use mathlib.Core.List.{List, [], ◌++◌, append-nil}
use native.Mathlib.Omega.{arith}
use lib.ListN.{length, length-append, length-drop, take-append-drop, drop_of_length-le}
use lib.Seq.{length-take-le, take_at, drop_at}
use lib.Dec.{ltb, eqb}
use Rattle.lists.proofs.Order.{eq_or_not}
use borrow.Author.Tests.{ltb-false, eq-eqb, ne_eqb}
use borrow.Rule.Slice.PartMut.{mid_of, put_mid, post_of}
use Rattle.stream.specs.declared.Reply.{Reply}
use Rattle.stream.specs.declared.answer.Refusal.{Refusal}
use Rattle.stream.specs.Replies.{refused_by, number_of}
use Rattle.stream.proofs.AnswerLaws.{number_some}
use Rattle.record.specs.Layout.{record_length, memory_length}
use Rattle.record.specs.Queues.{queues_at}
use Rattle.steps.specs.Call.{Call}
use Rattle.port_laws.specs.Counting.{counts_as}
use Rattle.steps.specs.Outcome.{Outcome, outcome, gated}
use Rattle.steps.proofs.OutcomeLaws.{same_outcome, grants, refuses}
use Rattle.registers.specs.Lent.{port_length, WholePort, record_part, block_part, in_block, short_refusal, port_refusal}
use Rattle.sending.specs.Sending.{nothing}
use Rattle.register_block.specs.Layout.{WholeBlock}
use Rattle.register_block.specs.Events.{withdrawn, purged, sent, sent_nothing, zeroed}
use Rattle.registers.specs.Notes.{open_noted, withdraw_noted, tick_noted, transmit_noted, noted}
use Rattle.registers.specs.Calls.{with_note, registered}

-- a slice that is not refused for its length is long enough
pub enough : (p m : List ℕ) → short_refusal p m ≡ 0 → WholePort p
unfolding short_refusal
enough p m e = by_test (ltb (length p) port_length) refl e
  where
    some : (b : Bool) → ◌≡◌ {A = ℕ} (cond b 18 19) 0 → ⊥
    some true z = omega (arith, z)
    some false z = omega (arith, z)

    by_test : (b : Bool) → ltb (length p) port_length ≡ b → ◌≡◌ {A = ℕ} (cond b (cond (ltb (length m) (memory_length (queues_at p))) 18 19) 0) 0 → WholePort p
    by_test true t z = absurd (some (ltb (length m) (memory_length (queues_at p))) z)
    by_test false t z = ltb-false (length p) port_length t

-- the block's part reaches to the end of the slice
pub block_long : (p : List ℕ) → length (block_part p) ≡ length p - record_length
block_long p = length-drop record_length p

-- so nothing lies past it
nothing_past : (p : List ℕ) → post_of record_length (length p - record_length) p ≡ []
nothing_past p = drop_of_length-le (block_part p) {i = length p - record_length} (omega (arith, block_long p))

-- the block's part, as code lends it,
pub block_mid : (p : List ℕ) → mid_of record_length (length p - record_length) p ≡ block_part p
block_mid p =
    sym (append-nil _)
    ∙ ap (λ (l : List ℕ). mid_of record_length (length p - record_length) p ++ l) (sym (nothing_past p))
    ∙ take-append-drop (length p - record_length) (block_part p)

-- and the slice when it comes back changed
pub block_back : (p b : List ℕ) (change : List ℕ → List ℕ) → b ≡ change (mid_of record_length (length p - record_length) p)
    → put_mid record_length (length p - record_length) p b ≡ in_block change p
unfolding in_block
block_back p b change made =
    ap (λ (l : List ℕ). record_part p ++ (b ++ l)) (nothing_past p)
    ∙ ap (λ (l : List ℕ). record_part p ++ l) (append-nil b ∙ made ∙ ap change (block_mid p))

-- the record's part of a slice that is long enough is a record
pub record_long : (p : List ℕ) → WholePort p → length (record_part p) ≡ record_length
record_long p whole = length-take-le record_length p (omega (arith, whole))

-- what code that asks the length of the slice needs where the answer g is 0
module _ (p m : List ℕ) (g : ℕ) (zero : g ≡ 0) (e : g ≡ short_refusal p m) where
  pub whole_port : WholePort p
  whole_port = enough p m (sym e ∙ zero)

  -- the record's part is a record
  pub part_long : record_length ≡ length (record_part p)
  part_long = sym (record_long p whole_port)

  module _ (q : List ℕ) (same : length q ≡ length (record_part p)) where
    -- the slice with another record of the same length is long enough
    pub replaced_long : WholePort (q ++ block_part p)
    replaced_long = omega (arith, length-append q (block_part p), same, part_long, whole_port, block_long p)

    -- and what is changed in its block is changed in this one
    pub replaced_in : (change : List ℕ → List ℕ) → in_block change (q ++ block_part p) ≡ q ++ change (block_part p)
    unfolding in_block
    replaced_in change =
        let long : length q ≡ record_length = same ∙ sym part_long in
        ap₂ (λ (l b : List ℕ). l ++ change b) (take_at q (block_part p) record_length long) (drop_at q (block_part p) record_length long)

module _ (call : Call → List ℕ → List ℕ → Outcome) (c : Call) (p m : List ℕ) where
  -- a call whose slice is too short is refused
  pub short : (g : ℕ) (r : Reply) → r ≡ refused_by g → (g ≡ 0 → ⊥) → g ≡ short_refusal p m → outcome r p m ≡ registered call c p m
  unfolding registered
  short g r told some e =
      same_outcome r (refused_by g) p p m m told refl refl
      ∙ sym (refuses g p m _ some)
      ∙ ap (λ (n : ℕ). gated n p m (with_note (counts_as (record_part p) c) (block_part p) (call c (record_part p) m))) e

  -- any other is made on the record, and noted in the block
  pub done : (g : ℕ) (r : Reply) (q b n : List ℕ) → g ≡ 0 → g ≡ short_refusal p m → outcome r q n ≡ call c (record_part p) m → b ≡ q ++ noted (counts_as (record_part p) c) r (block_part p)
      → outcome r b n ≡ registered call c p m
  unfolding registered
  done g r q b n zero e made noted-so =
      same_outcome r r b (q ++ noted (counts_as (record_part p) c) r (block_part p)) n n refl noted-so refl
      ∙ ap (with_note (counts_as (record_part p) c) (block_part p)) made
      ∙ sym (grants (short_refusal p m) p m _ (sym e ∙ zero))

-- the refusal of what is lent for a port, as code asks it: of a slice that is too short,
pub lent_short : (refusal : List ℕ → List ℕ → ℕ) (p m : List ℕ) (g : ℕ) → (g ≡ 0 → ⊥) → g ≡ short_refusal p m → g ≡ port_refusal refusal p m
lent_short refusal p m g some e = e ∙ ap (λ (b : Bool). cond b (refusal (record_part p) m) (short_refusal p m)) (sym (ne_eqb _ _ (λ z. some (e ∙ z))))

-- and else of record and memory
pub lent_else : (refusal : List ℕ → List ℕ → ℕ) (p m : List ℕ) (g r : ℕ) → g ≡ 0 → g ≡ short_refusal p m → r ≡ refusal (record_part p) m
    → r ≡ port_refusal refusal p m
lent_else refusal p m g r zero e asked = asked ∙ ap (λ (b : Bool). cond b (refusal (record_part p) m) (short_refusal p m)) (sym (eq-eqb _ _ (sym e ∙ zero)))

-- where it is 0 the slice is long enough
pub lent_enough : (refusal : List ℕ → List ℕ → ℕ) (p m : List ℕ) (g : ℕ) → g ≡ 0 → g ≡ port_refusal refusal p m → WholePort p
lent_enough refusal p m g zero e =
    ⊎_elim
    (λ (fits : short_refusal p m ≡ 0). enough p m fits)
    (λ (some : short_refusal p m ≡ 0 → ⊥). absurd (some (lent_short refusal p m (short_refusal p m) some refl ∙ sym e ∙ zero)))
    (eq_or_not (short_refusal p m) 0)

-- the slice is long enough where code finds no refusal of its length: the record's part ends in it, and the block's part is a block
pub record_within : (p m : List ℕ) → 0 ≡ short_refusal p m → record_length ≤ length p
record_within p m e = omega (arith, enough p m (sym e))

pub block_whole : (p m back : List ℕ) → 0 ≡ short_refusal p m → length back + record_length ≡ length p → WholeBlock back
block_whole p m back e long = omega (arith, enough p m (sym e), long)

pub front_whole : (front : List ℕ) → length front ≡ record_length → record_length ≤ length front
front_whole front long = omega (arith, long)

module _ (call : Call → List ℕ → List ℕ → Outcome) (c : Call) (p m : List ℕ) where
  -- a call whose slice is too short is refused, as code passes it on by `?`
  pub refused_short : (refusal : Refusal) (r : Reply) → r ≡ refused_by (number_of refusal) → number_of refusal ≡ short_refusal p m → outcome r p m ≡ registered call c p m
  refused_short refusal r told e = short call c p m (number_of refusal) r told (number_some refusal) e

  -- any other is made on the record and noted in the block, of which the slice is then put together
  module _ (front back : List ℕ) (e : 0 ≡ short_refusal p m) (front_so : front ≡ record_part p) (back_so : back ≡ block_part p) (q n : List ℕ) where
    pub made_noted : (r : Reply) (b : List ℕ) → outcome r q n ≡ call c front m → b ≡ noted (counts_as (record_part p) c) r back → outcome r (q ++ b) n ≡ registered call c p m
    made_noted r b made so =
        done call c p m 0 r q (q ++ b) n refl e (made ∙ ap (λ (l : List ℕ). call c l m) front_so)
        (ap (λ (l : List ℕ). q ++ l) (so ∙ ap (noted (counts_as (record_part p) c) r) back_so))

    -- one that is refused leaves the block, where its refusals are not noted
    pub made_refused : (refusal : Refusal) (r : Reply) → r ≡ refused_by (number_of refusal) → outcome (refused_by (number_of refusal)) q n ≡ call c front m
        → noted (counts_as (record_part p) c) (refused_by (number_of refusal)) back ≡ back → outcome r (q ++ back) n ≡ registered call c p m
    made_refused refusal r told made quiet =
        ap (λ (x : Reply). outcome x (q ++ back) n) told ∙ made_noted (refused_by (number_of refusal)) back made (sym quiet)

-- refusals of Open, Withdraw, Tick and Transmit are not noted
module _ (refusal : Refusal) (b : List ℕ) where
  pub open_quiet : open_noted (number_of refusal) b ≡ b
  unfolding open_noted
  open_quiet = ap (λ (t : Bool). cond t (zeroed b) b) (ne_eqb _ _ (number_some refusal))

  pub withdraw_quiet : (s : ℕ) → withdraw_noted s (number_of refusal) b ≡ b
  unfolding withdraw_noted
  withdraw_quiet s = ap (λ (t : Bool). cond t (withdrawn s b) b) (ne_eqb _ _ (number_some refusal))

  pub tick_quiet : (frames : ℕ) → tick_noted (number_of refusal) frames b ≡ b
  unfolding tick_noted
  tick_quiet frames = ap (λ (t : Bool). cond t (cond (eqb frames 0) b (purged b)) b) (ne_eqb _ _ (number_some refusal))

  pub transmit_quiet : (stream : ℕ) → transmit_noted (number_of refusal) stream b ≡ b
  unfolding transmit_noted
  transmit_quiet stream = ap (λ (t : Bool). cond t (cond (eqb stream nothing) (sent_nothing b) (sent b)) b) (ne_eqb _ _ (number_some refusal))

-- granted ones are
pub open_told : (b : List ℕ) → zeroed b ≡ open_noted 0 b
unfolding open_noted
open_told b = refl

pub withdraw_told : (s : ℕ) (b : List ℕ) → withdrawn s b ≡ withdraw_noted s 0 b
unfolding withdraw_noted
withdraw_told s b = refl
