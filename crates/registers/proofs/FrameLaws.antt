-- A Frame on what is lent for a port is the call that it becomes, in reply, slice and memory. Assumes nothing.
use Prim.Native.Nat.{ℕ}
use mathlib.Core.Path.{◌≡◌, sym, ap, ap₂, ◌∙◌}
use mathlib.Core.Bool.{Bool, true, false, cond}
use mathlib.Core.List.{List, ◌++◌}
use Rattle.stream.specs.declared.Reply.{Reply}
use Rattle.header.specs.Header.{charge_of, length_fits}
use Rattle.steps.specs.Call.{Call, arriving, joining_best_effort, framing}
use Rattle.steps.specs.Outcome.{Outcome, outcome, gated}
use Rattle.std.specs.Prelude.{Option, Some, None}
use Rattle.binding.specs.Finding.{frame_lookup}
use Rattle.gates.specs.Becoming.{becoming}
use Rattle.port_laws.specs.Counting.{counts_as}
use Rattle.registers.specs.Lent.{record_part, block_part, short_refusal}
use Rattle.registers.specs.Notes.{noted}
use Rattle.registers.specs.Calls.{with_note, registered}
use Rattle.registers.proofs.PartLaws.{made_noted}

-- of either sort of call, by which a frame whose length is in its range is the call that it becomes
module _
    (call : Call → List ℕ → List ℕ → Outcome)
    (same : (p m octets : List ℕ) (tag : ℕ) → length_fits octets ≡ true → call (framing octets tag) p m ≡ call (becoming octets tag (frame_lookup p octets)) p m)
    (p m octets : List ℕ) (tag : ℕ) where
  -- what it counts as
  counts_so : length_fits octets ≡ true → counts_as (record_part p) (framing octets tag) ≡ becoming octets tag (frame_lookup (record_part p) octets)
  counts_so fits = ap (λ (b : Bool). cond b (becoming octets tag (frame_lookup (record_part p) octets)) (framing octets tag)) fits

  -- with registers, by what the lookup found
  by_found : (found : Option ℕ) → frame_lookup (record_part p) octets ≡ found → length_fits octets ≡ true
      → registered call (framing octets tag) p m ≡ gated (short_refusal p m) p m (with_note (becoming octets tag found) (block_part p) (call (becoming octets tag found) (record_part p) m))
  unfolding registered
  by_found found is fits =
      ap₂ (λ (c : Call) (o : Outcome). gated (short_refusal p m) p m (with_note c (block_part p) o)) (counts_so fits) (same (record_part p) m octets tag fits)
      ∙ ap (λ (l : Option ℕ). gated (short_refusal p m) p m (with_note (becoming octets tag l) (block_part p) (call (becoming octets tag l) (record_part p) m))) is

  -- an arrival of the frame's charge where a stream is bound to its pair, as code finds it, and else a frame of best effort
  pub frame_arrives : (b : Bool) (found : Option ℕ) (s charge : ℕ) (o : Outcome) → b ≡ length_fits octets → b ≡ true → found ≡ frame_lookup (record_part p) octets → found ≡ Some s
      → charge ≡ charge_of octets → o ≡ registered call (arriving s charge tag) p m → o ≡ registered call (framing octets tag) p m
  unfolding registered
  frame_arrives b found s charge o asked fits told is costs made =
      made ∙ ap (λ (a : ℕ). registered call (arriving s a tag) p m) costs ∙ sym (by_found (Some s) (sym told ∙ is) (sym asked ∙ fits))

  pub frame_joins : (b : Bool) (found : Option ℕ) (charge : ℕ) (o : Outcome) → b ≡ length_fits octets → b ≡ true → found ≡ frame_lookup (record_part p) octets → found ≡ None
      → charge ≡ charge_of octets → o ≡ registered call (joining_best_effort charge tag) p m → o ≡ registered call (framing octets tag) p m
  unfolding registered
  frame_joins b found charge o asked fits told is costs made =
      made ∙ ap (λ (a : ℕ). registered call (joining_best_effort a tag) p m) costs ∙ sym (by_found None (sym told ∙ is) (sym asked ∙ fits))

-- a frame whose length is outside its range is made on the record, and nothing is noted
pub frame_outside : (call : Call → List ℕ → List ℕ → Outcome) (p m octets : List ℕ) (tag : ℕ) (front back : List ℕ) (b : Bool) (r : Reply) (q n : List ℕ)
    → 0 ≡ short_refusal p m → front ≡ record_part p → back ≡ block_part p → b ≡ length_fits octets → b ≡ false
    → outcome r q n ≡ call (framing octets tag) front m → outcome r (q ++ back) n ≡ registered call (framing octets tag) p m
frame_outside call p m octets tag front back b r q n e front_so back_so asked outside made =
    made_noted call (framing octets tag) p m front back e front_so back_so q n r back made
    (ap (λ (t : Bool). noted (cond t (becoming octets tag (frame_lookup (record_part p) octets)) (framing octets tag)) r back) (sym outside ∙ asked))
