-- What a read replies after every list of uses from a granted Open. Assumes nothing.
use Prim.Native.Nat.{ℕ}
use mathlib.Core.Path.{◌≡◌, refl, sym, ap, ap₂, ◌∙◌}
use mathlib.Core.Bool.{Bool, true, false, cond}
use mathlib.Core.List.{List, [], ◌∷◌}
use native.Mathlib.Omega.{arith}
use lib.ListN.{length}
use lib.Seq.{get_or-take}
use lib.Dec.{eqb, ltb}
use borrow.Author.Tests.{ltb-true}
use Rattle.stream.specs.declared.Reply.{Reply}
use Rattle.stream.specs.Replies.{granted}
use Rattle.record.specs.Layout.{record_length, stream_count}
use Rattle.record.specs.Queues.{queues_at, HasMemory}
use Rattle.record.specs.Head.{open_at}
use Rattle.fitness.specs.Fit.{record_fits, lent_refusal}
use Rattle.fitness.proofs.FitLaws.{fit_lent}
use Rattle.steps.specs.Call.{Call, opening}
use Rattle.steps.specs.Outcome.{Outcome, outcome, gated}
use Rattle.steps.proofs.OutcomeLaws.{grants}
use Rattle.port.specs.Calls.{called}
use Rattle.port_laws.proofs.StayLaws.{stays_fit}
use Rattle.port_laws.proofs.StayOpen.{stays_open, stays_long}
use Rattle.register_block.specs.Layout.{control_offset, status_offset, flags_offset, mask_offset, accepted_offset, discarded_offset, sent_offset, choice_offset, accepted_octet, discarded_octet}
use Rattle.register_block.specs.Fields.{word_at}
use Rattle.register_block.specs.Shown.{shown_count, register_at}
use Rattle.registers.specs.Lent.{WholePort, record_part, block_part, short_refusal, port_refusal}
use Rattle.registers.specs.Accesses.{offset_refusal, in_turn, read_by}
use Rattle.registers.proofs.PartLaws.{lent_else}
use Rattle.registers.proofs.CountLaws.{counts_stream_of}
use Rattle.register_laws.specs.Uses.{lent, all_calls, UseList, opened_by, left_by}
use Rattle.register_laws.specs.History.{Sort, acceptance_of, discard_of, count_since, CountsSince, last_written, of_chosen, Reads, ReadsTell, CountsTell}
use Rattle.register_laws.proofs.FollowLaws.{call_follows, list_follows, whole_short}
use Rattle.register_laws.proofs.OpenedLaws.{opened_whole, opened_opened, opened_fit, opened_long}
use Rattle.register_laws.proofs.Histories.{accepted_counts, discarded_counts, sent_counts, mask_kept, choice_kept}

-- an open port with a fit record and its memory
record Ready (p m : List ℕ) : Type 0 where
  opened : open_at p ≡ true
  fit : record_fits p m ≡ true
  long : HasMemory p m

-- stays so through calls one after the other
stays_ready : (cs : List Call) (x : Outcome) → Ready x.port x.memory → Ready (in_turn called x cs).port (in_turn called x cs).memory
stays_ready [] x ready = ready
stays_ready (c ∷ cs) x ready =
    stays_ready cs (called c x.port x.memory)
    (record {
      opened = stays_open c x.port x.memory ready.opened;
      fit = stays_fit c x.port x.memory ready.fit;
      long = stays_long c x.port x.memory ready.opened ready.long;
    })

-- the mark of the record's part is that of the slice
open_part : (p : List ℕ) → open_at (record_part p) ≡ open_at p
unfolding open_at
open_part p = ap (λ (n : ℕ). eqb n 1) (get_or-take record_length p 0 0 (omega arith))

module _ (l : UseList) where
  abbrev left : List ℕ
  left = (left_by l).port

  abbrev left_memory : List ℕ
  left_memory = (left_by l).memory

  -- the list leaves such a port,
  ready : Ready (record_part left) left_memory
  ready =
      let begins = call_follows l.port l.memory (opened_whole l) (opening l.terms) in
      let f = list_follows l.later (opened_by l).port (opened_by l).memory begins.whole in
      let start : Ready (record_part (opened_by l).port) (opened_by l).memory = record { opened = opened_opened l; fit = opened_fit l; long = opened_long l } in
      let after = stays_ready (all_calls l.later) (lent (record_part (opened_by l).port) (opened_by l).memory) start in
      record {
        opened = ap open_at f.same_record ∙ after.opened;
        fit = ap₂ record_fits f.same_record f.same_memory ∙ after.fit;
        long = omega (arith, ap queues_at f.same_record, ap length f.same_memory, after.long);
      }

  whole_left : WholePort left
  whole_left =
      let begins = call_follows l.port l.memory (opened_whole l) (opening l.terms) in
      (list_follows l.later (opened_by l).port (opened_by l).memory begins.whole).whole

  not_refused : port_refusal lent_refusal left left_memory ≡ 0
  not_refused =
      sym (lent_else lent_refusal left left_memory (short_refusal left left_memory) 0 (whole_short left left_memory whole_left) refl
      (sym (fit_lent (record_part left) left_memory ready.long ready.fit)))

  -- so a read at a register's offset is granted
  reads : (offset number : ℕ) → offset_refusal offset ≡ 0 → register_at true (block_part left) offset ≡ number → Reads l offset number
  unfolding read_by
  reads offset number inside shows =
      let shown = register_at (open_at left) (block_part left) offset in
      let done = outcome (granted shown 0) left left_memory in
      grants (offset_refusal offset) left left_memory (gated (port_refusal lent_refusal left left_memory) left left_memory done) inside
      ∙ grants (port_refusal lent_refusal left left_memory) left left_memory done not_refused
      ∙ ap (λ (n : ℕ). outcome (granted n 0) left left_memory) (ap (λ (b : Bool). register_at b (block_part left) offset) (sym (open_part left) ∙ ready.opened) ∙ shows)

  -- the counts of the chosen stream are those since it began
  chosen_count : (octet : ℕ → ℕ) (test : ℕ → Sort → Reply → Bool) → CountsSince octet test → shown_count octet (block_part left) ≡ of_chosen l (count_since test l)
  unfolding shown_count
  chosen_count octet test counts = ap shown_of (choice_kept l) ∙ by_test (ltb (last_written choice_offset l) stream_count) refl
    where
      shown_of : ℕ → ℕ
      shown_of s = cond (ltb s stream_count) (word_at (block_part left) (octet s)) 0

      by_test : (b : Bool) → ltb (last_written choice_offset l) stream_count ≡ b
          → cond b (word_at (block_part left) (octet (last_written choice_offset l))) 0 ≡ cond b (count_since test l (last_written choice_offset l)) 0
      by_test true t = counts l (last_written choice_offset l) (ltb-true (last_written choice_offset l) stream_count t)
      by_test false t = refl

  pub reads_tell : ReadsTell l
  unfolding offset_refusal register_at
  reads_tell =
      record {
        control = reads control_offset 0 refl refl;
        status = reads status_offset _ refl refl;
        flags = reads flags_offset _ refl refl;
        mask = reads mask_offset _ refl (mask_kept l);
        accepted = reads accepted_offset _ refl (chosen_count accepted_octet acceptance_of accepted_counts);
        discarded = reads discarded_offset _ refl (chosen_count discarded_octet discard_of discarded_counts);
        sent = reads sent_offset _ refl (sent_counts l);
        choice = reads choice_offset _ refl (choice_kept l);
      }

  pub counts_tell : CountsTell l
  counts_tell s below = sym (counts_stream_of s left (granted (count_since acceptance_of l s) (count_since discard_of l s)) whole_left below (sym (ap₂ granted (accepted_counts l s below) (discarded_counts l s below))))
