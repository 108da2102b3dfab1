-- What a happening does to each field of the block, by what it does to the block. Assumes nothing.
use Prim.Native.Nat.{ℕ, ◌+◌, ◌%◌, ◌^◌, ◌≤◌, ◌<◌}
use mathlib.Core.Path.{◌≡◌, refl}
use mathlib.Core.Bool.{Bool, true, false, cond}
use mathlib.Core.Logic.{◌⊎◌, inl, inr, ⊎_elim}
use mathlib.Core.List.{List, [], ◌∷◌}
use native.Mathlib.Omega.{arith}
use Rattle.stream.specs.declared.Reply.{Reply}
use Rattle.record.specs.Layout.{stream_count}
use Rattle.steps.specs.Call.{Call}
use Rattle.register_block.specs.Layout.{WholeBlock, mask_offset, choice_offset, discard_flag, purge_flag, nothing_flag, flag_count, mask_octet, sent_octet, choice_octet, accepted_octet, discarded_octet}
use Rattle.register_block.specs.Fields.{word_at, flag_at}
use Rattle.register_block.proofs.BlockLaws.{word_raised, word_raised_apart, word_flag, word_zeroed, flag_zeroed, flag_flag, flag_other, flag_raised, word_accepted, word_discarded, accepted_withdrawn, discarded_withdrawn, accepted_apart, discarded_apart, withdrawn_apart, flag_accepted, flag_discarded, flag_withdrawn, discarded_flag}
use Rattle.register_block.proofs.WrittenLaws.{word_written, flag_written, mask_written, choice_written}
use Rattle.registers.specs.Notes.{arrival_noted, withdraw_noted, noted}
use Rattle.register_laws.specs.Happenings.{Happening, replied, written, note}
use Rattle.register_laws.specs.History.{Sort, granted_open, beginning, acceptance_of, discard_of, discard, purge, sending, nothing_sent, sort_of, is_reply, clears, last_from}
use Rattle.register_laws.proofs.RuleLaws.{told_by_lem, at_open, withdraw_keeps, arrival_keeps, tick_keeps, transmit_keeps, discards, ticks_purged, transmits_sent, transmits_nothing, stream_accepts, stream_discards, stream_anew}

-- a counter, which begins anew at replies of the first sort and counts those of the second; a flag; and a word that is kept as written
abbrev pub Counter : ℕ → (Sort → Reply → Bool) → (Sort → Reply → Bool) → Type 0
Counter octet starts test =
    (h : Happening) (b : List ℕ) → WholeBlock b
    → word_at (note h b) octet ≡ cond (is_reply starts h) 0 (cond (is_reply test h) ((word_at b octet + 1) % 2 ^ 32) (word_at b octet))

abbrev pub Flag : ℕ → (Sort → Reply → Bool) → Type 0
Flag flag test =
    (h : Happening) (b : List ℕ) → WholeBlock b → flag_at (note h b) flag ≡ cond (clears flag h) false (cond (is_reply test h) true (flag_at b flag))

abbrev pub Written : ℕ → ℕ → Type 0
Written octet offset = (h : Happening) (b : List ℕ) → WholeBlock b → word_at (note h b) octet ≡ last_from offset (word_at b octet) (h ∷ [])

-- the counts of a stream
module _ (s : ℕ) (below : s < stream_count) where
  pub accepted_counter : Counter (accepted_octet s) (beginning s) (acceptance_of s)
  accepted_counter (replied c r) b whole =
      let f : List ℕ → ℕ = λ l. word_at l (accepted_octet s) in
      let next = (word_at b (accepted_octet s) + 1) % 2 ^ 32 in
      told_by_lem f b (λ k x. cond (beginning s k x) 0 (cond (acceptance_of s k x) next (f b)))
      (at_open f b 0 (word_zeroed b (accepted_octet s) whole (omega (arith, below))))
      (stream_anew f b 0 s (accepted_withdrawn s b below whole) (λ i o. withdrawn_apart i b (accepted_octet s) (λ k x y u v. o (omega arith)) (λ k x y u v. omega arith)))
      (stream_accepts f b next s (word_accepted s b below whole) (λ i o. accepted_apart i b (accepted_octet s) (λ k x y u v. o (omega arith)))
      (λ i. discarded_apart i b (accepted_octet s) (omega arith) (λ k x y u v. omega arith)))
      (tick_keeps f b (word_flag b (accepted_octet s) purge_flag (omega arith)))
      (transmit_keeps f b (word_raised_apart b (accepted_octet s) sent_octet (λ k x y u v. omega arith)) (word_flag b (accepted_octet s) nothing_flag (omega arith)))
      (λ x. refl) c r
  accepted_counter (written offset number) b whole =
      word_written offset number b (accepted_octet s) (omega arith) (λ k x y u v. omega arith) (λ k x y u v. omega arith)

  pub discarded_counter : Counter (discarded_octet s) (beginning s) (discard_of s)
  discarded_counter (replied c r) b whole =
      let f : List ℕ → ℕ = λ l. word_at l (discarded_octet s) in
      let next = (word_at b (discarded_octet s) + 1) % 2 ^ 32 in
      told_by_lem f b (λ k x. cond (beginning s k x) 0 (cond (discard_of s k x) next (f b)))
      (at_open f b 0 (word_zeroed b (discarded_octet s) whole (omega (arith, below))))
      (stream_anew f b 0 s (discarded_withdrawn s b below whole) (λ i o. withdrawn_apart i b (discarded_octet s) (λ k x y u v. omega arith) (λ k x y u v. o (omega arith))))
      (stream_discards f b next s (word_discarded s b below whole)
      (λ i o. discarded_apart i b (discarded_octet s) (omega arith) (λ k x y u v. o (omega arith)))
      (λ i. accepted_apart i b (discarded_octet s) (λ k x y u v. omega arith)))
      (tick_keeps f b (word_flag b (discarded_octet s) purge_flag (omega arith)))
      (transmit_keeps f b (word_raised_apart b (discarded_octet s) sent_octet (λ k x y u v. omega arith)) (word_flag b (discarded_octet s) nothing_flag (omega arith)))
      (λ x. refl) c r
  discarded_counter (written offset number) b whole =
      word_written offset number b (discarded_octet s) (omega arith) (λ k x y u v. omega arith) (λ k x y u v. omega arith)

-- a word between the flags and the counts of the streams is kept by arrivals, withdrawals and ticks
module _ (at : ℕ) (high : flag_count ≤ at) (low : at + 4 ≤ accepted_octet 0) (b : List ℕ) where
  low_withdraws : (i : ℕ) (r : Reply) → word_at (withdraw_noted i r.refusal b) at ≡ word_at b at
  low_withdraws = withdraw_keeps (λ l. word_at l at) b (λ i. withdrawn_apart i b at (λ k x y u v. omega (arith, low)) (λ k x y u v. omega (arith, low)))

  low_arrivals : (i : ℕ) (r : Reply) → word_at (arrival_noted i r.refusal b) at ≡ word_at b at
  low_arrivals =
      arrival_keeps (λ l. word_at l at) b (λ i. accepted_apart i b at (λ k x y u v. omega (arith, low)))
      (λ i. discarded_apart i b at (omega (arith, high)) (λ k x y u v. omega (arith, low)))

  -- and by transmits, where the frames sent are not counted in it: only an Open changes it
  low_kept : WholeBlock b → (at + 4 ≤ sent_octet) ⊎ (sent_octet + 4 ≤ at) → (c : Call) (r : Reply) → word_at (noted c r b) at ≡ cond (granted_open (sort_of c) r) 0 (word_at b at)
  low_kept whole apart =
      let f : List ℕ → ℕ = λ l. word_at l at in
      told_by_lem f b (λ k x. cond (granted_open k x) 0 (f b))
      (at_open f b 0 (word_zeroed b at whole (omega (arith, low))))
      low_withdraws low_arrivals
      (tick_keeps f b (word_flag b at purge_flag (omega (arith, high))))
      (transmit_keeps f b (word_raised_apart b at sent_octet (λ k x y u v. ⊎_elim (λ h. omega arith) (λ h. omega arith) apart)) (word_flag b at nothing_flag (omega (arith, high))))
      (λ x. refl)

-- the count of the frames sent
pub sent_counter : Counter sent_octet granted_open sending
sent_counter (replied c r) b whole =
    let f : List ℕ → ℕ = λ l. word_at l sent_octet in
    let next = (word_at b sent_octet + 1) % 2 ^ 32 in
    told_by_lem f b (λ k x. cond (granted_open k x) 0 (cond (sending k x) next (f b)))
    (at_open f b 0 (word_zeroed b sent_octet whole (omega arith)))
    (low_withdraws sent_octet (omega arith) (omega arith) b) (low_arrivals sent_octet (omega arith) (omega arith) b)
    (tick_keeps f b (word_flag b sent_octet purge_flag (omega arith)))
    (transmits_sent f b next (word_raised b sent_octet (omega (arith, whole))) (word_flag b sent_octet nothing_flag (omega arith)))
    (λ x. refl) c r
sent_counter (written offset number) b whole =
    word_written offset number b sent_octet (omega arith) (λ k x y u v. omega arith) (λ k x y u v. omega arith)

-- the mask and the choice
pub mask_rule : Written mask_octet mask_offset
mask_rule (replied c r) b whole = low_kept mask_octet (omega arith) (omega arith) b whole (inl (omega arith)) c r
mask_rule (written offset number) b whole = mask_written offset number b whole

pub choice_rule : Written choice_octet choice_offset
choice_rule (replied c r) b whole = low_kept choice_octet (omega arith) (omega arith) b whole (inr (omega arith)) c r
choice_rule (written offset number) b whole = choice_written offset number b whole

-- the flags, each kept by withdrawals and acceptances
module _ (flag : ℕ) (low : flag < flag_count) (b : List ℕ) where
  flag_withdraws : (i : ℕ) (r : Reply) → flag_at (withdraw_noted i r.refusal b) flag ≡ flag_at b flag
  flag_withdraws = withdraw_keeps (λ l. flag_at l flag) b (λ i. flag_withdrawn i b flag (omega (arith, low)))

  flag_arrivals : (flag ≡ discard_flag → ⊥) → (i : ℕ) (r : Reply) → flag_at (arrival_noted i r.refusal b) flag ≡ flag_at b flag
  flag_arrivals other =
      arrival_keeps (λ l. flag_at l flag) b (λ i. flag_accepted i b flag (omega (arith, low))) (λ i. flag_discarded i b flag (omega (arith, low)) other)

pub discard_flag_lem : Flag discard_flag discard
discard_flag_lem (replied c r) b whole =
    let f : List ℕ → Bool = λ l. flag_at l discard_flag in
    told_by_lem f b (λ k x. cond (granted_open k x) false (cond (discard k x) true (f b)))
    (at_open f b false (flag_zeroed b discard_flag whole (omega arith)))
    (flag_withdraws discard_flag (omega arith) b)
    (λ i. discards f b true i (flag_accepted i b discard_flag (omega arith)) (discarded_flag i b whole))
    (tick_keeps f b (flag_other b discard_flag purge_flag (λ e. omega arith)))
    (transmit_keeps f b (flag_raised b discard_flag sent_octet (omega arith)) (flag_other b discard_flag nothing_flag (λ e. omega arith)))
    (λ x. refl) c r
discard_flag_lem (written offset number) b whole = flag_written offset number b discard_flag (omega arith) whole

pub purge_flag_lem : Flag purge_flag purge
purge_flag_lem (replied c r) b whole =
    let f : List ℕ → Bool = λ l. flag_at l purge_flag in
    told_by_lem f b (λ k x. cond (granted_open k x) false (cond (purge k x) true (f b)))
    (at_open f b false (flag_zeroed b purge_flag whole (omega arith)))
    (flag_withdraws purge_flag (omega arith) b) (flag_arrivals purge_flag (omega arith) b (λ e. omega arith))
    (ticks_purged f b true (flag_flag b purge_flag (omega (arith, whole))))
    (transmit_keeps f b (flag_raised b purge_flag sent_octet (omega arith)) (flag_other b purge_flag nothing_flag (λ e. omega arith)))
    (λ x. refl) c r
purge_flag_lem (written offset number) b whole = flag_written offset number b purge_flag (omega arith) whole

pub nothing_flag_lem : Flag nothing_flag nothing_sent
nothing_flag_lem (replied c r) b whole =
    let f : List ℕ → Bool = λ l. flag_at l nothing_flag in
    told_by_lem f b (λ k x. cond (granted_open k x) false (cond (nothing_sent k x) true (f b)))
    (at_open f b false (flag_zeroed b nothing_flag whole (omega arith)))
    (flag_withdraws nothing_flag (omega arith) b) (flag_arrivals nothing_flag (omega arith) b (λ e. omega arith))
    (tick_keeps f b (flag_other b nothing_flag purge_flag (λ e. omega arith)))
    (transmits_nothing f b true (flag_raised b nothing_flag sent_octet (omega arith)) (flag_flag b nothing_flag (omega (arith, whole))))
    (λ x. refl) c r
nothing_flag_lem (written offset number) b whole = flag_written offset number b nothing_flag (omega arith) whole
