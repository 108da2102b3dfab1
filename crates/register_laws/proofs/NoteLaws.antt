-- What a happening does to the block's length. Assumes nothing.
use Prim.Native.Nat.{ℕ}
use mathlib.Core.Path.{◌≡◌, refl, ◌∙◌}
use mathlib.Core.Bool.{Bool, true, false, cond}
use mathlib.Core.List.{List, [], ◌∷◌}
use lib.ListN.{length}
use lib.Dec.{eqb}
use Rattle.stream.specs.declared.Reply.{Reply}
use Rattle.steps.specs.Call.{Call, opening, reserving, withdrawing, arriving, ticking, transmitting, joining_best_effort, binding, framing}
use Rattle.sending.specs.Sending.{nothing}
use Rattle.register_block.specs.Layout.{sent_octet, purge_flag, nothing_flag}
use Rattle.register_block.specs.Events.{accepted, discarded, withdrawn, purged, sent, sent_nothing, zeroed}
use Rattle.register_block.proofs.BlockLaws.{length_flag, length_raised, length_zeroed, length_accepted, length_discarded, length_withdrawn}
use Rattle.register_block.proofs.WrittenLaws.{length_written}
use Rattle.registers.specs.Notes.{open_noted, withdraw_noted, arrival_noted, tick_noted, transmit_noted, noted}
use Rattle.register_laws.specs.Happenings.{Happening, replied, written, note, noted_all}

-- what is true of both is true of whichever a test chooses
pub either_block : (G : List ℕ → Type 0) (t : Bool) (x y : List ℕ) → G x → G y → G (cond t x y)
either_block G true x y g h = g
either_block G false x y g h = h

module _ (G : List ℕ → Type 0) (b : List ℕ) (same : G b) where
  -- each call's note is one of these changes, or none
  pub by_note : (c : Call) (r : Reply) → G (zeroed b) → ((i : ℕ) → G (withdrawn i b)) → ((i : ℕ) → G (accepted i b)) → ((i : ℕ) → G (discarded i b)) → G (purged b)
      → G (sent b) → G (sent_nothing b) → G (noted c r b)
  unfolding open_noted withdraw_noted arrival_noted tick_noted transmit_noted
  by_note (opening t) r z w a d p s n = either_block G (eqb r.refusal 0) _ _ z same
  by_note (reserving i permitted) r z w a d p s n = same
  by_note (withdrawing i) r z w a d p s n = either_block G (eqb r.refusal 0) _ _ (w i) same
  by_note (arriving i charge tag) r z w a d p s n = either_block G (eqb r.refusal 0) _ _ (a i) (either_block G (eqb r.refusal 14) _ _ (d i) same)
  by_note ticking r z w a d p s n = either_block G (eqb r.refusal 0) _ _ (either_block G (eqb r.first 0) _ _ same p) same
  by_note transmitting r z w a d p s n = either_block G (eqb r.refusal 0) _ _ (either_block G (eqb r.first nothing) _ _ n s) same
  by_note (joining_best_effort charge tag) r z w a d p s n = same
  by_note (binding i address vid) r z w a d p s n = same
  by_note (framing octets tag) r z w a d p s n = same

pub length_noted : (c : Call) (r : Reply) (b : List ℕ) → length (noted c r b) ≡ length b
length_noted c r b =
    by_note (λ l. length l ≡ length b) b refl c r (length_zeroed b) (λ i. length_withdrawn i b) (λ i. length_accepted i b) (λ i. length_discarded i b)
    (length_flag b purge_flag) (length_raised b sent_octet) (length_flag b nothing_flag)

-- every happening, and a list of them
pub length_note : (h : Happening) (b : List ℕ) → length (note h b) ≡ length b
length_note (replied c r) b = length_noted c r b
length_note (written offset number) b = length_written offset number b

pub length_noted_all : (hs : List Happening) (b : List ℕ) → length (noted_all hs b) ≡ length b
length_noted_all [] b = refl
length_noted_all (h ∷ hs) b = length_noted_all hs (note h b) ∙ length_note h b
