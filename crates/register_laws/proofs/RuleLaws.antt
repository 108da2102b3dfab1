-- What a call does to one field of the block: it starts anew, moves on at a reply of its own sort, and is kept by every other. A law for each call that
-- notes something, over any field, of any type, and any stream. Assumes nothing.
use Prim.Native.Nat.{ℕ}
use mathlib.Core.Path.{◌≡◌, refl, sym, ap, ◌∙◌}
use mathlib.Core.Bool.{Bool, true, false, not, cond, ◌&&◌}
use mathlib.Core.Logic.{⊎_elim}
use mathlib.Core.List.{List}
use lib.Dec.{eqb}
use borrow.Author.Tests.{eq-eqb, ne_eqb}
use Rattle.lists.proofs.Order.{eq_or_not}
use Rattle.stream.specs.declared.Reply.{Reply}
use Rattle.steps.specs.Call.{Call, opening, reserving, withdrawing, arriving, ticking, transmitting, joining_best_effort, binding, framing}
use Rattle.sending.specs.Sending.{nothing}
use Rattle.register_block.specs.Events.{accepted, discarded, withdrawn, purged, sent, sent_nothing, zeroed}
use Rattle.registers.specs.Notes.{open_noted, withdraw_noted, arrival_noted, tick_noted, transmit_noted, noted}
use Rattle.register_laws.specs.History.{Sort, opens, withdraws, arrives, ticks, transmits, others, sort_of}

-- the block after a call, by what the call is to the registers
abbrev noted_by : Sort → Reply → List ℕ → List ℕ
noted_by opens r b = open_noted r.refusal b
noted_by (withdraws i) r b = withdraw_noted i r.refusal b
noted_by (arrives i) r b = arrival_noted i r.refusal b
noted_by ticks r b = tick_noted r.refusal r.first b
noted_by transmits r b = transmit_noted r.refusal r.first b
noted_by others r b = b

by_sort : (c : Call) (r : Reply) (b : List ℕ) → noted c r b ≡ noted_by (sort_of c) r b
by_sort (opening t) r b = refl
by_sort (reserving s permitted) r b = refl
by_sort (withdrawing s) r b = refl
by_sort (arriving s charge tag) r b = refl
by_sort ticking r b = refl
by_sort transmitting r b = refl
by_sort (joining_best_effort charge tag) r b = refl
by_sort (binding s address vid) r b = refl
by_sort (framing octets tag) r b = refl

module _ {A : Type 0} (f : List ℕ → A) (b : List ℕ) where
  -- the field after every call, where it is known after each that notes something
  pub told_by_lem : (G : Sort → Reply → A) → ((r : Reply) → f (open_noted r.refusal b) ≡ G opens r)
      → ((i : ℕ) (r : Reply) → f (withdraw_noted i r.refusal b) ≡ G (withdraws i) r)
      → ((i : ℕ) (r : Reply) → f (arrival_noted i r.refusal b) ≡ G (arrives i) r)
      → ((r : Reply) → f (tick_noted r.refusal r.first b) ≡ G ticks r)
      → ((r : Reply) → f (transmit_noted r.refusal r.first b) ≡ G transmits r)
      → ((r : Reply) → f b ≡ G others r) → (c : Call) (r : Reply) → f (noted c r b) ≡ G (sort_of c) r
  told_by_lem G o w a t x n c r = ap f (by_sort c r b) ∙ told (sort_of c)
    where
      told : (k : Sort) → f (noted_by k r b) ≡ G k r
      told opens = o r
      told (withdraws i) = w i r
      told (arrives i) = a i r
      told ticks = t r
      told transmits = x r
      told others = n r

  -- an Open starts it anew
  pub at_open : (start : A) → f (zeroed b) ≡ start → (r : Reply) → f (open_noted r.refusal b) ≡ cond (eqb r.refusal 0) start (f b)
  unfolding open_noted
  at_open start anew r = by_test (eqb r.refusal 0)
    where
      by_test : (t : Bool) → f (cond t (zeroed b) b) ≡ cond t start (f b)
      by_test true = anew
      by_test false = refl

  -- whichever of two fields is kept
  kept_either : (t : Bool) (x y : List ℕ) → f x ≡ f b → f y ≡ f b → f (cond t x y) ≡ f b
  kept_either true x y e k = e
  kept_either false x y e k = k

  -- a call that does nothing to the field
  pub withdraw_keeps : ((i : ℕ) → f (withdrawn i b) ≡ f b) → (i : ℕ) (r : Reply) → f (withdraw_noted i r.refusal b) ≡ f b
  unfolding withdraw_noted
  withdraw_keeps w i r = kept_either (eqb r.refusal 0) _ _ (w i) refl

  arrival_keeps_at : (i : ℕ) → f (accepted i b) ≡ f b → f (discarded i b) ≡ f b → (r : Reply) → f (arrival_noted i r.refusal b) ≡ f b
  unfolding arrival_noted
  arrival_keeps_at i a d r = kept_either (eqb r.refusal 0) _ _ a (kept_either (eqb r.refusal 14) _ _ d refl)

  pub arrival_keeps : ((i : ℕ) → f (accepted i b) ≡ f b) → ((i : ℕ) → f (discarded i b) ≡ f b) → (i : ℕ) (r : Reply) → f (arrival_noted i r.refusal b) ≡ f b
  arrival_keeps a d i r = arrival_keeps_at i (a i) (d i) r

  pub tick_keeps : f (purged b) ≡ f b → (r : Reply) → f (tick_noted r.refusal r.first b) ≡ f b
  unfolding tick_noted
  tick_keeps p r = kept_either (eqb r.refusal 0) _ _ (kept_either (eqb r.first 0) _ _ refl p) refl

  pub transmit_keeps : f (sent b) ≡ f b → f (sent_nothing b) ≡ f b → (r : Reply) → f (transmit_noted r.refusal r.first b) ≡ f b
  unfolding transmit_noted
  transmit_keeps s n r = kept_either (eqb r.refusal 0) _ _ (kept_either (eqb r.first nothing) _ _ n s) refl

  module _ (next : A) where
    -- an arrival, by the reply that is told: accepted, or discarded
    accepts : (i : ℕ) → f (accepted i b) ≡ next → f (discarded i b) ≡ f b → (r : Reply) → f (arrival_noted i r.refusal b) ≡ cond (eqb r.refusal 0) next (f b)
    unfolding arrival_noted
    accepts i a d r = by_tests (eqb r.refusal 0) (eqb r.refusal 14)
      where
        by_tests : (t u : Bool) → f (cond t (accepted i b) (cond u (discarded i b) b)) ≡ cond t next (f b)
        by_tests true u = a
        by_tests false u = kept_either u _ _ d refl

    pub discards : (i : ℕ) → f (accepted i b) ≡ f b → f (discarded i b) ≡ next → (r : Reply) → f (arrival_noted i r.refusal b) ≡ cond (eqb r.refusal 14) next (f b)
    unfolding arrival_noted
    discards i a d r =
        ⊎_elim
        (λ (zero : r.refusal ≡ 0). ap (λ (n : ℕ). f (cond (eqb n 0) (accepted i b) (cond (eqb n 14) (discarded i b) b))) zero ∙ a ∙ ap (λ (n : ℕ). cond (eqb n 14) next (f b)) (sym zero))
        (λ (some : r.refusal ≡ 0 → ⊥). ap (λ (t : Bool). f (cond t (accepted i b) (cond (eqb r.refusal 14) (discarded i b) b))) (ne_eqb r.refusal 0 some) ∙ by_test (eqb r.refusal 14))
        (eq_or_not r.refusal 0)
      where
        by_test : (u : Bool) → f (cond u (discarded i b) b) ≡ cond u next (f b)
        by_test true = d
        by_test false = refl

    -- a Tick
    pub ticks_purged : f (purged b) ≡ next → (r : Reply) → f (tick_noted r.refusal r.first b) ≡ cond (eqb r.refusal 0 && not (eqb r.first 0)) next (f b)
    unfolding tick_noted
    ticks_purged p r = by_tests (eqb r.refusal 0) (eqb r.first 0)
      where
        by_tests : (t u : Bool) → f (cond t (cond u b (purged b)) b) ≡ cond (t && not u) next (f b)
        by_tests true true = refl
        by_tests true false = p
        by_tests false u = refl

    -- a Transmit
    pub transmits_sent : f (sent b) ≡ next → f (sent_nothing b) ≡ f b → (r : Reply)
        → f (transmit_noted r.refusal r.first b) ≡ cond (eqb r.refusal 0 && not (eqb r.first nothing)) next (f b)
    unfolding transmit_noted
    transmits_sent s n r = by_tests (eqb r.refusal 0) (eqb r.first nothing)
      where
        by_tests : (t u : Bool) → f (cond t (cond u (sent_nothing b) (sent b)) b) ≡ cond (t && not u) next (f b)
        by_tests true true = n
        by_tests true false = s
        by_tests false u = refl

    pub transmits_nothing : f (sent b) ≡ f b → f (sent_nothing b) ≡ next → (r : Reply)
        → f (transmit_noted r.refusal r.first b) ≡ cond (eqb r.refusal 0 && eqb r.first nothing) next (f b)
    unfolding transmit_noted
    transmits_nothing s n r = by_tests (eqb r.refusal 0) (eqb r.first nothing)
      where
        by_tests : (t u : Bool) → f (cond t (cond u (sent_nothing b) (sent b)) b) ≡ cond (t && u) next (f b)
        by_tests true true = n
        by_tests true false = s
        by_tests false u = refl

    -- a field of stream s: calls that name another stream keep it
    module _ (s : ℕ) where
      by_stream : (i : ℕ) (x t : Bool) (y : A) → (i ≡ s → y ≡ cond t next (f b)) → ((i ≡ s → ⊥) → y ≡ f b) → x ≡ eqb i s → y ≡ cond (x && t) next (f b)
      by_stream i x t y own other is =
          ⊎_elim
          (λ (e : i ≡ s). rw (is ∙ eq-eqb i s e) (own e))
          (λ (o : i ≡ s → ⊥). rw (is ∙ ne_eqb i s o) (other o))
          (eq_or_not i s)

      pub stream_accepts : f (accepted s b) ≡ next → ((i : ℕ) → (i ≡ s → ⊥) → f (accepted i b) ≡ f b) → ((i : ℕ) → f (discarded i b) ≡ f b)
          → (i : ℕ) (r : Reply) → f (arrival_noted i r.refusal b) ≡ cond (eqb i s && eqb r.refusal 0) next (f b)
      stream_accepts a o d i r =
          by_stream i (eqb i s) (eqb r.refusal 0) _ (λ e. accepts i (ap (λ (k : ℕ). f (accepted k b)) e ∙ a) (d i) r) (λ n. arrival_keeps_at i (o i n) (d i) r) refl

      pub stream_discards : f (discarded s b) ≡ next → ((i : ℕ) → (i ≡ s → ⊥) → f (discarded i b) ≡ f b) → ((i : ℕ) → f (accepted i b) ≡ f b)
          → (i : ℕ) (r : Reply) → f (arrival_noted i r.refusal b) ≡ cond (eqb i s && eqb r.refusal 14) next (f b)
      stream_discards d o a i r =
          by_stream i (eqb i s) (eqb r.refusal 14) _ (λ e. discards i (a i) (ap (λ (k : ℕ). f (discarded k b)) e ∙ d) r) (λ n. arrival_keeps_at i (a i) (o i n) r) refl

      -- and a withdrawal of it starts it anew
      pub stream_anew : f (withdrawn s b) ≡ next → ((i : ℕ) → (i ≡ s → ⊥) → f (withdrawn i b) ≡ f b)
          → (i : ℕ) (r : Reply) → f (withdraw_noted i r.refusal b) ≡ cond (eqb i s && eqb r.refusal 0) next (f b)
      unfolding withdraw_noted
      stream_anew w o i r =
          by_stream i (eqb i s) (eqb r.refusal 0) _ (λ e. by_test (eqb r.refusal 0) (ap (λ (k : ℕ). f (withdrawn k b)) e ∙ w))
          (λ n. kept_either (eqb r.refusal 0) _ _ (o i n) refl) refl
        where
          by_test : (t : Bool) → f (withdrawn i b) ≡ next → f (cond t (withdrawn i b) b) ≡ cond t next (f b)
          by_test true e = e
          by_test false e = refl
