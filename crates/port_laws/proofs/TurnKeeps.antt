-- What one stream's tick writes of its draining, by its count; and what the writes of a stream's tick keep, the tick keeps. Assumes nothing.
use Prim.Native.Nat.{ℕ, ◌-◌}
use mathlib.Core.Bool.{Bool, true, false, cond}
use mathlib.Core.Path.{◌≡◌}
use mathlib.Core.List.{List}
use native.Mathlib.Omega.{arith}
use borrow.Author.Tests.{eq-eqb, ne_eqb}
use lib.Dec.{eqb}
use Rattle.stream.specs.Steps.{tick_of}
use Rattle.record.specs.Entry.{stream_at, with_place, drain_at, with_drain, dropped}
use Rattle.steps.specs.Moves.{moved}
use Rattle.ticking.specs.Ticking.{drained_at, ticked_at}

-- nothing at 0, the stream dropped at 1, and one less at any other
module _ (s : ℕ) (l : List ℕ) where
  pub drained_none : drain_at l s ≡ 0 → drained_at s l ≡ l
  unfolding drained_at
  drained_none none = rw (eq-eqb (drain_at l s) 0 none)

  pub drained_last : drain_at l s ≡ 1 → drained_at s l ≡ dropped l s
  unfolding drained_at
  drained_last last = rw (ne_eqb (drain_at l s) 0 (λ e. omega arith), eq-eqb (drain_at l s) 1 last)

  pub drained_more : (drain_at l s ≡ 0 → ⊥) → (drain_at l s ≡ 1 → ⊥) → drained_at s l ≡ with_drain l s (drain_at l s - 1)
  unfolding drained_at
  drained_more some more = rw (ne_eqb (drain_at l s) 0 some, ne_eqb (drain_at l s) 1 more)

module _ (G : List ℕ → Type 0) (s : ℕ) (drop : (l : List ℕ) → G l → G (dropped l s)) (drain : (l : List ℕ) → G l → G (with_drain l s (drain_at l s - 1))) where
  pub drained_keeps : (l : List ℕ) → G l → G (drained_at s l)
  unfolding drained_at
  drained_keeps l g = told (eqb (drain_at l s) 0) (eqb (drain_at l s) 1)
    where
      told : (none last : Bool) → G (cond none l (cond last (dropped l s) (with_drain l s (drain_at l s - 1))))
      told true last = g
      told false true = drop l g
      told false false = drain l g

  pub ticked_keeps : ((l : List ℕ) (place left : ℕ) → G l → G (with_place l s place left)) → (l : List ℕ) → G l → G (ticked_at s l)
  ticked_keeps place l g = told (stream_at l s).reserved
    where
      told : (b : Bool) → G (cond b (drained_at s (moved l s (tick_of (stream_at l s)))) l)
      told true = drained_keeps (moved l s (tick_of (stream_at l s))) (place l _ _ g)
      told false = g
