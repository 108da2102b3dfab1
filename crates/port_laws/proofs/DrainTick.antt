-- What a tick does to a stream that drains: it brings it a tick nearer to its freedom, and at the last of them the stream is free and unbound. Assumes
-- nothing.
use Prim.Native.Nat.{ℕ, ◌-◌, ◌<◌}
use mathlib.Core.Path.{◌≡◌, sym, ap, subst, ◌∙◌}
use mathlib.Core.Bool.{Bool, true, false, cond}
use mathlib.Core.List.{List}
use native.Mathlib.Omega.{arith}
use Rattle.stream.specs.declared.Stream.{Stream}
use Rattle.stream.specs.Steps.{tick_of}
use Rattle.record.specs.Layout.{Whole, stream_count}
use Rattle.record.specs.Entry.{stream_at, drain_at, bound_at, vid_at, address_at}
use Rattle.record.proofs.EntryPairs.{stream_place}
use Rattle.record.proofs.KeepLaws.{Keeps, keeps_place, keeps_drain}
use Rattle.record.proofs.DropPairs.{stream_dropped, bound_dropped}
use Rattle.record.proofs.DrainPairs.{drain_drain, stream_drain, drain_place}
use Rattle.record.proofs.BesideLaws.{Beside, beside_stream, beside_drain, beside_bound, beside_vid, beside_address}
use Rattle.steps.specs.Moves.{moved}
use Rattle.ticking.specs.Ticking.{drained_at, ticked_at, ticked_record}
use Rattle.port_laws.proofs.TurnKeeps.{drained_more, drained_last}
use Rattle.port_laws.proofs.TurnBeside.{at_turn, at_turn_lem, at_turn_whole, after_turn}

-- of stream s record k has P and the binding as record l has them, it is reserved, and it drains for so many ticks
pub record DrainsFor (s ticks : ℕ) (l k : List ℕ) : Type 0 where
  pub reserved : (stream_at k s).reserved ≡ true
  pub permitted : (stream_at k s).permitted ≡ (stream_at l s).permitted
  pub drain : drain_at k s ≡ ticks
  pub bound : bound_at k s ≡ bound_at l s
  pub vid : vid_at k s ≡ vid_at l s
  pub address : address_at k s ≡ address_at l s

-- it is neither reserved nor bound
pub record Freed (s : ℕ) (k : List ℕ) : Type 0 where
  pub reserved : (stream_at k s).reserved ≡ false
  pub bound : bound_at k s ≡ false

-- a write beside the stream's entry keeps either
module _ (s : ℕ) (j k : List ℕ) (beside : Beside s j k) where
  pub beside_drains : (ticks : ℕ) (l : List ℕ) → DrainsFor s ticks l j → DrainsFor s ticks l k
  beside_drains ticks l d =
      record {
        reserved = ap (λ (x : Stream). x.reserved) (beside_stream s j k beside) ∙ d.reserved;
        permitted = ap (λ (x : Stream). x.permitted) (beside_stream s j k beside) ∙ d.permitted;
        drain = beside_drain s j k beside ∙ d.drain;
        bound = beside_bound s j k beside ∙ d.bound;
        vid = beside_vid s j k beside ∙ d.vid;
        address = beside_address s j k beside ∙ d.address;
      }

  beside_freed : Freed s j → Freed s k
  beside_freed f = record { reserved = ap (λ (x : Stream). x.reserved) (beside_stream s j k beside) ∙ f.reserved; bound = beside_bound s j k beside ∙ f.bound }

-- its own turn
module _ (s : ℕ) (b : s < stream_count) (j l : List ℕ) (whole : Whole l) (ticks : ℕ) (d : DrainsFor s ticks j l) where
  abbrev there : List ℕ
  there = moved l s (tick_of (stream_at l s))

  there_keeps : Keeps l there
  there_keeps = keeps_place l s _ _

  there_whole : Whole there
  there_whole = omega (arith, there_keeps.long)

  -- the stream is moved, and drains as before
  there_drains : DrainsFor s ticks j there
  there_drains =
      let here = stream_place l s (tick_of (stream_at l s)).place (tick_of (stream_at l s)).left whole b in
      record {
        reserved = ap (λ (x : Stream). x.reserved) here ∙ d.reserved;
        permitted = ap (λ (x : Stream). x.permitted) here ∙ d.permitted;
        drain = drain_place l s s _ _ ∙ d.drain;
        bound = there_keeps.bound s ∙ d.bound;
        vid = there_keeps.vid s ∙ d.vid;
        address = there_keeps.address s ∙ d.address;
      }

  -- then it drains, since it is reserved
  turn_drained : ticked_at s l ≡ drained_at s there
  turn_drained = ap (λ (is : Bool). cond is (drained_at s there) l) d.reserved

  -- with more than one tick to go it drains for one less
  own_drains : 1 < ticks → DrainsFor s (ticks - 1) j (ticked_at s l)
  own_drains more =
      let less = drain_at there s - 1 in
      let keeps = keeps_drain there s less in
      let same = stream_drain there s less s in
      subst (DrainsFor s (ticks - 1) j) (sym (turn_drained ∙ drained_more s there (λ e. omega (arith, there_drains.drain)) (λ e. omega (arith, there_drains.drain))))
      (record {
        reserved = ap (λ (x : Stream). x.reserved) same ∙ there_drains.reserved;
        permitted = ap (λ (x : Stream). x.permitted) same ∙ there_drains.permitted;
        drain = drain_drain there s less there_whole b ∙ ap (λ (n : ℕ). n - 1) there_drains.drain;
        bound = keeps.bound s ∙ there_drains.bound;
        vid = keeps.vid s ∙ there_drains.vid;
        address = keeps.address s ∙ there_drains.address;
      })

  -- and at the last it is free
  own_frees : ticks ≡ 1 → Freed s (ticked_at s l)
  own_frees last =
      subst (Freed s) (sym (turn_drained ∙ drained_last s there (there_drains.drain ∙ last)))
      (record { reserved = stream_dropped there s there_whole b; bound = bound_dropped there s there_whole b })

module _ (p : List ℕ) (s : ℕ) (whole : Whole p) (b : s < stream_count) (ticks : ℕ) (j : List ℕ) (d : DrainsFor s ticks j p) where
  -- as its own turn finds it
  before_its_turn : DrainsFor s ticks j (at_turn p s)
  before_its_turn = beside_drains s p (at_turn p s) (at_turn_lem p s) ticks j d

  pub tick_drains : 1 < ticks → DrainsFor s (ticks - 1) j (ticked_record p)
  tick_drains more =
      beside_drains s (ticked_at s (at_turn p s)) (ticked_record p) (after_turn p s b) (ticks - 1) j
      (own_drains s b j (at_turn p s) (at_turn_whole p s whole) ticks before_its_turn more)

  pub tick_frees : ticks ≡ 1 → Freed s (ticked_record p)
  tick_frees last =
      beside_freed s (ticked_at s (at_turn p s)) (ticked_record p) (after_turn p s b) (own_frees s b j (at_turn p s) (at_turn_whole p s whole) ticks before_its_turn last)
