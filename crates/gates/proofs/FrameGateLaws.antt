-- What the gates of Bind and Frame tell where they refuse nothing. Assumes nothing.
use Prim.Native.Nat.{ℕ, ◌≤◌, ◌<◌}
use mathlib.Core.Path.{◌≡◌, sym, ap, ap₂, ◌∙◌}
use mathlib.Core.Bool.{true, false, not, cond}
use mathlib.Core.List.{List}
use native.Mathlib.Omega.{arith}
use lib.ListN.{length}
use lib.Dec.{leb}
use borrow.Author.Tests.{leb-false, not-false}
use Rattle.record.specs.Layout.{stream_count}
use Rattle.record.specs.Head.{open_at}
use Rattle.record.specs.Entry.{stream_at, drains_at, bound_at}
use Rattle.ranges.specs.Ranges.{vid_fits}
use Rattle.ranges.proofs.RangeLaws.{within_bounds}
use Rattle.header.specs.Header.{header_length, charge_of, length_fits}
use Rattle.header.proofs.HeaderLaws.{header_whole}
use Rattle.steps.specs.Outcome.{Outcome, gated}
use Rattle.arriving.specs.Arriving.{arrive_step}
use Rattle.best_effort.specs.BestEffort.{best_effort_step}
use Rattle.std.specs.Prelude.{Option, Some, None}
use Rattle.binding.specs.Finding.{lookup, is_bound, frame_lookup}
use Rattle.gates.specs.Refusals.{arrive_refusal, best_effort_refusal}
use Rattle.gates.specs.FrameRefusals.{bind_refusal, frame_refusal}
use Rattle.gates.specs.Becoming.{becomes, frame_step}
use Rattle.gates.proofs.GateLaws.{past}

pub record BindAllowed (p : List ℕ) (s : ℕ) (address : List ℕ) (vid : ℕ) : Type 0 where
  pub opened : open_at p ≡ true
  pub stream : s < stream_count
  pub keeps : drains_at p s ≡ false
  pub reserved : (stream_at p s).reserved ≡ true
  pub vid_fits_lem : vid_fits vid ≡ true
  pub unbound : bound_at p s ≡ false
  pub free : is_bound (lookup p address vid).found ≡ false

pub bind_allowed : (p : List ℕ) (s : ℕ) (address : List ℕ) (vid : ℕ) → bind_refusal p s address vid ≡ 0 → BindAllowed p s address vid
unfolding bind_refusal
bind_allowed p s address vid e =
    let taken : ℕ = cond (is_bound (lookup p address vid).found) 11 0 in
    let bound : ℕ = cond (bound_at p s) 10 taken in
    let outside : ℕ = cond (not (vid_fits vid)) 9 bound in
    let unreserved : ℕ = cond (not (stream_at p s).reserved) 12 outside in
    let draining : ℕ = cond (drains_at p s) 25 unreserved in
    let a = past (not (open_at p)) 1 (cond (leb stream_count s) 5 draining) (omega arith) e in
    let b = past (leb stream_count s) 5 draining (omega arith) a.1 in
    let c = past (drains_at p s) 25 unreserved (omega arith) b.1 in
    let d = past (not (stream_at p s).reserved) 12 outside (omega arith) c.1 in
    let f = past (not (vid_fits vid)) 9 bound (omega arith) d.1 in
    let g = past (bound_at p s) 10 taken (omega arith) f.1 in
    let h = past (is_bound (lookup p address vid).found) 11 0 (omega arith) g.1 in
    record {
      opened = not-false (open_at p) a.0;
      stream = leb-false stream_count s b.0;
      keeps = c.0;
      reserved = not-false (stream_at p s).reserved d.0;
      vid_fits_lem = not-false (vid_fits vid) f.0;
      unbound = g.0;
      free = h.0;
    }

pub record FrameAllowed (p f : List ℕ) : Type 0 where
  pub opened : open_at p ≡ true
  pub length_fits_lem : length_fits f ≡ true

pub frame_allowed : (p f : List ℕ) → frame_refusal p f ≡ 0 → FrameAllowed p f
unfolding frame_refusal
frame_allowed p f e =
    let a = past (not (open_at p)) 1 (cond (not (length_fits f)) 17 0) (omega arith) e in
    let b = past (not (length_fits f)) 17 0 (omega arith) a.1 in
    record { opened = not-false (open_at p) a.0; length_fits_lem = not-false (length_fits f) b.0 }

-- what code that asks a gate needs where it refuses nothing: numbers that fit their types, a stream of the record, and a whole header
module _ (p : List ℕ) where
  module _ (s : ℕ) (address : List ℕ) (vid : ℕ) (e : 0 ≡ bind_refusal p s address vid) where
    pub bind_stream : s < stream_count
    bind_stream = (bind_allowed p s address vid (sym e)).stream

    pub bind_vid : vid < 65536
    bind_vid = omega (arith, (within_bounds _ _ vid (bind_allowed p s address vid (sym e)).vid_fits_lem).1)

  module _ (f : List ℕ) (e : 0 ≡ frame_refusal p f) where
    pub frame_length : length_fits f ≡ true
    frame_length = (frame_allowed p f (sym e)).length_fits_lem

    pub frame_header : header_length ≤ length f
    frame_header = header_whole f frame_length

-- code that looks the frame up and makes the call that it becomes makes the frame's step
module _ (p m octets : List ℕ) (tag charge : ℕ) (found : Option ℕ) (left : Outcome) where
  abbrev Looked : Type 0
  Looked = (found ≡ frame_lookup p octets) × (charge ≡ charge_of octets)

  became : Looked → left ≡ becomes p m charge tag found → left ≡ frame_step p m octets tag
  became e does = does ∙ ap₂ (λ (a : ℕ) (l : Option ℕ). becomes p m a tag l) e.1 e.0

  pub became_arrival : (s : ℕ) → left ≡ gated (arrive_refusal p s charge) p m (arrive_step p m s charge tag) → found ≡ Some s
      → found ≡ frame_lookup p octets → charge ≡ charge_of octets → left ≡ frame_step p m octets tag
  became_arrival s does is found-so charge-so = became (found-so, charge-so) (does ∙ ap (becomes p m charge tag) (sym is))

  pub became_best_effort : left ≡ gated (best_effort_refusal p charge) p m (best_effort_step p m charge tag) → found ≡ None
      → found ≡ frame_lookup p octets → charge ≡ charge_of octets → left ≡ frame_step p m octets tag
  became_best_effort does is found-so charge-so = became (found-so, charge-so) (does ∙ ap (becomes p m charge tag) (sym is))
