-- Laws of a frame in its place: each field by its octets, and what is read where a frame was written and elsewhere. Assumes nothing.
use Prim.Native.Nat.{ℕ, ◌+◌, ◌≤◌}
use mathlib.Core.Path.{◌≡◌, refl, sym, ap, ap₂, ◌∙◌}
use mathlib.Core.List.{List, ◌++◌}
use native.Mathlib.Omega.{arith}
use lib.ListN.{length}
use borrow.Rule.Slice.PartMut.{mid_of, put_mid}
use Rattle.lists.specs.Window.{put, get, Apart}
use Rattle.lists.proofs.WindowLaws.{get_apart, get_put, get_get, put_append, put_mid_lem}
use Rattle.octets.specs.Numbers.{two_of, four_of, two_octets, four_octets}
use Rattle.octets.proofs.NumberLaws.{two_octets_lem, four_octets_lem}
use Rattle.queue.specs.declared.Frame.{Frame}
use Rattle.queue.specs.Place.{place_length, charge_offset, tag_offset, frame_octets, frame_of, frame_at, with_frame}

module _ (l : List ℕ) (at : ℕ) where
  -- the fields of the frame at an index
  pub stream_at_lem : (frame_at l at).stream ≡ two_of (get l at 2)
  unfolding frame_at
  stream_at_lem = refl

  pub charge_at : (frame_at l at).charge ≡ two_of (get l (at + charge_offset) 2)
  unfolding frame_at
  charge_at = ap two_of (get_get l at place_length charge_offset 2 (omega arith))

  pub tag_at : (frame_at l at).tag ≡ four_of (get l (at + tag_offset) 4)
  unfolding frame_at
  tag_at = ap four_of (get_get l at place_length tag_offset 4 (omega arith))

-- frames with the same fields are the same
pub same_fields : (f g : Frame) → f.stream ≡ g.stream → f.charge ≡ g.charge → f.tag ≡ g.tag → f ≡ g
same_fields f g a b c =
    ap₂ (λ (stream charge : ℕ). record { stream = stream; charge = charge; tag = f.tag }) a b
    ∙ ap (λ (tag : ℕ). record { stream = g.stream; charge = g.charge; tag = tag }) c

-- field after field written is the frame written
pub fields_written : (l : List ℕ) (at : ℕ) (f : Frame)
    → put (put (put l at (two_octets f.stream)) (at + charge_offset) (two_octets f.charge)) (at + tag_offset) (four_octets f.tag) ≡ with_frame l at f
unfolding with_frame
fields_written l at f =
    let both = put (put l at (two_octets f.stream)) (at + charge_offset) (two_octets f.charge) in
    ap (λ (i : ℕ). put both i (four_octets f.tag)) (omega arith)
    ∙ sym
    (put_append l at (two_octets f.stream) (two_octets f.charge ++ four_octets f.tag)
    ∙ put_append (put l at (two_octets f.stream)) (at + charge_offset) (two_octets f.charge) (four_octets f.tag))

-- a frame's octets give the frame again
frame_octets_lem : (f : Frame) → frame_of (frame_octets f) ≡ f
frame_octets_lem f = rw (two_octets_lem f.stream, two_octets_lem f.charge, four_octets_lem f.tag)

-- a frame is read where it was written
pub frame_same : (l : List ℕ) (at : ℕ) (f : Frame) → at + place_length ≤ length l → frame_at (with_frame l at f) at ≡ f
unfolding frame_at with_frame
frame_same l at f h = ap frame_of (get_put l at (frame_octets f) h) ∙ frame_octets_lem f

-- and a place apart from it has the frame that it had
pub frame_apart : (l : List ℕ) (at : ℕ) (f : Frame) (to : ℕ) → Apart to place_length at place_length → frame_at (with_frame l at f) to ≡ frame_at l to
unfolding frame_at with_frame
frame_apart l at f to h = ap frame_of (get_apart l at (frame_octets f) to place_length h)

-- a frame written in the part of k octets that starts at `from` is one written in the whole
pub frame_put_mid : (from k : ℕ) (l : List ℕ) (at : ℕ) → at + place_length ≤ k → (f : Frame)
    → put_mid from k l (with_frame (mid_of from k l) at f) ≡ with_frame l (from + at) f
unfolding with_frame
frame_put_mid from k l at within f = put_mid_lem from k (frame_octets f) l at within
