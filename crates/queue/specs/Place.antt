-- A frame (stream, charge, tag) in its place of the lent memory: 8 octets, high octet first. The charge is the octets that the frame costs
-- on the wire; the tag is the caller's number for the frame.
use Rattle.std.specs.Prelude.{ℕ, List, ◌++◌}
use Rattle.lists.specs.Window.{put, get}
use Rattle.octets.specs.Numbers.{two_of, two_octets, four_of, four_octets}
use Rattle.queue.specs.declared.Frame.{Frame}

-- the octets of a place: the stream in the first two, then the charge in two and the tag in four
abbrev pub place_length : ℕ
place_length = 8

abbrev pub charge_offset : ℕ
charge_offset = 2

abbrev pub tag_offset : ℕ
tag_offset = 4

-- "A frame is (stream, charge, tag), its stream 255 in best effort"
abbrev pub best_effort_stream : ℕ
best_effort_stream = 255

-- the octets of a frame, and the frame of a place's octets
abbrev pub frame_octets : Frame → List ℕ
frame_octets f = two_octets f.stream ++ (two_octets f.charge ++ four_octets f.tag)

abbrev pub frame_of : List ℕ → Frame
frame_of o = record { stream = two_of (get o 0 2); charge = two_of (get o charge_offset 2); tag = four_of (get o tag_offset 4) }

-- the frame whose place begins at an index of the memory, and the memory with a frame written there
unfoldable pub frame_at : List ℕ → ℕ → Frame
frame_at l at = frame_of (get l at place_length)

unfoldable pub with_frame : List ℕ → ℕ → Frame → List ℕ
with_frame l at f = put l at (frame_octets f)
