-- A frame by its octets: document 01, "Frames and captures", Frame. A frame has a VLAN tag or none (IEEE 802.1Q); the word tag alone is the caller's
-- number for a frame.
use Rattle.std.specs.Prelude.{ℕ, ◌+◌, ◌-◌, ◌%◌, Bool, List, [], ◌∷◌, length}
use Rattle.lists.specs.Window.{get}
use Rattle.lists.specs.Equal.{octets_equal}
use Rattle.octets.specs.Numbers.{two_of}
use Rattle.ranges.specs.Ranges.{within, least_charge, greatest_charge}

-- what a frame costs on the wire beside its own octets: "4 for the check sequence, plus 20 for preamble and gap"
abbrev pub on_wire : ℕ
on_wire = 4 + 20

-- the charge, "the octets that a frame costs on the wire: its length without check sequence", plus that
unfoldable pub charge_of : List ℕ → ℕ
charge_of f = length f + on_wire

-- a frame outside "60 to 1,996" octets is refused: these are the lengths whose charge is in its range
unfoldable pub length_fits : List ℕ → Bool
length_fits f = within (least_charge - on_wire) (greatest_charge - on_wire) (length f)

-- the octets of a header: two addresses of six, four of a VLAN tag
abbrev pub header_length : ℕ
header_length = 16

-- "If octets 12 and 13 are 81 00 (hexadecimal)": whether the frame has a VLAN tag
abbrev pub vlan_tag : List ℕ
vlan_tag = 129 ∷ 0 ∷ []

unfoldable pub tagged_frame : List ℕ → Bool
tagged_frame f = octets_equal (get f 12 2) vlan_tag

-- "the VID is the low 12 bits of octets 14 and 15, high octet first"
unfoldable pub vid_of : List ℕ → ℕ
vid_of f = two_of (get f 14 2) % 4096
