-- "A binding repeats if address and VID are both equal on two streams", by small examples. Assumes nothing.
use Prim.Native.Nat.{ℕ}
use mathlib.Core.Path.{◌≡◌, refl}
use mathlib.Core.Bool.{true, false}
use mathlib.Core.List.{List, [], ◌∷◌}
use lib.ListN.{replicate}
use Rattle.lists.specs.Turns.{all_to}
use Rattle.lists.specs.Equal.{octets_equal}
use Rattle.octets.specs.Numbers.{two_of}
use Rattle.stream.specs.declared.Stream.{Stream}
use Rattle.record.specs.Layout.{record_length}
use Rattle.record.specs.Entry.{stream_at, with_stream, bound_at, vid_at, address_at, with_binding}
use Rattle.fitness.specs.Clauses.{bindings_fit}

-- an address by its last octet
abbrev to : ℕ → List ℕ
to last = 1 ∷ 0 ∷ 94 ∷ 0 ∷ 0 ∷ last ∷ []

-- a reservation
abbrev reserved : Stream
reserved = record { reserved = true; permitted = 200; place = 1; left = 200 }

-- a record in which streams 3 and 5 are reserved, and bound to these addresses and VIDs
abbrev two : List ℕ → ℕ → List ℕ → ℕ → List ℕ
two address vid other otherVid =
    with_binding (with_binding (with_stream (with_stream (replicate {A = ℕ} record_length 0) 3 reserved) 5 reserved) 3 address vid) 5 other otherVid

-- the same address and another VID
pub other_vid : bindings_fit (two (to 5) 100 (to 5) 101) ≡ true
unfolding all_to octets_equal two_of stream_at with_stream bound_at vid_at address_at with_binding
other_vid = refl

-- the same VID and an address with another last octet
pub other_address : bindings_fit (two (to 5) 100 (to 6) 100) ≡ true
unfolding all_to octets_equal two_of stream_at with_stream bound_at vid_at address_at with_binding
other_address = refl

-- both equal
pub repeated : bindings_fit (two (to 5) 100 (to 5) 100) ≡ false
unfolding all_to octets_equal two_of stream_at with_stream bound_at vid_at address_at with_binding
repeated = refl
