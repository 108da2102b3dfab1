-- The fields of a stream's entry in the record, each read and written: the stream's reservation, how long it still drains, and its binding.
use Rattle.std.specs.Prelude.{ℕ, ◌+◌, Bool, not, ◌&&◌, cond, List, [], ◌∷◌, ◌++◌, get_or, eqb}
use Rattle.lists.specs.Window.{put, get}
use Rattle.lists.specs.Equal.{octets_equal}
use Rattle.octets.specs.Numbers.{two_of, two_octets}
use Rattle.stream.specs.declared.Stream.{Stream}
use Rattle.record.specs.Layout.{entry_offset, place_offset, left_offset, permitted_offset, stream_length, drain_offset, bound_offset, pair_offset, address_offset, address_length}
use Rattle.record.specs.Head.{octet_of, mark_of}

-- the reservation of stream s: whether it is reserved, its place, left and P
abbrev pub entry_stream : List ℕ → Stream
entry_stream o = record { reserved = mark_of o; permitted = two_of (get o permitted_offset 2); place = get_or o place_offset 0; left = two_of (get o left_offset 2) }

abbrev pub place_octets : ℕ → ℕ → List ℕ
place_octets place left = place ∷ two_octets left

abbrev pub stream_octets : Stream → List ℕ
stream_octets x = cond x.reserved 1 0 ∷ (place_octets x.place x.left ++ two_octets x.permitted)

unfoldable pub stream_at : List ℕ → ℕ → Stream
stream_at l s = entry_stream (get l (entry_offset s) stream_length)

-- the record with this reservation of stream s, which does not drain
unfoldable pub with_stream : List ℕ → ℕ → Stream → List ℕ
with_stream l s x = put l (entry_offset s) (stream_octets x ++ (0 ∷ []))

-- the record with stream s at a place, with so much left there; nothing else of the stream is written
unfoldable pub with_place : List ℕ → ℕ → ℕ → ℕ → List ℕ
with_place l s place left = put l (entry_offset s + place_offset) (place_octets place left)

-- the draining count of stream s, the ticks until a withdrawn stream is free; 0 is that of a stream which does not drain
unfoldable pub drain_at : List ℕ → ℕ → ℕ
drain_at l s = octet_of (get l (entry_offset s + drain_offset) 1)

unfoldable pub with_drain : List ℕ → ℕ → ℕ → List ℕ
with_drain l s ticks = put l (entry_offset s + drain_offset) (ticks ∷ [])

-- whether stream s is draining; the count of an unreserved stream means nothing
unfoldable pub drains_at : List ℕ → ℕ → Bool
drains_at l s = (stream_at l s).reserved && not (eqb (drain_at l s) 0)

-- whether stream s is bound, and the VID and the address of its binding
unfoldable pub bound_at : List ℕ → ℕ → Bool
bound_at l s = mark_of (get l (entry_offset s + bound_offset) 1)

unfoldable pub vid_at : List ℕ → ℕ → ℕ
vid_at l s = two_of (get l (entry_offset s + pair_offset) 2)

unfoldable pub address_at : List ℕ → ℕ → List ℕ
address_at l s = get l (entry_offset s + address_offset) address_length

-- whether two pairs of a VID and an address are one: "address and VID are both equal"
abbrev pub same_pair : ℕ → List ℕ → ℕ → List ℕ → Bool
same_pair vid address otherVid otherAddress = eqb vid otherVid && octets_equal address otherAddress

-- the pair of an address, which is the first six of these octets, and a VID, in octets as an entry has them
abbrev pub pair_octets : List ℕ → ℕ → List ℕ
pair_octets address vid = two_octets vid ++ get address 0 address_length

-- the record with stream s bound to the pair: marked so, with VID and address; nothing else of the stream is written
unfoldable pub with_binding : List ℕ → ℕ → List ℕ → ℕ → List ℕ
with_binding l s address vid = put l (entry_offset s + bound_offset) (1 ∷ pair_octets address vid)

-- the record with the reservation and the binding of stream s dropped: it is no longer marked reserved, nor bound, and its draining is ended
unfoldable pub dropped : List ℕ → ℕ → List ℕ
dropped l s = put (put l (entry_offset s) (0 ∷ [])) (entry_offset s + drain_offset) (0 ∷ 0 ∷ [])
