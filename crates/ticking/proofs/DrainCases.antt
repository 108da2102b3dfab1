-- What a tick does to a draining stream, in numbers. Assumes nothing.
use Prim.Native.Nat.{ℕ}
use mathlib.Core.Path.{◌≡◌, refl}
use mathlib.Core.Bool.{true, false}
use mathlib.Core.List.{List, [], ◌∷◌, ◌++◌}
use lib.ListN.{replicate}
use Rattle.lists.specs.Turns.{iterate}
use Rattle.stream.specs.Steps.{tick_of}
use Rattle.record.specs.Layout.{head_length}
use Rattle.record.specs.Entry.{stream_at, with_place, drain_at, with_drain, bound_at, vid_at, address_at, with_binding, dropped}
use Rattle.ticking.specs.Ticking.{drained_at, ticked_at, streams_ticked}

-- the front of a record, up to the mark of stream 0's binding: whether that is reserved, at next with 60 octets left of 200, its count, and bound
abbrev entry_with : ℕ → ℕ → List ℕ
entry_with reserved drain = replicate {A = ℕ} head_length 0 ++ (reserved ∷ 2 ∷ 0 ∷ 60 ∷ 0 ∷ 200 ∷ drain ∷ 1 ∷ [])

-- the record after the tick of that stream
abbrev ticked : ℕ → ℕ → List ℕ
ticked reserved drain = ticked_at 0 (entry_with reserved drain)

-- a tick takes one from the count, and moves the stream as one that does not drain
nearer_count : drain_at (ticked 1 4) 0 ≡ 3
unfolding tick_of stream_at with_place drain_at with_drain bound_at vid_at address_at with_binding dropped drained_at
nearer_count = refl

nearer_place : (stream_at (ticked 1 4) 0).place ≡ 1
unfolding tick_of stream_at with_place drain_at with_drain bound_at vid_at address_at with_binding dropped drained_at
nearer_place = refl

-- with a count of 2 it is reserved still, and at a count of 1 it is freed: unreserved and unbound, with place and left as the tick moved them
nearest_reserved : (stream_at (ticked 1 2) 0).reserved ≡ true
unfolding tick_of stream_at with_place drain_at with_drain bound_at vid_at address_at with_binding dropped drained_at
nearest_reserved = refl

freed_unreserved : (stream_at (ticked 1 1) 0).reserved ≡ false
unfolding tick_of stream_at with_place drain_at with_drain bound_at vid_at address_at with_binding dropped drained_at
freed_unreserved = refl

freed_unbound : bound_at (ticked 1 1) 0 ≡ false
unfolding tick_of stream_at with_place drain_at with_drain bound_at vid_at address_at with_binding dropped drained_at
freed_unbound = refl

freed_place : (stream_at (ticked 1 1) 0).place ≡ 1
unfolding tick_of stream_at with_place drain_at with_drain bound_at vid_at address_at with_binding dropped drained_at
freed_place = refl

-- one that does not drain stays reserved, and the count of an unreserved one stands
kept_reserved : (stream_at (ticked 1 0) 0).reserved ≡ true
unfolding tick_of stream_at with_place drain_at with_drain bound_at vid_at address_at with_binding dropped drained_at
kept_reserved = refl

unreserved_count : drain_at (ticked 0 2) 0 ≡ 2
unfolding tick_of stream_at with_place drain_at with_drain bound_at vid_at address_at with_binding dropped drained_at
unreserved_count = refl

-- the tick of all streams is one tick of each
all_nearer : drain_at (streams_ticked (entry_with 1 4)) 0 ≡ 3
unfolding iterate tick_of stream_at with_place drain_at with_drain bound_at vid_at address_at with_binding dropped drained_at
all_nearer = refl
