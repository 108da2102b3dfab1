-- The draining count, and what a reservation and a stream that is dropped do to it, in numbers. Assumes nothing.
use Prim.Native.Nat.{ℕ}
use mathlib.Core.Path.{◌≡◌, refl}
use mathlib.Core.Bool.{true, false}
use mathlib.Core.List.{List, [], ◌∷◌, ◌++◌}
use lib.ListN.{replicate}
use Rattle.octets.specs.Numbers.{two_of}
use Rattle.stream.specs.State.{reserve_of}
use Rattle.record.specs.Layout.{head_length}
use Rattle.record.specs.Entry.{stream_at, with_stream, drain_at, with_drain, drains_at, bound_at, dropped}

-- the front of a record, up to the mark of stream 0's binding: whether that is reserved, at current with 200 octets left of 200, its count, and bound
abbrev entry_with : ℕ → ℕ → List ℕ
entry_with reserved drain = replicate {A = ℕ} head_length 0 ++ (reserved ∷ 1 ∷ 0 ∷ 200 ∷ 0 ∷ 200 ∷ drain ∷ 1 ∷ [])

-- the count is read where it is written, and nowhere else
count_read : drain_at (entry_with 1 2) 0 ≡ 2
unfolding drain_at
count_read = refl

count_written : with_drain (entry_with 1 2) 0 4 ≡ entry_with 1 4
unfolding with_drain
count_written = refl

-- a reserved stream with a count drains, and neither one with none nor an unreserved one with a count
stream_drains : drains_at (entry_with 1 2) 0 ≡ true
unfolding two_of stream_at drain_at drains_at
stream_drains = refl

kept_stream : drains_at (entry_with 1 0) 0 ≡ false
unfolding two_of stream_at drain_at drains_at
kept_stream = refl

unreserved_stream : drains_at (entry_with 0 2) 0 ≡ false
unfolding two_of stream_at drain_at drains_at
unreserved_stream = refl

-- a reservation ends the draining of the one before it
reserved_anew : drain_at (with_stream (entry_with 0 2) 0 (reserve_of 200)) 0 ≡ 0
unfolding with_stream drain_at
reserved_anew = refl

-- a stream that is dropped is unreserved, drains no longer, and is unbound
dropped_unreserved : (stream_at (dropped (entry_with 1 2) 0) 0).reserved ≡ false
unfolding two_of stream_at dropped
dropped_unreserved = refl

dropped_count : drain_at (dropped (entry_with 1 2) 0) 0 ≡ 0
unfolding drain_at dropped
dropped_count = refl

dropped_unbound : bound_at (dropped (entry_with 1 2) 0) 0 ≡ false
unfolding bound_at dropped
dropped_unbound = refl
