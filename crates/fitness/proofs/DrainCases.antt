-- The clause of 19 on the draining count, in numbers. Assumes nothing.
use Prim.Native.Nat.{ℕ}
use mathlib.Core.Path.{◌≡◌, refl}
use mathlib.Core.Bool.{Bool, true, false}
use mathlib.Core.List.{[], ◌∷◌, ◌++◌}
use lib.ListN.{replicate}
use Rattle.lists.specs.Turns.{all_to}
use Rattle.octets.specs.Numbers.{two_of}
use Rattle.stream.specs.declared.Stream.{Stream}
use Rattle.record.specs.Layout.{head_length}
use Rattle.record.specs.Queues.{queues_at}
use Rattle.record.specs.Entry.{stream_at, drain_at}
use Rattle.fitness.specs.Clauses.{stream_fits, streams_fit}

-- a stream at current with 200 octets left of 200
abbrev stream_of : Bool → Stream
stream_of reserved = record { reserved = reserved; permitted = 200; place = 1; left = 200 }

-- with 3 as its last place a reserved stream may have a count of 4 and of no more; the count of an unreserved one is not read
count_of_the_queues : stream_fits 3 (stream_of true) 4 ≡ true
count_of_the_queues = refl

count_above_the_queues : stream_fits 3 (stream_of true) 5 ≡ false
count_above_the_queues = refl

count_unreserved : stream_fits 3 (stream_of false) 5 ≡ true
count_unreserved = refl

-- each stream is held to its own count: stream 1 has one above the queues, and stream 0 has none
count_of_each : streams_fit (replicate {A = ℕ} head_length 0 ++ (replicate {A = ℕ} 16 0 ++ (1 ∷ 1 ∷ 0 ∷ 200 ∷ 0 ∷ 200 ∷ 5 ∷ 0 ∷ []))) ≡ false
unfolding all_to two_of queues_at stream_at drain_at
count_of_each = refl
