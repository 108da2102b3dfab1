-- Laws of the head's fields: a queue's start and count by their octets. Assumes nothing.
use Prim.Native.Nat.{ℕ, ◌+◌}
use mathlib.Core.Path.{◌≡◌, sym, ap}
use mathlib.Core.List.{List}
use native.Mathlib.Omega.{arith}
use Rattle.lists.specs.Window.{put, get}
use Rattle.lists.proofs.WindowLaws.{get_get, put_append}
use Rattle.octets.specs.Numbers.{two_of, two_octets}
use Rattle.queue.specs.declared.Queue.{Queue}
use Rattle.record.specs.Layout.{queue_offset, queue_length, count_offset}
use Rattle.record.specs.Head.{queue_at, with_queue}

-- start and count read one by one are the queue read
pub queue_read : (l : List ℕ) (q : ℕ) → record { start = two_of (get l (queue_offset q) 2); count = two_of (get l (queue_offset q + count_offset) 2) } ≡ queue_at l q
unfolding queue_at
queue_read l q =
    ap (λ (count : ℕ). record { start = two_of (get l (queue_offset q) 2); count = count })
    (ap two_of (sym (get_get l (queue_offset q) queue_length count_offset 2 (omega arith))))

-- start and count written one after the other are the queue written
pub queue_written : (l : List ℕ) (q : ℕ) (x : Queue)
    → put (put l (queue_offset q) (two_octets x.start)) (queue_offset q + count_offset) (two_octets x.count) ≡ with_queue l q x
unfolding with_queue
queue_written l q x = sym (put_append l (queue_offset q) (two_octets x.start) (two_octets x.count))
