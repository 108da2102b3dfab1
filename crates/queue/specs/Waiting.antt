-- The frames that wait in a queue, oldest first, and the sum of their charges.
use Rattle.std.specs.Prelude.{ℕ, List}
use Rattle.lists.specs.Turns.{list_to, sum_of}
use Rattle.queue.specs.declared.Frame.{Frame}
use Rattle.queue.specs.declared.Queue.{Queue}
use Rattle.queue.specs.Place.{frame_at}
use Rattle.queue.specs.Ring.{memory_offset}

-- as many as count says, from the place start on, over the end of the part to its beginning
unfoldable pub waiting : List ℕ → ℕ → Queue → List Frame
waiting m number q = list_to (λ i. frame_at m (memory_offset number q i)) q.count

-- the sum of the charges of frames
abbrev pub charges_of : List Frame → ℕ
charges_of = sum_of (λ f. f.charge)
