-- A queue is first in first out: a frame that joins is the last that waits, the frame that is sent is the first, and the other queues'
-- frames stay as they are. Over a ring that wraps. Assumes nothing.
use Prim.Native.Nat.{ℕ, suc, ◌+◌, ◌-◌, ◌<◌}
use mathlib.Core.Path.{◌≡◌, refl, sym, ap, ap₂, ◌∙◌}
use mathlib.Core.List.{List, [], ◌∷◌, ◌++◌}
use native.Mathlib.Omega.{arith}
use native.Mathlib.Numerals.{add-one}
use lib.ListN.{length, get_or}
use Rattle.lists.specs.Window.{Apart}
use Rattle.lists.specs.Turns.{list_to, sum_to}
use Rattle.lists.proofs.WindowLaws.{get_or_put, length_put}
use Rattle.lists.proofs.TurnLaws.{list_to_same, list_to_first, length_list_to, sum_of_snoc, sum_to_list}
use Rattle.queue.specs.declared.Frame.{Frame}
use Rattle.queue.specs.declared.Queue.{Queue}
use Rattle.queue.specs.Place.{place_length, frame_octets, frame_at, with_frame}
use Rattle.queue.specs.Ring.{place_count, HasPart, memory_offset, joined_memory, front_of, joined_queue, sent_queue, empty_queue}
use Rattle.queue.specs.Waiting.{waiting, charges_of}
use Rattle.queue.proofs.PlaceLaws.{frame_same, frame_apart}

-- an empty queue has no frame waiting
pub empty_waits : (m : List ℕ) (number : ℕ) → waiting m number empty_queue ≡ []
unfolding waiting list_to
empty_waits m number = refl

-- as many wait as count says
pub length_waiting : (m : List ℕ) (number : ℕ) (q : Queue) → length (waiting m number q) ≡ q.count
unfolding waiting
length_waiting m number q = length_list_to (λ i. frame_at m (memory_offset number q i)) q.count

-- joining appends
pub joins : (m : List ℕ) (number : ℕ) (q : Queue) (f : Frame) → q.count < place_count → HasPart m number
    → waiting (joined_memory m number q f) number (joined_queue q) ≡ waiting m number q ++ (f ∷ [])
unfolding waiting joined_memory list_to
joins m number q f h room =
    rw (add-one q.count)
    (ap₂ (λ (fs : List Frame) (g : Frame). fs ++ (g ∷ []))
    (list_to_same _ _ q.count (λ i b. frame_apart m (memory_offset number q q.count) f (memory_offset number q i) (λ k a c d e. omega arith)))
    (frame_same m (memory_offset number q q.count) f (omega arith)))

-- sending takes the head, and start moves on, 255 to 0
pub sends : (m : List ℕ) (number : ℕ) (q : Queue) → 0 < q.count → waiting m number q ≡ front_of m number q ∷ waiting m number (sent_queue q)
unfolding waiting front_of
sends m number q h =
    let one_more : q.count ≡ suc (q.count - 1) = omega arith in
    ap (list_to (λ i. frame_at m (memory_offset number q i))) one_more
    ∙ list_to_first (λ i. frame_at m (memory_offset number q i)) (q.count - 1)
    ∙ ap (λ (fs : List Frame). frame_at m (memory_offset number q 0) ∷ fs) (list_to_same _ _ (q.count - 1) (λ i b. ap (frame_at m) (omega arith)))

-- so the sum of the waiting charges rises by the charge of a frame that joins, and falls by that of the frame that is sent
pub joins_charges : (m : List ℕ) (number : ℕ) (q : Queue) (f : Frame) → q.count < place_count → HasPart m number
    → charges_of (waiting (joined_memory m number q f) number (joined_queue q)) ≡ charges_of (waiting m number q) + f.charge
joins_charges m number q f h room = ap charges_of (joins m number q f h room) ∙ sum_of_snoc (λ g. g.charge) (waiting m number q) f

pub sends_charges : (m : List ℕ) (number : ℕ) (q : Queue) → 0 < q.count
    → charges_of (waiting m number q) ≡ (front_of m number q).charge + charges_of (waiting m number (sent_queue q))
sends_charges m number q h = ap charges_of (sends m number q h)

-- no octet changes but the eight of the place that the frame joins
pub joins_only : (m : List ℕ) (number : ℕ) (q : Queue) (f : Frame) (k : ℕ) → Apart k 1 (memory_offset number q q.count) place_length
    → get_or (joined_memory m number q f) k 0 ≡ get_or m k 0
unfolding joined_memory with_frame
joins_only m number q f k h = get_or_put m (memory_offset number q q.count) (frame_octets f) k h

-- the charges of the frames that wait, summed by their places
pub charges_waiting : (m : List ℕ) (number : ℕ) (q : Queue) → charges_of (waiting m number q) ≡ sum_to (λ k. (frame_at m (memory_offset number q k)).charge) q.count
unfolding waiting
charges_waiting m number q = sym (sum_to_list (λ f. f.charge) (λ k. frame_at m (memory_offset number q k)) q.count)

-- and the memory stays as long as it was
pub joins_length : (m : List ℕ) (number : ℕ) (q : Queue) (f : Frame) → length (joined_memory m number q f) ≡ length m
unfolding joined_memory with_frame
joins_length m number q f = length_put m (memory_offset number q q.count) (frame_octets f)

-- a frame that joins another queue changes nothing in this one
pub joins_elsewhere : (m : List ℕ) (number other : ℕ) (q r : Queue) (f : Frame) → (other ≡ number → ⊥)
    → waiting (joined_memory m number q f) other r ≡ waiting m other r
unfolding waiting joined_memory
joins_elsewhere m number other q r f apart =
    list_to_same _ _ r.count (λ i b. frame_apart m (memory_offset number q q.count) f (memory_offset other r i) (λ k a c d e. apart (omega arith)))
