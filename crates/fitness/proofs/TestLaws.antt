-- The tests of one queue and of one stream as bounds, and back; and loops of tests and sums, turn by turn. Assumes nothing.
use Prim.Native.Nat.{ℕ, zero, suc, ◌+◌, ◌≤◌, ◌<◌}
use mathlib.Core.Path.{◌≡◌, refl, sym, ap, ap₂, ◌∙◌}
use mathlib.Core.Bool.{Bool, true, false, ◌&&◌, cond}
use mathlib.Core.List.{List}
use mathlib.Core.Logic.{⊎_elim}
use native.Mathlib.Nat.{eq-or-lt_of_le}
use native.Mathlib.Omega.{arith}
use lib.Dec.{leb, ltb}
use borrow.Author.Tests.{leb-true, ltb-true, le-leb, lt-ltb}
use native.Mathlib.Numerals.{add-one}
use Rattle.lists.specs.Turns.{all_to, sum_to, all_of}
use Rattle.lists.proofs.TurnLaws.{both, all_to_list}
use Rattle.stream.specs.declared.Stream.{Stream}
use Rattle.stream.specs.State.{current_place, StreamFit}
use Rattle.queue.specs.declared.Frame.{Frame}
use Rattle.queue.specs.declared.Queue.{Queue}
use Rattle.queue.specs.Place.{frame_at}
use Rattle.queue.specs.Ring.{place_count, memory_offset}
use Rattle.queue.specs.Waiting.{waiting}
use Rattle.ranges.specs.Ranges.{within}
use Rattle.ranges.proofs.RangeLaws.{within_bounds}
use Rattle.fitness.specs.Clauses.{queue_fits, stream_fits}

-- what holds anyway holds where it is asked
pub if_asked : (asked answer : Bool) → answer ≡ true → cond asked answer true ≡ true
if_asked true answer h = h
if_asked false answer h = refl

-- a queue's start and count
pub queue_bounds : (q : Queue) → queue_fits q ≡ true → (q.start < place_count) × (q.count ≤ place_count)
queue_bounds q h =
    let e : (ltb q.start place_count ≡ true) × (leb q.count place_count ≡ true) = both _ _ h in
    (ltb-true q.start place_count e.0, leb-true q.count place_count e.1)

pub bounds_queue : (q : Queue) → q.start < place_count → q.count ≤ place_count → queue_fits q ≡ true
bounds_queue q a b = ap₂ ◌&&◌ (lt-ltb q.start place_count a) (le-leb q.count place_count b)

-- a reserved stream's place and left, and its draining count
pub stream_fit : (last : ℕ) (s : Stream) (drain : ℕ) → s.reserved ≡ true → stream_fits last s drain ≡ true → StreamFit last s
stream_fit last s drain r h =
    let placed : Bool = within current_place last s.place && leb s.left s.permitted in
    let e : (within current_place last s.place ≡ true) × (leb s.left s.permitted ≡ true) = both _ _ (both placed (leb drain (last + 1)) (rw r at h)).0 in
    let place : (current_place ≤ s.place) × (s.place ≤ last) = within_bounds current_place last s.place e.0 in
    let left : s.left ≤ s.permitted = leb-true s.left s.permitted e.1 in
    record { first_place = place.0; last_place = place.1; left_within = left }

pub drain_fit : (last : ℕ) (s : Stream) (drain : ℕ) → s.reserved ≡ true → stream_fits last s drain ≡ true → drain ≤ last + 1
drain_fit last s drain r h =
    leb-true drain (last + 1) (both (within current_place last s.place && leb s.left s.permitted) (leb drain (last + 1)) (rw r at h)).1

pub fit_stream : (last : ℕ) (s : Stream) (drain : ℕ) → StreamFit last s → drain ≤ last + 1 → stream_fits last s drain ≡ true
fit_stream last s drain f d =
    if_asked s.reserved _
    (ap₂ ◌&&◌
    (ap₂ ◌&&◌
    (ap₂ ◌&&◌ (le-leb current_place s.place f.first_place) (le-leb s.place last f.last_place))
    (le-leb s.left s.permitted f.left_within))
    (le-leb drain (last + 1) d))

-- nothing is asked of a free one
pub free_fits : (last : ℕ) (s : Stream) (drain : ℕ) → s.reserved ≡ false → stream_fits last s drain ≡ true
free_fits last s drain e = simp e

-- a count that is no greater is as fit
pub lower_fits : (last : ℕ) (s : Stream) (drain less : ℕ) → less ≤ drain → stream_fits last s drain ≡ true → stream_fits last s less ≡ true
lower_fits last s drain less lower h = told s.reserved refl
  where
    told : (b : Bool) → s.reserved ≡ b → stream_fits last s less ≡ true
    told true e = fit_stream last s less (stream_fit last s drain e h) (omega (arith, drain_fit last s drain e h))
    told false e = free_fits last s less e

-- what a loop that tests each number below n has before its first turn, and after one turn more
pub all_to_start : (f : ℕ → Bool) → all_to f 0 ≡ true
unfolding all_to
all_to_start f = refl

pub all_to_turn : (f : ℕ → Bool) (n : ℕ) → all_to f (n + 1) ≡ (all_to f n && f n)
unfolding all_to
all_to_turn f n = rw (add-one n) (swapped (f n) (all_to f n))
  where
    swapped : (a b : Bool) → (a && b) ≡ (b && a)
    swapped true true = refl
    swapped true false = refl
    swapped false true = refl
    swapped false false = refl

-- a test of the frames that wait, by their places
pub all_waiting : (f : Frame → Bool) (m : List ℕ) (number : ℕ) (q : Queue) → all_of f (waiting m number q) ≡ all_to (λ k. f (frame_at m (memory_offset number q k))) q.count
unfolding waiting
all_waiting f m number q = sym (all_to_list f (λ k. frame_at m (memory_offset number q k)) q.count)

-- a test that fails at a number fails of all
pub all_to_false : (f : ℕ → Bool) (n k : ℕ) → k < n → f k ≡ false → all_to f n ≡ false
unfolding all_to
all_to_false f zero k below fails = absurd (omega arith)
all_to_false f (suc n) k below fails =
    ⊎_elim
    (λ (q : k ≡ n). rw (sym (ap f q) ∙ fails) refl)
    (λ (l : k < n). rw (all_to_false f n k l fails) (fails_after (f n)))
    (eq-or-lt_of_le (omega arith))
  where
    fails_after : (b : Bool) → (b && false) ≡ false
    fails_after true = refl
    fails_after false = refl

-- the same of a loop that sums
pub sum_to_start : (f : ℕ → ℕ) → sum_to f 0 ≡ 0
unfolding sum_to
sum_to_start f = refl

pub sum_to_turn : (f : ℕ → ℕ) (n : ℕ) → sum_to f (n + 1) ≡ sum_to f n + f n
unfolding sum_to
sum_to_turn f n = rw add-one refl
