-- What the rule by rooms says, of any stream and of one with numbers: each law here follows from `by_room` or `room_tick` alone, and none computes the
-- rule. Assumes nothing.
use Prim.Native.Nat.{ℕ, ◌+◌, ◌≤◌, ◌<◌}
use mathlib.Core.Path.{◌≡◌, refl, subst}
use mathlib.Core.Logic.{⊎_elim}
use native.Mathlib.Omega.{arith}
use Rattle.lists.proofs.Order.{le_or_lt}
use Rattle.stream.specs.declared.Stream.{Stream}
use Rattle.stream.specs.declared.Arrival.TheVariants.{Joined, Discarded}
use Rattle.stream.specs.State.{current_place, at_place, reserve_of}
use Rattle.stream.specs.Steps.{arrive_of, tick_of}
use Rattle.stream.proofs.Room.{room, room_there, room_ahead, where_from, Joins, Refuses, ByRoom, by_room, room_tick}

-- the two cases of `by_room`, by the answer
module _ (last : ℕ) (s : Stream) (a : ℕ) (some : 1 ≤ a) (within : s.place ≤ last) (t : Stream) where
  joins : (q : ℕ) → arrive_of last s a ≡ Joined q t → Joins last s a q t
  joins q e = subst (ByRoom last s a) e (by_room last s a some within)

  refuses : arrive_of last s a ≡ Discarded t → Refuses last s a t
  refuses e = subst (ByRoom last s a) e (by_room last s a some within)

  -- a frame that joins after the stream's place found too little left at it
  pub passed_over : (q : ℕ) → arrive_of last s a ≡ Joined q t → s.place < q → s.left < a
  passed_over q e after = omega (arith, (joins q e).first s.place after, room_there s.place s refl)

  -- and joins at the place right after it: a place further on has no more room
  pub joins_after : (q : ℕ) → arrive_of last s a ≡ Joined q t → s.place < q → q ≡ s.place + 1
  joins_after q e after =
      let j = joins q e in
      ⊎_elim
      (λ (n : q ≤ s.place + 1). omega arith)
      (λ (n : s.place + 1 < q). absurd (omega (arith, j.first (s.place + 1) n, j.fits, room_ahead (s.place + 1) s (omega arith), room_ahead q s after)))
      (le_or_lt q (s.place + 1))

  -- a frame that is discarded before the last place is of more than P
  pub discarded_early : arrive_of last s a ≡ Discarded t → s.place < last → s.permitted < a
  discarded_early e before = omega (arith, (refuses e).none last (omega arith), room_ahead last s before)

  -- no frame joins after the last place
  pub joins_up_to_last : (q : ℕ) → arrive_of last s a ≡ Joined q t → q ≤ last
  joins_up_to_last q e = (joins q e).within

  -- and no arrival brings its stream back, whether its frame joins or is discarded
  pub joined_onward : (q : ℕ) → arrive_of last s a ≡ Joined q t → s.place ≤ t.place
  joined_onward q e = omega (arith, (joins q e).onward, (joins q e).stays)

  pub discarded_onward : arrive_of last s a ≡ Discarded t → s.place ≤ t.place
  discarded_onward e = (refuses e).on

-- document 01's C6: of P = 200 there are 80 left at current,
abbrev after120 : Stream
after120 = at_place (reserve_of 200) current_place 80

-- so wherever a frame of 100 joins, it is next,
module _ (last q : ℕ) (t : Stream) (more : current_place < last) (e : arrive_of last after120 100 ≡ Joined q t) where
  hundred : Joins last after120 100 q t
  hundred = joins last after120 100 (omega arith) (omega arith) t q e

  pub joins_next_place : q ≡ current_place + 1
  joins_next_place =
      let j = hundred in
      where_from q current_place
      (λ b. absurd (omega (arith, j.onward)))
      (λ c. absurd (omega (arith, j.fits, room_there q after120 c)))
      (λ b. joins_after last after120 100 (omega arith) (omega arith) t q e b)

  -- which has room for 100 more, as current after a tick
  pub leaves_hundred : room 2 t ≡ 100
  leaves_hundred =
      let is : q ≡ 2 = joins_next_place in
      omega (arith, subst (λ (n : ℕ). room n t + 100 ≡ room n after120) is hundred.there, room_ahead 2 after120 (omega arith))

  pub leaves_at_current : room 1 (tick_of t) ≡ 100
  leaves_at_current = omega (arith, room_tick 1 t (omega arith), leaves_hundred)

-- and it is not discarded
pub hundred_kept : (last : ℕ) (t : Stream) → current_place < last → arrive_of last after120 100 ≡ Discarded t → ⊥
hundred_kept last t more e = omega (arith, discarded_early last after120 100 (omega arith) (omega arith) t e more)
