-- How much a stream can have brought so far into the queue at a place, as its record shows it: the bound behind "what joins one queue is
-- at most P". Assumes nothing.
use Prim.Native.Nat.{ℕ, zero, suc, ◌+◌, ◌-◌, ◌≤◌, ◌<◌}
use mathlib.Core.Path.{◌≡◌, refl, ap, ◌∙◌}
use mathlib.Core.Bool.{cond}
use mathlib.Core.Logic.{⊎_elim}
use native.Mathlib.Omega.{arith}
use lib.Dec.{eqb}
use borrow.Author.Tests.{eq-eqb, ne_eqb}
use Rattle.lists.proofs.Order.{eq_or_not}
use Rattle.stream.specs.declared.Stream.{Stream}
use Rattle.stream.specs.declared.Arrival.{Arrival}
use Rattle.stream.specs.declared.Arrival.TheVariants.{Joined, Discarded}
use Rattle.stream.specs.State.{at_place, StreamFit}
use Rattle.stream.specs.Steps.{advanced, arrive_of, tick_of}
use Rattle.stream.specs.Replies.{stream_of}
use Rattle.stream.specs.Alone.{octets_at}
use Rattle.stream.proofs.ArriveLaws.{joins_here, joined_cases}
use Rattle.stream.proofs.TickLaws.{tick_current}
use Rattle.stream.proofs.FitLaws.{permitted_arrive, permitted_tick}
use Rattle.stream.proofs.Room.{room, room_behind, room_there, room_ahead, where_from, ByRoom, by_room, room_tick}

-- P less the room: all of P behind the stream's place, what is gone of P at its place, nothing ahead of it
unfoldable pub used : ℕ → Stream → ℕ
used k s = s.permitted - room k s

-- never more than P
pub used_most : (k : ℕ) (s : Stream) → used k s ≤ s.permitted
unfolding used
used_most k s = omega arith

-- nor is the room of a stream that has no more than P left
room_most : (k : ℕ) (s : Stream) → s.left ≤ s.permitted → room k s ≤ s.permitted
room_most k s within = where_from k s.place (λ b. omega (arith, room_behind k s b)) (λ e. omega (arith, room_there k s e)) (λ b. omega (arith, room_ahead k s b))

-- a charge is counted at its own place, and at no other
counted_else : (k place a : ℕ) → (place ≡ k → ⊥) → cond (eqb place k) a 0 ≡ 0
counted_else k place a h = rw (ne_eqb place k h)

counted_there : (k place a : ℕ) → place ≡ k → cond (eqb place k) a 0 ≡ a
counted_there k place a h = rw (eq-eqb place k h)

-- what an answer that goes by the rooms brings into a queue, the room there loses
room_loses : (last k : ℕ) (s : Stream) (a : ℕ) (r : Arrival) → ByRoom last s a r → room k (stream_of r) + octets_at k a r ≤ room k s
room_loses last k s a (Joined q t) j =
    where_from k q
    (λ b. omega (arith, j.behind k b, counted_else k q a (λ e. omega arith)))
    (λ e. rw e (omega (arith, j.there, counted_there q q a refl)))
    (λ b. omega (arith, j.ahead k b, counted_else k q a (λ e. omega arith)))
room_loses last k s a (Discarded t) d = omega (arith, d.less k)

-- an arrival of charge 0, of which the rule by rooms does not speak, brings nothing
nothing_counted : (k : ℕ) (r : Arrival) → octets_at k 0 r ≡ 0
nothing_counted k (Joined place t) = ⊎_elim (counted_there k place 0) (counted_else k place 0) (eq_or_not place k)
nothing_counted k (Discarded t) = refl

-- and gives no room: the stream stays as it is, or goes on from a place where nothing is left
nothing_joins : (last k : ℕ) (s : Stream) → room k (stream_of (arrive_of last s 0)) ≤ room k s
nothing_joins last k s =
    let same : (n : ℕ) → n ≡ s.left → room k (at_place s s.place n) ≤ room k s = λ n e. omega (arith, ap (λ (m : ℕ). room k (at_place s s.place m)) e) in
    rw (joins_here last s 0 (omega arith))
    (joined_cases last s 0 (λ r. room k (stream_of r) ≤ room k s) (omega arith)
    (λ l. same (s.left - 0) (omega arith))
    (λ e p. let t = advanced s in
    where_from k t.place
    (λ b. omega (arith, room_behind k t b))
    (λ f. omega (arith, room_there k t f, room_ahead k s (omega arith)))
    (λ b. omega (arith, room_ahead k t b, room_ahead k s (omega arith))))
    (λ e p. same 0 e))

-- so what any arrival brings into a queue, the room there loses
room_arrive : (last k : ℕ) (s : Stream) (a : ℕ) → StreamFit last s → room k (stream_of (arrive_of last s a)) + octets_at k a (arrive_of last s a) ≤ room k s
room_arrive last k s zero f = omega (arith, nothing_counted k (arrive_of last s 0), nothing_joins last k s)
room_arrive last k s (suc a) f = room_loses last k s (suc a) (arrive_of last s (suc a)) (by_room last s (suc a) (omega arith) f.last_place)

-- what an arrival brings into a queue, the stream has used there
pub used_arrive : (last k : ℕ) (s : Stream) (a : ℕ) → StreamFit last s
    → used k s + octets_at k a (arrive_of last s a) ≤ used k (stream_of (arrive_of last s a))
unfolding used
used_arrive last k s a f = omega (arith, room_arrive last k s a f, room_most k s f.left_within, permitted_arrive last s a)

-- a tick brings the queue and the stream one place nearer, and the stream has used no less of the queue
pub used_tick : (last k : ℕ) (s : Stream) → StreamFit last s → used k s ≤ used (k - 1) (tick_of s)
unfolding used
used_tick last k s f =
    where_from k 1
    (λ b. gone (omega arith))
    (λ e. gone (omega arith))
    (λ b.
    let nearer : room (k - 1) (tick_of s) ≡ room k s = room_tick (k - 1) s (omega arith) ∙ ap (λ (j : ℕ). room j s) (omega arith) in
    omega (arith, nearer, permitted_tick s))
  where
    -- a queue that the tick makes prior
    gone : k - 1 < 1 → s.permitted - room k s ≤ (tick_of s).permitted - room (k - 1) (tick_of s)
    gone h = omega (arith, room_behind (k - 1) (tick_of s) (omega (arith, tick_current s)), permitted_tick s)
