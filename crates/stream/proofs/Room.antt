-- The rule by rooms: a frame joins at the first place that has room for it, and a tick moves the rooms one place nearer. Neither the rule's
-- recursion nor its exact fit is left in these words. Assumes nothing.
use Prim.Native.Nat.{ℕ, ◌+◌, ◌-◌, ◌≤◌, ◌<◌}
use mathlib.Core.Path.{◌≡◌, refl}
use mathlib.Core.Bool.{cond}
use mathlib.Core.Logic.{⊎_elim}
use native.Mathlib.Omega.{arith}
use native.Mathlib.Nat.{eq-or-lt_of_le}
use lib.Dec.{ltb, eqb}
use borrow.Author.Tests.{lt-ltb, le-ltb, eq-eqb, ne_eqb}
use Rattle.lists.proofs.Order.{le_or_lt}
use Rattle.stream.specs.declared.Stream.{Stream}
use Rattle.stream.specs.declared.Arrival.{Arrival}
use Rattle.stream.specs.declared.Arrival.TheVariants.{Joined, Discarded}
use Rattle.stream.specs.State.{current_place, at_place, full_at}
use Rattle.stream.specs.Steps.{advanced, joined, discarded, arrive_of, tick_of}
use Rattle.stream.proofs.ArriveLaws.{arrive_cases, joined_cases}
use Rattle.stream.proofs.TickLaws.{tick_cases}

-- the octets still free for the stream at place k: none behind its place, what is left at it, all of P ahead of it
unfoldable pub room : ℕ → Stream → ℕ
room k s = cond (ltb k s.place) 0 (cond (eqb k s.place) s.left s.permitted)

-- its three cases
module _ (k : ℕ) (s : Stream) where
  pub room_behind : k < s.place → room k s ≡ 0
  unfolding room
  room_behind h = rw (lt-ltb k s.place h)

  pub room_there : k ≡ s.place → room k s ≡ s.left
  unfolding room
  room_there h = rw (le-ltb k s.place (omega arith), eq-eqb k s.place h)

  pub room_ahead : s.place < k → room k s ≡ s.permitted
  unfolding room
  room_ahead h = rw (le-ltb k s.place (omega arith), ne_eqb k s.place (λ e. omega arith))

-- a proof by cases on where place k is from another
pub where_from : {A : Type 0} (k place : ℕ) → (k < place → A) → (k ≡ place → A) → (place < k → A) → A
where_from k place behind there ahead =
    ⊎_elim (λ (h : place ≤ k). ⊎_elim (λ (e : place ≡ k). there (omega arith)) ahead (eq-or-lt_of_le h)) behind (le_or_lt place k)

-- a frame of charge a joins at place q and leaves the stream t: q is the first place with room for it, and loses a; no place before q has room
-- any more, and every place after q keeps its room
pub record Joins (last : ℕ) (s : Stream) (a q : ℕ) (t : Stream) : Type 0 where
  pub onward : s.place ≤ q
  pub within : q ≤ last
  pub fits : a ≤ room q s
  pub first : (k : ℕ) → k < q → room k s < a
  pub behind : (k : ℕ) → k < q → room k t ≡ 0
  pub there : room q t + a ≡ room q s
  pub ahead : (k : ℕ) → q < k → room k t ≡ room k s
  pub stays : q ≤ t.place

-- a frame of charge a is discarded and leaves the stream t: no place up to the last has room for it, and none gains any
pub record Refuses (last : ℕ) (s : Stream) (a : ℕ) (t : Stream) : Type 0 where
  pub none : (k : ℕ) → k ≤ last → room k s < a
  pub less : (k : ℕ) → room k t ≤ room k s
  pub on : s.place ≤ t.place

-- an answer that goes by the rooms
abbrev pub ByRoom : ℕ → Stream → ℕ → Arrival → Type 0
ByRoom last s a (Joined q t) = Joins last s a q t
ByRoom last s a (Discarded t) = Refuses last s a t

-- a frame that joins at the place of u, where u is s at its place or at a later one that it has come to since no earlier one had room
module _ (last : ℕ) (s : Stream) (a : ℕ) (u : Stream) (onward : s.place ≤ u.place) (within : u.place ≤ last) (fits : a ≤ u.left)
    (first : (k : ℕ) → k < u.place → room k s < a) (same : (k : ℕ) → u.place ≤ k → room k u ≡ room k s) where
  joins_so : (t : Stream) → u.place ≤ t.place → room u.place t + a ≡ u.left → ((k : ℕ) → u.place < k → room k t ≡ u.permitted)
      → Joins last s a u.place t
  joins_so t stays there ahead =
      let left : room u.place s ≡ u.left = omega (arith, same u.place (omega arith), room_there u.place u refl) in
      record {
        onward = onward;
        within = within;
        fits = omega arith;
        first = first;
        behind = λ k h. room_behind k t (omega arith);
        there = omega arith;
        ahead = λ k h. omega (arith, ahead k h, same k (omega arith), room_ahead k u h);
        stays = stays;
      }

  joined_by_room : ByRoom last s a (joined last u a)
  joined_by_room =
      joined_cases last u a (ByRoom last s a) fits
      (λ l. let t = at_place u u.place (u.left - a) in
      joins_so t (omega arith) (omega (arith, room_there u.place t refl)) (λ k h. room_ahead k t h))
      (λ e p. let t = advanced u in
      joins_so t (omega arith) (omega (arith, room_behind u.place t (omega arith)))
      (λ k h. where_from k t.place (λ b. absurd (omega arith)) (room_there k t) (room_ahead k t)))
      (λ e p. let t = at_place u u.place 0 in
      joins_so t (omega arith) (omega (arith, room_there u.place t refl)) (λ k h. room_ahead k t h))

-- a frame that neither the stream's place nor a later one has room for
discarded_by_room : (last : ℕ) (s : Stream) (a : ℕ) → s.place ≤ last → s.left < a → ((k : ℕ) → s.place < k → k ≤ last → room k s < a)
    → ByRoom last s a (discarded last s)
discarded_by_room last s a within h later =
    let t = at_place s last 0 in
    record {
      none = λ k b. where_from k s.place (λ l. omega (arith, room_behind k s l)) (λ e. omega (arith, room_there k s e)) (λ l. later k l b);
      less = λ k.
          where_from k last
          (λ l. omega (arith, room_behind k t l))
          (λ e. omega (arith, room_there k t e))
          (λ l. omega (arith, room_ahead k t l, room_ahead k s (omega arith)));
      on = within;
    }

-- every arrival goes by the rooms
pub by_room : (last : ℕ) (s : Stream) (a : ℕ) → 1 ≤ a → s.place ≤ last → ByRoom last s a (arrive_of last s a)
by_room last s a some within =
    arrive_cases last s a (ByRoom last s a)
    (λ h. joined_by_room last s a s (omega arith) within h (λ k l. omega (arith, room_behind k s l)) (λ k l. refl))
    (λ h p q. let u = advanced s in
    joined_by_room last s a u (omega arith) (omega arith) q
    (λ k l. where_from k s.place (λ b. omega (arith, room_behind k s b)) (λ e. omega (arith, room_there k s e)) (λ b. absurd (omega arith)))
    (λ k l.
    where_from k u.place
    (λ b. absurd (omega arith))
    (λ e. omega (arith, room_there k u e, room_ahead k s (omega arith)))
    (λ b. omega (arith, room_ahead k u b, room_ahead k s (omega arith)))))
    (λ h p. discarded_by_room last s a within h (λ k l b. absurd (omega arith)))
    (λ h q. discarded_by_room last s a within h (λ k l b. omega (arith, room_ahead k s l)))

-- a tick moves the rooms one place nearer
pub room_tick : (k : ℕ) (s : Stream) → 1 ≤ k → room k (tick_of s) ≡ room (k + 1) s
room_tick k s some =
    tick_cases s (λ t. room k t ≡ room (k + 1) s)
    (λ h. let t = full_at s current_place in
    where_from k current_place
    (λ b. absurd (omega arith))
    (λ e. omega (arith, room_there k t e, room_ahead (k + 1) s (omega arith)))
    (λ b. omega (arith, room_ahead k t b, room_ahead (k + 1) s (omega arith))))
    (λ h. let t = at_place s (s.place - 1) s.left in
    where_from (k + 1) s.place
    (λ b. omega (arith, room_behind k t (omega arith), room_behind (k + 1) s b))
    (λ e. omega (arith, room_there k t (omega arith), room_there (k + 1) s e))
    (λ b. omega (arith, room_ahead k t (omega arith), room_ahead (k + 1) s b)))
