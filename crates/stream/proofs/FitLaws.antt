-- A fit stream stays fit, no step changes its P, and its place falls at a tick only. Assumes nothing.
use Prim.Native.Nat.{ℕ, ◌≤◌}
use mathlib.Core.Path.{◌≡◌, refl, subst}
use native.Mathlib.Omega.{arith}
use Rattle.stream.specs.declared.Stream.{Stream}
use Rattle.stream.specs.declared.Arrival.{Arrival}
use Rattle.stream.specs.declared.Arrival.TheVariants.{Joined, Discarded}
use Rattle.stream.specs.State.{current_place, at_place, reserve_of, StreamFit}
use Rattle.stream.specs.Steps.{advanced, joined, arrive_of, tick_of}
use Rattle.stream.specs.Replies.{stream_of}
use Rattle.stream.proofs.ArriveLaws.{arrive_cases, joined_cases}
use Rattle.stream.proofs.TickLaws.{tick_cases}

-- a stream is fit as its reservation leaves it
pub fit_reserve : (last permitted : ℕ) → current_place ≤ last → StreamFit last (reserve_of permitted)
fit_reserve last permitted h = omega arith

fit_joined : (last : ℕ) (s : Stream) (a : ℕ) → StreamFit last s → a ≤ s.left → StreamFit last (stream_of (joined last s a))
fit_joined last s a f h =
    joined_cases last s a (λ r. StreamFit last (stream_of r)) h
    (λ l. omega arith)
    (λ e p. omega arith)
    (λ e p. omega arith)

-- an arrival keeps a stream fit
pub fit_arrive : (last : ℕ) (s : Stream) (a : ℕ) → StreamFit last s → StreamFit last (stream_of (arrive_of last s a))
fit_arrive last s a f =
    arrive_cases last s a (λ r. StreamFit last (stream_of r))
    (λ h. fit_joined last s a f h)
    (λ h p q. fit_joined last (advanced s) a (omega arith) q)
    (λ h p. omega arith)
    (λ h q. omega arith)

-- and so does a tick
pub fit_tick : (last : ℕ) (s : Stream) → StreamFit last s → StreamFit last (tick_of s)
fit_tick last s f =
    tick_cases s (λ t. StreamFit last t)
    (λ h. omega arith)
    (λ h. omega arith)

-- no step changes P
permitted_joined : (last : ℕ) (s : Stream) (a : ℕ) → a ≤ s.left → (stream_of (joined last s a)).permitted ≡ s.permitted
permitted_joined last s a h = joined_cases last s a (λ r. (stream_of r).permitted ≡ s.permitted) h (λ _. refl) (λ _ _. refl) (λ _ _. refl)

pub permitted_arrive : (last : ℕ) (s : Stream) (a : ℕ) → (stream_of (arrive_of last s a)).permitted ≡ s.permitted
permitted_arrive last s a =
    arrive_cases last s a (λ r. (stream_of r).permitted ≡ s.permitted)
    (permitted_joined last s a)
    (λ _ _ q. permitted_joined last (advanced s) a q)
    (λ _ _. refl)
    (λ _ _. refl)

pub permitted_tick : (s : Stream) → (tick_of s).permitted ≡ s.permitted
permitted_tick s = tick_cases s (λ t. t.permitted ≡ s.permitted) (λ _. refl) (λ _. refl)

-- an arrival never lowers the place
place_joined : (last : ℕ) (s : Stream) (a : ℕ) → a ≤ s.left → s.place ≤ (stream_of (joined last s a)).place
place_joined last s a h = joined_cases last s a (λ r. s.place ≤ (stream_of r).place) h (λ l. omega arith) (λ e p. omega arith) (λ e p. omega arith)

pub place_arrive : (last : ℕ) (s : Stream) (a : ℕ) → s.place ≤ last → s.place ≤ (stream_of (arrive_of last s a)).place
place_arrive last s a f =
    arrive_cases last s a (λ r. s.place ≤ (stream_of r).place)
    (λ h. place_joined last s a h)
    (λ h p q. omega (arith, place_joined last (advanced s) a q))
    (λ h p. f)
    (λ h q. f)

-- and a frame that joins does so at the place or after it, never at one that the stream has left behind
abbrev JoinsFrom : ℕ → Arrival → Type 0
JoinsFrom from (Joined place t) = from ≤ place
JoinsFrom from (Discarded t) = Unit {0}

joins_from : (last : ℕ) (s : Stream) (a : ℕ) → JoinsFrom s.place (arrive_of last s a)
joins_from last s a = arrive_cases last s a (JoinsFrom s.place) (λ h. omega arith) (λ h p q. omega arith) (λ h p. tt) (λ h q. tt)

pub joins_onward : (last : ℕ) (s : Stream) (a place : ℕ) (t : Stream) → arrive_of last s a ≡ Joined place t → s.place ≤ place
joins_onward last s a place t e = subst (JoinsFrom s.place) e (joins_from last s a)

-- and at the last place or before it
abbrev JoinsWithin : ℕ → Arrival → Type 0
JoinsWithin last (Joined place t) = place ≤ last
JoinsWithin last (Discarded t) = Unit {0}

pub joins_within : (last : ℕ) (s : Stream) (a place : ℕ) (t : Stream) → StreamFit last s → arrive_of last s a ≡ Joined place t → place ≤ last
joins_within last s a place t fit e =
    subst (JoinsWithin last) e (arrive_cases last s a (JoinsWithin last) (λ h. fit.last_place) (λ h p q. omega arith) (λ h p. tt) (λ h q. tt))

-- a step changes nothing of a stream but its place and left
abbrev pub OnlyMoves : Stream → Stream → Type 0
OnlyMoves s t = at_place s t.place t.left ≡ t

pub arrive_moves : (last : ℕ) (s : Stream) (a : ℕ) → OnlyMoves s (stream_of (arrive_of last s a))
arrive_moves last s a =
    arrive_cases last s a (λ r. OnlyMoves s (stream_of r))
    (λ h. joined_cases last s a (λ r. OnlyMoves s (stream_of r)) h (λ _. refl) (λ _ _. refl) (λ _ _. refl))
    (λ h p q. joined_cases last (advanced s) a (λ r. OnlyMoves s (stream_of r)) q (λ _. refl) (λ _ _. refl) (λ _ _. refl))
    (λ h p. refl)
    (λ h q. refl)

pub tick_moves : (s : Stream) → OnlyMoves s (tick_of s)
tick_moves s = tick_cases s (OnlyMoves s) (λ h. refl) (λ h. refl)
