-- The stream by itself: lists of events one after the other, fitness and place along them, and the bound on what joins one queue. Assumes
-- nothing.
use Prim.Native.Nat.{ℕ, ◌+◌, ◌-◌, ◌≤◌}
use mathlib.Core.Path.{◌≡◌, refl, ap}
use mathlib.Core.List.{List, [], ◌∷◌, ◌++◌, map}
use native.Mathlib.Omega.{arith}
use Rattle.stream.specs.declared.Stream.{Stream}
use Rattle.stream.specs.declared.Reply.{Reply}
use Rattle.stream.specs.State.{StreamFit}
use Rattle.stream.specs.Steps.{arrive_of, tick_of}
use Rattle.stream.specs.Replies.{reply_of, stream_of}
use Rattle.stream.specs.Alone.{StreamEvent, arrival, tick, after, replies, octets_into}
use Rattle.stream.proofs.FitLaws.{fit_arrive, fit_tick, permitted_arrive, permitted_tick, place_arrive}
use Rattle.stream.proofs.Used.{used, used_most, used_arrive, used_tick}

-- events after events
pub after_append : (last : ℕ) (s : Stream) (es fs : List StreamEvent) → after last s (es ++ fs) ≡ after last (after last s es) fs
after_append last s [] fs = refl
after_append last s (arrival a ∷ es) fs = after_append last (stream_of (arrive_of last s a)) es fs
after_append last s (tick ∷ es) fs = after_append last (tick_of s) es fs

pub replies_append : (last : ℕ) (s : Stream) (es fs : List StreamEvent) → replies last s (es ++ fs) ≡ replies last s es ++ replies last (after last s es) fs
replies_append last s [] fs = refl
replies_append last s (arrival a ∷ es) fs = ap (λ (l : List Reply). reply_of (arrive_of last s a) ∷ l) (replies_append last (stream_of (arrive_of last s a)) es fs)
replies_append last s (tick ∷ es) fs = replies_append last (tick_of s) es fs

-- a fit stream stays fit
pub fit_after : (last : ℕ) (s : Stream) (es : List StreamEvent) → StreamFit last s → StreamFit last (after last s es)
fit_after last s [] f = f
fit_after last s (arrival a ∷ es) f = fit_after last (stream_of (arrive_of last s a)) es (fit_arrive last s a f)
fit_after last s (tick ∷ es) f = fit_after last (tick_of s) es (fit_tick last s f)

-- between two ticks its place never falls, whatever arrives
pub place_arrivals : (last : ℕ) (s : Stream) (charges : List ℕ) → StreamFit last s → s.place ≤ (after last s (map arrival charges)).place
place_arrivals last s [] f = omega arith
place_arrivals last s (a ∷ charges) f =
    omega (
      arith,
      place_arrive last s a f.last_place,
      place_arrivals last (stream_of (arrive_of last s a)) charges (fit_arrive last s a f),
    )

-- what joins a queue, with what the stream has used of it already, is at most P
pub used_into : (last k : ℕ) (s : Stream) (es : List StreamEvent) → StreamFit last s → used k s + octets_into last k s es ≤ s.permitted
used_into last k s [] f = omega (arith, used_most k s)
used_into last k s (arrival a ∷ es) f =
    omega (
      arith,
      used_arrive last k s a f,
      used_into last k (stream_of (arrive_of last s a)) es (fit_arrive last s a f),
      permitted_arrive last s a,
    )
used_into last k s (tick ∷ es) f =
    omega (arith, used_tick last k s f, used_into last (k - 1) (tick_of s) es (fit_tick last s f), permitted_tick s)

-- so what joins a queue, from the tick that makes it last until it is purged, is at most P, whatever arrives and however the ticks fall
pub into_most : (last k : ℕ) (s : Stream) (es : List StreamEvent) → StreamFit last s → octets_into last k s es ≤ s.permitted
into_most last k s es f = omega (arith, used_into last k s es f)
