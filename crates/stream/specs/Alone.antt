-- One stream by itself: its own arrivals and the ticks, in their order, with its replies. Nothing of any other stream is in it.
use Rattle.std.specs.Prelude.{ℕ, ◌+◌, ◌-◌, cond, List, [], ◌∷◌, eqb}
use Rattle.stream.specs.declared.Stream.{Stream}
use Rattle.stream.specs.declared.Reply.{Reply}
use Rattle.stream.specs.declared.Arrival.{Arrival}
use Rattle.stream.specs.declared.Arrival.TheVariants.{Joined, Discarded}
use Rattle.stream.specs.Steps.{arrive_of, tick_of}
use Rattle.stream.specs.Replies.{reply_of, stream_of}

-- what can happen to the stream: a frame of this charge arrives on it, or its port's epoch ends
pub data StreamEvent : Type 0 where
  arrival : ℕ → StreamEvent
  tick : StreamEvent

-- the stream after the events
abbrev pub after : ℕ → Stream → List StreamEvent → Stream
after last s [] = s
after last s (arrival a ∷ es) = after last (stream_of (arrive_of last s a)) es
after last s (tick ∷ es) = after last (tick_of s) es

-- the replies of its arrivals, in order
abbrev pub replies : ℕ → Stream → List StreamEvent → List Reply
replies last s [] = []
replies last s (arrival a ∷ es) = reply_of (arrive_of last s a) ∷ replies last (stream_of (arrive_of last s a)) es
replies last s (tick ∷ es) = replies last (tick_of s) es

-- the octets that one arrival of charge a brings into the queue at place k
abbrev pub octets_at : ℕ → ℕ → Arrival → ℕ
octets_at k a (Joined place s) = cond (eqb place k) a 0
octets_at k a (Discarded s) = 0

-- the octets that the events bring into one queue, the one at place k when they begin: each tick brings it a place nearer, and after current
-- it is prior, place 0, where no frame of a fit stream joins
abbrev pub octets_into : ℕ → ℕ → Stream → List StreamEvent → ℕ
octets_into last k s [] = 0
octets_into last k s (arrival a ∷ es) = octets_at k a (arrive_of last s a) + octets_into last k (stream_of (arrive_of last s a)) es
octets_into last k s (tick ∷ es) = octets_into last (k - 1) (tick_of s) es
