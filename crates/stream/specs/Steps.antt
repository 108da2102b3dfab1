-- The steps of one stream: document 01, "Steps", Arrive and Tick. They are total, and go by the same sentences for places that no fit
-- record has: a frame that fits joins at that very number; from 0 one that does not fit goes on to 1, and a tick sets current; above the
-- last place nothing advances, a frame that does not fit is discarded, and a tick comes one place nearer.
use Rattle.std.specs.Prelude.{ℕ, zero, suc, ◌+◌, ◌-◌, cond, leb, ltb, eqb}
use Rattle.stream.specs.declared.Stream.{Stream}
use Rattle.stream.specs.declared.Arrival.{Arrival}
use Rattle.stream.specs.declared.Arrival.TheVariants.{Joined, Discarded}
use Rattle.stream.specs.State.{current_place, at_place, full_at}

-- "the place advances by one and left becomes P"
abbrev pub advanced : Stream → Stream
advanced s = full_at s (s.place + 1)

-- "if left is then 0 and the place is not last", the stream advances
abbrev pub advanced_if_spent : ℕ → Stream → Stream
advanced_if_spent last s = cond (eqb s.left 0) (cond (ltb s.place last) (advanced s) s) s

-- "the frame joins the queue at the place and left falls by a"
abbrev pub joined : ℕ → Stream → ℕ → Arrival
joined last s a = Joined s.place (advanced_if_spent last (at_place s s.place (s.left - a)))

-- "Number 14 alone changes its stream: place last, left 0"
abbrev pub discarded : ℕ → Stream → Arrival
discarded last s = Discarded (at_place s last 0)

-- the rule tried at the place, with n places after it: "If a ≤ left, the frame joins [..]. If a > left and the place is not last, the place
-- advances, left becomes P, and the rule is tried again. If a > left at last, the frame is discarded (14) and left becomes 0."
unfoldable pub attempt : ℕ → ℕ → Stream → ℕ → Arrival
attempt last zero s a = cond (leb a s.left) (joined last s a) (discarded last s)
attempt last (suc n) s a = cond (leb a s.left) (joined last s a) (attempt last n (advanced s) a)

-- Arrive(s, a) for the stream, a the charge (the octets that a frame costs on the wire)
unfoldable pub arrive_of : ℕ → Stream → ℕ → Arrival
arrive_of last s a = attempt last (last - s.place) s a

-- Tick for the stream: "A stream at current stays at current with left P. A stream at next goes to current, one at last goes to next, and
-- both keep their left."
unfoldable pub tick_of : Stream → Stream
tick_of s = cond (leb s.place current_place) (full_at s current_place) (at_place s (s.place - 1) s.left)
