-- One stream's own events in a list, and what is replied to them: its arrivals of a permitted charge and the ticks. They go by the view of a call, so a
-- Frame that counts as an arrival on the stream is one.
use Rattle.std.specs.Prelude.{ℕ, cond, List, [], ◌∷◌}
use Rattle.stream.specs.declared.Reply.{Reply}
use Rattle.stream.specs.Alone.{StreamEvent, arrival, tick}
use Rattle.guarantee.specs.Events.{Event, action}
use Rattle.guarantee.specs.Claims.{is_tick, is_offer_of, offer}

-- the stream's offers, each as an arrival of the octets offered, and the ticks; every other event is left out
abbrev pub own : ℕ → List Event → List StreamEvent
own s [] = []
own s (e ∷ es) = cond (is_offer_of s (action e)) (arrival (offer s (action e)) ∷ own s es) (cond (is_tick (action e)) (tick ∷ own s es) (own s es))

-- the replies to its offers
abbrev pub own_replies : ℕ → List Event → List Reply
own_replies s [] = []
own_replies s (e ∷ es) = cond (is_offer_of s (action e)) (e.reply ∷ own_replies s es) (own_replies s es)
