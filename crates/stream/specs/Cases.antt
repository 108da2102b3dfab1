-- Document 01's cases of one stream, P = 200: C5 to C10, each as its events and their replies.
use Rattle.std.specs.Prelude.{◌-◌, List, [], ◌∷◌, ◌++◌}
use Rattle.stream.specs.declared.Reply.{Reply}
use Rattle.stream.specs.State.{least_queues, reserve_of}
use Rattle.stream.specs.Replies.{granted, refused_by}
use Rattle.stream.specs.Alone.{StreamEvent, arrival, tick, replies}

-- a case: what happens after the reservation, and what the arrivals are to reply
pub record StreamCase : Type 0 where
  pub events : List StreamEvent
  pub expected : List Reply

-- a case that goes on where another ends
abbrev pub continued : StreamCase → List StreamEvent → List Reply → StreamCase
continued c es rs = record { events = c.events ++ es; expected = c.expected ++ rs }

abbrev pub c5 : StreamCase
c5 = record { events = arrival 200 ∷ []; expected = granted 1 200 ∷ [] }

abbrev pub c6 : StreamCase
c6 = record { events = arrival 120 ∷ arrival 100 ∷ []; expected = granted 1 80 ∷ granted 2 100 ∷ [] }

abbrev pub c7 : StreamCase
c7 = continued c6 (arrival 90 ∷ arrival 84 ∷ []) (granted 2 10 ∷ granted 3 116 ∷ [])

abbrev pub c8 : StreamCase
c8 =
    record {
      events = arrival 200 ∷ arrival 200 ∷ arrival 200 ∷ arrival 84 ∷ [];
      expected = granted 1 200 ∷ granted 2 200 ∷ granted 3 0 ∷ refused_by 14 ∷ [];
    }

abbrev pub c9 : StreamCase
c9 = continued c8 (tick ∷ arrival 84 ∷ []) (granted 3 116 ∷ [])

abbrev pub c10 : StreamCase
c10 = record { events = arrival 201 ∷ arrival 84 ∷ []; expected = refused_by 14 ∷ refused_by 14 ∷ [] }

abbrev pub cases : List StreamCase
cases = c5 ∷ c6 ∷ c7 ∷ c8 ∷ c9 ∷ c10 ∷ []

-- what the rule replies to a case's events on a stream just reserved with P = 200, on a port with the fewest queues
abbrev pub replies_to : StreamCase → List Reply
replies_to c = replies (least_queues - 1) (reserve_of 200) c.events
