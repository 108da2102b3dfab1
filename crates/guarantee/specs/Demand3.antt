-- Demand 3: "This is claimed for every list of these calls, refused ones included, on one port and its memory from a granted opening".
use Rattle.std.specs.Prelude.{ℕ, ◌≡◌, List, [], ◌∷◌}
use Rattle.lists.specs.Each.{All}
use Rattle.record.specs.Queues.{queues_at}
use Rattle.ranges.specs.Ranges.{share_of}
use Rattle.steps.specs.Call.{Terms, Call, opening}
use Rattle.port.specs.Calls.{called}
use Rattle.guarantee.specs.Events.{Made, Event, both_runs, events_after}
use Rattle.guarantee.specs.Claims.{SameRecord, LinkCondition, PurgesNothing, SaysWhatItSends, AlikeMarked, AllSentBefore, ConformingPrompt, Alike, NotByHost}

-- "The first is a granted Open, whatever record and memory it was given": these two, the Open's terms, and the calls after it; "lists hold [Bind and
-- Frame] too, each Frame with its octets", and there are "withdrawals in its lists"
pub record CallList : Type 0 where
  pub port : List ℕ
  pub memory : List ℕ
  pub terms : Terms
  pub later : List Call
  pub opened : (called (opening terms) port memory).reply.refusal ≡ 0

-- the queues for reserved traffic of its port, before the Open and ever after
abbrev pub queues_in : CallList → ℕ
queues_in l = queues_at l.port

-- both runs of it, and what happened in it, the Open being call number 0
abbrev pub runs_of : CallList → List Made
runs_of l = both_runs called (opening l.terms ∷ l.later) l.port l.memory

abbrev pub events_in : CallList → List Event
events_in l = events_after [] (runs_of l)

-- the link condition of the list, by its port's share
abbrev pub LinkHolds : CallList → Type 0
LinkHolds l = LinkCondition (share_of l.terms.link) (events_in l)

-- what follows from it, in a port with so many queues for reserved traffic
pub record Promised (queues : ℕ) (es : List Event) : Type 0 where
  -- "no tick purges a frame"
  pub no_purge : All PurgesNothing es
  -- "every accepted reserved frame is sent before the fourth tick after it": in general, the tick whose number is that of the queues
  pub all_sent : AllSentBefore queues es
  -- "a stream that never offers more than its permitted octets between ticks has each frame accepted as current and sent before the second tick
  -- after it", from a grant to the withdrawal
  pub prompt : ConformingPrompt es

-- the claim, of one list
pub record Demand3 (l : CallList) : Type 0 where
  -- under the link condition
  pub promised : LinkHolds l → Promised (queues_in l) (events_in l)
  -- "With or without the link condition, two lists alike [..] give its arrivals the same replies", also where they open with other terms
  pub alike : (other : CallList) (s : ℕ) → Alike s (events_in l) (events_in other)
  -- the run whose frames are marked is a run of this port,
  pub records : All SameRecord (runs_of l)
  -- the frames that the events show as sent are those that the transmits reply, and the marks change no other reply
  pub says : All SaysWhatItSends (events_in l)
  pub marks : All AlikeMarked (events_in l)
  -- and no call is refused with 18, 19 or 20
  pub not_by_host : All NotByHost (events_in l)
