-- What happened in a list of calls: each call, as that which it counts as, with its reply and with the frame that it sent.
use Rattle.std.specs.Prelude.{ℕ, Bool, true, false, cond, List, [], ◌∷◌, ◌++◌, length, get_or}
use Rattle.stream.specs.declared.Reply.{Reply}
use Rattle.queue.specs.Place.{best_effort_stream}
use Rattle.steps.specs.Call.{Call, arriving, ticking, joining_best_effort, framing}
use Rattle.steps.specs.Outcome.{Outcome}
use Rattle.port_laws.specs.Counting.{Action, to_tick, to_transmit, to_reserve, to_withdraw, to_arrive, to_best_effort, to_frame, neither, action_of, counts_as}

-- a frame, "marked with its call's number in the list, so equal tags do no harm"
pub record Marked : Type 0 where
  pub stream : ℕ
  pub charge : ℕ
  pub tag : ℕ
  pub number : ℕ

-- what a call sends: a reserved frame, which "is one that an Arrive brought", a frame of best effort, or none
pub data Sent : Type 0 where
  reserved_sent : Marked → Sent
  best_effort_sent : Marked → Sent
  none : Sent

-- call c with its number for a tag, by its action
abbrev pub marked_by : ℕ → Call → Action → Call
marked_by n c to_tick = c
marked_by n c to_transmit = c
marked_by n c (to_reserve s permitted) = c
marked_by n c (to_withdraw s) = c
marked_by n c (to_arrive s charge tag) = arriving s charge n
marked_by n c (to_best_effort charge tag) = joining_best_effort charge n
marked_by n c (to_frame octets tag) = framing octets n
marked_by n c neither = c

abbrev pub marked : ℕ → Call → Call
marked n c = marked_by n c (action_of c)

-- a call of the list as that which it counts as, and what it leaves in two runs side by side: in the port's own, and in one in which each frame has
-- its call's number for a tag (the definitions keep a tag of any size)
pub record Made : Type 0 where
  pub call : Call
  pub real : Outcome
  pub shown : Outcome

-- the calls after `earlier`, by this sort of call, on record p and memory m, and marked on record q and memory k
abbrev pub made : (Call → List ℕ → List ℕ → Outcome) → List Call → List Call → List ℕ → List ℕ → List ℕ → List ℕ → List Made
made call earlier [] p m q k = []
made call earlier (c ∷ cs) p m q k =
    let o = call c p m in
    let u = call (marked (length earlier) c) q k in
    let d = counts_as p c in
    record { call = d; real = o; shown = u } ∷ made call (earlier ++ (d ∷ [])) cs o.port o.memory u.port u.memory

-- the frame that call number n brings, by its action; a Frame that counts as itself brings none, since it is refused
abbrev pub brought_by : ℕ → Action → Sent
brought_by n to_tick = none
brought_by n to_transmit = none
brought_by n (to_reserve s permitted) = none
brought_by n (to_withdraw s) = none
brought_by n (to_arrive s charge tag) = reserved_sent (record { stream = s; charge = charge; tag = tag; number = n })
brought_by n (to_best_effort charge tag) = best_effort_sent (record { stream = best_effort_stream; charge = charge; tag = tag; number = n })
brought_by n (to_frame octets tag) = none
brought_by n neither = none

-- whether a call is a Transmit
abbrev pub is_transmit : Action → Bool
is_transmit to_tick = false
is_transmit to_transmit = true
is_transmit (to_reserve s permitted) = false
is_transmit (to_withdraw s) = false
is_transmit (to_arrive s charge tag) = false
is_transmit (to_best_effort charge tag) = false
is_transmit (to_frame octets tag) = false
is_transmit neither = false

-- the frame that a call sends, by the calls before it: where every tag is its call's number, a Transmit's second reply number is the number of the
-- call that brought the frame (0 for nothing: call 0 is the Open, and brings none)
abbrev pub sent_by : List Call → Call → Reply → Sent
sent_by earlier c shown = cond (is_transmit (action_of c)) (brought_by shown.second (action_of (get_or earlier shown.second ticking))) none

-- a call of the list as that which it counts as, its reply, its reply where each frame's tag is its call's number, and what it sent
pub record Event : Type 0 where
  pub call : Call
  pub reply : Reply
  pub shown : Reply
  pub sent : Sent

-- the view of its call
abbrev pub action : Event → Action
action e = action_of e.call

-- the events of calls that were made after `earlier`
abbrev pub events_after : List Call → List Made → List Event
events_after earlier [] = []
events_after earlier (x ∷ xs) =
    record { call = x.call; reply = x.real.reply; shown = x.shown.reply; sent = sent_by earlier x.call x.shown.reply }
    ∷ events_after (earlier ++ (x.call ∷ [])) xs

-- a whole list, on a record and a memory, on which both runs begin; "each later call gets both as the last one left them, and nobody else writes them
-- meanwhile"
abbrev pub both_runs : (Call → List ℕ → List ℕ → Outcome) → List Call → List ℕ → List ℕ → List Made
both_runs call cs p m = made call [] cs p m p m

abbrev pub events : (Call → List ℕ → List ℕ → Outcome) → List Call → List ℕ → List ℕ → List Event
events call cs p m = events_after [] (both_runs call cs p m)
