-- What a call is to queues and streams, in one view of it, and what a call in a list counts as.
use Rattle.std.specs.Prelude.{ℕ, cond, List}
use Rattle.header.specs.Header.{length_fits}
use Rattle.steps.specs.Call.{Call, opening, reserving, withdrawing, arriving, ticking, transmitting, joining_best_effort, binding, framing}
use Rattle.binding.specs.Finding.{frame_lookup}
use Rattle.gates.specs.Becoming.{becoming}

-- the view: a tick, a transmit, a reservation of s with P, a withdrawal of s, an arrival on s, a frame for best effort, a Frame by its octets, or a call
-- that touches neither the queues nor a stream's reservation
pub data Action : Type 0 where
  to_tick : Action
  to_transmit : Action
  to_reserve : ℕ → ℕ → Action
  to_withdraw : ℕ → Action
  to_arrive : ℕ → ℕ → ℕ → Action
  to_best_effort : ℕ → ℕ → Action
  to_frame : List ℕ → ℕ → Action
  neither : Action

-- the action of each call; a later Open is refused, since the port is open
abbrev pub action_of : Call → Action
action_of (opening t) = neither
action_of (reserving s permitted) = to_reserve s permitted
action_of (withdrawing s) = to_withdraw s
action_of (arriving s charge tag) = to_arrive s charge tag
action_of ticking = to_tick
action_of transmitting = to_transmit
action_of (joining_best_effort charge tag) = to_best_effort charge tag
action_of (binding s address vid) = neither
action_of (framing octets tag) = to_frame octets tag

-- what call c on record p counts as, by its action: of Frames, "one that is not refused with 17 and becomes an Arrive in its list counts there as
-- that Arrive", and one that becomes Best effort as that; any other call as itself. On an open port 17 is replied just where the length is outside its
-- range (`Frame-refused`, `frame_not_17`)
abbrev pub counts_by : List ℕ → Call → Action → Call
counts_by p c to_tick = c
counts_by p c to_transmit = c
counts_by p c (to_reserve s permitted) = c
counts_by p c (to_withdraw s) = c
counts_by p c (to_arrive s charge tag) = c
counts_by p c (to_best_effort charge tag) = c
counts_by p c (to_frame octets tag) = cond (length_fits octets) (becoming octets tag (frame_lookup p octets)) c
counts_by p c neither = c

abbrev pub counts_as : List ℕ → Call → Call
counts_as p c = counts_by p c (action_of c)
