-- What `drains_exactly` says of a record and memory that are left open: three ticks after a withdrawal that was granted on them, and a tick later. Each
-- line would be lost with what it follows from.
use Rattle.std.specs.Prelude.{ℕ, ◌+◌, ◌≤◌, true, false, cond, ◌≡◌, List, ◌∷◌, eqb}
use Rattle.lists.specs.Turns.{sum_to}
use Rattle.stream.specs.State.{reserve_of}
use Rattle.record.specs.Layout.{stream_count}
use Rattle.record.specs.Head.{open_at, link_at}
use Rattle.record.specs.Entry.{stream_at, with_stream, bound_at, vid_at, address_at}
use Rattle.record.specs.Reservations.{permitted_of, permitted_sum}
use Rattle.ranges.specs.Ranges.{share_of, permitted_fits}
use Rattle.gates.specs.Refusals.{reserve_refusal}
use Rattle.steps.specs.Call.{reserving, withdrawing, arriving, ticking, binding}
use Rattle.port.specs.Calls.{called}
use Rattle.port_laws.specs.Lists.{fresh_record}
use Rattle.guarantee.specs.Draining.{Lent, lent_after}
use Rattle.guarantee_examples.specs.Withdrawn.{draining_reply, between_calls}

-- the sum of the other reserved streams' P, and what stream r adds to it
abbrev pub others_part : ℕ → List ℕ → ℕ → ℕ
others_part s p r = cond (eqb r s) 0 (permitted_of (stream_at p r))

abbrev pub others_permitted : ℕ → List ℕ → ℕ
others_permitted s p = sum_to (others_part s p) stream_count

-- the stream's own P is no part of it
abbrev pub NoOwnPart : Type 0
NoOwnPart = others_part 5 (with_stream fresh_record 5 (reserve_of 200)) 5 ≡ 0

-- what is left of a record and memory three ticks after a withdrawal, with refused calls in between, and the record that one tick more leaves
abbrev pub still_draining : List ℕ → List ℕ → Lent
still_draining p m = lent_after (withdrawing 5 ∷ between_calls) p m

abbrev pub drained : List ℕ → List ℕ → List ℕ
drained p m = (called ticking (still_draining p m).port (still_draining p m).memory).port

-- what follows from `drains_exactly`, of a record and memory on which a withdrawal of stream 5 is granted
pub record DrainingSays (p m : List ℕ) : Type 0 where
  -- before the fourth tick number, share and binding are taken
  pub still_reserved : (stream_at (still_draining p m).port 5).reserved ≡ true
  pub still_permitted : permitted_sum (still_draining p m).port ≡ others_permitted 5 (still_draining p m).port + permitted_of (stream_at p 5)
  pub still_bound : bound_at (still_draining p m).port 5 ≡ bound_at p 5
  pub still_vid : vid_at (still_draining p m).port 5 ≡ vid_at p 5
  pub still_address : address_at (still_draining p m).port 5 ≡ address_at p 5
  -- and the calls that name the stream are refused as draining
  pub still_no_arrival : (charge tag : ℕ) → (called (arriving 5 charge tag) (still_draining p m).port (still_draining p m).memory).reply ≡ draining_reply
  pub still_no_reservation : (permitted : ℕ) → (called (reserving 5 permitted) (still_draining p m).port (still_draining p m).memory).reply ≡ draining_reply
  pub still_no_binding : (address : List ℕ) (vid : ℕ)
      → (called (binding 5 address vid) (still_draining p m).port (still_draining p m).memory).reply ≡ draining_reply
  pub still_no_withdrawal : (called (withdrawing 5) (still_draining p m).port (still_draining p m).memory).reply ≡ draining_reply
  -- after it a Reserve asks only that its P is permitted and that the share has it; the stream has no part of the share, and is not bound
  pub then_reserved : (permitted : ℕ) → open_at (drained p m) ≡ true → permitted_fits permitted ≡ true
      → permitted_sum (drained p m) + permitted ≤ share_of (link_at (drained p m)) → reserve_refusal (drained p m) 5 permitted ≡ 0
  pub then_permitted : permitted_sum (drained p m) ≡ others_permitted 5 (drained p m)
  pub then_not_bound : bound_at (drained p m) 5 ≡ false

abbrev pub AllDrain : Type 0
AllDrain = (p m : List ℕ) → (called (withdrawing 5) p m).reply.refusal ≡ 0 → DrainingSays p m
