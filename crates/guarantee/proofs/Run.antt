-- A run of the port as the proof of demand 3 sees it: the queues by their roles as lists of marked frames, the streams, and what each call does to
-- them. Nothing here knows of the octets of record and memory, nor how many queues there are. Assumes nothing.
use Prim.Native.Nat.{ℕ, suc, ◌+◌, ◌≤◌, ◌<◌}
use mathlib.Core.Bool.{true, cond}
use mathlib.Core.Path.{◌≡◌}
use mathlib.Core.List.{List, [], ◌∷◌, ◌++◌}
use lib.ListN.{length}
use lib.Dec.{eqb}
use Rattle.lists.specs.Turns.{sum_to, sum_of}
use Rattle.stream.specs.declared.Reply.{Reply}
use Rattle.stream.specs.declared.Arrival.{Arrival}
use Rattle.stream.specs.declared.Arrival.TheVariants.{Joined, Discarded}
use Rattle.stream.specs.State.{reserve_of}
use Rattle.stream.specs.Steps.{arrive_of}
use Rattle.stream.specs.Replies.{granted, refused_by, reply_of, stream_of}
use Rattle.record.specs.Layout.{stream_count}
use Rattle.ranges.specs.Ranges.{charge_fits}
use Rattle.port_laws.specs.Counting.{Action, to_arrive, to_reserve, to_withdraw, to_tick, to_transmit, to_best_effort, to_frame, neither}
use Rattle.guarantee.specs.Events.{Marked, Sent, reserved_sent, none, Event, action}
use Rattle.guarantee.proofs.Reservation.{Reservation, keeping, free, withdrawn, ticked, arrival_refusal, withdrawal_refusal, reservation_refusal}

-- the queues, by role (0 prior, 1 current, and so on), and the streams
pub record View : Type 0 where
  pub queue : ℕ → List Marked
  pub stream : ℕ → Reservation

-- the octets of frames
abbrev pub octets : List Marked → ℕ
octets = sum_of (λ f. f.charge)

-- the sum of the streams' P
abbrev pub permitted_of : View → ℕ
permitted_of v = sum_to (λ s. (v.stream s).stream.permitted) stream_count

module _ (v w : View) where
  abbrev pub SameQueues : Type 0
  SameQueues = (k : ℕ) → w.queue k ≡ v.queue k

  abbrev pub SameStreams : Type 0
  SameStreams = (s : ℕ) → w.stream s ≡ v.stream s

  -- no queue but one, and no stream but one
  abbrev pub OneQueue : ℕ → List Marked → Type 0
  OneQueue k fs = (w.queue k ≡ fs) × ((j : ℕ) → (j ≡ k → ⊥) → w.queue j ≡ v.queue j)

  abbrev pub OneStream : ℕ → Reservation → Type 0
  OneStream s x = (w.stream s ≡ x) × ((r : ℕ) → (r ≡ s → ⊥) → w.stream r ≡ v.stream r)

-- the queue at place k after an arrival
abbrev pub queue_after : ℕ → Marked → Arrival → List Marked → List Marked
queue_after k f (Joined place x) fs = cond (eqb place k) (fs ++ (f ∷ [])) fs
queue_after k f (Discarded x) fs = fs

-- the actions that touch neither the queues for reserved traffic nor streams; a Frame that counts as itself is refused
abbrev pub Quiet : Action → Type 0
Quiet to_tick = ⊥
Quiet to_transmit = ⊥
Quiet (to_reserve s permitted) = ⊥
Quiet (to_withdraw s) = ⊥
Quiet (to_arrive s charge tag) = ⊥
Quiet (to_best_effort charge tag) = Unit {0}
Quiet (to_frame octets tag) = Unit {0}
Quiet neither = Unit {0}

-- a Reserve that is granted
pub record Reserves (share : ℕ) (v w : View) (r : Reply) (s permitted : ℕ) : Type 0 where
  pub accepted : r.refusal ≡ 0
  pub below : s < stream_count
  pub was_free : v.stream s ≡ free
  pub within_share : permitted_of v + permitted ≤ share
  pub queues : SameQueues v w
  pub streams : OneStream v w s (keeping (reserve_of permitted))

-- a Reserve that is refused
pub record RefusesReservation (share : ℕ) (v w : View) (r : Reply) (s permitted : ℕ) : Type 0 where
  pub refused : reservation_refusal share (permitted_of v) s (v.stream s) permitted ≡ 0 → ⊥
  pub reply : r ≡ refused_by (reservation_refusal share (permitted_of v) s (v.stream s) permitted)
  pub queues : SameQueues v w
  pub streams : SameStreams v w

-- a Withdraw that is granted: the stream drains for as many ticks as there are queues for reserved traffic
pub record Withdraws (last : ℕ) (v w : View) (r : Reply) (s : ℕ) : Type 0 where
  pub accepted : r.refusal ≡ 0
  pub allowed : withdrawal_refusal s (v.stream s) ≡ 0
  pub below : s < stream_count
  pub keeps : (v.stream s).drain ≡ 0
  pub queues : SameQueues v w
  pub streams : OneStream v w s (withdrawn (last + 1) (v.stream s))

-- a Withdraw that is refused
pub record RefusesWithdrawal (v w : View) (r : Reply) (s : ℕ) : Type 0 where
  pub refused : withdrawal_refusal s (v.stream s) ≡ 0 → ⊥
  pub reply : r ≡ refused_by (withdrawal_refusal s (v.stream s))
  pub queues : SameQueues v w
  pub streams : SameStreams v w

-- an Arrive that its stream's rule decides: the frame joins or is discarded
pub record Arrives (last : ℕ) (v w : View) (r : Reply) (f : Marked) : Type 0 where
  pub allowed : arrival_refusal f.stream (v.stream f.stream) f.charge ≡ 0
  pub below : f.stream < stream_count
  pub keeps : (v.stream f.stream).drain ≡ 0
  pub fits : charge_fits f.charge ≡ true
  pub reply : r ≡ reply_of (arrive_of last (v.stream f.stream).stream f.charge)
  pub queues : (k : ℕ) → w.queue k ≡ queue_after k f (arrive_of last (v.stream f.stream).stream f.charge) (v.queue k)
  pub streams : OneStream v w f.stream (keeping (stream_of (arrive_of last (v.stream f.stream).stream f.charge)))

-- an Arrive that is refused before that
pub record RefusesArrival (v w : View) (r : Reply) (s charge : ℕ) : Type 0 where
  pub refused : arrival_refusal s (v.stream s) charge ≡ 0 → ⊥
  pub reply : r ≡ refused_by (arrival_refusal s (v.stream s) charge)
  pub queues : SameQueues v w
  pub streams : SameStreams v w

-- a Tick
pub record Ticks (v w : View) (r : Reply) : Type 0 where
  pub reply : r ≡ granted (length (v.queue 0)) (octets (v.queue 0))
  pub queues : (k : ℕ) → w.queue k ≡ v.queue (suc k)
  pub streams : (s : ℕ) → w.stream s ≡ ticked (v.stream s)

-- a Transmit that sends the oldest frame of queue k, where no frame waits in an earlier queue
pub record SendsFrom (v w : View) (r : Reply) (t : Sent) (k : ℕ) (f : Marked) (fs : List Marked) : Type 0 where
  pub waiting : v.queue k ≡ f ∷ fs
  pub earlier : (j : ℕ) → j < k → v.queue j ≡ []
  pub sent : t ≡ reserved_sent f
  pub reply : r ≡ granted f.stream f.tag
  pub queues : OneQueue v w k fs
  pub streams : SameStreams v w

-- call number n with its action, its reply and what it sent, between two views of a port with this last place and share
pub data Effect (last share n : ℕ) (v w : View) (r : Reply) (t : Sent) : Action → Type 0 where
  quiet : {c : Action} → Quiet c → t ≡ none → SameQueues v w → SameStreams v w → Effect last share n v w r t c
  refuses_reservation : {s permitted : ℕ} → t ≡ none → RefusesReservation share v w r s permitted → Effect last share n v w r t (to_reserve s permitted)
  reserves : {s permitted : ℕ} → t ≡ none → Reserves share v w r s permitted → Effect last share n v w r t (to_reserve s permitted)
  refuses_withdrawal : {s : ℕ} → t ≡ none → RefusesWithdrawal v w r s → Effect last share n v w r t (to_withdraw s)
  withdraws : {s : ℕ} → t ≡ none → Withdraws last v w r s → Effect last share n v w r t (to_withdraw s)
  refuses_arrival : {s charge tag : ℕ} → t ≡ none → RefusesArrival v w r s charge → Effect last share n v w r t (to_arrive s charge tag)
  arrives : {s charge tag : ℕ} → t ≡ none → Arrives last v w r (record { stream = s; charge = charge; tag = tag; number = n })
      → Effect last share n v w r t (to_arrive s charge tag)
  ticks : t ≡ none → Ticks v w r → Effect last share n v w r t to_tick
  sends : (k : ℕ) (f : Marked) (fs : List Marked) → SendsFrom v w r t k f fs → Effect last share n v w r t to_transmit
  idles : v.queue 0 ≡ [] → ((f : Marked) → t ≡ reserved_sent f → ⊥) → SameQueues v w → SameStreams v w → Effect last share n v w r t to_transmit

-- events that happen one after the other, the first of them number n
abbrev pub Run : ℕ → ℕ → ℕ → View → List Event → Type 0
Run last share n v [] = Unit {0}
Run last share n v (e ∷ es) = (w : View) × Effect last share n v w e.reply e.sent (action e) × Run last share (suc n) w es
