-- Tick on a port that holds a view: prior is purged, each queue and each stream comes a place nearer, and a stream that drains a tick nearer to its
-- freedom. Assumes nothing.
use Prim.Native.Nat.{ℕ, suc, ◌-◌, ◌≤◌, ◌<◌}
use mathlib.Core.Bool.{Bool, true, false, cond}
use mathlib.Core.Path.{◌≡◌, refl, sym, ap, ap₂, ◌∙◌}
use mathlib.Core.Logic.{inl, ⊎_elim}
use mathlib.Core.List.{List, []}
use native.Mathlib.Nat.{eq-or-lt_of_le}
use native.Mathlib.Omega.{arith}
use lib.ListN.{length}
use Rattle.lists.specs.Turns.{iterate}
use Rattle.lists.proofs.TurnLaws.{iterate_keeps}
use Rattle.lists.proofs.Order.{le_or_lt, eq_or_not}
use Rattle.stream.specs.declared.Stream.{Stream}
use Rattle.stream.specs.Steps.{tick_of}
use Rattle.stream.specs.Replies.{granted}
use Rattle.stream.proofs.FitLaws.{tick_moves}
use Rattle.queue.specs.Ring.{empty_queue}
use Rattle.queue.proofs.WaitingLaws.{empty_waits, length_waiting}
use Rattle.lists.proofs.EachLaws.{differ}
use Rattle.record.specs.Layout.{Whole, queue_room, stream_count}
use Rattle.record.specs.Queues.{queues_at, best_effort_at}
use Rattle.record.specs.Head.{prior_at, with_prior, queue_at, with_queue}
use Rattle.record.specs.Entry.{stream_at, drain_at, with_drain, dropped}
use Rattle.record.proofs.QueueLaws.{queues_least, queues_most, queues_dropped}
use Rattle.record.proofs.HeadPairs.{prior_prior, queue_prior, queue_queue, other_queue}
use Rattle.record.proofs.EntryPairs.{stream_place, prior_place, queue_place}
use Rattle.record.proofs.DrainPairs.{drain_drain, stream_drain, prior_drain, queue_drain, drain_place}
use Rattle.record.proofs.DropPairs.{open_dropped, prior_dropped, link_dropped, queue_dropped, stream_dropped}
use Rattle.record.proofs.KeepLaws.{Keeps, keeps_both, keeps_prior, keeps_queue, keeps_place, keeps_drain}
use Rattle.record.proofs.BesideLaws.{Beside, beside_stream, beside_drain}
use Rattle.fitness.proofs.FitLaws.{fit_record}
use Rattle.steps.specs.Roles.{role_at, prior_role, current_role}
use Rattle.steps.specs.Moves.{moved}
use Rattle.steps.proofs.RoleLaws.{role_below, role_nearer, role_wraps, role_apart}
use Rattle.ticking.specs.Ticking.{drained_at, ticked_at, ticked_record, tick_step}
use Rattle.gates.specs.Refusals.{closed_refusal}
use Rattle.steps.specs.Call.{Call, ticking}
use Rattle.port.specs.Calls.{called}
use Rattle.port_laws.proofs.TurnKeeps.{drained_none, drained_last, drained_more, ticked_keeps}
use Rattle.port_laws.proofs.TurnBeside.{at_turn, at_turn_lem, at_turn_whole, after_turn}
use Rattle.port_laws.proofs.GateNumbers.{closed_passes}
use Rattle.guarantee.specs.Events.{Marked, reserved_sent, marked}
use Rattle.guarantee.proofs.Reservation.{Reservation, reservation, ticked, ticked_frees, ticked_moves, ticked_keeping, ticked_free}
use Rattle.guarantee.proofs.Run.{View, octets, ticks}
use Rattle.guarantee.proofs.Tied.{Tied, tied_empty, tied_length, tied_octets, tied_octets_shown}
use Rattle.guarantee.proofs.Held.{Holds, in_role, reservation_at, same_reservation, seen, seen_at, seen_below, seen_above, seen_as_is, seen_free}
use Rattle.guarantee.proofs.Next.{SameLink, link_kept, link_both, Next, by_gate}

-- one stream's turn
module _ (i : ℕ) (l : List ℕ) where
  turn_link : SameLink l (ticked_at i l)
  turn_link =
      ticked_keeps (SameLink l) i
      (λ k h. link_both l k (dropped k i) h (open_dropped k i, (link_dropped k i, queues_dropped k i)))
      (λ k h. link_both l k _ h (link_kept _ _ (keeps_drain k i (drain_at k i - 1))))
      (λ k place left h. link_both l k _ h (link_kept _ _ (keeps_place k i place left)))
      l (refl, (refl, refl))

  turn_prior : prior_at (ticked_at i l) ≡ prior_at l
  turn_prior =
      ticked_keeps (λ k. prior_at k ≡ prior_at l) i
      (λ k e. prior_dropped k i ∙ e)
      (λ k e. prior_drain k i (drain_at k i - 1) ∙ e)
      (λ k place left e. prior_place k i place left ∙ e)
      l refl

  turn_queue : (q : ℕ) → q < queue_room → queue_at (ticked_at i l) q ≡ queue_at l q
  turn_queue q b =
      ticked_keeps (λ k. queue_at k q ≡ queue_at l q) i
      (λ k e. queue_dropped k i q b ∙ e)
      (λ k e. queue_drain k i (drain_at k i - 1) q b ∙ e)
      (λ k place left e. queue_place k i place left q b ∙ e)
      l refl

-- a write beside a stream's entry keeps its reservation
beside_reservation : (s : ℕ) (l k : List ℕ) → Beside s l k → reservation_at k s ≡ reservation_at l s
beside_reservation s l k beside = same_reservation l k s (beside_stream s l k beside) (beside_drain s l k beside)

-- a reserved stream drains, if it does, by its count
module _ (i : ℕ) (l : List ℕ) (x : Reservation) (whole : Whole l) (b : i < stream_count) (same : reservation_at l i ≡ reservation (tick_of x.stream) x.drain)
    (is : x.stream.reserved ≡ true) where
  -- the tick has moved it
  moved_reserved : (stream_at l i).reserved ≡ true
  moved_reserved =
      ap (λ (y : Reservation). y.stream.reserved) same ∙ ap (λ (y : Stream). y.reserved) (sym (tick_moves x.stream)) ∙ is

  count : drain_at l i ≡ x.drain
  count = ap (λ (y : Reservation). y.drain) same

  -- and does no more to one that does not drain
  drains_never : x.drain ≡ 0 → seen (reservation_at (drained_at i l) i) ≡ ticked x
  drains_never none =
      rw (drained_none i l (count ∙ none))
      (seen_as_is (reservation_at l i) moved_reserved ∙ same ∙ ap (reservation (tick_of x.stream)) none ∙ sym (ticked_keeping x none))

  -- frees one at its last tick
  drains_last : x.drain ≡ 1 → seen (reservation_at (drained_at i l) i) ≡ ticked x
  drains_last one =
      rw (drained_last i l (count ∙ one))
      (seen_free (reservation_at (dropped l i) i) (stream_dropped l i whole b) ∙ sym (ticked_frees x one))

  -- and counts one less for any other
  drains_on : (x.drain ≡ 0 → ⊥) → (x.drain ≡ 1 → ⊥) → seen (reservation_at (drained_at i l) i) ≡ ticked x
  drains_on some more =
      rw (drained_more i l (λ e. some (sym count ∙ e)) (λ e. more (sym count ∙ e)))
      (seen_as_is (reservation_at (with_drain l i (drain_at l i - 1)) i) (ap (λ (y : Stream). y.reserved) (stream_drain l i (drain_at l i - 1) i) ∙ moved_reserved)
      ∙ ap₂ reservation
      (stream_drain l i (drain_at l i - 1) i ∙ ap (λ (y : Reservation). y.stream) same)
      (drain_drain l i (drain_at l i - 1) whole b ∙ ap (λ (ticks : ℕ). ticks - 1) count)
      ∙ sym (ticked_moves x more))

  drains_so : seen (reservation_at (drained_at i l) i) ≡ ticked x
  drains_so =
      ⊎_elim
      drains_never
      (λ (some : x.drain ≡ 0 → ⊥). ⊎_elim drains_last (λ (more : x.drain ≡ 1 → ⊥). drains_on some more) (eq_or_not x.drain 1))
      (eq_or_not x.drain 0)

-- a stream is seen after its turn as the tick of what was seen; nothing of an unreserved one is written
turn_here : (i : ℕ) (l : List ℕ) → Whole l → i < stream_count → seen (reservation_at (ticked_at i l) i) ≡ ticked (seen (reservation_at l i))
turn_here i l whole b = told (stream_at l i).reserved refl
  where
    told : (c : Bool) → (stream_at l i).reserved ≡ c
        → seen (reservation_at (cond c (drained_at i (moved l i (tick_of (stream_at l i)))) l) i) ≡ ticked (seen (reservation_at l i))
    told true e =
        let x = tick_of (stream_at l i) in
        drains_so i (moved l i x) (reservation_at l i) (omega (arith, (keeps_place l i x.place x.left).long)) b
        (ap₂ reservation (stream_place l i x.place x.left whole b ∙ tick_moves (stream_at l i)) (drain_place l i i x.place x.left))
        e
        ∙ ap ticked (sym (seen_as_is (reservation_at l i) e))
    told false e = seen_free (reservation_at l i) e ∙ sym ticked_free ∙ ap ticked (sym (seen_free (reservation_at l i) e))

-- all turns
module _ (l : List ℕ) where
  turns_link : (n : ℕ) → SameLink l (iterate ticked_at n l)
  turns_link n = iterate_keeps (SameLink l) ticked_at n l (λ i k h. link_both l k (ticked_at i k) h (turn_link i k)) (refl, (refl, refl))

  turns_prior : (n : ℕ) → prior_at (iterate ticked_at n l) ≡ prior_at l
  turns_prior n = iterate_keeps (λ k. prior_at k ≡ prior_at l) ticked_at n l (λ i k h. turn_prior i k ∙ h) refl

  turns_queue : (n q : ℕ) → q < queue_room → queue_at (iterate ticked_at n l) q ≡ queue_at l q
  turns_queue n q b = iterate_keeps (λ k. queue_at k q ≡ queue_at l q) ticked_at n l (λ i k h. turn_queue i k q b ∙ h) refl

module _ (p : List ℕ) (whole : Whole p) where
  -- the record before the streams' turns: prior is empty, and current is prior
  abbrev turned : List ℕ
  turned = with_prior (with_queue p (role_at p prior_role) empty_queue) (role_at p current_role)

  turned_keeps : Keeps p turned
  turned_keeps =
      keeps_both p _ _ (keeps_queue p (role_at p prior_role) empty_queue (omega (arith, role_below p prior_role, queues_most p)))
      (keeps_prior (with_queue p (role_at p prior_role) empty_queue) (role_at p current_role))

  pub ticked_link : SameLink p (ticked_record p)
  unfolding ticked_record
  ticked_link = link_both p turned _ (link_kept _ _ turned_keeps) (turns_link turned stream_count)

  ticked_prior : prior_at (ticked_record p) ≡ role_at p current_role
  unfolding ticked_record
  ticked_prior =
      turns_prior turned stream_count
      ∙ prior_prior (with_queue p (role_at p prior_role) empty_queue) (role_at p current_role)
      (omega (arith, (keeps_queue p (role_at p prior_role) empty_queue (omega (arith, role_below p prior_role, queues_most p))).long))

  -- so each queue has the role before its own
  ticked_role : (role : ℕ) → role_at (ticked_record p) role ≡ role_at p (suc role)
  ticked_role role = role_nearer p (ticked_record p) role ticked_prior ticked_link.1.1

  ticked_purged : queue_at (ticked_record p) (role_at p prior_role) ≡ empty_queue
  unfolding ticked_record
  ticked_purged =
      turns_queue turned stream_count (role_at p prior_role) (omega (arith, role_below p prior_role, queues_most p))
      ∙ queue_prior (with_queue p (role_at p prior_role) empty_queue) (role_at p current_role) (role_at p prior_role)
      ∙ queue_queue p (role_at p prior_role) empty_queue whole (omega (arith, role_below p prior_role, queues_most p))

  ticked_other : (q : ℕ) → q ≤ best_effort_at p → (q ≡ role_at p prior_role → ⊥) → queue_at (ticked_record p) q ≡ queue_at p q
  unfolding ticked_record
  ticked_other q b o =
      turns_queue turned stream_count q (omega (arith, queues_most p))
      ∙ queue_prior (with_queue p (role_at p prior_role) empty_queue) (role_at p current_role) q
      ∙ other_queue p (role_at p prior_role) empty_queue q o

  ticked_stream : (s : ℕ) → s < stream_count → seen (reservation_at (ticked_record p) s) ≡ ticked (seen (reservation_at p s))
  ticked_stream s b =
      ap seen (beside_reservation s (ticked_at s (at_turn p s)) (ticked_record p) (after_turn p s b))
      ∙ turn_here s (at_turn p s) (at_turn_whole p s whole) b
      ∙ ap (λ (x : Reservation). ticked (seen x)) (beside_reservation s p (at_turn p s) (at_turn_lem p s))

  -- the frames of each role but last are those of the role after it
  ticked_frames : (l : List ℕ) (role : ℕ) → suc role < queues_at p → in_role (ticked_record p) l role ≡ in_role p l (suc role)
  ticked_frames l role b =
      rw (ticked_role role, ticked_other (role_at p (suc role)) (omega (arith, role_below p (suc role), queues_most p)) (role_apart p (suc role) prior_role b (omega (arith, queues_least p)) (λ e. omega arith)))

  -- and last is empty
  ticked_last : (l : List ℕ) (role : ℕ) → suc role ≡ queues_at p → in_role (ticked_record p) l role ≡ []
  ticked_last l role e = rw (ticked_role role, role_wraps p role e, ticked_purged) (empty_waits l (role_at p prior_role))

module _ (all : List Call) (n link : ℕ) (p m k : List ℕ) (v : View) (best : List Marked) (h : Holds all link p m k v best) where
  abbrev ticked_view : View
  ticked_view = record { queue = λ role. v.queue (suc role); stream = λ s. ticked (v.stream s) }

  whole : Whole p
  whole = (fit_record p m h.fit).long

  tick_queues : (role : ℕ) → role < queues_at p → Tied all reserved_sent (in_role (ticked_record p) m role) (in_role (ticked_record p) k role) (v.queue (suc role))
  tick_queues role b =
      ⊎_elim
      (λ (e : suc role ≡ queues_at p).
      rw (ticked_last p whole m role e, ticked_last p whole k role e, h.above (suc role) (omega arith)) (tied_empty all reserved_sent))
      (λ (c : suc role < queues_at p). rw (ticked_frames p whole m role c, ticked_frames p whole k role c) (h.queues (suc role) c))
      (eq-or-lt_of_le b)

  tick_streams : (s : ℕ) → ticked (v.stream s) ≡ seen_at (ticked_record p) s
  tick_streams s =
      ap ticked (h.streams s) ∙
      ⊎_elim
      (λ (above : stream_count ≤ s). ap ticked (seen_above p s above) ∙ ticked_free ∙ sym (seen_above (ticked_record p) s above))
      (λ (b : s < stream_count). ap ticked (seen_below p s b) ∙ sym (ticked_stream p whole s b) ∙ sym (seen_below (ticked_record p) s b))
      (le_or_lt stream_count s)

  tick_waits : queue_at (ticked_record p) (best_effort_at p) ≡ queue_at p (best_effort_at p)
  tick_waits = ticked_other p whole (best_effort_at p) (omega arith) (λ e. omega (arith, role_below p prior_role, queues_most p))

  -- the frames and octets that are purged
  tick_reply : (tick_step p m).reply ≡ granted (length (v.queue 0)) (octets (v.queue 0))
  unfolding tick_step
  tick_reply =
      let prior = h.queues prior_role (omega (arith, queues_least p)) in
      let x = queue_at p (role_at p prior_role) in
      ap₂ granted
      (sym (length_waiting m (role_at p prior_role) x) ∙ tied_length all reserved_sent (in_role p m prior_role) (in_role p k prior_role) (v.queue 0) prior)
      (tied_octets all reserved_sent (in_role p m prior_role) (in_role p k prior_role) (v.queue 0) prior)

  -- as many octets in the memory of the marked calls
  tick_marks : (tick_step p k).reply ≡ (tick_step p m).reply
  unfolding tick_step
  tick_marks =
      let prior = h.queues prior_role (omega (arith, queues_least p)) in
      ap (granted (queue_at p (role_at p prior_role)).count)
      (tied_octets_shown all reserved_sent (in_role p m prior_role) (in_role p k prior_role) (v.queue 0) prior
      ∙ sym (tied_octets all reserved_sent (in_role p m prior_role) (in_role p k prior_role) (v.queue 0) prior))

  tick_next : Next all all n link p m k v ticking (tick_step p m) (tick_step p k)
  unfolding tick_step
  tick_next =
      record {
        view = ticked_view;
        best = best;
        effect = ticks refl (record { reply = tick_reply; queues = λ j. refl; streams = λ s. refl });
        same = refl;
        moved =
            record {
              keeps = ticked_link p whole;
              streams = tick_streams;
              queues = tick_queues;
              above = λ role b. h.above (suc role) (omega arith);
              waits = rw tick_waits h.waits;
            };
        says = λ z. differ (sym z);
        marks = λ z. tick_marks;
        not_lent = inl (omega arith);
      }

  pub next_tick : Next all all n link p m k v ticking (called ticking p m) (called (marked n ticking) p k)
  next_tick =
      by_gate all n link p m k v best h (closed_refusal p) ticking (tick_step p m) (tick_step p k) (λ z. absurd (z (closed_passes p h.opened))) (λ z. tick_next)
