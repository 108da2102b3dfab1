-- Arrive on a port that holds a view: the frame joins its queue, which is never full, or is discarded, or the call is refused. Assumes nothing.
use Prim.Native.Nat.{ℕ, ◌≤◌, ◌<◌}
use mathlib.Core.Bool.{true}
use mathlib.Core.Path.{◌≡◌, refl, sym, ap, ap₂, subst, ◌∙◌}
use mathlib.Core.Logic.{inl, ⊎_elim}
use mathlib.Core.List.{List, [], ◌∷◌, ◌++◌}
use native.Mathlib.Omega.{arith}
use borrow.Author.Tests.{lt-leb, eq-eqb, ne_eqb}
use lib.ListN.{length, get_or, length-append}
use Rattle.lists.proofs.Order.{eq_or_not}
use Rattle.stream.specs.declared.Stream.{Stream}
use Rattle.stream.specs.declared.Arrival.{Arrival}
use Rattle.stream.specs.declared.Arrival.TheVariants.{Joined, Discarded}
use Rattle.stream.specs.Steps.{arrive_of}
use Rattle.stream.specs.Replies.{granted, refused_by, reply_of, stream_of}
use Rattle.stream.proofs.FitLaws.{OnlyMoves, joins_within, arrive_moves}
use Rattle.queue.specs.declared.Frame.{Frame}
use Rattle.queue.specs.Ring.{place_count, joined_memory, joined_queue}
use Rattle.queue.specs.Waiting.{waiting}
use Rattle.queue.proofs.WaitingLaws.{joins, joins_elsewhere, length_waiting}
use Rattle.lists.proofs.EachLaws.{differ}
use Rattle.record.specs.Layout.{Whole, stream_count}
use Rattle.record.specs.Queues.{queues_at, last_place_at, best_effort_at, HasMemory}
use Rattle.record.specs.Head.{prior_at, link_at, queue_at, with_queue}
use Rattle.record.specs.Entry.{stream_at, drain_at}
use Rattle.record.proofs.QueueLaws.{queues_least, queues_most, queues_queue}
use Rattle.record.proofs.HeadPairs.{queue_queue, other_queue, prior_queue, stream_queue}
use Rattle.record.proofs.EntryPairs.{stream_place, other_place, prior_place, queue_place}
use Rattle.record.proofs.DrainPairs.{drain_queue, drain_place}
use Rattle.record.proofs.KeepLaws.{keeps_both, keeps_queue, keeps_place}
use Rattle.ranges.specs.Ranges.{greatest_share, charge_fits, share_of}
use Rattle.ranges.proofs.RangeLaws.{within_bounds}
use Rattle.fitness.proofs.FitLaws.{fit_record, fit_plan}
use Rattle.steps.specs.Outcome.{outcome}
use Rattle.steps.specs.Roles.{role_at}
use Rattle.steps.specs.Moves.{moved}
use Rattle.steps.proofs.RoleLaws.{role_below, role_apart, role_same}
use Rattle.arriving.specs.Arriving.{arrived, arrive_step}
use Rattle.gates.specs.Refusals.{arrive_refusal}
use Rattle.gates.proofs.GateLaws.{arrive_allowed}
use Rattle.steps.specs.Call.{Call, arriving, ticking}
use Rattle.port.specs.Calls.{called}
use Rattle.port_laws.specs.Counting.{to_arrive, action_of}
use Rattle.port_laws.proofs.GateNumbers.{refusal_own}
use Rattle.guarantee.specs.Events.{Marked, reserved_sent, none, brought_by, marked}
use Rattle.guarantee.proofs.Reservation.{Reservation, reservation, keeping, arrival_refusal}
use Rattle.guarantee.proofs.Run.{View, queue_after, Effect, arrives, refuses_arrival}
use Rattle.guarantee.proofs.Room.{Sound, octets_most, charged_length, stays_sound}
use Rattle.guarantee.proofs.Tied.{Tied, plain, numbered, tied_joins, tied_length}
use Rattle.guarantee.proofs.Held.{Holds, in_role, reservation_at, same_reservation, seen_below, seen_as_is, drains_none, arrival_refusal_lem, role_kept, changed, changed_here, changed_else, changed_seen}
use Rattle.guarantee.proofs.Next.{link_kept, Moved, Next, next_unchanged, by_gate}

-- the step, where the frame joins a queue that has room, and where it is discarded
module _ (p m : List ℕ) (s a tag : ℕ) where
  step_joins : (place : ℕ) (next : Stream) → arrive_of (last_place_at p) (stream_at p s) a ≡ Joined place next → (queue_at p (role_at p place)).count < place_count
      → arrive_step p m s a tag
      ≡ outcome (granted place next.left) (with_queue (moved p s next) (role_at p place) (joined_queue (queue_at p (role_at p place))))
      (joined_memory m (role_at p place) (queue_at p (role_at p place)) (record { stream = s; charge = a; tag = tag }))
  unfolding arrive_step
  step_joins place next e room =
      ap (λ (z : Arrival). arrived p m s (record { stream = s; charge = a; tag = tag }) (reply_of z) z) e
      ∙ rw (lt-leb place_count (queue_at p (role_at p place)).count room)

  step_discards : (spent : Stream) → arrive_of (last_place_at p) (stream_at p s) a ≡ Discarded spent → arrive_step p m s a tag ≡ outcome (refused_by 14) (moved p s spent) m
  unfolding arrive_step
  step_discards spent e = ap (λ (z : Arrival). arrived p m s (record { stream = s; charge = a; tag = tag }) (reply_of z) z) e

-- the record where stream s has moved, and a frame has joined the queue of this number
module _ (p : List ℕ) (s number : ℕ) (next : Stream) (whole : Whole p) (b : number < queues_at p) where
  abbrev joined_record : List ℕ
  joined_record = with_queue (moved p s next) number (joined_queue (queue_at p number))

  moved_whole : Whole (moved p s next)
  moved_whole = omega (arith, (keeps_place p s next.place next.left).long)

  joined_prior : prior_at joined_record ≡ prior_at p
  joined_prior = prior_queue (moved p s next) number (joined_queue (queue_at p number)) ∙ prior_place p s next.place next.left

  joined_count : queues_at joined_record ≡ queues_at p
  joined_count = queues_queue (moved p s next) number (joined_queue (queue_at p number)) ∙ (keeps_place p s next.place next.left).queues

  joined_here : queue_at joined_record number ≡ joined_queue (queue_at p number)
  joined_here = queue_queue (moved p s next) number (joined_queue (queue_at p number)) moved_whole (omega (arith, queues_most p))

  joined_other : (q : ℕ) → q ≤ best_effort_at p → (q ≡ number → ⊥) → queue_at joined_record q ≡ queue_at p q
  joined_other q c o = other_queue (moved p s next) number (joined_queue (queue_at p number)) q o ∙ queue_place p s next.place next.left q (omega (arith, queues_most p))

  joined_stream : (i : ℕ) → stream_at joined_record i ≡ stream_at (moved p s next) i
  joined_stream i = stream_queue (moved p s next) number (joined_queue (queue_at p number)) i (omega (arith, queues_most p))

  joined_drain : (i : ℕ) → drain_at joined_record i ≡ drain_at p i
  joined_drain i = drain_queue (moved p s next) i number (joined_queue (queue_at p number)) (omega (arith, queues_most p)) ∙ drain_place p s i next.place next.left

-- the view after an arrival
abbrev arrived_view : View → ℕ → Marked → Arrival → View
arrived_view v s f z = record { queue = λ j. queue_after j f z (v.queue j); stream = changed v s (keeping (stream_of z)) }

-- a queue that a frame joined, and the others
after_here : (f : Marked) (place : ℕ) (x : Stream) (fs : List Marked) → queue_after place f (Joined place x) fs ≡ fs ++ (f ∷ [])
after_here f place x fs = rw (eq-eqb place place refl)

after_else : (f : Marked) (j place : ℕ) (x : Stream) (fs : List Marked) → (j ≡ place → ⊥) → queue_after j f (Joined place x) fs ≡ fs
after_else f j place x fs o = rw (ne_eqb place j (λ e. o (sym e)))

module _ (all : List Call) (n link : ℕ) (p m k : List ℕ) (v : View) (best : List Marked) (h : Holds all link p m k v best) (sound : Sound (last_place_at p) (share_of link) v)
    (s a tag : ℕ) (counted : n < length all) (here : get_or all n ticking ≡ arriving s a tag) (Free-of : arrive_refusal p s a ≡ 0) where
  abbrev frame : Marked
  frame = record { stream = s; charge = a; tag = tag; number = n }

  abbrev held : Stream
  held = stream_at p s

  below : s < stream_count
  below = (arrive_allowed p s a Free-of).stream

  fits : charge_fits a ≡ true
  fits = (arrive_allowed p s a Free-of).charge_fits_lem

  is_reserved_lem : held.reserved ≡ true
  is_reserved_lem = (arrive_allowed p s a Free-of).reserved

  whole : Whole p
  whole = (fit_record p m h.fit).long

  -- the view has the stream as it is in the record
  seen_held : v.stream s ≡ reservation_at p s
  seen_held = h.streams s ∙ seen_below p s below ∙ seen_as_is (reservation_at p s) is_reserved_lem

  -- and it does not drain
  none_to_go : drain_at p s ≡ 0
  none_to_go = drains_none p s (arrive_allowed p s a Free-of).keeps is_reserved_lem

  -- so the stream's rule answers alike, and the call does to the view what it does
  arrival_effect : (z : Arrival) → arrive_of (last_place_at p) held a ≡ z → Effect (last_place_at p) (share_of link) n v (arrived_view v s frame z) (reply_of z) none (to_arrive s a tag)
  arrival_effect z e =
      let rule : arrive_of (last_place_at p) (v.stream s).stream a ≡ z = ap (λ (x : Reservation). arrive_of (last_place_at p) x.stream a) seen_held ∙ e in
      arrives refl
      (record {
        allowed = ap (λ (x : Reservation). arrival_refusal s x a) (h.streams s) ∙ sym (arrival_refusal_lem p s h.opened a) ∙ Free-of;
        below = below;
        keeps = ap (λ (x : Reservation). x.drain) seen_held ∙ none_to_go;
        fits = fits;
        reply = ap reply_of (sym rule);
        queues = λ j. ap (λ (y : Arrival). queue_after j frame y (v.queue j)) (sym rule);
        streams = (changed_here v s (keeping (stream_of z)) ∙ ap (λ (y : Arrival). keeping (stream_of y)) (sym rule), changed_else v s (keeping (stream_of z)));
      })

  -- the share is at most the greatest
  share_most : share_of link ≤ greatest_share
  share_most =
      let plan = fit_plan p h.opened (fit_record p m h.fit).plan in
      omega (arith, (within_bounds _ _ (link_at p) plan.link).1, ap share_of h.octets)

  module _ (place : ℕ) (next : Stream) (e : arrive_of (last_place_at p) held a ≡ Joined place next) where
    within_roles : place < queues_at p
    within_roles = omega (arith, joins_within (last_place_at p) (v.stream s).stream a place next (sound.fit s) (ap (λ (x : Reservation). arrive_of (last_place_at p) x.stream a) seen_held ∙ e), queues_least p)

    -- no queue of the share's octets is full, so 20 is not met
    room : (queue_at p (role_at p place)).count < place_count
    room =
        let w = arrived_view v s frame (Joined place next) in
        let later = stays_sound (last_place_at p) (share_of link) n v w (granted place next.left) none (to_arrive s a tag) (omega (arith, queues_least p)) (arrival_effect (Joined place next) e) sound in
        let fs = v.queue place in
        let joined : w.queue place ≡ fs ++ (frame ∷ []) = after_here frame place next fs in
        omega (
          arith,
          octets_most (last_place_at p) (share_of link) w later place,
          charged_length (w.queue place) (later.charged place),
          share_most,
          ap length joined,
          length-append fs (frame ∷ []),
          tied_length all reserved_sent (in_role p m place) (in_role p k place) fs (h.queues place within_roles),
          length_waiting m (role_at p place) (queue_at p (role_at p place)),
        )

    abbrev number : ℕ
    number = role_at p place

    abbrev after : List ℕ
    after = joined_record p s number next whole (role_below p place)

    -- the frames of each role, in either memory
    here_joins : (l : List ℕ) (f : Frame) → HasMemory p l → in_role after (joined_memory l number (queue_at p number) f) place ≡ in_role p l place ++ (f ∷ [])
    here_joins l f long =
        rw (role_same p after place (joined_prior p s number next whole (role_below p place)) (joined_count p s number next whole (role_below p place)), joined_here p s number next whole (role_below p place))
        (joins l number (queue_at p number) f room (omega (arith, role_below p place, queues_most p)))

    else_kept : (l : List ℕ) (f : Frame) (role : ℕ) → role < queues_at p → (role ≡ place → ⊥)
        → in_role after (joined_memory l number (queue_at p number) f) role ≡ in_role p l role
    else_kept l f role b o =
        let apart = role_apart p role place b within_roles o in
        role_kept p after (joined_memory l number (queue_at p number) f) role (joined_prior p s number next whole (role_below p place)) (joined_count p s number next whole (role_below p place))
        (joined_other p s number next whole (role_below p place) (role_at p role) (omega (arith, role_below p role, queues_most p)) apart)
        ∙ joins_elsewhere l number (role_at p role) (queue_at p number) (queue_at p (role_at p role)) f apart

    best_effort_kept : (l : List ℕ) (f : Frame)
        → waiting (joined_memory l number (queue_at p number) f) (best_effort_at p) (queue_at after (best_effort_at p)) ≡ waiting l (best_effort_at p) (queue_at p (best_effort_at p))
    best_effort_kept l f =
        let apart : best_effort_at p ≡ number → ⊥ = λ z. omega (arith, role_below p place, queues_most p) in
        ap (waiting (joined_memory l number (queue_at p number) f) (best_effort_at p)) (joined_other p s number next whole (role_below p place) (best_effort_at p) (omega arith) apart)
        ∙ joins_elsewhere l number (best_effort_at p) (queue_at p number) (queue_at p (best_effort_at p)) f apart

    joined_queues : (role : ℕ) → role < queues_at p
        → Tied all reserved_sent (in_role after (joined_memory m number (queue_at p number) (plain frame)) role)
        (in_role after (joined_memory k number (queue_at p number) (numbered frame)) role)
        (queue_after role frame (Joined place next) (v.queue role))
    joined_queues role b =
        ⊎_elim
        (λ (same : role ≡ place).
        rw (same, here_joins m (plain frame) h.long, here_joins k (numbered frame) h.long_marked, after_here frame place next (v.queue place))
        (tied_joins all reserved_sent (in_role p m place) (in_role p k place) (v.queue place) frame (h.queues place within_roles) (counted, ap (λ (c : Call). brought_by n (action_of c)) here)))
        (λ (o : role ≡ place → ⊥).
        rw (else_kept m (plain frame) role b o, else_kept k (numbered frame) role b o, after_else frame role place next (v.queue role) o) (h.queues role b))
        (eq_or_not role place)

    -- the stream where its rule has moved it
    next_held : OnlyMoves held next
    next_held = subst (λ (z : Arrival). OnlyMoves held (stream_of z)) e (arrive_moves (last_place_at p) held a)

    next_reserved : next.reserved ≡ true
    next_reserved = ap (λ (x : Stream). x.reserved) (sym next_held) ∙ is_reserved_lem

    joined_moved : Moved all p after (joined_memory m number (queue_at p number) (plain frame)) (joined_memory k number (queue_at p number) (numbered frame))
        (arrived_view v s frame (Joined place next)) best
    joined_moved =
        record {
          keeps = link_kept _ _ (keeps_both p _ _ (keeps_place p s next.place next.left) (keeps_queue (moved p s next) number (joined_queue (queue_at p number)) (omega (arith, role_below p place, queues_most p))));
          streams =
              changed_seen p after v s (keeping next) below h.streams
              (ap₂ reservation
              (joined_stream p s number next whole (role_below p place) s ∙ stream_place p s next.place next.left whole below ∙ next_held)
              (joined_drain p s number next whole (role_below p place) s ∙ none_to_go))
              next_reserved
              (λ i c o.
              same_reservation p after i
              (joined_stream p s number next whole (role_below p place) i ∙ other_place p s next.place next.left i o)
              (joined_drain p s number next whole (role_below p place) i));
          queues = joined_queues;
          above = λ role c. after_else frame role place next (v.queue role) (λ z. omega (arith, within_roles)) ∙ h.above role c;
          waits = rw (best_effort_kept m (plain frame), best_effort_kept k (numbered frame)) h.waits;
        }

    joined_next : Next all all n link p m k v (arriving s a tag) (arrive_step p m s a tag) (arrive_step p k s a n)
    joined_next =
        rw (step_joins p m s a tag place next e room, step_joins p k s a n place next e room)
        (record {
          view = arrived_view v s frame (Joined place next);
          best = best;
          effect = arrival_effect (Joined place next) e;
          same = refl;
          moved = joined_moved;
          says = λ z. differ (sym z);
          marks = λ z. refl;
          not_lent = inl (omega arith);
        })

  -- discarded: only the stream moves
  module _ (spent : Stream) (e : arrive_of (last_place_at p) held a ≡ Discarded spent) where
    spent_held : OnlyMoves held spent
    spent_held = subst (λ (z : Arrival). OnlyMoves held (stream_of z)) e (arrive_moves (last_place_at p) held a)

    spent_role : (l : List ℕ) (role : ℕ) → in_role (moved p s spent) l role ≡ in_role p l role
    spent_role l role =
        role_kept p (moved p s spent) l role (prior_place p s spent.place spent.left) (keeps_place p s spent.place spent.left).queues
        (queue_place p s spent.place spent.left (role_at p role) (omega (arith, role_below p role, queues_most p)))

    discarded_next : Next all all n link p m k v (arriving s a tag) (arrive_step p m s a tag) (arrive_step p k s a n)
    discarded_next =
        rw (step_discards p m s a tag spent e, step_discards p k s a n spent e)
        (record {
          view = arrived_view v s frame (Discarded spent);
          best = best;
          effect = arrival_effect (Discarded spent) e;
          same = refl;
          moved =
              record {
                keeps = link_kept _ _ (keeps_place p s spent.place spent.left);
                streams =
                    changed_seen p (moved p s spent) v s (keeping spent) below h.streams
                    (ap₂ reservation
                    (stream_place p s spent.place spent.left whole below ∙ spent_held)
                    (drain_place p s s spent.place spent.left ∙ none_to_go))
                    (ap (λ (x : Stream). x.reserved) (sym spent_held) ∙ is_reserved_lem)
                    (λ i c o.
                    same_reservation p (moved p s spent) i (other_place p s spent.place spent.left i o) (drain_place p s i spent.place spent.left));
                queues = λ role b. rw (spent_role m role, spent_role k role) (h.queues role b);
                above = h.above;
                waits = rw (queue_place p s spent.place spent.left (best_effort_at p) (omega (arith, queues_most p))) h.waits;
              };
          says = λ z. differ (sym z);
          marks = λ z. refl;
          not_lent = inl (omega arith);
        })

  -- by what the stream's rule says
  arrive_next : Next all all n link p m k v (arriving s a tag) (arrive_step p m s a tag) (arrive_step p k s a n)
  arrive_next = told (arrive_of (last_place_at p) held a) refl
    where
      told : (z : Arrival) → arrive_of (last_place_at p) held a ≡ z → Next all all n link p m k v (arriving s a tag) (arrive_step p m s a tag) (arrive_step p k s a n)
      told (Joined place next) e = joined_next place next e
      told (Discarded spent) e = discarded_next spent e

module _ (all : List Call) (n link : ℕ) (p m k : List ℕ) (v : View) (best : List Marked) (h : Holds all link p m k v best) (sound : Sound (last_place_at p) (share_of link) v) where
  pub next_arrive : (s a tag : ℕ) → n < length all → get_or all n ticking ≡ arriving s a tag
      → Next all all n link p m k v (arriving s a tag) (called (arriving s a tag) p m) (called (marked n (arriving s a tag)) p k)
  next_arrive s a tag counted here =
      let own : arrive_refusal p s a ≡ arrival_refusal s (v.stream s) a = arrival_refusal_lem p s h.opened a ∙ ap (λ (x : Reservation). arrival_refusal s x a) (sym (h.streams s)) in
      by_gate all n link p m k v best h (arrive_refusal p s a) (arriving s a tag) (arrive_step p m s a tag) _
      (λ z.
      next_unchanged all n link p m k v best h (refused_by (arrive_refusal p s a)) (arriving s a tag) (refusal_own (arriving s a tag) p) refl
      (refuses_arrival refl (record { refused = λ e. z (own ∙ e); reply = ap refused_by own; queues = λ j. refl; streams = λ j. refl })))
      (arrive_next all n link p m k v best h sound s a tag counted here)
