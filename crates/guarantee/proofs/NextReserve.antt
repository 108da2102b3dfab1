-- Reserve on a port that holds a view, granted or refused; and Open, which an open port refuses. Assumes nothing.
use Prim.Native.Nat.{ℕ}
use mathlib.Core.Path.{◌≡◌, refl, sym, ap, ap₂, ◌∙◌}
use mathlib.Core.Logic.{inl}
use mathlib.Core.List.{List}
use native.Mathlib.Omega.{arith}
use Rattle.stream.specs.State.{reserve_of}
use Rattle.stream.specs.Replies.{refused_by}
use Rattle.lists.proofs.EachLaws.{differ}
use Rattle.record.specs.Queues.{best_effort_at}
use Rattle.record.specs.Reservations.{permitted_sum}
use Rattle.record.specs.Entry.{with_stream}
use Rattle.record.proofs.QueueLaws.{queues_most}
use Rattle.record.proofs.EntryPairs.{stream_stream, other_stream, prior_stream, queue_stream}
use Rattle.record.proofs.DrainPairs.{drain_stream, other_drain_stream}
use Rattle.record.proofs.KeepLaws.{keeps_stream}
use Rattle.ranges.specs.Ranges.{share_of}
use Rattle.fitness.proofs.FitLaws.{fit_record}
use Rattle.steps.specs.Roles.{role_at}
use Rattle.steps.proofs.RoleLaws.{role_below}
use Rattle.opening.specs.Opening.{open_step, reserve_step}
use Rattle.gates.specs.Refusals.{open_refusal, reserve_refusal}
use Rattle.gates.proofs.GateLaws.{reserve_allowed}
use Rattle.steps.specs.Call.{Terms, Call, opening, reserving}
use Rattle.port.specs.Calls.{called}
use Rattle.port_laws.proofs.GateNumbers.{refusal_own, open_taken}
use Rattle.guarantee.specs.Events.{Marked, marked}
use Rattle.guarantee.proofs.Reservation.{Reservation, reservation, keeping, reservation_refusal}
use Rattle.guarantee.proofs.Run.{View, permitted_of, refuses_reservation, reserves}
use Rattle.guarantee.proofs.Held.{Holds, reservation_at, same_reservation, seen_at, seen_below, seen_free, seen_sum, reservation_refusal_lem, role_kept, changed, changed_here, changed_else, changed_seen}
use Rattle.guarantee.proofs.Next.{link_kept, Next, next_unchanged, by_gate, by_quiet_gate}

module _ (all : List Call) (n link : ℕ) (p m k : List ℕ) (v : View) (best : List Marked) (h : Holds all link p m k v best) where
  -- Reserve, granted
  reserve_next : (s permitted : ℕ) → reserve_refusal p s permitted ≡ 0
      → Next all all n link p m k v (reserving s permitted) (reserve_step p m s permitted) (reserve_step p k s permitted)
  reserve_next s permitted e =
      let a = reserve_allowed p s permitted e in
      let q = with_stream p s (reserve_of permitted) in
      let whole = (fit_record p m h.fit).long in
      let keeps = keeps_stream p s (reserve_of permitted) in
      let w : View = record { queue = v.queue; stream = changed v s (keeping (reserve_of permitted)) } in
      record {
        view = w;
        best = best;
        effect =
            reserves {permitted = permitted} refl
            (record {
              accepted = refl;
              below = a.stream;
              was_free = h.streams s ∙ seen_below p s a.stream ∙ seen_free (reservation_at p s) a.free;
              within_share = omega (arith, a.share, seen_sum p v h.streams, ap share_of h.octets);
              queues = λ j. refl;
              streams = (changed_here v s (keeping (reserve_of permitted)), changed_else v s (keeping (reserve_of permitted)));
            });
        same = refl;
        moved =
            record {
              keeps = link_kept _ _ keeps;
              streams =
                  changed_seen p q v s (keeping (reserve_of permitted)) a.stream h.streams
                  (ap₂ reservation (stream_stream p s (reserve_of permitted) whole a.stream) (drain_stream p s (reserve_of permitted) whole a.stream))
                  refl
                  (λ i b o. same_reservation p q i (other_stream p s (reserve_of permitted) i o) (other_drain_stream p s (reserve_of permitted) i o));
              queues = λ role b.
                  let there = queue_stream p s (reserve_of permitted) (role_at p role) (omega (arith, role_below p role, queues_most p)) in
                  rw (role_kept p q m role (prior_stream p s (reserve_of permitted)) keeps.queues there, role_kept p q k role (prior_stream p s (reserve_of permitted)) keeps.queues there)
                  (h.queues role b);
              above = h.above;
              waits = rw (queue_stream p s (reserve_of permitted) (best_effort_at p) (omega (arith, queues_most p))) h.waits;
            };
        says = λ z. differ (sym z);
        marks = λ z. refl;
        not_lent = inl (omega arith);
      }

  -- its refusals are those that the view gives
  own_reservation : (s permitted : ℕ) → reserve_refusal p s permitted ≡ reservation_refusal (share_of link) (permitted_of v) s (v.stream s) permitted
  own_reservation s permitted =
      reservation_refusal_lem p s h.opened permitted
      ∙ ap (λ (l : ℕ). reservation_refusal (share_of l) (permitted_sum p) s (seen_at p s) permitted) h.octets
      ∙ ap₂ (λ (taken : ℕ) (x : Reservation). reservation_refusal (share_of link) taken s x permitted) (sym (seen_sum p v h.streams)) (sym (h.streams s))

  pub next_reserve : (s permitted : ℕ) → Next all all n link p m k v (reserving s permitted) (called (reserving s permitted) p m) (called (marked n (reserving s permitted)) p k)
  next_reserve s permitted =
      let number = own_reservation s permitted in
      by_gate all n link p m k v best h (reserve_refusal p s permitted) (reserving s permitted) (reserve_step p m s permitted) (reserve_step p k s permitted)
      (λ z.
      next_unchanged all n link p m k v best h (refused_by (reserve_refusal p s permitted)) (reserving s permitted) (refusal_own (reserving s permitted) p) refl
      (refuses_reservation refl (record { refused = λ e. z (number ∙ e); reply = ap refused_by number; queues = λ j. refl; streams = λ j. refl })))
      (reserve_next s permitted)

  -- Open, refused
  pub next_open : (t : Terms) → Next all all n link p m k v (opening t) (called (opening t) p m) (called (marked n (opening t)) p k)
  next_open t =
      by_quiet_gate all n link p m k v best h (open_refusal p t) (opening t) (open_step p m t) (open_step p k t) (refusal_own (opening t) p) tt
      (λ z. absurd (omega (arith, open_taken p t h.opened)))
