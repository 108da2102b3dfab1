-- Withdraw on a port that holds a view, granted or refused. Assumes nothing.
use Prim.Native.Nat.{ℕ, ◌+◌}
use mathlib.Core.Path.{◌≡◌, refl, sym, ap, ap₂, ◌∙◌}
use mathlib.Core.Logic.{inl}
use mathlib.Core.List.{List}
use native.Mathlib.Omega.{arith}
use Rattle.lists.proofs.EachLaws.{differ}
use Rattle.stream.specs.Replies.{refused_by}
use Rattle.record.specs.Queues.{queues_at, last_place_at, best_effort_at}
use Rattle.record.proofs.QueueLaws.{queues_least, queues_most}
use Rattle.record.proofs.DrainPairs.{drain_drain, other_drain, stream_drain, prior_drain, queue_drain}
use Rattle.record.proofs.KeepLaws.{keeps_drain}
use Rattle.fitness.proofs.FitLaws.{fit_record}
use Rattle.steps.specs.Roles.{role_at}
use Rattle.steps.proofs.RoleLaws.{role_below}
use Rattle.opening.specs.Withdrawing.{withdrawn_record, withdraw_step}
use Rattle.gates.specs.Refusals.{withdraw_refusal}
use Rattle.gates.proofs.GateLaws.{withdraw_allowed}
use Rattle.steps.specs.Call.{Call, withdrawing}
use Rattle.port.specs.Calls.{called}
use Rattle.port_laws.proofs.GateNumbers.{refusal_own}
use Rattle.guarantee.specs.Events.{Marked, marked}
use Rattle.guarantee.proofs.Reservation.{Reservation, reservation, withdrawn, withdrawal_refusal}
use Rattle.guarantee.proofs.Run.{View, refuses_withdrawal, withdraws}
use Rattle.guarantee.proofs.Held.{Holds, reservation_at, same_reservation, seen_below, seen_as_is, drains_none, withdrawal_refusal_lem, role_kept, changed, changed_here, changed_else, changed_seen}
use Rattle.guarantee.proofs.Next.{link_kept, Next, next_unchanged, by_gate}

module _ (all : List Call) (n link : ℕ) (p m k : List ℕ) (v : View) (best : List Marked) (h : Holds all link p m k v best) where
  -- its refusals are those that the view gives
  own_withdrawal : (s : ℕ) → withdraw_refusal p s ≡ withdrawal_refusal s (v.stream s)
  own_withdrawal s = withdrawal_refusal_lem p s h.opened ∙ ap (withdrawal_refusal s) (sym (h.streams s))

  -- the count is the number of the queues, one more than that of the last place
  all_queues : last_place_at p + 1 ≡ queues_at p
  all_queues = omega (arith, queues_least p)

  -- Withdraw, granted
  withdraw_next : (s : ℕ) → withdraw_refusal p s ≡ 0 → Next all all n link p m k v (withdrawing s) (withdraw_step p m s) (withdraw_step p k s)
  withdraw_next s e =
      let a = withdraw_allowed p s e in
      let q = withdrawn_record p s in
      let keeps = keeps_drain p s (queues_at p) in
      let x = reservation_at p s in
      let there : v.stream s ≡ x = h.streams s ∙ seen_below p s a.stream ∙ seen_as_is x a.reserved in
      let w : View = record { queue = v.queue; stream = changed v s (withdrawn (queues_at p) x) } in
      record {
        view = w;
        best = best;
        effect =
            withdraws refl
            (record {
              accepted = refl;
              allowed = sym (own_withdrawal s) ∙ e;
              below = a.stream;
              keeps = ap (λ (y : Reservation). y.drain) there ∙ drains_none p s a.keeps a.reserved;
              queues = λ j. refl;
              streams = (
                changed_here v s (withdrawn (queues_at p) x) ∙ ap₂ withdrawn (sym all_queues) (sym there),
                changed_else v s (withdrawn (queues_at p) x),
              );
            });
        same = refl;
        moved =
            record {
              keeps = link_kept _ _ keeps;
              streams =
                  changed_seen p q v s (withdrawn (queues_at p) x) a.stream h.streams
                  (ap₂ reservation (stream_drain p s (queues_at p) s) (drain_drain p s (queues_at p) (fit_record p m h.fit).long a.stream))
                  a.reserved
                  (λ i b o. same_reservation p q i (stream_drain p s (queues_at p) i) (other_drain p s (queues_at p) i o));
              queues = λ role b.
                  let same = queue_drain p s (queues_at p) (role_at p role) (omega (arith, role_below p role, queues_most p)) in
                  rw (role_kept p q m role (prior_drain p s (queues_at p)) keeps.queues same, role_kept p q k role (prior_drain p s (queues_at p)) keeps.queues same)
                  (h.queues role b);
              above = h.above;
              waits = rw (queue_drain p s (queues_at p) (best_effort_at p) (omega (arith, queues_most p))) h.waits;
            };
        says = λ z. differ (sym z);
        marks = λ z. refl;
        not_lent = inl (omega arith);
      }

  pub next_withdraw : (s : ℕ) → Next all all n link p m k v (withdrawing s) (called (withdrawing s) p m) (called (marked n (withdrawing s)) p k)
  next_withdraw s =
      let number = own_withdrawal s in
      by_gate all n link p m k v best h (withdraw_refusal p s) (withdrawing s) (withdraw_step p m s) (withdraw_step p k s)
      (λ z.
      next_unchanged all n link p m k v best h (refused_by (withdraw_refusal p s)) (withdrawing s) (refusal_own (withdrawing s) p) refl
      (refuses_withdrawal refl (record { refused = λ f. z (number ∙ f); reply = ap refused_by number; queues = λ j. refl; streams = λ j. refl })))
      (withdraw_next s)
