-- A withdrawn stream drains until the tick whose number is that of the queues, whatever is called meanwhile, and its number is free from that tick on.
-- Assumes nothing.
use Prim.Native.Nat.{ℕ, suc, ◌+◌, ◌≤◌, ◌<◌}
use mathlib.Core.Bool.{Bool, true, false, ◌||◌, not, cond}
use mathlib.Core.Path.{◌≡◌, refl, sym, ap, ap₂, subst, ◌∙◌}
use mathlib.Core.Logic.{◌⊎◌, inl, inr, ⊎_elim}
use mathlib.Core.List.{List, [], ◌∷◌, ◌++◌}
use native.Mathlib.Omega.{arith}
use borrow.Author.Tests.{lt-leb, eq-eqb, ne_eqb, eqb-true}
use lib.Dec.{ltb, eqb}
use Rattle.lists.specs.Each.{All}
use Rattle.lists.proofs.EachLaws.{differ}
use Rattle.lists.proofs.Order.{eq_or_not}
use Rattle.stream.specs.declared.Reply.{Reply}
use Rattle.stream.specs.State.{current_place}
use Rattle.stream.specs.Replies.{refused_by}
use Rattle.record.specs.Layout.{stream_count}
use Rattle.ranges.specs.Ranges.{permitted_fits}
use Rattle.port_laws.specs.Counting.{Action, action_of, to_withdraw}
use Rattle.guarantee.specs.Events.{Sent, Event, action}
use Rattle.guarantee.specs.Claims.{is_tick, Tick, tick_count, is_reserve_of, is_withdraw_of, is_arrive_of, is_own_of}
use Rattle.guarantee.specs.Withdrawal.{WithdrawalOf, RefusedAsDraining, NotGranted, RefusedAsFree, WithdrawalHolds}
use Rattle.guarantee.proofs.Reservation.{Reservation, free, ticked, arrival_refusal, withdrawal_refusal, reservation_refusal, drains_so, ticked_frees, ticked_drain, ticked_free}
use Rattle.guarantee.proofs.CallLaws.{quiet_no_reserve, quiet_neither}
use Rattle.guarantee.proofs.Run.{View, permitted_of, Withdraws, Effect, quiet, refuses_reservation, reserves, refuses_withdrawal, withdraws, refuses_arrival, arrives, ticks, sends, idles, Run}
use Rattle.guarantee.proofs.Room.{Sound}
use Rattle.guarantee.proofs.Purge.{tick_effect}
use Rattle.guarantee.proofs.Delay.{Rest, counts, counts_not, run_rest}

-- the refusals of a draining stream's own calls, and of a free one's
module _ (s : ℕ) (below : s < stream_count) where
  reservation_draining : (share taken : ℕ) (x : Reservation) (permitted : ℕ) → 0 < x.drain → reservation_refusal share taken s x permitted ≡ 25
  reservation_draining share taken x permitted drains = rw (lt-leb stream_count s below, drains_so x drains)

  withdrawal_draining : (x : Reservation) → 0 < x.drain → withdrawal_refusal s x ≡ 25
  withdrawal_draining x drains = rw (lt-leb stream_count s below, drains_so x drains)

  arrival_draining : (x : Reservation) (a : ℕ) → 0 < x.drain → arrival_refusal s x a ≡ 25
  arrival_draining x a drains = rw (lt-leb stream_count s below, drains_so x drains)

  withdrawal_free : withdrawal_refusal s free ≡ 12
  withdrawal_free = rw (lt-leb stream_count s below)

  arrival_free : (a : ℕ) → arrival_refusal s free a ≡ 12
  arrival_free a = rw (lt-leb stream_count s below)

  -- a reservation of a free one, for its P alone
  abbrev for_its_p : Bool → Bool → ℕ
  for_its_p fits above = cond (not fits) 7 (cond above 8 0)

  reservation_free : (share taken permitted : ℕ) → (reservation_refusal share taken s free permitted ≡ 0 → ⊥)
      → (reservation_refusal share taken s free permitted ≡ 7) ⊎ (reservation_refusal share taken s free permitted ≡ 8)
  reservation_free share taken permitted = rw (lt-leb stream_count s below) (told (permitted_fits permitted) (ltb share (taken + permitted)))
    where
      told : (fits above : Bool) → (for_its_p fits above ≡ 0 → ⊥) → (for_its_p fits above ≡ 7) ⊎ (for_its_p fits above ≡ 8)
      told false above o = inl refl
      told true true o = inr refl
      told true false o = absurd (o refl)

-- a call that names a stream names this one, or it is none of its own
named : {A : Type 0} (i s : ℕ) → (eqb i s || false) ≡ true → (i ≡ s → A) → A
named i s own here =
    ⊎_elim here (λ (o : i ≡ s → ⊥). differ (sym own ∙ ap (λ (b : Bool). b || false) (ne_eqb i s o))) (eq_or_not i s)

-- what a call is to a draining stream
module _ (last share n : ℕ) (v w : View) (r : Reply) (t : Sent) (s : ℕ) (below : s < stream_count) (drains : 0 < (v.stream s).drain) where
  -- another stream's reservation, withdrawal or arrival: this one's would have been refused
  not_reserved : (i : ℕ) → v.stream i ≡ free → s ≡ i → ⊥
  not_reserved i was_free e = omega (arith, drains, ap (λ (j : ℕ). (v.stream j).drain) e, ap (λ (x : Reservation). x.drain) was_free)

  not_kept : (i : ℕ) → (v.stream i).drain ≡ 0 → s ≡ i → ⊥
  not_kept i keeps e = omega (arith, drains, ap (λ (j : ℕ). (v.stream j).drain) e)

  -- any but a tick leaves it as it is
  draining_kept : (c : Action) → Effect last share n v w r t c → is_tick c ≡ false → w.stream s ≡ v.stream s
  draining_kept c (quiet q e queues streams) no_tick = streams s
  draining_kept c (refuses_reservation e d) no_tick = d.streams s
  draining_kept c (reserves {s = i} e d) no_tick = d.streams.1 s (not_reserved i d.was_free)
  draining_kept c (refuses_withdrawal e d) no_tick = d.streams s
  draining_kept c (withdraws {s = i} e d) no_tick = d.streams.1 s (not_kept i d.keeps)
  draining_kept c (refuses_arrival e d) no_tick = d.streams s
  draining_kept c (arrives {s = i} e d) no_tick = d.streams.1 s (not_kept i d.keeps)
  draining_kept c (ticks e d) no_tick = differ no_tick
  draining_kept c (sends k f fs d) no_tick = d.streams s
  draining_kept c (idles e i queues streams) no_tick = streams s

  -- and one of its own is refused with 25
  draining_refused : (c : Action) → Effect last share n v w r t c → is_own_of s c ≡ true → r ≡ refused_by 25
  draining_refused c (quiet q e queues streams) own = differ (sym own ∙ ap₂ ◌||◌ (quiet_no_reserve s c q) (quiet_neither s c q))
  draining_refused c (refuses_reservation {s = i} {permitted = p} e d) own =
      named i s own λ same. d.reply ∙ ap refused_by (rw same (reservation_draining s below share (permitted_of v) (v.stream s) p drains))
  draining_refused c (reserves {s = i} e d) own = named i s own λ same. absurd (not_reserved i d.was_free (sym same))
  draining_refused c (refuses_withdrawal {s = i} e d) own =
      named i s own λ same. d.reply ∙ ap refused_by (rw same (withdrawal_draining s below (v.stream s) drains))
  draining_refused c (withdraws {s = i} e d) own = named i s own λ same. absurd (not_kept i d.keeps (sym same))
  draining_refused c (refuses_arrival {s = i} {charge = a} e d) own =
      let same : i ≡ s = eqb-true i s own in d.reply ∙ ap refused_by (rw same (arrival_draining s below (v.stream s) a drains))
  draining_refused c (arrives {s = i} e d) own = absurd (not_kept i d.keeps (sym (eqb-true i s own)))
  draining_refused c (ticks e d) own = differ (sym own)
  draining_refused c (sends k f fs d) own = differ (sym own)
  draining_refused c (idles e i queues streams) own = differ (sym own)

-- what a call is to a free stream, of which it grants no reservation
module _ (last share n : ℕ) (v w : View) (r : Reply) (t : Sent) (s : ℕ) (below : s < stream_count) (is_free : v.stream s ≡ free) where
  -- another stream's withdrawal or arrival: this one's would have been refused with 12
  not_withdrawn : (i : ℕ) → withdrawal_refusal i (v.stream i) ≡ 0 → s ≡ i → ⊥
  not_withdrawn i passed e =
      omega (arith, withdrawal_free s below, ap (withdrawal_refusal s) is_free, ap (λ (j : ℕ). withdrawal_refusal j (v.stream j)) e, passed)

  not_arrived : (i a : ℕ) → arrival_refusal i (v.stream i) a ≡ 0 → s ≡ i → ⊥
  not_arrived i a passed e =
      omega (arith, arrival_free s below a, ap (λ (x : Reservation). arrival_refusal s x a) is_free, ap (λ (j : ℕ). arrival_refusal j (v.stream j) a) e, passed)

  -- it stays free
  free_kept : (c : Action) → Effect last share n v w r t c → (is_reserve_of s c ≡ true → r.refusal ≡ 0 → ⊥) → w.stream s ≡ free
  free_kept c (quiet q e queues streams) not-granted = streams s ∙ is_free
  free_kept c (refuses_reservation e d) not-granted = d.streams s ∙ is_free
  free_kept c (reserves {s = i} e d) not-granted = d.streams.1 s (λ same. not-granted (eq-eqb i s (sym same)) d.accepted) ∙ is_free
  free_kept c (refuses_withdrawal e d) not-granted = d.streams s ∙ is_free
  free_kept c (withdraws {s = i} e d) not-granted = d.streams.1 s (not_withdrawn i d.allowed) ∙ is_free
  free_kept c (refuses_arrival e d) not-granted = d.streams s ∙ is_free
  free_kept c (arrives {s = i} {charge = a} e d) not-granted = d.streams.1 s (not_arrived i a d.allowed) ∙ is_free
  free_kept c (ticks e d) not-granted = d.streams s ∙ ap ticked is_free ∙ ticked_free
  free_kept c (sends k f fs d) not-granted = d.streams s ∙ is_free
  free_kept c (idles e i queues streams) not-granted = streams s ∙ is_free

  -- a withdrawal of it and an arrival on it are refused with 12
  free_refused : (c : Action) → Effect last share n v w r t c → (is_withdraw_of s c || is_arrive_of s c) ≡ true → r ≡ refused_by 12
  free_refused c (quiet q e queues streams) own = differ (sym own ∙ quiet_neither s c q)
  free_refused c (refuses_reservation e d) own = differ (sym own)
  free_refused c (reserves e d) own = differ (sym own)
  free_refused c (refuses_withdrawal {s = i} e d) own =
      named i s own λ same. d.reply ∙ ap refused_by (rw (same, is_free) (withdrawal_free s below))
  free_refused c (withdraws {s = i} e d) own = named i s own λ same. absurd (not_withdrawn i d.allowed (sym same))
  free_refused c (refuses_arrival {s = i} {charge = a} e d) own =
      let same : i ≡ s = eqb-true i s own in d.reply ∙ ap refused_by (rw (same, is_free) (arrival_free s below a))
  free_refused c (arrives {s = i} {charge = a} e d) own = absurd (not_arrived i a d.allowed (sym (eqb-true i s own)))
  free_refused c (ticks e d) own = differ (sym own)
  free_refused c (sends k f fs d) own = differ (sym own)
  free_refused c (idles e i queues streams) own = differ (sym own)

  -- a reservation of it for its P alone
  abbrev ForItsP : Type 0
  ForItsP = (r ≡ refused_by 7) ⊎ (r ≡ refused_by 8)

  reserve_refused : (p : ℕ) → (reservation_refusal share (permitted_of v) s (v.stream s) p ≡ 0 → ⊥)
      → r ≡ refused_by (reservation_refusal share (permitted_of v) s (v.stream s) p) → ForItsP
  reserve_refused p refused reply =
      let x = v.stream s in
      let number : reservation_refusal share (permitted_of v) s x p ≡ reservation_refusal share (permitted_of v) s free p =
      ap (λ (y : Reservation). reservation_refusal share (permitted_of v) s y p) is_free in
      ⊎_elim
      (λ (e : reservation_refusal share (permitted_of v) s free p ≡ 7). inl (reply ∙ ap refused_by (number ∙ e)))
      (λ (e : reservation_refusal share (permitted_of v) s free p ≡ 8). inr (reply ∙ ap refused_by (number ∙ e)))
      (reservation_free s below share (permitted_of v) p (λ z. refused (number ∙ z)))

  free_reserved : (c : Action) → Effect last share n v w r t c → (is_reserve_of s c ≡ true → r.refusal ≡ 0 → ⊥) → is_reserve_of s c ≡ true → ForItsP
  free_reserved c (quiet q e queues streams) not-granted own = differ (sym own ∙ quiet_no_reserve s c q)
  free_reserved c (refuses_reservation {s = i} {permitted = p} e d) not-granted own =
      let same : i ≡ s = eqb-true i s own in
      reserve_refused p
      (subst (λ (j : ℕ). reservation_refusal share (permitted_of v) j (v.stream j) p ≡ 0 → ⊥) same d.refused)
      (subst (λ (j : ℕ). r ≡ refused_by (reservation_refusal share (permitted_of v) j (v.stream j) p)) same d.reply)
  free_reserved c (reserves {s = i} e d) not-granted own = absurd (not-granted own d.accepted)
  free_reserved c (refuses_withdrawal e d) not-granted own = differ (sym own)
  free_reserved c (withdraws e d) not-granted own = differ (sym own)
  free_reserved c (refuses_arrival e d) not-granted own = differ (sym own)
  free_reserved c (arrives e d) not-granted own = differ (sym own)
  free_reserved c (ticks e d) not-granted own = differ (sym own)
  free_reserved c (sends k f fs d) not-granted own = differ (sym own)
  free_reserved c (idles e i queues streams) not-granted own = differ (sym own)

module _ (last share s : ℕ) (below : s < stream_count) where
  -- while fewer ticks come than it still drains for, its own calls are refused with 25
  abbrev DrainsOn : List Event → Type 0
  DrainsOn while = (rest : List Event) (n : ℕ) (v : View) → Run last share n v (while ++ rest) → tick_count while < (v.stream s).drain → All (RefusedAsDraining s) while

  drains_step : (e : Event) (while : List Event) → DrainsOn while → DrainsOn (e ∷ while)
  drains_step e while later rest n v (w, effect, run) fewer = (
    draining_refused last share n v w e.reply e.sent s below (omega arith) (action e) effect,
    later rest (suc n) w run (left (is_tick (action e)) refl),
  )
    where
      left : (b : Bool) → is_tick (action e) ≡ b → tick_count while < (w.stream s).drain
      left true is =
          let d = tick_effect last share n v w e.reply e.sent (action e) effect is in
          omega (arith, fewer, counts e is, ap (λ (x : Reservation). x.drain) (d.streams s), ticked_drain (v.stream s) (omega (arith, fewer, counts e is)))
      left false is =
          let same = draining_kept last share n v w e.reply e.sent s below (omega arith) (action e) effect is in
          omega (arith, fewer, counts_not e is, ap (λ (x : Reservation). x.drain) same)

  drains_on : (while : List Event) → DrainsOn while
  drains_on [] = λ rest n v run fewer. tt
  drains_on (e ∷ while) = drains_step e while (drains_on while)

  -- the run from the tick that frees it on
  record FreeRun (after : List Event) : Type 0 where
    number : ℕ
    view : View
    run : Run last share number view after
    is_free : view.stream s ≡ free

  abbrev FreedAfter : List Event → Type 0
  FreedAfter while =
      (t : Event) (after : List Event) (n : ℕ) (v : View) → Run last share n v (while ++ (t ∷ after)) → tick_count while + 1 ≡ (v.stream s).drain → Tick t → FreeRun after

  freed_step : (e : Event) (while : List Event) → FreedAfter while → FreedAfter (e ∷ while)
  freed_step e while later t after n v (w, effect, run) count tick = later t after (suc n) w run (left (is_tick (action e)) refl) tick
    where
      left : (b : Bool) → is_tick (action e) ≡ b → tick_count while + 1 ≡ (w.stream s).drain
      left true is =
          let d = tick_effect last share n v w e.reply e.sent (action e) effect is in
          omega (arith, count, counts e is, ap (λ (x : Reservation). x.drain) (d.streams s), ticked_drain (v.stream s) (omega (arith, count, counts e is)))
      left false is =
          let same = draining_kept last share n v w e.reply e.sent s below (omega arith) (action e) effect is in
          omega (arith, count, counts_not e is, ap (λ (x : Reservation). x.drain) same)

  freed_after : (while : List Event) → FreedAfter while
  freed_after [] = λ t after n v run count tick.
      let d = tick_effect last share n v run.0 t.reply t.sent (action t) run.1 tick in
      record { number = suc n; view = run.0; run = run.2; is_free = d.streams s ∙ ticked_frees (v.stream s) (omega arith) }
  freed_after (e ∷ while) = freed_step e while (freed_after while)

  -- from there on, while no reservation of it is granted
  free_on : (after rest : List Event) (n : ℕ) (v : View) → Run last share n v (after ++ rest) → v.stream s ≡ free → All (NotGranted s) after → All (RefusedAsFree s) after
  free_on [] rest n v run is_free not-granted = tt
  free_on (e ∷ after) rest n v (w, effect, run) is_free (not-granted, later) = (
    (
      free_refused last share n v w e.reply e.sent s below is_free (action e) effect,
      free_reserved last share n v w e.reply e.sent s below is_free (action e) effect not-granted,
    ),
    free_on after rest (suc n) w run (free_kept last share n v w e.reply e.sent s below is_free (action e) effect not-granted) later,
  )

-- a Withdraw without refusal
granted_withdraw : (last share n : ℕ) (v w : View) (r : Reply) (t : Sent) (s : ℕ) → Effect last share n v w r t (to_withdraw s) → r.refusal ≡ 0 → Withdraws last v w r s
granted_withdraw last share n v w r t s (quiet q e queues streams) is = absurd q
granted_withdraw last share n v w r t s (refuses_withdrawal e d) is = absurd (d.refused (sym (ap (λ (x : Reply). x.refusal) d.reply) ∙ is))
granted_withdraw last share n v w r t s (withdraws e d) is = d

-- from the withdrawal on
module _ (last share : ℕ) (v : View) (es : List Event) (some : current_place ≤ last) (run : Run last share 0 v es) (h : Sound last share v) (s : ℕ) (before rest : List Event)
    (g : Event) (split : es ≡ before ++ (g ∷ rest)) (is : WithdrawalOf s g) where
  here : Rest last share 0 before (g ∷ rest)
  here = run_rest last share some before (g ∷ rest) 0 v (subst (Run last share 0 v) split run) h

  withdrawal : Withdraws last here.view here.run.0 g.reply s
  withdrawal =
      granted_withdraw last share here.number here.view here.run.0 g.reply g.sent s
      (subst (Effect last share here.number here.view here.run.0 g.reply g.sent) (ap action_of is.0) here.run.1)
      is.1

  drains_all : (here.run.0.stream s).drain ≡ last + 1
  drains_all = ap (λ (x : Reservation). x.drain) withdrawal.streams.0

-- what a withdrawal does to the replies of a list
pub withdrawal_holds : (last share : ℕ) (v : View) (es : List Event) → current_place ≤ last → Run last share 0 v es → Sound last share v → WithdrawalHolds (last + 1) es
withdrawal_holds last share v es some run h =
    record {
      draining = λ s before while rest g split is fewer.
          let there = here last share v es some run h s before (while ++ rest) g split is in
          let d = withdrawal last share v es some run h s before (while ++ rest) g split is in
          drains_on last share s d.below while rest (suc there.number) there.run.0 there.run.2
          (omega (arith, fewer, drains_all last share v es some run h s before (while ++ rest) g split is));
      free = λ s before while after rest g t split is count tick not-granted.
          let later = while ++ (t ∷ (after ++ rest)) in
          let there = here last share v es some run h s before later g split is in
          let d = withdrawal last share v es some run h s before later g split is in
          let freed = freed_after last share s d.below while t (after ++ rest) (suc there.number) there.run.0 there.run.2
          (omega (arith, count, drains_all last share v es some run h s before later g split is)) tick in
          free_on last share s d.below after rest freed.number freed.view freed.run freed.is_free not-granted;
    }
