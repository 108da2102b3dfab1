-- What a port replies to a stream's own offers is what the stream replies by itself, from the grant of its reservation to its withdrawal. Assumes
-- nothing.
use Prim.Native.Nat.{ℕ, suc, ◌≤◌, ◌<◌}
use mathlib.Core.Bool.{Bool, true, false, ◌&&◌, and-false, cond}
use mathlib.Core.Path.{◌≡◌, refl, sym, ap, ap₂, subst, ◌∙◌}
use mathlib.Core.Logic.{⊎_elim}
use mathlib.Core.List.{List, [], ◌∷◌, ◌++◌}
use native.Mathlib.Omega.{arith}
use borrow.Author.Tests.{eq-eqb, ne_eqb}
use lib.Dec.{eqb}
use Rattle.lists.specs.Each.{All}
use Rattle.lists.proofs.Order.{eq_or_not}
use Rattle.stream.specs.declared.Reply.{Reply}
use Rattle.stream.specs.declared.Stream.{Stream}
use Rattle.stream.specs.State.{current_place}
use Rattle.stream.specs.Steps.{arrive_of, tick_of}
use Rattle.stream.specs.Replies.{reply_of, stream_of}
use Rattle.stream.specs.Alone.{StreamEvent, arrival, tick, replies}
use Rattle.stream.proofs.FitLaws.{arrive_moves, tick_moves}
use Rattle.record.specs.Layout.{stream_count}
use Rattle.ranges.specs.Ranges.{charge_fits}
use Rattle.port_laws.specs.Counting.{Action, action_of, to_arrive, to_best_effort, to_frame, neither, to_tick, to_transmit, to_reserve, to_withdraw}
use Rattle.guarantee.specs.Events.{Sent, Event, action}
use Rattle.guarantee.specs.Claims.{is_tick, is_offer_of, offer, is_withdraw_of, Stays}
use Rattle.guarantee.specs.Own.{own, own_replies}
use Rattle.guarantee.specs.Beyond.{RepliedAlone}
use Rattle.guarantee.proofs.Reservation.{Reservation, keeping, ticked_keeping}
use Rattle.guarantee.proofs.Run.{View, Quiet, Arrives, RefusesArrival, Effect, quiet, refuses_reservation, reserves, refuses_withdrawal, withdraws, refuses_arrival, arrives, ticks, sends, idles, Run}
use Rattle.guarantee.proofs.Room.{Sound}
use Rattle.guarantee.proofs.Delay.{run_rest}
use Rattle.guarantee.proofs.Conforming.{allowed, others_grant, others_withdrawn, granted_reserve}

-- a call with reply r leaves the stream x, which does not drain, as y
module _ (last : ℕ) (r : Reply) (x y : Reservation) where
  -- by whether it is an offer of a octets, and whether it is a tick: what the rule of the stream alone says of it, and no other call touches the stream
  abbrev OwnStep : ℕ → Bool → Bool → Type 0
  OwnStep a true ticked = (r ≡ reply_of (arrive_of last x.stream a)) × (y ≡ keeping (stream_of (arrive_of last x.stream a)))
  OwnStep a false true = y ≡ keeping (tick_of x.stream)
  OwnStep a false false = y ≡ x

  -- a reserved stream stays reserved, and does not drain
  step_reserved : (a : ℕ) (offered ticked : Bool) → OwnStep a offered ticked → y.stream.reserved ≡ x.stream.reserved
  step_reserved a true ticked h = ap (λ (z : Reservation). z.stream.reserved) h.1 ∙ ap (λ (z : Stream). z.reserved) (sym (arrive_moves last x.stream a))
  step_reserved a false true h = ap (λ (z : Reservation). z.stream.reserved) h ∙ ap (λ (z : Stream). z.reserved) (sym (tick_moves x.stream))
  step_reserved a false false h = ap (λ (z : Reservation). z.stream.reserved) h

  step_keeps : (a : ℕ) (offered ticked : Bool) → x.drain ≡ 0 → OwnStep a offered ticked → y.drain ≡ 0
  step_keeps a true ticked keeps h = ap (λ (z : Reservation). z.drain) h.1
  step_keeps a false true keeps h = ap (λ (z : Reservation). z.drain) h
  step_keeps a false false keeps h = ap (λ (z : Reservation). z.drain) h ∙ keeps

  -- the call in front of later ones
  step_replies : (a : ℕ) (offered ticked : Bool) → OwnStep a offered ticked → (es : List StreamEvent) (rs : List Reply) → rs ≡ replies last y.stream es
      → cond offered (r ∷ rs) rs ≡ replies last x.stream (cond offered (arrival a ∷ es) (cond ticked (tick ∷ es) es))
  step_replies a true ticked h es rs later =
      ap₂ (λ (q : Reply) (qs : List Reply). q ∷ qs) h.0 (later ∙ ap (λ (z : Reservation). replies last z.stream es) h.1)
  step_replies a false true h es rs later = later ∙ ap (λ (z : Reservation). replies last z.stream es) h
  step_replies a false false h es rs later = later ∙ ap (λ (z : Reservation). replies last z.stream es) h

-- a quiet action is neither an offer nor a tick
quiet_step : (last s : ℕ) (r : Reply) (x y : Reservation) (c : Action) → Quiet c → y ≡ x → OwnStep last r x y (offer s c) (is_offer_of s c) (is_tick c)
quiet_step last s r x y (to_best_effort charge tag) q same = same
quiet_step last s r x y (to_frame octets tag) q same = same
quiet_step last s r x y neither q same = same
quiet_step last s r x y to_tick q same = elim q [ ]
quiet_step last s r x y to_transmit q same = elim q [ ]
quiet_step last s r x y (to_reserve _ _) q same = elim q [ ]
quiet_step last s r x y (to_withdraw _) q same = elim q [ ]
quiet_step last s r x y (to_arrive _ _ _) q same = elim q [ ]

module _ (last share n : ℕ) (v w : View) (r : Reply) (t : Sent) (s : ℕ) (below : s < stream_count) (keeps : (v.stream s).drain ≡ 0)
    (is : (v.stream s).stream.reserved ≡ true) where
  -- what any call is to a reserved stream that does not drain
  abbrev StepOf : Action → Type 0
  StepOf c = OwnStep last r (v.stream s) (w.stream s) (offer s c) (is_offer_of s c) (is_tick c)

  -- an arrival that is no offer of the stream
  no_offer : (i a tag : ℕ) → (eqb i s && charge_fits a) ≡ false → w.stream s ≡ v.stream s → StepOf (to_arrive i a tag)
  no_offer i a tag not_so same = rw not_so same

  -- no offer of a reserved stream is refused before its rule
  refused_step : (i a tag : ℕ) → RefusesArrival v w r i a → StepOf (to_arrive i a tag)
  refused_step i a tag d =
      ⊎_elim
      (λ (e : i ≡ s). told (charge_fits a) refl e)
      (λ (o : i ≡ s → ⊥). no_offer i a tag (ap (λ (b : Bool). b && charge_fits a) (ne_eqb i s o)) (d.streams s))
      (eq_or_not i s)
    where
      told : (b : Bool) → charge_fits a ≡ b → i ≡ s → StepOf (to_arrive i a tag)
      told true fits e = absurd (d.refused (allowed i (v.stream i) a (omega arith) (ap (λ (j : ℕ). (v.stream j).drain) e ∙ keeps) (ap (λ (j : ℕ). (v.stream j).stream.reserved) e ∙ is) fits))
      told false unfit e = no_offer i a tag (ap (λ (b : Bool). eqb i s && b) unfit ∙ and-false (eqb i s)) (d.streams s)

  -- an offer that its rule decides, or an arrival on another stream
  arrived_step : (i a tag : ℕ) → Arrives last v w r (record { stream = i; charge = a; tag = tag; number = n }) → StepOf (to_arrive i a tag)
  arrived_step i a tag d =
      ⊎_elim
      (λ (e : i ≡ s). rw (eq-eqb i s e, d.fits, ← e) (d.reply, d.streams.0))
      (λ (o : i ≡ s → ⊥). no_offer i a tag (ap (λ (b : Bool). b && charge_fits a) (ne_eqb i s o)) (d.streams.1 s (λ e. o (sym e))))
      (eq_or_not i s)

  -- each effect that a call can have, but a withdrawal of the stream
  own_step : (c : Action) → Effect last share n v w r t c → (is_withdraw_of s c ≡ true → r.refusal ≡ 0 → ⊥) → StepOf c
  own_step c (quiet q e queues streams) stays = quiet_step last s r (v.stream s) (w.stream s) c q (streams s)
  own_step c (refuses_reservation e d) stays = d.streams s
  own_step c (reserves {s = i} {permitted = p} e d) stays = others_grant share v w r s i p is d
  own_step c (refuses_withdrawal e d) stays = d.streams s
  own_step c (withdraws {s = i} e d) stays = others_withdrawn last v w r s i stays d
  own_step c (refuses_arrival {s = i} {charge = a} {tag = tag} e d) stays = refused_step i a tag d
  own_step c (arrives {s = i} {charge = a} {tag = tag} e d) stays = arrived_step i a tag d
  own_step c (ticks e d) stays = d.streams s ∙ ticked_keeping (v.stream s) keeps
  own_step c (sends k f fs d) stays = d.streams s
  own_step c (idles e i queues streams) stays = streams s

-- from a view in which the stream is reserved on, while it is not withdrawn
pub own_run : (last share s : ℕ) (while rest : List Event) (n : ℕ) (v : View) → s < stream_count → (v.stream s).drain ≡ 0 → (v.stream s).stream.reserved ≡ true
    → Run last share n v (while ++ rest) → All (Stays s) while
    → own_replies s while ≡ replies last (v.stream s).stream (own s while)
own_run last share s [] rest n v below keeps is run stays = refl
own_run last share s (e ∷ while) rest n v below keeps is (w, effect, run) (stay, stays) =
    let c = action e in
    let step = own_step last share n v w e.reply e.sent s below keeps is c effect stay in
    let x = v.stream s in
    let y = w.stream s in
    step_replies last e.reply x y (offer s c) (is_offer_of s c) (is_tick c) step (own s while) (own_replies s while)
    (own_run last share s while rest (suc n) w below
    (step_keeps last e.reply x y (offer s c) (is_offer_of s c) (is_tick c) keeps step)
    (step_reserved last e.reply x y (offer s c) (is_offer_of s c) (is_tick c) step ∙ is)
    run stays)

-- and so from the grant of its reservation to its withdrawal
pub replied_alone : (last share : ℕ) (v : View) (es : List Event) → current_place ≤ last → Run last share 0 v es → Sound last share v → RepliedAlone last es
replied_alone last share v es some run h s permitted before while rest g split call is stays =
    let here = run_rest last share some before (g ∷ (while ++ rest)) 0 v (subst (Run last share 0 v) split run) h in
    let w = here.run.0 in
    let effect = subst (Effect last share here.number here.view w g.reply g.sent) (ap action_of call) here.run.1 in
    let d = granted_reserve last share here.number here.view w g.reply g.sent s permitted effect is in
    own_run last share s while rest (suc here.number) w d.below
    (ap (λ (x : Reservation). x.drain) d.streams.0)
    (ap (λ (x : Reservation). x.stream.reserved) d.streams.0)
    here.run.2 stays
    ∙ ap (λ (x : Reservation). replies last x.stream (own s while)) d.streams.0
