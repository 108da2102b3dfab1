-- Under the link condition no tick finds a frame in prior. Assumes nothing.
use Prim.Native.Nat.{ℕ, zero, suc, ◌+◌, ◌≤◌, ◌<◌}
use mathlib.Core.Bool.{Bool, true, false}
use mathlib.Core.Path.{◌≡◌, refl, sym, ap, subst, ◌∙◌}
use mathlib.Core.Logic.{◌⊎◌, inl, inr, ⊎_elim}
use mathlib.Core.List.{List, [], ◌∷◌, ◌++◌, append_assoc}
use native.Mathlib.Omega.{arith}
use borrow.Author.Tests.{ne_eqb}
use lib.ListN.{length}
use Rattle.lists.specs.Each.{All, Some}
use Rattle.stream.specs.declared.Reply.{Reply}
use Rattle.stream.specs.declared.Stream.{Stream}
use Rattle.stream.specs.declared.Arrival.{Arrival}
use Rattle.stream.specs.declared.Arrival.TheVariants.{Joined, Discarded}
use Rattle.stream.specs.State.{current_place, StreamFit}
use Rattle.stream.specs.Steps.{arrive_of}
use Rattle.stream.specs.Replies.{granted}
use Rattle.stream.proofs.FitLaws.{joins_onward}
use Rattle.port_laws.specs.Counting.{Action, to_arrive, to_reserve, to_withdraw}
use Rattle.ranges.specs.Ranges.{least_charge}
use Rattle.guarantee.specs.Events.{Marked, Sent, reserved_sent, none, is_transmit, Event, action}
use Rattle.guarantee.specs.Claims.{is_tick, Tick, NoTick, reserved_charge, reserved_octets, Idle, Linked, LinkCondition, PurgesNothing}
use Rattle.lists.proofs.TurnLaws.{sum_of_snoc}
use Rattle.lists.proofs.EachLaws.{differ, some_not_none, all_snoc, some_snoc}
use Rattle.guarantee.proofs.CallLaws.{quiet_no_tick, quiet_no_transmit}
use Rattle.guarantee.proofs.Run.{View, octets, queue_after, Ticks, Effect, quiet, refuses_reservation, reserves, refuses_withdrawal, withdraws, refuses_arrival, arrives, ticks, sends, idles, Run}
use Rattle.guarantee.proofs.Room.{Charged, Sound, octets_most, few_octets, stays_sound}

-- no frame joins prior
prior_keeps : (last : ℕ) (x : Stream) (a : ℕ) (f : Marked) (fs : List Marked) → StreamFit last x → queue_after 0 f (arrive_of last x a) fs ≡ fs
prior_keeps last x a f fs fit = told (arrive_of last x a) refl
  where
    told : (r : Arrival) → arrive_of last x a ≡ r → queue_after 0 f r fs ≡ fs
    told (Joined place y) e = rw (ne_eqb place 0 (λ z. omega (arith, joins_onward last x a place y e, fit.first_place)))
    told (Discarded y) e = refl

-- what a call that is no tick leaves in prior
record Leaves (v w : View) (t : Sent) (c : Action) : Type 0 where
  shrinks : (w.queue 0 ≡ []) ⊎ (reserved_charge t + octets (w.queue 0) ≤ octets (v.queue 0))
  stays_empty : v.queue 0 ≡ [] → w.queue 0 ≡ []
  idle_empty : is_transmit c ≡ true → ((f : Marked) → t ≡ reserved_sent f → ⊥) → w.queue 0 ≡ []

kept_leaves : (v w : View) (t : Sent) (c : Action) → w.queue 0 ≡ v.queue 0 → t ≡ none → (is_transmit c ≡ false) → Leaves v w t c
kept_leaves v w t c same nothing other =
    record {
      shrinks = inr (rw (same, nothing) (omega arith));
      stays_empty = λ e. same ∙ e;
      idle_empty = λ e i. differ (sym e ∙ other);
    }

leaves : (last share n : ℕ) (v w : View) (r : Reply) (t : Sent) (c : Action) → Effect last share n v w r t c → Sound last share v → is_tick c ≡ false → Leaves v w t c
leaves last share n v w r t c (quiet q e queues streams) h no_tick = kept_leaves v w t c (queues 0) e (quiet_no_transmit c q)
leaves last share n v w r t c (refuses_reservation {s = s} {permitted = p} e d) h no_tick = kept_leaves v w t (to_reserve s p) (d.queues 0) e refl
leaves last share n v w r t c (reserves {s = s} {permitted = p} e d) h no_tick = kept_leaves v w t (to_reserve s p) (d.queues 0) e refl
leaves last share n v w r t c (refuses_withdrawal {s = s} e d) h no_tick = kept_leaves v w t (to_withdraw s) (d.queues 0) e refl
leaves last share n v w r t c (withdraws {s = s} e d) h no_tick = kept_leaves v w t (to_withdraw s) (d.queues 0) e refl
leaves last share n v w r t c (refuses_arrival {s = s} {charge = a} {tag = tag} e d) h no_tick =
    kept_leaves v w t (to_arrive s a tag) (d.queues 0) e refl
leaves last share n v w r t c (arrives {s = s} {charge = a} {tag = tag} e d) h no_tick =
    kept_leaves v w t (to_arrive s a tag) (d.queues 0 ∙ prior_keeps last (v.stream s).stream a _ (v.queue 0) (h.fit s)) e refl
leaves last share n v w r t c (ticks e d) h no_tick = differ no_tick
leaves last share n v w r t c (sends zero f fs d) h no_tick =
    record {
      shrinks = inr (rw (d.sent, d.queues.0, d.waiting) (omega arith));
      stays_empty = λ e. some_not_none f fs (sym d.waiting ∙ e);
      idle_empty = λ e i. absurd (i f d.sent);
    }
leaves last share n v w r t c (sends (suc k) f fs d) h no_tick =
    let empty : w.queue 0 ≡ [] = d.queues.1 0 (λ z. omega arith) ∙ d.earlier 0 (omega arith) in
    record { shrinks = inl empty; stays_empty = λ e. empty; idle_empty = λ e i. empty }
leaves last share n v w r t c (idles e i queues streams) h no_tick =
    let empty : w.queue 0 ≡ [] = queues 0 ∙ e in
    record { shrinks = inl empty; stays_empty = λ _. empty; idle_empty = λ _ _. empty }

-- a tick purges what is in prior
pub tick_effect : (last share n : ℕ) (v w : View) (r : Reply) (t : Sent) (c : Action) → Effect last share n v w r t c → is_tick c ≡ true → Ticks v w r
tick_effect last share n v w r t c (quiet q e queues streams) tick = differ (sym tick ∙ quiet_no_tick c q)
tick_effect last share n v w r t c (refuses_reservation e d) tick = differ (sym tick)
tick_effect last share n v w r t c (reserves e d) tick = differ (sym tick)
tick_effect last share n v w r t c (refuses_withdrawal e d) tick = differ (sym tick)
tick_effect last share n v w r t c (withdraws e d) tick = differ (sym tick)
tick_effect last share n v w r t c (refuses_arrival e d) tick = differ (sym tick)
tick_effect last share n v w r t c (arrives e d) tick = differ (sym tick)
tick_effect last share n v w r t c (ticks e d) tick = d
tick_effect last share n v w r t c (sends k f fs d) tick = differ (sym tick)
tick_effect last share n v w r t c (idles e i queues streams) tick = differ (sym tick)

-- the link condition holds of the events after some
link_drop : (share : ℕ) (xs ys : List Event) → LinkCondition share (xs ++ ys) → LinkCondition share ys
link_drop share xs ys link before between after t u e =
    link (xs ++ before) between after t u (ap (λ (zs : List Event). xs ++ zs) e ∙ sym (append_assoc xs before (t ∷ (between ++ (u ∷ after)))))

-- since the last tick: with `between` what has happened since, prior is empty after an idle transmit, and what was sent and still waits is at most
-- the share
abbrev Drains : ℕ → List Marked → List Event → Type 0
Drains share prior between = (Some Idle between → prior ≡ []) × ((prior ≡ []) ⊎ (reserved_octets between + octets prior ≤ share))

module _ (share : ℕ) (v w : View) (between : List Event) (e : Event) (d : Drains share (v.queue 0) between) (l : Leaves v w e.sent (action e)) where
  drains_on : Drains share (w.queue 0) (between ++ (e ∷ []))
  drains_on = (
    λ some.
        ⊎_elim
        (λ (i : Some Idle between). l.stays_empty (d.0 i))
        (λ (i : Idle e). l.idle_empty i.0 i.1)
        (some_snoc Idle between e some),
    ⊎_elim
        (λ (empty : v.queue 0 ≡ []). inl (l.stays_empty empty))
        (λ (most : reserved_octets between + octets (v.queue 0) ≤ share).
        ⊎_elim
        (λ (empty : w.queue 0 ≡ []). inl empty)
        (λ (less : reserved_charge e.sent + octets (w.queue 0) ≤ octets (v.queue 0)). inr (omega (arith, sum_of_snoc (λ d. reserved_charge d.sent) between e)))
        l.shrinks)
        d.1,
  )

-- so a tick that the link condition lets follow finds prior empty, even if it asks somewhat less than the share
drained : (share asked : ℕ) (prior : List Marked) (between : List Event) → All Charged prior → share < asked + least_charge → Drains share prior between
    → Linked asked between → prior ≡ []
drained share asked prior between charged slack d (inl enough) =
    ⊎_elim
    (λ (empty : prior ≡ []). empty)
    (λ (most : reserved_octets between + octets prior ≤ share). few_octets prior charged (omega (arith, slack, enough, most)))
    d.1
drained share asked prior between charged slack d (inr idle) = d.0 idle

-- the reply of a tick that finds prior empty
purged_nothing : (v w : View) (r : Reply) → Ticks v w r → v.queue 0 ≡ [] → r ≡ granted 0 0
purged_nothing v w r d empty = d.reply ∙ ap (λ (fs : List Marked). granted (length fs) (octets fs)) empty

module _ (last share asked : ℕ) (some : current_place ≤ last) (slack : share < asked + least_charge) where
  -- what is to be shown of the events that follow a tick t and what came after it
  abbrev FollowingPurge : List Event → Type 0
  FollowingPurge es =
      (t : Event) (between : List Event) (n : ℕ) (v : View) → Run last share n v es → Sound last share v → Tick t → All NoTick between
      → LinkCondition asked (t ∷ (between ++ es)) → Drains share (v.queue 0) between → All PurgesNothing es

  -- a tick leaves a prior that is at most the share
  fresh : (n : ℕ) (v w : View) (e : Event) → Sound last share v → Ticks v w e.reply → Drains share (w.queue 0) []
  fresh n v w e h d = (λ z. absurd z, inr (rw (d.queues 0) (omega (arith, octets_most last share v h 1))))

  following_step : (e : Event) (es : List Event) → FollowingPurge es → FollowingPurge (e ∷ es)
  following_step e es rest t between n v (w, effect, run) h tick no-ticks link d = told (is_tick (action e)) refl
    where
      sound : Sound last share w
      sound = stays_sound last share n v w e.reply e.sent (action e) some effect h

      told : (b : Bool) → is_tick (action e) ≡ b → All PurgesNothing (e ∷ es)
      told true is =
          let ticked = tick_effect last share n v w e.reply e.sent (action e) effect is in
          let empty = drained share asked (v.queue 0) between (h.charged 0) slack d (link [] between es t e refl tick is no-ticks) in (
            λ z. purged_nothing v w e.reply ticked empty,
            rest e [] (suc n) w run sound is tt (link_drop asked (t ∷ between) (e ∷ es) link) (fresh n v w e h ticked),
          )
      told false is = (
        λ z. differ (sym z ∙ is),
        rest t (between ++ (e ∷ [])) (suc n) w run sound tick (all_snoc NoTick between e no-ticks is)
            (subst (λ (zs : List Event). LinkCondition asked (t ∷ zs)) (sym (append_assoc between (e ∷ []) es)) link)
            (drains_on share v w between e d (leaves last share n v w e.reply e.sent (action e) effect h is)),
      )

  following : (es : List Event) → FollowingPurge es
  following [] = λ t between n v run h tick no-ticks link d. tt
  following (e ∷ es) = following_step e es (following es)

  -- and from a prior that is empty before any tick
  abbrev FromEmpty : List Event → Type 0
  FromEmpty es = (n : ℕ) (v : View) → Run last share n v es → Sound last share v → LinkCondition asked es → v.queue 0 ≡ [] → All PurgesNothing es

  from_step : (e : Event) (es : List Event) → FromEmpty es → FromEmpty (e ∷ es)
  from_step e es rest n v (w, effect, run) h link empty = told (is_tick (action e)) refl
    where
      sound : Sound last share w
      sound = stays_sound last share n v w e.reply e.sent (action e) some effect h

      told : (b : Bool) → is_tick (action e) ≡ b → All PurgesNothing (e ∷ es)
      told true is =
          let ticked = tick_effect last share n v w e.reply e.sent (action e) effect is in (
            λ z. purged_nothing v w e.reply ticked empty,
            following es e [] (suc n) w run sound is tt link (fresh n v w e h ticked),
          )
      told false is = (
        λ z. differ (sym z ∙ is),
        rest (suc n) w run sound (link_drop asked (e ∷ []) es link)
            ((leaves last share n v w e.reply e.sent (action e) effect h is).stays_empty empty),
      )

  pub no_purge : (es : List Event) → FromEmpty es
  no_purge [] = λ n v run h link empty. tt
  no_purge (e ∷ es) = from_step e es (no_purge es)
