-- Where no tick purges, a frame that joined place k is sent before the tick of number k + 1 after it. Assumes nothing.
use Prim.Native.Nat.{ℕ, zero, suc, ◌+◌, ◌≤◌}
use mathlib.Core.Bool.{Bool, true, false, cond}
use mathlib.Core.Path.{◌≡◌, refl, sym, ap, subst, ◌∙◌}
use mathlib.Core.Logic.{◌⊎◌, inl, inr, ⊎_elim}
use mathlib.Core.List.{List, [], ◌∷◌, ◌++◌}
use native.Mathlib.Omega.{arith}
use borrow.Author.Tests.{eq-eqb, ne_eqb}
use lib.ListN.{length}
use Rattle.lists.specs.Each.{All, Some}
use Rattle.lists.proofs.Order.{eq_or_not}
use Rattle.stream.specs.declared.Reply.{Reply}
use Rattle.stream.specs.declared.Arrival.{Arrival}
use Rattle.stream.specs.declared.Arrival.TheVariants.{Joined, Discarded}
use Rattle.stream.specs.State.{current_place}
use Rattle.stream.specs.Steps.{arrive_of}
use Rattle.stream.specs.Replies.{granted, reply_of}
use Rattle.stream.proofs.FitLaws.{joins_onward, joins_within}
use Rattle.port_laws.specs.Counting.{Action, action_of, to_arrive}
use Rattle.guarantee.specs.Events.{Marked, Sent, reserved_sent, Event, action}
use Rattle.guarantee.specs.Claims.{is_tick, Tick, PurgesNothing, tick_count, Sends, SentBefore, AllSentBefore}
use Rattle.lists.proofs.EachLaws.{differ, all_rest, some_before, some_last}
use Rattle.guarantee.specs.Beyond.{SentByReply}
use Rattle.guarantee.proofs.Run.{View, queue_after, Ticks, Effect, quiet, refuses_reservation, reserves, refuses_withdrawal, withdraws, refuses_arrival, arrives, ticks, sends, idles, Run}
use Rattle.guarantee.proofs.Room.{Sound, stays_sound}
use Rattle.guarantee.proofs.Purge.{tick_effect}

-- the frame waits in the queue of this role
abbrev pub Waits : ℕ → Marked → View → Type 0
Waits k f v = Some (λ g. g ≡ f) (v.queue k)

-- a frame that joins leaves those that wait
waits_after : (k : ℕ) (f g : Marked) (r : Arrival) (fs : List Marked) → Some (λ h. h ≡ f) fs → Some (λ h. h ≡ f) (queue_after k g r fs)
waits_after k f g (Joined place x) fs h =
    ⊎_elim
    (λ (e : place ≡ k). rw (eq-eqb place k e) (some_before (λ x. x ≡ f) fs g h))
    (λ (o : place ≡ k → ⊥). rw (ne_eqb place k o) h)
    (eq_or_not place k)
waits_after k f g (Discarded x) fs h = h

-- a call that is no tick sends the frame, or it still waits
abbrev SentOrWaits : ℕ → Marked → View → Reply → Sent → Type 0
SentOrWaits k f w r t = ((t ≡ reserved_sent f) × (r ≡ granted f.stream f.tag)) ⊎ Waits k f w

-- the oldest frame is this one, or this one is behind it
sent_first_lem : (k : ℕ) (f g : Marked) (fs : List Marked) (w : View) (r : Reply) (t : Sent) → t ≡ reserved_sent g → r ≡ granted g.stream g.tag → w.queue k ≡ fs
    → Some (λ h. h ≡ f) (g ∷ fs) → SentOrWaits k f w r t
sent_first_lem k f g fs w r t sent reply queue (inl e) = inl (sent ∙ ap reserved_sent e, reply ∙ ap (λ (h : Marked). granted h.stream h.tag) e)
sent_first_lem k f g fs w r t sent reply queue (inr h) = inr (rw queue h)

still_waits : (last share n : ℕ) (v w : View) (r : Reply) (t : Sent) (c : Action) (k : ℕ) (f : Marked) → Effect last share n v w r t c → is_tick c ≡ false → Waits k f v
    → SentOrWaits k f w r t
still_waits last share n v w r t c k f (quiet q e queues streams) no_tick h = inr (rw (queues k) h)
still_waits last share n v w r t c k f (refuses_reservation e d) no_tick h = inr (rw (d.queues k) h)
still_waits last share n v w r t c k f (reserves e d) no_tick h = inr (rw (d.queues k) h)
still_waits last share n v w r t c k f (refuses_withdrawal e d) no_tick h = inr (rw (d.queues k) h)
still_waits last share n v w r t c k f (withdraws e d) no_tick h = inr (rw (d.queues k) h)
still_waits last share n v w r t c k f (refuses_arrival e d) no_tick h = inr (rw (d.queues k) h)
still_waits last share n v w r t c k f (arrives {s = s} {charge = a} e d) no_tick h =
    inr (rw (d.queues k) (waits_after k f _ (arrive_of last (v.stream s).stream a) (v.queue k) h))
still_waits last share n v w r t c k f (ticks e d) no_tick h = differ no_tick
still_waits last share n v w r t c k f (sends j g fs d) no_tick h =
    ⊎_elim
    (λ (e : k ≡ j). sent_first_lem k f g fs w r t d.sent d.reply (ap w.queue e ∙ d.queues.0) (rw (e, d.waiting) at h))
    (λ (o : k ≡ j → ⊥). inr (rw (d.queues.1 k o) h))
    (eq_or_not k j)
still_waits last share n v w r t c k f (idles e i queues streams) no_tick h = inr (rw (queues k) h)

-- a frame in prior would be purged
not_in_prior : {A : Type 0} (v w : View) (r : Reply) (f : Marked) → Ticks v w r → r ≡ granted 0 0 → Waits 0 f v → A
not_in_prior v w r f d zeros h =
    let none_wait : length (v.queue 0) ≡ 0 = ap (λ (x : Reply). x.first) (sym d.reply ∙ zeros) in
    told (v.queue 0) h none_wait
  where
    told : {A : Type 0} (fs : List Marked) → Some (λ g. g ≡ f) fs → length fs ≡ 0 → A
    told (g ∷ fs) z e = absurd (omega arith)
    told [] z e = elim z [ ]

-- a tick counts one
pub counts : (e : Event) → is_tick (action e) ≡ true → ◌≡◌ {A = ℕ} (cond (is_tick (action e)) 1 0) 1
counts e is = ap {B = ℕ} (λ (b : Bool). cond b 1 0) is

pub counts_not : (e : Event) → is_tick (action e) ≡ false → ◌≡◌ {A = ℕ} (cond (is_tick (action e)) 1 0) 0
counts_not e is = ap {B = ℕ} (λ (b : Bool). cond b 1 0) is

module _ (last share : ℕ) (some : current_place ≤ last) where
  -- what is to be shown of the events before a tick u: a frame in role k is sent among them, if they hold k ticks
  abbrev SentAmong : List Event → Type 0
  SentAmong between =
      (after : List Event) (u : Event) (n k : ℕ) (v : View) (f : Marked) → Run last share n v (between ++ (u ∷ after)) → All PurgesNothing (between ++ (u ∷ after))
      → Waits k f v → Tick u → k ≤ tick_count between → Some (Sends f) between

  sent_step : (e : Event) (between : List Event) → SentAmong between → SentAmong (e ∷ between)
  sent_step e between rest after u n k v f (w, effect, run) (purges, none-later) waits tick most = told (is_tick (action e)) refl k waits most
    where
      told : (b : Bool) → is_tick (action e) ≡ b → (k : ℕ) → Waits k f v → k ≤ tick_count (e ∷ between) → Some (Sends f) (e ∷ between)
      told true is zero h m =
          not_in_prior v w e.reply f (tick_effect last share n v w e.reply e.sent (action e) effect is) (purges is) h
      told true is (suc k) h m =
          let d = tick_effect last share n v w e.reply e.sent (action e) effect is in
          inr (rest after u (suc n) k w f run none-later (rw (d.queues k) h) tick (omega (arith, counts e is)))
      told false is k h m =
          ⊎_elim
          (λ (s : (e.sent ≡ reserved_sent f) × (e.reply ≡ granted f.stream f.tag)). inl s)
          (λ (h : Waits k f w). inr (rest after u (suc n) k w f run none-later h tick (omega (arith, counts_not e is))))
          (still_waits last share n v w e.reply e.sent (action e) k f effect is h)

  sent_among : (between : List Event) → SentAmong between
  sent_among [] = λ after u n k v f run purges waits tick most.
      not_in_prior v run.0 u.reply f (tick_effect last share n v run.0 u.reply u.sent (action u) run.1 tick) (purges.0 tick)
      (subst (λ (j : ℕ). Waits j f v) (omega arith) waits)
  sent_among (e ∷ between) = sent_step e between (sent_among between)

  -- a frame that waits at place k is sent before the tick of number k + 1, or any later one
  pub waits_sent : (number n k : ℕ) (v : View) (f : Marked) (es : List Event) → Run last share n v es → All PurgesNothing es → Waits k f v → k + 1 ≤ number
      → SentBefore number f es
  waits_sent number n k v f es run purges waits most between after u e tick count =
      sent_among between after u n k v f
      (subst (Run last share n v) e run)
      (subst (All PurgesNothing) e purges)
      waits tick (omega arith)

-- a run from where some of its events have happened
pub record Rest (last share n : ℕ) (before rest : List Event) : Type 0 where
  pub number : ℕ
  pub view : View
  pub counted : number ≡ n + length before
  pub run : Run last share number view rest
  pub sound : Sound last share view

module _ (last share : ℕ) (some : current_place ≤ last) where
  pub run_rest : (before rest : List Event) (n : ℕ) (v : View) → Run last share n v (before ++ rest) → Sound last share v → Rest last share n before rest
  run_rest [] rest n v run h = record { number = n; view = v; counted = omega arith; run = run; sound = h }
  run_rest (e ∷ before) rest n v (w, effect, run) h =
      let later = run_rest before rest (suc n) w run (stays_sound last share n v w e.reply e.sent (action e) some effect h) in
      record { number = later.number; view = later.view; counted = omega (arith, later.counted); run = later.run; sound = later.sound }

-- an accepted arrival: the frame waits at the place that the reply names
pub record Accepted (last : ℕ) (w : View) (r : Reply) (f : Marked) : Type 0 where
  pub from_current : current_place ≤ r.first
  pub to_last : r.first ≤ last
  pub waits : Waits r.first f w

module _ (last share n : ℕ) (v w : View) (r : Reply) (t : Sent) (s charge tag : ℕ) where
  abbrev frame : Marked
  frame = record { stream = s; charge = charge; tag = tag; number = n }

  joined_accepted : Sound last share v → (z : Arrival) → arrive_of last (v.stream s).stream charge ≡ z → r ≡ reply_of z
      → ((k : ℕ) → w.queue k ≡ queue_after k frame z (v.queue k)) → r.refusal ≡ 0 → Accepted last w r frame
  joined_accepted h (Joined place x) e reply queues no-refusal =
      subst (λ (y : Reply). Accepted last w y frame) (sym reply)
      (record {
        from_current = omega (arith, joins_onward last (v.stream s).stream charge place x e, (h.fit s).first_place);
        to_last = joins_within last (v.stream s).stream charge place x (h.fit s) e;
        waits = rw (queues place, eq-eqb place place refl) (some_last (λ x. x ≡ frame) (v.queue place) frame refl);
      })
  joined_accepted h (Discarded x) e reply queues no-refusal = absurd (omega (arith, ap (λ (y : Reply). y.refusal) reply))

  pub accepted : Effect last share n v w r t (to_arrive s charge tag) → Sound last share v → r.refusal ≡ 0 → Accepted last w r frame
  accepted (quiet q e queues streams) h no-refusal = absurd q
  accepted (refuses_arrival e d) h no-refusal = absurd (d.refused (ap (λ (x : Reply). x.refusal) (sym d.reply) ∙ no-refusal))
  accepted (arrives e d) h no-refusal = joined_accepted h (arrive_of last (v.stream s).stream charge) refl d.reply d.queues no-refusal

-- an accepted frame is sent before the tick of a number above that of the queue that the reply names
module _ (last share : ℕ) (v : View) (es : List Event) (some : current_place ≤ last) (run : Run last share 0 v es) (h : Sound last share v) (purges : All PurgesNothing es)
    (before after : List Event) (e : Event) (s charge tag : ℕ) (split : es ≡ before ++ (e ∷ after)) (call : action e ≡ to_arrive s charge tag)
    (no-refusal : e.reply.refusal ≡ 0) where
  rest : Rest last share 0 before (e ∷ after)
  rest = run_rest last share some before (e ∷ after) 0 v (subst (Run last share 0 v) split run) h

  joined : Accepted last rest.run.0 e.reply (record { stream = s; charge = charge; tag = tag; number = rest.number })
  joined =
      accepted last share rest.number rest.view rest.run.0 e.reply e.sent s charge tag
      (subst (Effect last share rest.number rest.view rest.run.0 e.reply e.sent) call rest.run.1)
      rest.sound no-refusal

  accepted_sent : (number : ℕ) → e.reply.first + 1 ≤ number → SentBefore number (record { stream = s; charge = charge; tag = tag; number = length before }) after
  accepted_sent number enough =
      let counted : length before ≡ rest.number = omega (arith, rest.counted) in
      rw counted
      (waits_sent last share some number (suc rest.number) e.reply.first rest.run.0 _ after rest.run.2
      (all_rest PurgesNothing before (e ∷ after) (subst (All PurgesNothing) split purges)).1
      joined.waits
      enough)

module _ (last share : ℕ) (v : View) (es : List Event) (some : current_place ≤ last) (run : Run last share 0 v es) (h : Sound last share v) (purges : All PurgesNothing es) where
  pub sent_by_reply : SentByReply es
  sent_by_reply before after e s charge tag split call no-refusal =
      accepted_sent last share v es some run h purges before after e s charge tag split (ap action_of call) no-refusal _ (omega arith)

  -- every accepted frame is sent before the tick whose number is that of the queues for reserved traffic, or any later one
  pub all_sent : (number : ℕ) → last + 1 ≤ number → AllSentBefore number es
  all_sent number enough before after e s charge tag split call no-refusal =
      accepted_sent last share v es some run h purges before after e s charge tag split (ap action_of call) no-refusal _
      (omega (arith, enough, (joined last share v es some run h purges before after e s charge tag split (ap action_of call) no-refusal).to_last))
