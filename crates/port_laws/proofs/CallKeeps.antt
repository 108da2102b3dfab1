-- What every write to the record keeps is kept by every call but a granted Open, refused or not. Assumes nothing.
use Prim.Native.Nat.{ℕ, ◌+◌, ◌-◌}
use mathlib.Core.Path.{◌≡◌, refl, sym, ap, subst, ◌∙◌}
use mathlib.Core.Bool.{Bool, true, false, cond}
use mathlib.Core.Logic.{⊎_elim}
use mathlib.Core.List.{List}
use lib.Dec.{leb, eqb}
use Rattle.lists.proofs.Order.{eq_or_not}
use Rattle.lists.proofs.TurnLaws.{iterate_keeps}
use Rattle.stream.specs.declared.Reply.{Reply}
use Rattle.stream.specs.declared.Stream.{Stream}
use Rattle.stream.specs.declared.Arrival.{Arrival}
use Rattle.stream.specs.declared.Arrival.TheVariants.{Joined, Discarded}
use Rattle.stream.specs.State.{reserve_of}
use Rattle.stream.specs.Steps.{arrive_of}
use Rattle.stream.specs.Replies.{reply_of}
use Rattle.queue.specs.declared.Queue.{Queue}
use Rattle.queue.specs.declared.Frame.{Frame}
use Rattle.queue.specs.Ring.{place_count, joined_queue, sent_queue, empty_queue}
use Rattle.record.specs.Layout.{stream_count}
use Rattle.record.specs.Queues.{queues_at, last_place_at, best_effort_at}
use Rattle.record.specs.Head.{waits_at, queue_at, with_prior, with_waits, with_queue}
use Rattle.record.specs.Entry.{stream_at, drain_at, with_stream, with_place, with_drain, dropped, with_binding}
use Rattle.fitness.specs.Fit.{lent_refusal}
use Rattle.steps.specs.Call.{Terms, Call, opening, reserving, withdrawing, arriving, ticking, transmitting, joining_best_effort, binding, framing}
use Rattle.steps.specs.Outcome.{Outcome, refused}
use Rattle.steps.proofs.OutcomeLaws.{grants, refuses}
use Rattle.steps.specs.Roles.{role_at, prior_role, current_role}
use Rattle.steps.specs.Moves.{moved}
use Rattle.arriving.specs.Arriving.{arrived, arrive_step}
use Rattle.ticking.specs.Ticking.{ticked_at, ticked_record, tick_step}
use Rattle.sending.specs.Sending.{transmit_step}
use Rattle.best_effort.specs.BestEffort.{best_effort_step}
use Rattle.header.specs.Header.{charge_of}
use Rattle.std.specs.Prelude.{Option, Some, None}
use Rattle.binding.specs.Finding.{frame_lookup}
use Rattle.gates.specs.Refusals.{arrive_refusal, best_effort_refusal}
use Rattle.gates.specs.Becoming.{becomes}
use Rattle.gates.specs.Table.{refusal_of, step_of}
use Rattle.port.specs.Calls.{called}
use Rattle.port_laws.proofs.TurnKeeps.{ticked_keeps}

-- what is true of both is true of whichever a test chooses
pub either : (G : Outcome → Type 0) (b : Bool) (x y : Outcome) → G x → G y → G (cond b x y)
either G true x y g h = g
either G false x y g h = h

-- a property of records that every write keeps but those of open, K and L
pub record Kept (G : List ℕ → Type 0) : Type 0 where
  pub by_prior : (l : List ℕ) (number : ℕ) → G l → G (with_prior l number)
  pub by_waits : (l : List ℕ) (octets : ℕ) → G l → G (with_waits l octets)
  pub by_queue : (l : List ℕ) (q : ℕ) (x : Queue) → G l → G (with_queue l q x)
  pub by_stream : (l : List ℕ) (s : ℕ) (x : Stream) → G l → G (with_stream l s x)
  pub by_place : (l : List ℕ) (s place left : ℕ) → G l → G (with_place l s place left)
  pub by_drain : (l : List ℕ) (s ticks : ℕ) → G l → G (with_drain l s ticks)
  pub by_drop : (l : List ℕ) (s : ℕ) → G l → G (dropped l s)
  pub by_binding : (l : List ℕ) (s : ℕ) (address : List ℕ) (vid : ℕ) → G l → G (with_binding l s address vid)

module _ (G : List ℕ → Type 0) (kept : Kept G) where
  -- a stream's tick
  pub tick_of_keeps : (s : ℕ) (l : List ℕ) → G l → G (ticked_at s l)
  tick_of_keeps s =
      ticked_keeps G s
      (λ k g. kept.by_drop k s g)
      (λ k g. kept.by_drain k s (drain_at k s - 1) g)
      (λ k place left g. kept.by_place k s place left g)

  module _ (p m : List ℕ) (g : G p) where
    -- the record that a call leaves
    abbrev Leaves : Outcome → Type 0
    Leaves o = G o.port

    arrived_keeps : (s : ℕ) (f : Frame) (reply : Reply) (r : Arrival) → Leaves (arrived p m s f reply r)
    arrived_keeps s f reply (Joined place next) =
        let number = role_at p place in
        either Leaves (leb place_count (queue_at p number).count) (refused 20 p m) _ g
        (kept.by_queue (moved p s next) number (joined_queue (queue_at p number)) (kept.by_place p s next.place next.left g))
    arrived_keeps s f reply (Discarded spent) = kept.by_place p s spent.place spent.left g

    arrive_keeps : (s charge tag : ℕ) → Leaves (arrive_step p m s charge tag)
    unfolding arrive_step
    arrive_keeps s charge tag =
        let r = arrive_of (last_place_at p) (stream_at p s) charge in arrived_keeps s (record { stream = s; charge = charge; tag = tag }) (reply_of r) r

    best_effort_keeps : (charge tag : ℕ) → Leaves (best_effort_step p m charge tag)
    unfolding best_effort_step
    best_effort_keeps charge tag =
        let best = best_effort_at p in
        kept.by_waits (with_queue p best (joined_queue (queue_at p best))) (waits_at p + charge) (kept.by_queue p best (joined_queue (queue_at p best)) g)

    tick_keeps : Leaves (tick_step p m)
    unfolding tick_step ticked_record
    tick_keeps =
        let purged = with_queue p (role_at p prior_role) empty_queue in
        iterate_keeps G ticked_at stream_count (with_prior purged (role_at p current_role)) tick_of_keeps
        (kept.by_prior purged (role_at p current_role) (kept.by_queue p (role_at p prior_role) empty_queue g))

    transmit_keeps : Leaves (transmit_step p m)
    unfolding transmit_step
    transmit_keeps =
        let x = role_at p prior_role in
        let y = role_at p current_role in
        let best = best_effort_at p in
        either Leaves (eqb (queue_at p x).count 0) _ _
        (either Leaves (eqb (queue_at p y).count 0) _ _
        (either Leaves (eqb (queue_at p best).count 0) _ _ g
        (kept.by_waits (with_queue p best (sent_queue (queue_at p best))) _ (kept.by_queue p best (sent_queue (queue_at p best)) g)))
        (kept.by_queue p y (sent_queue (queue_at p y)) g))
        (kept.by_queue p x (sent_queue (queue_at p x)) g)

    became_keeps : (charge tag : ℕ) (found : Option ℕ) → Leaves (becomes p m charge tag found)
    became_keeps charge tag (Some s) = either Leaves (eqb (arrive_refusal p s charge) 0) _ _ (arrive_keeps s charge tag) g
    became_keeps charge tag None = either Leaves (eqb (best_effort_refusal p charge) 0) _ _ (best_effort_keeps charge tag) g

    -- every step, where Open's does
    step_keeps : (c : Call) → ((t : Terms) → c ≡ opening t → Leaves (step_of c p m)) → Leaves (step_of c p m)
    step_keeps (opening t) opens = opens t refl
    step_keeps (reserving s permitted) opens = kept.by_stream p s (reserve_of permitted) g
    step_keeps (withdrawing s) opens = kept.by_drain p s (queues_at p) g
    step_keeps (arriving s charge tag) opens = arrive_keeps s charge tag
    step_keeps ticking opens = tick_keeps
    step_keeps transmitting opens = transmit_keeps
    step_keeps (joining_best_effort charge tag) opens = best_effort_keeps charge tag
    step_keeps (binding s address vid) opens = kept.by_binding p s address vid g
    step_keeps (framing octets tag) opens = became_keeps (charge_of octets) tag (frame_lookup p octets)

    -- so every call, where a granted Open's step does
    pub call_keeps : (c : Call) → ((t : Terms) → refusal_of (opening t) p ≡ 0 → Leaves (step_of (opening t) p m)) → Leaves (called c p m)
    call_keeps c opens =
        either Leaves (eqb (lent_refusal p m) 0) _ _
        (⊎_elim
        (λ (zero : refusal_of c p ≡ 0). subst Leaves (sym (grants (refusal_of c p) p m (step_of c p m) zero)) (step_keeps c (λ t is. subst (λ (d : Call). Leaves (step_of d p m)) (sym is) (opens t (ap (λ (d : Call). refusal_of d p) (sym is) ∙ zero)))))
        (λ (some : refusal_of c p ≡ 0 → ⊥). subst Leaves (sym (refuses (refusal_of c p) p m (step_of c p m) some)) g)
        (eq_or_not (refusal_of c p) 0))
        g
