-- No call but a tick touches the entry of a draining stream, on an open port: it is beside all that they write. Assumes nothing.
use Prim.Native.Nat.{ℕ, ◌+◌, ◌<◌}
use mathlib.Core.Path.{◌≡◌, refl, sym, ap, ◌∙◌}
use mathlib.Core.Bool.{true, false, true≢false}
use mathlib.Core.Logic.{⊎_elim}
use mathlib.Core.List.{List}
use native.Mathlib.Omega.{arith}
use lib.Dec.{leb, eqb}
use Rattle.lists.proofs.Order.{eq_or_not}
use Rattle.stream.specs.declared.Reply.{Reply}
use Rattle.stream.specs.declared.Arrival.{Arrival}
use Rattle.stream.specs.declared.Arrival.TheVariants.{Joined, Discarded}
use Rattle.stream.specs.State.{reserve_of}
use Rattle.stream.specs.Steps.{arrive_of}
use Rattle.stream.specs.Replies.{reply_of}
use Rattle.queue.specs.declared.Frame.{Frame}
use Rattle.queue.specs.Ring.{place_count, joined_queue, sent_queue}
use Rattle.record.specs.Queues.{queues_at, last_place_at, best_effort_at}
use Rattle.record.specs.Head.{open_at, waits_at, queue_at, with_queue}
use Rattle.record.specs.Entry.{stream_at, drains_at}
use Rattle.record.proofs.QueueLaws.{queues_most}
use Rattle.record.proofs.BesideLaws.{Beside, beside_same, beside_both, beside_waits, beside_queue, beside_reserved, beside_place, beside_draining, beside_binding}
use Rattle.fitness.specs.Fit.{lent_refusal}
use Rattle.steps.specs.Call.{Call, opening, reserving, withdrawing, arriving, ticking, transmitting, joining_best_effort, binding, framing}
use Rattle.steps.specs.Outcome.{Outcome, refused, gated, performed}
use Rattle.steps.specs.Roles.{role_at, prior_role, current_role}
use Rattle.steps.specs.Moves.{moved}
use Rattle.steps.proofs.OutcomeLaws.{grants, refuses}
use Rattle.steps.proofs.RoleLaws.{role_below}
use Rattle.arriving.specs.Arriving.{arrived, arrive_step}
use Rattle.sending.specs.Sending.{transmit_step}
use Rattle.best_effort.specs.BestEffort.{best_effort_step}
use Rattle.header.specs.Header.{charge_of}
use Rattle.std.specs.Prelude.{Option, Some, None}
use Rattle.binding.specs.Finding.{frame_lookup}
use Rattle.gates.specs.Refusals.{arrive_refusal, best_effort_refusal}
use Rattle.gates.specs.Becoming.{becomes}
use Rattle.gates.specs.Table.{refusal_of, step_of}
use Rattle.gates.proofs.GateLaws.{open_allowed, reserve_allowed, withdraw_allowed, arrive_allowed}
use Rattle.gates.proofs.FrameGateLaws.{bind_allowed}
use Rattle.port.specs.Calls.{called}
use Rattle.port_laws.proofs.CallKeeps.{either}

module _ (p m : List ℕ) (s : ℕ) (opened : open_at p ≡ true) (drains : drains_at p s ≡ true) where
  -- the record that a call leaves
  abbrev Leaves : Outcome → Type 0
  Leaves o = Beside s p o.port

  -- a stream that does not drain is another
  another : (t : ℕ) → drains_at p t ≡ false → s ≡ t → ⊥
  another t keeps e = true≢false (sym drains ∙ ap (drains_at p) e ∙ keeps)

  -- what a gate lets through leaves it, and so does what it stops
  gated_leaves : (g : ℕ) (done : Outcome) → (g ≡ 0 → Leaves done) → Leaves (gated g p m done)
  gated_leaves g done h =
      ⊎_elim
      (λ (zero : g ≡ 0). rw (grants g p m done zero) (h zero))
      (λ (some : g ≡ 0 → ⊥). rw (refuses g p m done some) (beside_same s p))
      (eq_or_not g 0)

  arrived_leaves : (t : ℕ) → (s ≡ t → ⊥) → (f : Frame) (reply : Reply) (r : Arrival) → Leaves (arrived p m t f reply r)
  arrived_leaves t o f reply (Joined place next) =
      let number = role_at p place in
      let q = queue_at p number in
      let there = moved p t next in
      either Leaves (leb place_count q.count) (refused 20 p m) _ (beside_same s p)
      (beside_both s p there (with_queue there number (joined_queue q)) (beside_place s p t o next.place next.left)
      (beside_queue s there number (joined_queue q) (omega (arith, role_below p place, queues_most p))))
  arrived_leaves t o f reply (Discarded spent) = beside_place s p t o spent.place spent.left

  arrive_leaves : (t charge tag : ℕ) → arrive_refusal p t charge ≡ 0 → Leaves (arrive_step p m t charge tag)
  unfolding arrive_step
  arrive_leaves t charge tag e =
      let r = arrive_of (last_place_at p) (stream_at p t) charge in
      arrived_leaves t (another t (arrive_allowed p t charge e).keeps) (record { stream = t; charge = charge; tag = tag }) (reply_of r) r

  best_effort_leaves : (charge tag : ℕ) → Leaves (best_effort_step p m charge tag)
  unfolding best_effort_step
  best_effort_leaves charge tag =
      let best = best_effort_at p in
      let k = with_queue p best (joined_queue (queue_at p best)) in
      beside_both s p k _ (beside_queue s p best (joined_queue (queue_at p best)) (omega (arith, queues_most p))) (beside_waits s k (waits_at p + charge))

  -- a queue whose first frame is sent
  sent_leaves : (q : ℕ) → q < queues_at p + 1 → Beside s p (with_queue p q (sent_queue (queue_at p q)))
  sent_leaves q b = beside_queue s p q (sent_queue (queue_at p q)) (omega (arith, queues_most p))

  transmit_leaves : Leaves (transmit_step p m)
  unfolding transmit_step
  transmit_leaves =
      let x = role_at p prior_role in
      let y = role_at p current_role in
      let best = best_effort_at p in
      let k = with_queue p best (sent_queue (queue_at p best)) in
      either Leaves (eqb (queue_at p x).count 0) _ _
      (either Leaves (eqb (queue_at p y).count 0) _ _
      (either Leaves (eqb (queue_at p best).count 0) _ _ (beside_same s p) (beside_both s p k _ (sent_leaves best (omega arith)) (beside_waits s k _)))
      (sent_leaves y (omega (arith, role_below p current_role))))
      (sent_leaves x (omega (arith, role_below p prior_role)))

  became_leaves : (charge tag : ℕ) (found : Option ℕ) → Leaves (becomes p m charge tag found)
  became_leaves charge tag (Some t) = gated_leaves (arrive_refusal p t charge) (arrive_step p m t charge tag) (arrive_leaves t charge tag)
  became_leaves charge tag None = gated_leaves (best_effort_refusal p charge) (best_effort_step p m charge tag) (λ e. best_effort_leaves charge tag)

  -- every call but a tick
  step_leaves : (c : Call) → (c ≡ ticking → ⊥) → refusal_of c p ≡ 0 → Leaves (step_of c p m)
  step_leaves (opening t) other e = absurd (true≢false (sym opened ∙ (open_allowed p t e).closed))
  step_leaves (reserving t permitted) other e = beside_reserved s p t (another t (reserve_allowed p t permitted e).keeps) (reserve_of permitted)
  step_leaves (withdrawing t) other e = beside_draining s p t (another t (withdraw_allowed p t e).keeps) (queues_at p)
  step_leaves (arriving t charge tag) other e = arrive_leaves t charge tag e
  step_leaves ticking other e = absurd (other refl)
  step_leaves transmitting other e = transmit_leaves
  step_leaves (joining_best_effort charge tag) other e = best_effort_leaves charge tag
  step_leaves (binding t address vid) other e = beside_binding s p t (another t (bind_allowed p t address vid e).keeps) address vid
  step_leaves (framing octets tag) other e = became_leaves (charge_of octets) tag (frame_lookup p octets)

  pub call_beside : (c : Call) → (c ≡ ticking → ⊥) → Beside s p (called c p m).port
  call_beside c other = gated_leaves (lent_refusal p m) (performed (refusal_of c) (step_of c) p m) (λ lent. gated_leaves (refusal_of c p) (step_of c p m) (step_leaves c other))
