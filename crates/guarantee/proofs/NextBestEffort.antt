-- Best effort on a port that holds a view, granted or refused. Assumes nothing.
use Prim.Native.Nat.{ℕ, ◌+◌, ◌<◌}
use mathlib.Core.Path.{◌≡◌, refl, sym, ap, ◌∙◌}
use mathlib.Core.Logic.{inl}
use mathlib.Core.List.{List, [], ◌∷◌, ◌++◌}
use native.Mathlib.Omega.{arith}
use lib.ListN.{length, get_or}
use Rattle.queue.specs.declared.Frame.{Frame}
use Rattle.queue.specs.declared.Queue.{Queue}
use Rattle.queue.specs.Ring.{place_count, joined_memory, joined_queue}
use Rattle.queue.specs.Waiting.{waiting}
use Rattle.queue.proofs.WaitingLaws.{joins, joins_elsewhere}
use Rattle.lists.proofs.EachLaws.{differ}
use Rattle.record.specs.Layout.{Whole}
use Rattle.record.specs.Queues.{best_effort_at, HasMemory}
use Rattle.record.specs.Head.{waits_at, queue_at}
use Rattle.queue.specs.Place.{best_effort_stream}
use Rattle.fitness.proofs.FitLaws.{fit_record}
use Rattle.steps.specs.Roles.{role_at}
use Rattle.best_effort.specs.BestEffort.{best_effort_frame, best_effort_step}
use Rattle.gates.specs.Refusals.{best_effort_refusal}
use Rattle.gates.proofs.GateLaws.{best_effort_allowed}
use Rattle.steps.specs.Call.{Call, ticking, joining_best_effort}
use Rattle.port.specs.Calls.{called}
use Rattle.port_laws.specs.Counting.{action_of}
use Rattle.port_laws.proofs.GateNumbers.{refusal_own}
use Rattle.guarantee.specs.Events.{Marked, best_effort_sent, brought_by, marked}
use Rattle.guarantee.proofs.Run.{View, quiet}
use Rattle.guarantee.proofs.Tied.{tied_joins}
use Rattle.guarantee.proofs.BestEffortWritten.{written, written_keeps, written_here, written_stream, role_not_best_effort, written_role}
use Rattle.guarantee.proofs.Held.{Holds, in_role, same_seen}
use Rattle.guarantee.proofs.Next.{link_kept, Next, by_quiet_gate}

-- the queue of best effort and W after the step
abbrev queue_joined : List ℕ → Queue
queue_joined p = joined_queue (queue_at p (best_effort_at p))

module _ (p : List ℕ) (a : ℕ) (m : List ℕ) (f : Frame) where
  abbrev memory_after : List ℕ
  memory_after = joined_memory m (best_effort_at p) (queue_at p (best_effort_at p)) f

  abbrev record_after : List ℕ
  record_after = written p (queue_joined p) (waits_at p + a)

  -- a role's frames stay, whatever frame joins best effort
  best_effort_role : (role : ℕ) → in_role record_after memory_after role ≡ in_role p m role
  best_effort_role role =
      written_role p (queue_joined p) (waits_at p + a) memory_after role
      ∙ joins_elsewhere m (best_effort_at p) (role_at p role) (queue_at p (best_effort_at p)) (queue_at p (role_at p role)) f (role_not_best_effort p (queue_joined p) (waits_at p + a) role)

  -- and the frame is the last in best effort
  best_effort_joins : Whole p → HasMemory p m → (queue_at p (best_effort_at p)).count < place_count
      → waiting memory_after (best_effort_at p) (queue_at record_after (best_effort_at p)) ≡ waiting m (best_effort_at p) (queue_at p (best_effort_at p)) ++ (f ∷ [])
  best_effort_joins whole long room =
      ap (waiting memory_after (best_effort_at p)) (written_here p (queue_joined p) (waits_at p + a) whole) ∙ joins m (best_effort_at p) (queue_at p (best_effort_at p)) f room (omega arith)

module _ (all : List Call) (n link : ℕ) (p m k : List ℕ) (v : View) (best : List Marked) (h : Holds all link p m k v best) where
  best_effort_next : (a tag : ℕ) → n < length all → get_or all n ticking ≡ joining_best_effort a tag → best_effort_refusal p a ≡ 0
      → Next all all n link p m k v (joining_best_effort a tag) (best_effort_step p m a tag) (best_effort_step p k a n)
  unfolding best_effort_step
  best_effort_next a tag counted here e =
      let d = best_effort_allowed p a e in
      let x = queue_at p (best_effort_at p) in
      let f : Marked = record { stream = best_effort_stream; charge = a; tag = tag; number = n } in
      let whole = (fit_record p m h.fit).long in
      record {
        view = v;
        best = best ++ (f ∷ []);
        effect = quiet tt refl (λ j. refl) (λ j. refl);
        same = refl;
        moved =
            record {
              keeps = link_kept _ _ (written_keeps p (queue_joined p) (waits_at p + a));
              streams = same_seen p (written p (queue_joined p) (waits_at p + a)) v h.streams (λ i b. written_stream p (queue_joined p) (waits_at p + a) i);
              queues = λ role b. rw (best_effort_role p a m (best_effort_frame a tag) role, best_effort_role p a k (best_effort_frame a n) role) (h.queues role b);
              above = h.above;
              waits =
                  rw (best_effort_joins p a m (best_effort_frame a tag) whole h.long d.free, best_effort_joins p a k (best_effort_frame a n) whole h.long_marked d.free)
                  (tied_joins all best_effort_sent (waiting m (best_effort_at p) x) (waiting k (best_effort_at p) x) best f h.waits (counted, ap (λ (c : Call). brought_by n (action_of c)) here));
            };
        says = λ z. differ (sym z);
        marks = λ z. refl;
        not_lent = inl (omega arith);
      }

  pub next_best_effort : (a tag : ℕ) → n < length all → get_or all n ticking ≡ joining_best_effort a tag
      → Next all all n link p m k v (joining_best_effort a tag) (called (joining_best_effort a tag) p m) (called (marked n (joining_best_effort a tag)) p k)
  next_best_effort a tag counted here =
      by_quiet_gate all n link p m k v best h (best_effort_refusal p a) (joining_best_effort a tag) (best_effort_step p m a tag) _ (refusal_own (joining_best_effort a tag) p) tt
      (best_effort_next a tag counted here)
