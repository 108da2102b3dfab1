-- The record with the queue and W of best effort written: no role and no stream changes. Assumes nothing.
use Prim.Native.Nat.{ℕ}
use mathlib.Core.Path.{◌≡◌, ◌∙◌}
use mathlib.Core.List.{List}
use native.Mathlib.Omega.{arith}
use Rattle.queue.specs.declared.Queue.{Queue}
use Rattle.record.specs.Layout.{Whole}
use Rattle.record.specs.Queues.{best_effort_at}
use Rattle.record.specs.Head.{prior_at, with_waits, queue_at, with_queue}
use Rattle.record.proofs.QueueLaws.{queues_most}
use Rattle.record.proofs.HeadPairs.{queue_waits, prior_waits, stream_waits, queue_queue, other_queue, prior_queue, stream_queue}
use Rattle.record.proofs.DrainPairs.{drain_waits, drain_queue}
use Rattle.record.proofs.KeepLaws.{Keeps, keeps_both, keeps_queue, keeps_waits}
use Rattle.steps.specs.Roles.{role_at}
use Rattle.steps.proofs.RoleLaws.{role_below}
use Rattle.guarantee.proofs.Held.{reservation_at, same_reservation, in_role, role_kept}

module _ (p : List ℕ) (x : Queue) (octets : ℕ) where
  abbrev pub written : List ℕ
  written = with_waits (with_queue p (best_effort_at p) x) octets

  pub written_keeps : Keeps p written
  written_keeps = keeps_both p (with_queue p (best_effort_at p) x) written (keeps_queue p (best_effort_at p) x (omega (arith, queues_most p))) (keeps_waits (with_queue p (best_effort_at p) x) octets)

  written_prior : prior_at written ≡ prior_at p
  written_prior = prior_waits (with_queue p (best_effort_at p) x) octets ∙ prior_queue p (best_effort_at p) x

  pub written_here : Whole p → queue_at written (best_effort_at p) ≡ x
  written_here whole = queue_waits (with_queue p (best_effort_at p) x) octets (best_effort_at p) ∙ queue_queue p (best_effort_at p) x whole (omega (arith, queues_most p))

  written_other : (q : ℕ) → (q ≡ best_effort_at p → ⊥) → queue_at written q ≡ queue_at p q
  written_other q o = queue_waits (with_queue p (best_effort_at p) x) octets q ∙ other_queue p (best_effort_at p) x q o

  pub written_stream : (s : ℕ) → reservation_at written s ≡ reservation_at p s
  written_stream s =
      same_reservation p written s
      (stream_waits (with_queue p (best_effort_at p) x) octets s ∙ stream_queue p (best_effort_at p) x s (omega (arith, queues_most p)))
      (drain_waits (with_queue p (best_effort_at p) x) s octets ∙ drain_queue p s (best_effort_at p) x (omega (arith, queues_most p)))

  -- best effort is no role's queue
  pub role_not_best_effort : (role : ℕ) → role_at p role ≡ best_effort_at p → ⊥
  role_not_best_effort role e = omega (arith, role_below p role)

  pub written_role : (m : List ℕ) (role : ℕ) → in_role written m role ≡ in_role p m role
  written_role m role = role_kept p written m role written_prior written_keeps.queues (written_other (role_at p role) (role_not_best_effort role))
