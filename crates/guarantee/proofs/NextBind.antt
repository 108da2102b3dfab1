-- Bind on a port that holds a view, granted or refused: it touches neither queues nor streams. Assumes nothing.
use Prim.Native.Nat.{ℕ}
use mathlib.Core.Path.{refl, sym}
use mathlib.Core.Logic.{inl}
use mathlib.Core.List.{List}
use native.Mathlib.Omega.{arith}
use Rattle.lists.proofs.EachLaws.{differ}
use Rattle.record.specs.Queues.{best_effort_at}
use Rattle.record.specs.Entry.{with_binding}
use Rattle.record.proofs.QueueLaws.{queues_most, queues_binding}
use Rattle.record.proofs.BindingPairs.{open_binding, prior_binding, link_binding, queue_binding, stream_binding}
use Rattle.record.proofs.DrainPairs.{drain_binding}
use Rattle.steps.specs.Roles.{role_at}
use Rattle.steps.proofs.RoleLaws.{role_below}
use Rattle.binding.specs.Binding.{bind_step}
use Rattle.gates.specs.FrameRefusals.{bind_refusal}
use Rattle.steps.specs.Call.{Call, binding}
use Rattle.port.specs.Calls.{called}
use Rattle.port_laws.proofs.GateNumbers.{refusal_own}
use Rattle.guarantee.specs.Events.{Marked, marked}
use Rattle.guarantee.proofs.Run.{View, quiet}
use Rattle.guarantee.proofs.Held.{Holds, same_reservation, role_kept, same_seen}
use Rattle.guarantee.proofs.Next.{Next, by_quiet_gate}

module _ (all : List Call) (n link : ℕ) (p m k : List ℕ) (v : View) (best : List Marked) (h : Holds all link p m k v best) where
  bind_next : (s : ℕ) (address : List ℕ) (vid : ℕ)
      → Next all all n link p m k v (binding s address vid) (bind_step p m s address vid) (bind_step p k s address vid)
  bind_next s address vid =
      let q = with_binding p s address vid in
      let same = queues_binding p s address vid in
      record {
        view = v;
        best = best;
        effect = quiet tt refl (λ j. refl) (λ j. refl);
        same = refl;
        moved =
            record {
              keeps = (open_binding p s address vid, (link_binding p s address vid, same));
              streams = same_seen p q v h.streams (λ i b. same_reservation p q i (stream_binding p s address vid i) (drain_binding p s i address vid));
              queues = λ role b.
                  let there = queue_binding p s address vid (role_at p role) (omega (arith, role_below p role, queues_most p)) in
                  rw (role_kept p q m role (prior_binding p s address vid) same there, role_kept p q k role (prior_binding p s address vid) same there) (h.queues role b);
              above = h.above;
              waits = rw (queue_binding p s address vid (best_effort_at p) (omega (arith, queues_most p))) h.waits;
            };
        says = λ z. differ (sym z);
        marks = λ z. refl;
        not_lent = inl (omega arith);
      }

  pub next_bind : (s : ℕ) (address : List ℕ) (vid : ℕ)
      → Next all all n link p m k v (binding s address vid) (called (binding s address vid) p m) (called (marked n (binding s address vid)) p k)
  next_bind s address vid =
      by_quiet_gate all n link p m k v best h (bind_refusal p s address vid) (binding s address vid) (bind_step p m s address vid) (bind_step p k s address vid)
      (refusal_own (binding s address vid) p) tt (λ z. bind_next s address vid)
