-- A record is fit after Open, whatever stood in it before. Assumes nothing.
use Prim.Native.Nat.{ℕ, ◌≤◌}
use mathlib.Core.Path.{◌≡◌, ap, ◌∙◌}
use mathlib.Core.Bool.{true}
use mathlib.Core.List.{List}
use native.Mathlib.Omega.{arith}
use lib.ListN.{length}
use Rattle.queue.proofs.WaitingLaws.{empty_waits}
use Rattle.record.specs.Layout.{record_length}
use Rattle.record.specs.Queues.{best_effort_at}
use Rattle.record.proofs.QueueLaws.{queues_least}
use Rattle.ranges.specs.Ranges.{link_fits, delay_fits}
use Rattle.fitness.specs.Clauses.{queue_fits}
use Rattle.fitness.specs.Fit.{record_fits}
use Rattle.fitness.proofs.FitLaws.{record_fit, plan_fit}
use Rattle.steps.specs.Call.{Terms}
use Rattle.opening.specs.Opening.{opened_record}
use Rattle.port_laws.proofs.OpenLaws.{opened_whole, opened_queues, opened_prior, opened_delay, opened_link, opened_waits, opened_queue, opened_stream, opened_bound, opened_sum}

-- L and K in their ranges are all that is asked
pub open_fits_lem : (p m : List ℕ) (t : Terms) → record_length ≤ length p → link_fits t.link ≡ true → delay_fits t.delay ≡ true
    → record_fits (opened_record p t) m ≡ true
open_fits_lem p m t h octets epochs =
    let k = opened_record p t in
    let same = opened_queues p t h in
    record_fit k m
    (record {
      long = opened_whole p t h;
      prior = omega (arith, opened_prior p t h, queues_least k);
      queues = λ q b. ap queue_fits (opened_queue p t h q (omega (arith, same)));
      streams = λ s b. rw (opened_stream p t h s b);
      bindings = λ s b. rw (opened_bound p t h s b);
      frames = λ q b. rw (opened_queue p t h q (omega (arith, same)), empty_waits m q);
      waits = rw (opened_waits p t h, opened_queue p t h (best_effort_at k) (omega (arith, same)), empty_waits m (best_effort_at k));
      plan =
          plan_fit k
          (record {
            link = ap link_fits (opened_link p t h) ∙ octets;
            delay = ap delay_fits (opened_delay p t h) ∙ epochs;
            reservations = λ s b. rw (opened_stream p t h s b);
            sum = omega (arith, opened_sum p t h);
          });
    })
