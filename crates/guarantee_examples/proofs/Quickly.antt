-- A list of calls on a port never opened happens as the quick calls make it, which are the calls in every list and cheaper to compute. Assumes nothing.
use Prim.Native.Nat.{ℕ}
use mathlib.Core.Path.{◌≡◌, refl, sym, ap, ◌∙◌}
use mathlib.Core.List.{List, ◌∷◌}
use Rattle.record.specs.Queues.{queues_at}
use Rattle.record.specs.Head.{open_at}
use Rattle.ranges.specs.Ranges.{link_of}
use Rattle.steps.specs.Outcome.{Outcome}
use Rattle.steps.specs.Call.{terms, Call, opening}
use Rattle.gates.specs.Refusals.{open_refusal}
use Rattle.port.specs.Quick.{length_refusal, quickly_called}
use Rattle.port_laws.specs.Lists.{fresh_record, fresh_memory}
use Rattle.port_laws.proofs.FreshFit.{fresh_fits}
use Rattle.port_laws.proofs.QuickLaws.{quick_call}
use Rattle.guarantee.specs.Events.{Event, events}
use Rattle.guarantee.specs.Demand3.{CallList}
use Rattle.guarantee.proofs.Theorem.{quick_events_lem}
use Rattle.guarantee_examples.specs.Examples.{Happens}

module _ (link delay : ℕ) (is : (quickly_called (opening (terms link delay)) fresh_record fresh_memory).reply.refusal ≡ 0) (later : List Call) where
  -- the list of calls whose Open the quick one grants
  abbrev pub quick_list : CallList
  quick_list =
      record {
        port = fresh_record;
        memory = fresh_memory;
        terms = terms link delay;
        later = later;
        opened = sym (ap (λ (o : Outcome). o.reply.refusal) (quick_call (opening (terms link delay)) fresh_record fresh_memory fresh_fits)) ∙ is;
      }

  -- what happens by the quick calls happens
  pub happens_quickly : (es : List Event) → events quickly_called (opening (terms link delay) ∷ later) fresh_record fresh_memory ≡ es → Happens es
  happens_quickly es so = record { list = quick_list; so = sym (quick_events_lem quick_list) ∙ so }

-- the Opens of the lists
pub opened_84 : (quickly_called (opening (terms (link_of 84) 1)) fresh_record fresh_memory).reply.refusal ≡ 0
unfolding open_at queues_at open_refusal length_refusal
opened_84 = refl

pub opened_600 : (quickly_called (opening (terms (link_of 600) 1)) fresh_record fresh_memory).reply.refusal ≡ 0
unfolding open_at queues_at open_refusal length_refusal
opened_600 = refl

pub opened_200 : (quickly_called (opening (terms (link_of 200) 3)) fresh_record fresh_memory).reply.refusal ≡ 0
unfolding open_at queues_at open_refusal length_refusal
opened_200 = refl
