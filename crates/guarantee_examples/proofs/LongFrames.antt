-- What the theorems say of the longest frames. Assumes nothing.
use Prim.Native.Nat.{ℕ, ◌+◌}
use mathlib.Core.Bool.{true, false}
use mathlib.Core.Path.{◌≡◌, refl}
use mathlib.Core.List.{List, [], ◌∷◌, ◌++◌}
use lib.ListN.{length}
use Rattle.lists.specs.Turns.{all_to, sum_to, list_to, iterate}
use Rattle.lists.specs.Equal.{octets_equal}
use Rattle.octets.specs.Numbers.{two_of, four_of}
use Rattle.stream.specs.declared.Reply.{Reply}
use Rattle.stream.specs.Steps.{attempt, arrive_of, tick_of}
use Rattle.queue.specs.Place.{frame_at, with_frame}
use Rattle.queue.specs.Ring.{joined_memory, front_of}
use Rattle.queue.specs.Waiting.{waiting}
use Rattle.record.specs.Queues.{queues_at}
use Rattle.record.specs.Head.{open_at, with_open, prior_at, with_prior, delay_at, with_delay, link_at, with_link, waits_at, with_waits, queue_at, with_queue}
use Rattle.record.specs.Entry.{stream_at, with_stream, with_place, drain_at, with_drain, drains_at, bound_at, vid_at, address_at, with_binding, dropped}
use Rattle.ranges.specs.Ranges.{link_of}
use Rattle.header.specs.Header.{charge_of, length_fits, tagged_frame, vid_of}
use Rattle.steps.specs.Roles.{role_at}
use Rattle.opening.specs.Opening.{opened_record}
use Rattle.arriving.specs.Arriving.{arrive_step}
use Rattle.ticking.specs.Ticking.{drained_at, ticked_record, tick_step}
use Rattle.sending.specs.Sending.{transmit_step}
use Rattle.best_effort.specs.BestEffort.{best_effort_step}
use Rattle.binding.specs.Finding.{compared_back, compared_at, lookup_from, lookup, frame_lookup}
use Rattle.gates.specs.Refusals.{open_refusal, reserve_refusal, withdraw_refusal, arrive_refusal, closed_refusal, best_effort_refusal}
use Rattle.gates.specs.FrameRefusals.{bind_refusal, frame_refusal}
use Rattle.steps.specs.Call.{terms, opening, arriving, joining_best_effort, framing}
use Rattle.port.specs.Calls.{called}
use Rattle.port.specs.Quick.{length_refusal, quickly_called}
use Rattle.port_laws.specs.Lists.{fresh_record, fresh_memory}
use Rattle.port_laws.proofs.FrameLaws.{frame_becomes, frame_refused, frame_not_17}
use Rattle.guarantee.specs.Events.{Sent, Event, events}
use Rattle.guarantee.specs.Claims.{LinkCondition, Prompt}
use Rattle.guarantee.specs.Instances.{replied, quiet_tick}
use Rattle.guarantee_examples.specs.Examples.{Happens, untagged}
use Rattle.guarantee_examples.specs.LeftOpen.{transmitted}
use Rattle.guarantee_examples.specs.LongFrames.{longest_frame, longest_charge, long_calls, long_opening, long_grant, long_binding, long_between, long_after, long_with, long_frame, long, LongFramesSay}
use Rattle.guarantee_examples.proofs.LinkTest.{link_holds}
use Rattle.guarantee_examples.proofs.OffersTest.{within_holds}
use Rattle.guarantee_examples.proofs.StaysTest.{stays_hold}
use Rattle.guarantee_examples.proofs.Applied.{promised_of, only}
use Rattle.guarantee_examples.proofs.Quickly.{happens_quickly}

-- the list happens
long_opened : (quickly_called (opening (terms (link_of longest_charge) 1)) fresh_record fresh_memory).reply.refusal ≡ 0
unfolding open_at queues_at open_refusal length_refusal
long_opened = refl

long_made : events quickly_called (opening (terms (link_of longest_charge) 1) ∷ long_calls) fresh_record fresh_memory ≡ long
unfolding all_to sum_to list_to iterate two_of four_of attempt arrive_of tick_of frame_at with_frame joined_memory front_of waiting open_at with_open prior_at with_prior delay_at with_delay link_at with_link waits_at with_waits queue_at queues_at with_queue stream_at with_stream with_place drain_at with_drain drains_at bound_at vid_at address_at with_binding dropped role_at opened_record arrive_step drained_at ticked_record tick_step transmit_step best_effort_step open_refusal reserve_refusal withdraw_refusal arrive_refusal closed_refusal best_effort_refusal bind_refusal frame_refusal compared_back compared_at lookup_from lookup frame_lookup octets_equal charge_of length_fits tagged_frame vid_of length_refusal
long_made = refl

module _ (reply : Reply) (sent : Sent) (said shown : Reply) where
  abbrev sends : Event
  sends = transmitted sent said shown

  abbrev arrives : Event
  arrives = replied (arriving 5 longest_charge 7) reply

  -- the events after the grant
  abbrev granted5 : List Event
  granted5 = long_binding ++ (arrives ∷ long_after sends)

  -- from `prompt`
  long_prompt : Happens (long_with reply sends) → LinkCondition longest_charge (long_with reply sends) → Prompt long_frame arrives (long_after sends)
  long_prompt happens link =
      (promised_of (long_with reply sends) happens link).prompt 5 longest_charge long_opening granted5 [] long_grant refl refl refl
      (within_holds 5 longest_charge granted5 refl) (stays_hold 5 granted5 refl) long_binding (long_after sends) arrives longest_charge 7 refl refl refl

-- the number of the first frame's call, and the charge and the length of a longest frame
long_number : long_frame.number ≡ length (long_opening ++ (long_grant ∷ long_binding))
long_number = refl

longest_charge_lem : charge_of (untagged longest_frame) ≡ longest_charge
unfolding charge_of
longest_charge_lem = refl

longest_fits : length_fits (untagged longest_frame) ≡ true
unfolding length_fits
longest_fits = refl

longer_unfit : length_fits (untagged (longest_frame + 1)) ≡ false
unfolding length_fits
longer_unfit = refl

-- from `frame_becomes`: without a VLAN tag no pair is looked up
longest_so : (p m : List ℕ) → called (framing (untagged longest_frame) 9) p m ≡ called (joining_best_effort longest_charge 9) p m
unfolding charge_of tagged_frame frame_lookup octets_equal all_to
longest_so p m = frame_becomes p m (untagged longest_frame) 9 longest_fits

pub long_frames_say : LongFramesSay
long_frames_say =
    record {
      long_happens = happens_quickly (link_of longest_charge) 1 long_opened long_calls long long_made;
      long_links = link_holds longest_charge long refl;
      long_joins = λ reply sent said shown happens link. let p = long_prompt reply sent said shown happens link in (p.0, p.1.0);
      long_sends = λ reply sent said shown happens link.
          only long_frame long_between [] (transmitted sent said shown) refl refl
          ((long_prompt reply sent said shown happens link).1.1 (long_between ++ (transmitted sent said shown ∷ [])) [] quiet_tick refl refl refl);
      longest_joins = longest_so;
      longest_not_17 = λ p m. frame_not_17 p m (untagged longest_frame) 9 longest_fits;
      longer_17 = λ p opened. frame_refused p (untagged (longest_frame + 1)) opened longer_unfit;
    }
