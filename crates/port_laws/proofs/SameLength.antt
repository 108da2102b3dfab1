-- No call changes the length of its record or memory. Assumes nothing.
use Prim.Native.Nat.{ℕ}
use mathlib.Core.Path.{◌≡◌, refl, ◌∙◌}
use mathlib.Core.List.{List}
use lib.ListN.{length}
use lib.Dec.{leb, eqb}
use Rattle.stream.specs.declared.Reply.{Reply}
use Rattle.stream.specs.declared.Arrival.{Arrival}
use Rattle.stream.specs.declared.Arrival.TheVariants.{Joined, Discarded}
use Rattle.stream.specs.Steps.{arrive_of}
use Rattle.stream.specs.Replies.{reply_of}
use Rattle.queue.specs.declared.Frame.{Frame}
use Rattle.queue.specs.Ring.{place_count}
use Rattle.queue.proofs.WaitingLaws.{joins_length}
use Rattle.record.specs.Queues.{last_place_at, best_effort_at}
use Rattle.record.specs.Head.{queue_at}
use Rattle.record.specs.Entry.{stream_at}
use Rattle.record.proofs.KeepLaws.{keeps_prior, keeps_waits, keeps_place, keeps_stream, keeps_drain}
use Rattle.record.proofs.DropPairs.{length_dropped}
use Rattle.record.proofs.OpenPairs.{length_queue}
use Rattle.record.proofs.BindingPairs.{length_binding}
use Rattle.fitness.specs.Fit.{lent_refusal}
use Rattle.steps.specs.Call.{Call, opening, reserving, withdrawing, arriving, ticking, transmitting, joining_best_effort, binding, framing}
use Rattle.steps.specs.Outcome.{Outcome, refused}
use Rattle.steps.specs.Roles.{role_at}
use Rattle.arriving.specs.Arriving.{arrived, arrive_step}
use Rattle.ticking.specs.Ticking.{ticked_at, tick_step}
use Rattle.sending.specs.Sending.{transmit_step}
use Rattle.best_effort.specs.BestEffort.{best_effort_frame, best_effort_step}
use Rattle.header.specs.Header.{charge_of}
use Rattle.std.specs.Prelude.{Option, Some, None}
use Rattle.binding.specs.Finding.{frame_lookup}
use Rattle.gates.specs.Refusals.{arrive_refusal, best_effort_refusal}
use Rattle.gates.specs.Becoming.{becomes}
use Rattle.gates.specs.Table.{refusal_of, step_of}
use Rattle.port.specs.Calls.{called}
use Rattle.port_laws.proofs.OpenLaws.{length_opened}
use Rattle.port_laws.proofs.CallKeeps.{either, Kept, tick_of_keeps, call_keeps}

-- every write keeps the record's length
length_kept : (n : ℕ) → Kept (λ l. length l ≡ n)
length_kept n =
    record {
      by_prior = λ l number e. (keeps_prior l number).long ∙ e;
      by_waits = λ l octets e. (keeps_waits l octets).long ∙ e;
      by_queue = λ l q x e. length_queue l q x ∙ e;
      by_stream = λ l s x e. (keeps_stream l s x).long ∙ e;
      by_place = λ l s place left e. (keeps_place l s place left).long ∙ e;
      by_drain = λ l s ticks e. (keeps_drain l s ticks).long ∙ e;
      by_drop = λ l s e. length_dropped l s ∙ e;
      by_binding = λ l s address vid e. length_binding l s address vid ∙ e;
    }

-- so does a stream's tick,
pub ticked_length : (s : ℕ) (l : List ℕ) → length (ticked_at s l) ≡ length l
ticked_length s l = tick_of_keeps (λ k. length k ≡ length l) (length_kept (length l)) s l refl

-- and every call, refused or not
pub record_length_lem : (c : Call) (p m : List ℕ) → length (called c p m).port ≡ length p
record_length_lem c p m = call_keeps (λ l. length l ≡ length p) (length_kept (length p)) p m refl c (λ t e. length_opened p t)

-- of the memory, frames alone are written
module _ (p m : List ℕ) where
  abbrev AsLong : Outcome → Type 0
  AsLong o = length o.memory ≡ length m

  arrived_length : (s : ℕ) (f : Frame) (reply : Reply) (r : Arrival) → AsLong (arrived p m s f reply r)
  arrived_length s f reply (Joined place next) =
      let number = role_at p place in
      let q = queue_at p number in
      either AsLong (leb place_count q.count) (refused 20 p m) _ refl (joins_length m number q f)
  arrived_length s f reply (Discarded spent) = refl

  arrive_length : (s charge tag : ℕ) → AsLong (arrive_step p m s charge tag)
  unfolding arrive_step
  arrive_length s charge tag =
      let r = arrive_of (last_place_at p) (stream_at p s) charge in
      arrived_length s (record { stream = s; charge = charge; tag = tag }) (reply_of r) r

  best_effort_length : (charge tag : ℕ) → AsLong (best_effort_step p m charge tag)
  unfolding best_effort_step
  best_effort_length charge tag = let best = best_effort_at p in joins_length m best (queue_at p best) (best_effort_frame charge tag)

  transmit_length : AsLong (transmit_step p m)
  unfolding transmit_step
  transmit_length =
      either AsLong (eqb (queue_at p (role_at p 0)).count 0) _ _
      (either AsLong (eqb (queue_at p (role_at p 1)).count 0) _ _ (either AsLong (eqb (queue_at p (best_effort_at p)).count 0) _ _ refl refl) refl)
      refl

  tick_length : AsLong (tick_step p m)
  unfolding tick_step
  tick_length = refl

  became_length : (charge tag : ℕ) (found : Option ℕ) → AsLong (becomes p m charge tag found)
  became_length charge tag (Some s) = either AsLong (eqb (arrive_refusal p s charge) 0) _ _ (arrive_length s charge tag) refl
  became_length charge tag None = either AsLong (eqb (best_effort_refusal p charge) 0) _ _ (best_effort_length charge tag) refl

  step_length : (c : Call) → AsLong (step_of c p m)
  step_length (opening t) = refl
  step_length (reserving s permitted) = refl
  step_length (withdrawing s) = refl
  step_length (arriving s charge tag) = arrive_length s charge tag
  step_length ticking = tick_length
  step_length transmitting = transmit_length
  step_length (joining_best_effort charge tag) = best_effort_length charge tag
  step_length (binding s address vid) = refl
  step_length (framing octets tag) = became_length (charge_of octets) tag (frame_lookup p octets)

pub memory_length_lem : (c : Call) (p m : List ℕ) → length (called c p m).memory ≡ length m
memory_length_lem c p m =
    either (AsLong p m) (eqb (lent_refusal p m) 0) _ _ (either (AsLong p m) (eqb (refusal_of c p) 0) _ _ (step_length p m c) refl) refl
