-- A Frame is the call that it becomes. Assumes nothing.
use Prim.Native.Nat.{ℕ, ◌<◌}
use mathlib.Core.Path.{◌≡◌, refl, sym, ap, subst, ◌∙◌}
use mathlib.Core.Bool.{Bool, true, false, not, cond}
use mathlib.Core.Logic.{inl, inr, ⊎_elim}
use mathlib.Core.List.{List}
use native.Mathlib.Omega.{arith}
use borrow.Author.Rules.{rules}
use lib.Dec.{leb}
use Rattle.lists.proofs.Order.{eq_or_not}
use Rattle.stream.specs.declared.Arrival.{Arrival}
use Rattle.stream.specs.declared.Arrival.TheVariants.{Joined, Discarded}
use Rattle.stream.specs.Steps.{arrive_of}
use Rattle.stream.specs.Replies.{granted, reply_of}
use Rattle.queue.specs.declared.Frame.{Frame}
use Rattle.queue.specs.Ring.{place_count, joined_memory, joined_queue}
use Rattle.record.specs.Queues.{last_place_at}
use Rattle.record.specs.Head.{open_at, queue_at, with_queue}
use Rattle.record.specs.Entry.{stream_at}
use Rattle.header.specs.Header.{charge_of, length_fits}
use Rattle.fitness.specs.Fit.{lent_refusal}
use Rattle.steps.specs.Call.{Call, framing}
use Rattle.steps.specs.Outcome.{Outcome, outcome, refused, gated, performed}
use Rattle.steps.proofs.OutcomeLaws.{grants, refuses}
use Rattle.steps.specs.Roles.{role_at}
use Rattle.steps.specs.Moves.{moved}
use Rattle.arriving.specs.Arriving.{arrived, arrive_step}
use Rattle.best_effort.specs.BestEffort.{best_effort_step}
use Rattle.std.specs.Prelude.{Option, Some, None}
use Rattle.binding.specs.Finding.{frame_lookup}
use Rattle.gates.specs.Refusals.{arrive_refusal, best_effort_refusal}
use Rattle.gates.specs.FrameRefusals.{frame_refusal}
use Rattle.gates.proofs.NumberLaws.{Outside, outside_low, outside_high, low_test, high_test}
use Rattle.gates.specs.Becoming.{becoming, becomes, frame_step}
use Rattle.gates.specs.Table.{refusal_of, step_of}
use Rattle.port.specs.Calls.{called_by, called}
use Rattle.port.specs.Quick.{length_refusal, quickly_called}

-- what a call does where 18 and 19 refuse nothing
abbrev made : Call → List ℕ → List ℕ → Outcome
made c = performed (refusal_of c) (step_of c)

-- a closed port refuses with 1 what a frame becomes
becomes_closed : (p m : List ℕ) (charge tag : ℕ) (found : Option ℕ) → open_at p ≡ false → becomes p m charge tag found ≡ refused 1 p m
unfolding arrive_refusal best_effort_refusal
becomes_closed p m charge tag (Some s) closed = rw closed
becomes_closed p m charge tag None closed = rw closed

-- so a frame whose length is in its range does what it becomes, on every record
frames_becomes : (p m octets : List ℕ) (tag : ℕ) → length_fits octets ≡ true → gated (frame_refusal p octets) p m (frame_step p m octets tag) ≡ frame_step p m octets tag
unfolding frame_refusal
frames_becomes p m octets tag fits = told (open_at p) refl
  where
    told : (b : Bool) → open_at p ≡ b
        → gated (cond (not b) 1 (cond (not (length_fits octets)) 17 0)) p m (frame_step p m octets tag) ≡ frame_step p m octets tag
    told true e = rw fits
    told false e = rw (becomes_closed p m (charge_of octets) tag (frame_lookup p octets) e)

-- reply, record and memory are those of that call, for every record and memory, whatever of 18 and 19 is asked first
becomes_behind : (g : ℕ) (p m octets : List ℕ) (tag : ℕ) → length_fits octets ≡ true
    → gated g p m (made (framing octets tag) p m) ≡ gated g p m (made (becoming octets tag (frame_lookup p octets)) p m)
becomes_behind g p m octets tag fits = ap (gated g p m) (frames_becomes p m octets tag fits) ∙ told (frame_lookup p octets)
  where
    told : (found : Option ℕ) → gated g p m (becomes p m (charge_of octets) tag found) ≡ gated g p m (made (becoming octets tag found) p m)
    told (Some s) = refl
    told None = refl

-- by every way to look at what is lent
pub frame_becomes_by : (lent : List ℕ → List ℕ → ℕ) (p m octets : List ℕ) (tag : ℕ) → length_fits octets ≡ true
    → called_by lent (framing octets tag) p m ≡ called_by lent (becoming octets tag (frame_lookup p octets)) p m
frame_becomes_by lent p m = becomes_behind (lent p m) p m

-- by a call and by a quick call
pub frame_becomes : (p m octets : List ℕ) (tag : ℕ) → length_fits octets ≡ true
    → called (framing octets tag) p m ≡ called (becoming octets tag (frame_lookup p octets)) p m
frame_becomes = frame_becomes_by lent_refusal

pub quick_frame_becomes : (p m octets : List ℕ) (tag : ℕ) → length_fits octets ≡ true
    → quickly_called (framing octets tag) p m ≡ quickly_called (becoming octets tag (frame_lookup p octets)) p m
quick_frame_becomes = frame_becomes_by length_refusal

-- and an open port refuses any other frame with 17
pub frame_refused : (p octets : List ℕ) → open_at p ≡ true → length_fits octets ≡ false → frame_refusal p octets ≡ 17
unfolding frame_refusal
frame_refused p octets opened short = rw (opened, short)

-- what a frame becomes is not refused with 17, so 17 tells of the length alone: the numbers that it may reply
abbrev Not17 : ℕ → Type 0
Not17 = Outside 17 17

gated_not_17 : (g : ℕ) (p m : List ℕ) (done : Outcome) → Not17 g → Not17 done.reply.refusal → Not17 (gated g p m done).reply.refusal
gated_not_17 g p m done h i =
    ⊎_elim
    (λ (zero : g ≡ 0). subst (λ (o : Outcome). Not17 o.reply.refusal) (sym (grants g p m done zero)) i)
    (λ (some : g ≡ 0 → ⊥). subst (λ (o : Outcome). Not17 o.reply.refusal) (sym (refuses g p m done some)) h)
    (eq_or_not g 0)

arrived_not_17 : (p m : List ℕ) (s : ℕ) (f : Frame) (answer : Arrival) → Not17 (arrived p m s f (reply_of answer) answer).reply.refusal
arrived_not_17 p m s f (Joined place next) = told (leb place_count (queue_at p (role_at p place)).count)
  where
    told : (full : Bool)
        → Not17
        (cond full (refused 20 p m)
        (outcome
        (granted place next.left)
        (with_queue (moved p s next) (role_at p place) (joined_queue (queue_at p (role_at p place))))
        (joined_memory m (role_at p place) (queue_at p (role_at p place)) f))).reply.refusal
    told true = inr (omega arith)
    told false = inl (omega arith)
arrived_not_17 p m s f (Discarded spent) = inl (omega arith)

becomes_not_17 : (p m : List ℕ) (charge tag : ℕ) (found : Option ℕ) → Not17 (becomes p m charge tag found).reply.refusal
unfolding arrive_refusal best_effort_refusal arrive_step best_effort_step
becomes_not_17 p m charge tag (Some s) =
    gated_not_17 (arrive_refusal p s charge) p m (arrive_step p m s charge tag)
    (search (low_test, high_test, outside_low, rules) depth 9)
    (arrived_not_17 p m s (record { stream = s; charge = charge; tag = tag }) (arrive_of (last_place_at p) (stream_at p s) charge))
becomes_not_17 p m charge tag None =
    gated_not_17 (best_effort_refusal p charge) p m (best_effort_step p m charge tag)
    (search (low_test, high_test, outside_low, rules) depth 9)
    (inl (omega arith))

pub frame_not_17 : (p m octets : List ℕ) (tag : ℕ) → length_fits octets ≡ true → (called (framing octets tag) p m).reply.refusal ≡ 17 → ⊥
unfolding lent_refusal
frame_not_17 p m octets tag fits e =
    ⊎_elim
    (λ (low : (called (framing octets tag) p m).reply.refusal < 17). omega arith)
    (λ (high : 17 < (called (framing octets tag) p m).reply.refusal). omega arith)
    (gated_not_17 (lent_refusal p m) p m (gated (frame_refusal p octets) p m (frame_step p m octets tag))
    (search (low_test, high_test, outside_low, outside_high, rules) depth 9)
    (subst (λ (o : Outcome). Not17 o.reply.refusal) (sym (frames_becomes p m octets tag fits)) (becomes_not_17 p m (charge_of octets) tag (frame_lookup p octets))))
