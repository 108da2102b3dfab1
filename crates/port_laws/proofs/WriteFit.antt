-- A fit record stays fit where a field of it is written with what is fit there. Assumes nothing.
use Prim.Native.Nat.{ℕ, ◌+◌, ◌<◌}
use mathlib.Core.Path.{◌≡◌, refl, sym, ap, ap₂, ◌∙◌}
use mathlib.Core.Bool.{Bool, true, false, ◌&&◌, cond}
use mathlib.Core.List.{List}
use native.Mathlib.Omega.{arith}
use Rattle.lists.specs.Turns.{all_of}
use Rattle.lists.proofs.TurnLaws.{both, all_to_same, sum_to_same, all_of_snoc}
use Rattle.stream.specs.declared.Stream.{Stream}
use Rattle.stream.specs.State.{at_place, StreamFit}
use Rattle.queue.specs.declared.Frame.{Frame}
use Rattle.queue.specs.declared.Queue.{Queue}
use Rattle.queue.specs.Ring.{place_count, joined_memory, joined_queue}
use Rattle.queue.specs.Waiting.{waiting, charges_of}
use Rattle.queue.proofs.WaitingLaws.{joins}
use Rattle.record.specs.Layout.{stream_count}
use Rattle.record.specs.Queues.{queues_at, last_place_at, best_effort_at, HasMemory}
use Rattle.record.specs.Head.{open_at, prior_at, with_prior, delay_at, link_at, waits_at, with_waits, queue_at, with_queue}
use Rattle.record.specs.Entry.{stream_at, with_place, drain_at, with_drain, bound_at, vid_at}
use Rattle.record.proofs.QueueLaws.{queues_most}
use Rattle.record.proofs.HeadPairs.{prior_prior, waits_prior, queue_prior, stream_prior, waits_waits, prior_waits, queue_waits, stream_waits, queue_queue, other_queue, queue_cases, prior_queue, waits_queue, stream_queue}
use Rattle.record.proofs.EntryPairs.{place_cases, prior_place, waits_place, queue_place}
use Rattle.record.proofs.KeepLaws.{Keeps, keeps_both, keeps_prior, keeps_waits, keeps_queue, keeps_place, keeps_drain}
use Rattle.record.proofs.DrainPairs.{stream_drain, prior_drain, waits_drain, queue_drain, drain_cases, drain_prior, drain_waits, drain_queue, drain_place}
use Rattle.ranges.specs.Ranges.{vid_fits}
use Rattle.record.specs.Reservations.{permitted_of, permitted_sum}
use Rattle.fitness.specs.Clauses.{queue_fits, stream_fits, binding_fits, unlike_earlier, frame_fits, reservation_fits, open_fits}
use Rattle.fitness.proofs.FitLaws.{Fit}
use Rattle.fitness.proofs.TestLaws.{queue_bounds, bounds_queue, drain_fit, fit_stream}
use Rattle.steps.specs.Moves.{moved}

-- a binding stays fit where its stream is still reserved
bound_still : (bound reserved still vid unlike : Bool) → (reserved ≡ true → still ≡ true)
    → cond bound (reserved && vid && unlike) true ≡ true
    → cond bound (still && vid && unlike) true ≡ true
bound_still true reserved still vid unlike h e =
    let front = both (reserved && vid) unlike e in
    let first = both reserved vid front.0 in
    ap₂ ◌&&◌ (ap₂ ◌&&◌ (h first.0) first.1) front.1
bound_still false reserved still vid unlike h e = refl

module _ (p k m : List ℕ) (fit : Fit p m) (keeps : Keeps p k) where
  -- the bindings stay fit where no reservation ends
  pub bindings_stay : ((s : ℕ) → s < stream_count → (stream_at p s).reserved ≡ true → (stream_at k s).reserved ≡ true)
      → (s : ℕ) → s < stream_count → binding_fits k s (unlike_earlier k s) ≡ true
  bindings_stay still s b =
      let unlike : unlike_earlier k s ≡ unlike_earlier p s = all_to_same _ _ s (λ t c. rw (keeps.bound t, keeps.vid t, keeps.address t, keeps.vid s, keeps.address s)) in
      rw (unlike, keeps.bound s, keeps.vid s)
      (bound_still (bound_at p s) (stream_at p s).reserved (stream_at k s).reserved (vid_fits (vid_at p s)) (unlike_earlier p s) (still s b) (fit.bindings s b))

-- the tests of a queue and its frames, where `best` is the number of best effort
abbrev pub FitQueue : ℕ → List ℕ → ℕ → Queue → Type 0
FitQueue best m q x = (queue_fits x ≡ true) × (all_of (frame_fits best q) (waiting m q x) ≡ true)

-- each stream is reserved as it was, with the same P
abbrev pub SameReservations : List ℕ → List ℕ → Type 0
SameReservations p k = (s : ℕ) → s < stream_count → ((stream_at k s).reserved ≡ (stream_at p s).reserved) × ((stream_at k s).permitted ≡ (stream_at p s).permitted)

pub same_stream : (x y : Stream) → x ≡ y → (x.reserved ≡ y.reserved) × (x.permitted ≡ y.permitted)
same_stream x y e = (ap (λ (z : Stream). z.reserved) e, ap (λ (z : Stream). z.permitted) e)

-- then L, K, each P and their sum are as fit as they were
pub plan_stays : (p k : List ℕ) → SameReservations p k → open_at k ≡ open_at p → link_at k ≡ link_at p → delay_at k ≡ delay_at p → open_fits p ≡ true → open_fits k ≡ true
plan_stays p k same opened link delay plan =
    let each = all_to_same (λ s. reservation_fits (stream_at k s)) (λ s. reservation_fits (stream_at p s)) stream_count (λ s b. rw ((same s b).0, (same s b).1)) in
    let sum : permitted_sum k ≡ permitted_sum p = sum_to_same (λ s. permitted_of (stream_at k s)) (λ s. permitted_of (stream_at p s)) stream_count (λ s b. rw ((same s b).0, (same s b).1)) in
    rw (opened, link, delay, each, sum) plan

module _ (p k m n : List ℕ) (fit : Fit p m) (keeps : Keeps p k) (same : SameReservations p k) where
  -- where the reservations and all that `Keeps` names are kept, fitness is that of prior, the queues, the places and counts of the streams, and W
  kept_fits : prior_at k < queues_at p
      → ((q : ℕ) → q < queues_at p + 1 → FitQueue (best_effort_at p) n q (queue_at k q))
      → ((s : ℕ) → s < stream_count → stream_fits (last_place_at p) (stream_at k s) (drain_at k s) ≡ true)
      → waits_at k ≡ charges_of (waiting n (best_effort_at p) (queue_at k (best_effort_at p)))
      → Fit k n
  kept_fits prior queues streams waits =
      record {
        long = omega (arith, keeps.long, fit.long);
        prior = rw keeps.queues prior;
        queues = λ q b. (queues q (omega (arith, keeps.queues))).0;
        streams = λ s b. rw keeps.queues (streams s b);
        bindings = bindings_stay p k m fit keeps (λ s b r. (same s b).0 ∙ r);
        frames = λ q b. rw keeps.queues (queues q (omega (arith, keeps.queues))).1;
        waits = rw keeps.queues waits;
        plan = plan_stays p k same keeps.opened keeps.link keeps.delay fit.plan;
      }

module _ (p m : List ℕ) (fit : Fit p m) where
  -- prior written
  pub fits_prior : (number : ℕ) → number < queues_at p → Fit (with_prior p number) m
  fits_prior number h =
      kept_fits p (with_prior p number) m m fit (keeps_prior p number) (λ s b. same_stream _ _ (stream_prior p number s))
      (omega (arith, prior_prior p number fit.long))
      (λ q b. rw (queue_prior p number q) (fit.queues q b, fit.frames q b))
      (λ s b. rw (stream_prior p number s, drain_prior p s number) (fit.streams s b))
      (rw (waits_prior p number, queue_prior p number (best_effort_at p)) fit.waits)

  -- a stream's place and left written
  pub fits_place : (s place left : ℕ) → (s < stream_count → stream_fits (last_place_at p) (at_place (stream_at p s) place left) (drain_at p s) ≡ true) → Fit (with_place p s place left) m
  fits_place s place left h =
      let k = with_place p s place left in
      kept_fits p k m m fit (keeps_place p s place left)
      (λ t b. place_cases p s place left
      (λ x. (x.reserved ≡ (stream_at p t).reserved) × (x.permitted ≡ (stream_at p t).permitted)) t fit.long b (λ e. (refl, refl)) (λ o. (refl, refl)))
      (omega (arith, prior_place p s place left, fit.prior))
      (λ q b. rw (queue_place p s place left q (omega (arith, queues_most p))) (fit.queues q b, fit.frames q b))
      (λ t b. rw (drain_place p s t place left)
      (place_cases p s place left (λ x. stream_fits (last_place_at p) x (drain_at p t) ≡ true) t fit.long b
      (λ e. rw e (h (omega arith)))
      (λ o. fit.streams t b)))
      (rw (waits_place p s place left, queue_place p s place left (best_effort_at p) (omega (arith, queues_most p))) fit.waits)

  -- a reserved stream moved, with its P, to a place and left that are fit
  pub fits_moved : (s : ℕ) (next : Stream) → (s < stream_count → StreamFit (last_place_at p) next) → (stream_at p s).reserved ≡ true
      → next.permitted ≡ (stream_at p s).permitted
      → Fit (moved p s next) m
  fits_moved s next h reserved e =
      fits_place s next.place next.left
      (λ b. fit_stream (last_place_at p) (at_place (stream_at p s) next.place next.left) (drain_at p s)
      (omega (arith, (h b).first_place, (h b).last_place, (h b).left_within, e))
      (drain_fit (last_place_at p) (stream_at p s) (drain_at p s) reserved (fit.streams s b)))

  -- a stream's draining count written
  pub fits_drain : (s ticks : ℕ) → (s < stream_count → stream_fits (last_place_at p) (stream_at p s) ticks ≡ true) → Fit (with_drain p s ticks) m
  fits_drain s ticks h =
      kept_fits p (with_drain p s ticks) m m fit (keeps_drain p s ticks) (λ t b. same_stream _ _ (stream_drain p s ticks t))
      (omega (arith, prior_drain p s ticks, fit.prior))
      (λ q b. rw (queue_drain p s ticks q (omega (arith, queues_most p))) (fit.queues q b, fit.frames q b))
      (λ t b. rw (stream_drain p s ticks t)
      (drain_cases p s ticks (λ n. stream_fits (last_place_at p) (stream_at p t) n ≡ true) t fit.long b
      (λ e. rw e (h (omega arith)))
      (λ o. fit.streams t b)))
      (rw (waits_drain p s ticks, queue_drain p s ticks (best_effort_at p) (omega (arith, queues_most p))) fit.waits)

  -- a queue written, where the memory after it (n) has what m has in every other queue
  module _ (n : List ℕ) (q : ℕ) (x : Queue) (waits : FitQueue (best_effort_at p) n q x) (others : (r : ℕ) (y : Queue) → (r ≡ q → ⊥) → waiting n r y ≡ waiting m r y) where
    queues_fit_lem : q < queues_at p + 1 → (r : ℕ) → r < queues_at p + 1 → FitQueue (best_effort_at p) n r (queue_at (with_queue p q x) r)
    queues_fit_lem h r b =
        queue_cases p q x (λ y. FitQueue (best_effort_at p) n r y) r fit.long (omega (arith, queues_most p))
        (λ e. rw e waits)
        (λ o. (fit.queues r b, ap (all_of (frame_fits (best_effort_at p) r)) (others r (queue_at p r) o) ∙ fit.frames r b))

    pub fits_queue : q < queues_at p → Fit (with_queue p q x) n
    fits_queue h =
        kept_fits p (with_queue p q x) m n fit (keeps_queue p q x (omega (arith, queues_most p))) (λ s b. same_stream _ _ (stream_queue p q x s (omega (arith, queues_most p))))
        (omega (arith, prior_queue p q x, fit.prior))
        (queues_fit_lem (omega arith))
        (λ s b. rw (stream_queue p q x s (omega (arith, queues_most p)), drain_queue p s q x (omega (arith, queues_most p))) (fit.streams s b))
        (waits_queue p q x
        ∙ fit.waits
        ∙ ap charges_of (sym (others (best_effort_at p) (queue_at p (best_effort_at p)) (λ e. omega arith)))
        ∙ ap (λ (y : Queue). charges_of (waiting n (best_effort_at p) y)) (sym (other_queue p q x (best_effort_at p) (λ e. omega arith))))

  -- a queue that a frame joins
  pub fits_joined : (q : ℕ) (f : Frame) → q < queues_at p + 1 → HasMemory p m → (queue_at p q).count < place_count → frame_fits (best_effort_at p) q f ≡ true
      → FitQueue (best_effort_at p) (joined_memory m q (queue_at p q) f) q (joined_queue (queue_at p q))
  fits_joined q f b room free h =
      let x = queue_at p q in (
        bounds_queue (joined_queue x) (queue_bounds x (fit.queues q b)).0 (omega arith),
        ap (all_of (frame_fits (best_effort_at p) q)) (joins m q x f free (omega arith)) ∙ all_of_snoc (frame_fits (best_effort_at p) q) (waiting m q x) f ∙ ap₂ ◌&&◌ h (fit.frames q b),
      )

  -- best effort written, and W with it
  pub fits_best_effort : (n : List ℕ) (x : Queue) (octets : ℕ) → FitQueue (best_effort_at p) n (best_effort_at p) x
      → ((r : ℕ) (y : Queue) → (r ≡ best_effort_at p → ⊥) → waiting n r y ≡ waiting m r y)
      → octets ≡ charges_of (waiting n (best_effort_at p) x)
      → Fit (with_waits (with_queue p (best_effort_at p) x) octets) n
  fits_best_effort n x octets waits others sum =
      let best = best_effort_at p in
      let k = with_queue p best x in
      let keeps = keeps_queue p best x (omega (arith, queues_most p)) in
      kept_fits p (with_waits k octets) m n fit (keeps_both p k (with_waits k octets) keeps (keeps_waits k octets))
      (λ s b. same_stream _ _ (stream_waits k octets s ∙ stream_queue p best x s (omega (arith, queues_most p))))
      (omega (arith, prior_waits k octets, prior_queue p best x, fit.prior))
      (λ q b. rw (queue_waits k octets q) (queues_fit_lem n best x waits others (omega arith) q b))
      (λ s b. rw (stream_waits k octets s, drain_waits k s octets, stream_queue p best x s (omega (arith, queues_most p)), drain_queue p s best x (omega (arith, queues_most p))) (fit.streams s b))
      (waits_waits k octets (omega (arith, keeps.long, fit.long))
      ∙ sum
      ∙ ap (λ (y : Queue). charges_of (waiting n (best_effort_at p) y)) (sym (queue_waits k octets best ∙ queue_queue p best x fit.long (omega (arith, queues_most p)))))
