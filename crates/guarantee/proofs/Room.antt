-- What can wait in a queue: no more than the streams have used of it, so never more than the share. Assumes nothing.
use Prim.Native.Nat.{ℕ, suc, ◌+◌, ◌*◌, ◌≤◌, ◌<◌}
use mathlib.Core.Path.{◌≡◌, refl, ap, ◌∙◌}
use mathlib.Core.Logic.{⊎_elim}
use mathlib.Core.List.{List, [], ◌∷◌}
use native.Mathlib.Omega.{arith}
use lib.ListN.{length}
use borrow.Author.Tests.{eq-eqb, ne_eqb}
use Rattle.lists.specs.Each.{All}
use Rattle.lists.specs.Turns.{sum_to}
use Rattle.lists.proofs.TurnLaws.{sum_to_same, sum_to_le, sum_to_change, sum_of_snoc}
use Rattle.lists.proofs.Order.{eq_or_not}
use Rattle.stream.specs.declared.Reply.{Reply}
use Rattle.stream.specs.declared.Arrival.{Arrival}
use Rattle.stream.specs.declared.Arrival.TheVariants.{Joined, Discarded}
use Rattle.stream.specs.State.{current_place, reserve_of, StreamFit}
use Rattle.stream.specs.Steps.{arrive_of}
use Rattle.stream.specs.Replies.{stream_of}
use Rattle.stream.specs.Alone.{octets_at}
use Rattle.stream.proofs.FitLaws.{fit_arrive, fit_reserve, permitted_arrive}
use Rattle.stream.proofs.Used.{used_arrive}
use Rattle.record.specs.Layout.{stream_count}
use Rattle.ranges.specs.Ranges.{least_charge, greatest_charge}
use Rattle.ranges.proofs.RangeLaws.{within_bounds}
use Rattle.port_laws.specs.Counting.{Action}
use Rattle.guarantee.specs.Events.{Marked, Sent}
use Rattle.lists.proofs.EachLaws.{all_snoc}
use Rattle.guarantee.proofs.Reservation.{Reservation, keeping, free, withdrawn, fit_ticked, permitted_ticked, used_by, used_keeping, used_by_most, used_withdrawn, used_nearer}
use Rattle.guarantee.proofs.Run.{View, octets, permitted_of, SameQueues, SameStreams, OneQueue, OneStream, queue_after, Effect, quiet, refuses_reservation, reserves, refuses_withdrawal, withdraws, refuses_arrival, arrives, ticks, sends, idles}

-- a frame's charge is at least the least charge
abbrev pub Charged : Marked → Type 0
Charged f = least_charge ≤ f.charge

-- what the streams have used of the queue in role k
abbrev pub used_of : View → ℕ → ℕ
used_of v k = sum_to (λ s. used_by k (v.stream s)) stream_count

-- what holds of a port from its opening on
pub record Sound (last share : ℕ) (v : View) : Type 0 where
  pub fit : (s : ℕ) → StreamFit last (v.stream s).stream
  pub within_share : permitted_of v ≤ share
  pub room : (k : ℕ) → octets (v.queue k) ≤ used_of v k
  pub charged : (k : ℕ) → All Charged (v.queue k)

-- the octets in a queue are at most the share
pub octets_most : (last share : ℕ) (v : View) → Sound last share v → (k : ℕ) → octets (v.queue k) ≤ share
octets_most last share v h k =
    omega (arith, h.room k, h.within_share, sum_to_le (λ s. used_by k (v.stream s)) (λ s. (v.stream s).stream.permitted) stream_count (λ s. used_by_most k (v.stream s)))

-- so many frames are at least so many least charges
pub charged_length : (fs : List Marked) → All Charged fs → least_charge * length fs ≤ octets fs
charged_length [] h = omega arith
charged_length (f ∷ fs) h = omega (arith, h.0, charged_length fs h.1)

-- so less than the least charge, no frame
pub few_octets : (fs : List Marked) → All Charged fs → octets fs < least_charge → fs ≡ []
few_octets [] h o = refl
few_octets (f ∷ fs) h o = absurd (omega (arith, h.0))

-- the octets that an arrival brings into a queue, and the frame that it brings
after_octets : (k : ℕ) (f : Marked) (r : Arrival) (fs : List Marked) → octets (queue_after k f r fs) ≡ octets fs + octets_at k f.charge r
after_octets k f (Joined place x) fs =
    ⊎_elim
    (λ (e : place ≡ k). rw (eq-eqb place k e) (sum_of_snoc (λ g. g.charge) fs f))
    (λ (o : place ≡ k → ⊥). rw (ne_eqb place k o) (omega arith))
    (eq_or_not place k)
after_octets k f (Discarded x) fs = omega arith

after_charged : (k : ℕ) (f : Marked) (r : Arrival) (fs : List Marked) → All Charged fs → Charged f → All Charged (queue_after k f r fs)
after_charged k f (Joined place x) fs h c =
    ⊎_elim
    (λ (e : place ≡ k). rw (eq-eqb place k e) (all_snoc Charged fs f h c))
    (λ (o : place ≡ k → ⊥). rw (ne_eqb place k o) h)
    (eq_or_not place k)
after_charged k f (Discarded x) fs h c = h

module _ (last share : ℕ) (v w : View) (h : Sound last share v) where
  -- where the streams are as they were, and no queue has more in it
  shorter_sound : SameStreams v w → ((k : ℕ) → octets (w.queue k) ≤ octets (v.queue k)) → ((k : ℕ) → All Charged (w.queue k)) → Sound last share w
  shorter_sound streams less charged =
      let permitted : permitted_of w ≡ permitted_of v = sum_to_same _ _ stream_count (λ s b. ap (λ (x : Reservation). x.stream.permitted) (streams s)) in
      let same : (k : ℕ) → used_of w k ≡ used_of v k = λ k. sum_to_same _ _ stream_count (λ s b. ap (used_by k) (streams s)) in
      record {
        fit = λ s. rw (streams s) (h.fit s);
        within_share = omega (arith, permitted, h.within_share);
        room = λ k. omega (arith, less k, same k, h.room k);
        charged = charged;
      }

  same_sound : SameQueues v w → SameStreams v w → Sound last share w
  same_sound queues streams = shorter_sound streams (λ k. rw (queues k) (omega arith)) (λ k. rw (queues k) (h.charged k))

  -- where one queue loses its oldest frame
  sends_sound : (k : ℕ) (f : Marked) (fs : List Marked) → v.queue k ≡ f ∷ fs → OneQueue v w k fs → SameStreams v w → Sound last share w
  sends_sound k f fs waiting one streams =
      let had : All Charged (f ∷ fs) = rw waiting at (h.charged k) in
      shorter_sound streams
      (λ j.
      ⊎_elim
      (λ (e : j ≡ k). rw (e, one.0, waiting) (omega arith))
      (λ (o : j ≡ k → ⊥). rw (one.1 j o) (omega arith))
      (eq_or_not j k))
      (λ j.
      ⊎_elim
      (λ (e : j ≡ k). rw (e, one.0) had.1)
      (λ (o : j ≡ k → ⊥). rw (one.1 j o) (h.charged j))
      (eq_or_not j k))

  -- where one stream changes, and what joins each queue it has used
  module _ (s : ℕ) (x : Reservation) (below : s < stream_count) (one : OneStream v w s x) (fits : StreamFit last x.stream) where
    sum_change : (g : Reservation → ℕ) → sum_to (λ i. g (w.stream i)) stream_count + g (v.stream s) ≡ sum_to (λ i. g (v.stream i)) stream_count + g x
    sum_change g =
        sum_to_change (λ i. g (w.stream i)) (λ i. g (v.stream i)) stream_count s below (λ i o. ap g (one.1 i o))
        ∙ ap (λ (y : Reservation). sum_to (λ i. g (v.stream i)) stream_count + g y) one.0

    changed_sound : permitted_of v + x.stream.permitted ≤ share + (v.stream s).stream.permitted
        → ((k : ℕ) → octets (w.queue k) + used_by k (v.stream s) ≤ octets (v.queue k) + used_by k x)
        → ((k : ℕ) → All Charged (w.queue k))
        → Sound last share w
    changed_sound permitted more charged =
        record {
          fit = λ r.
              ⊎_elim
              (λ (e : r ≡ s). rw (e, one.0) fits)
              (λ (o : r ≡ s → ⊥). rw (one.1 r o) (h.fit r))
              (eq_or_not r s);
          within_share = omega (arith, permitted, sum_change (λ y. y.stream.permitted));
          room = λ k. omega (arith, more k, h.room k, sum_change (used_by k));
          charged = charged;
        }

-- a call leaves a sound port sound
pub stays_sound : (last share n : ℕ) (v w : View) (r : Reply) (t : Sent) (c : Action) → current_place ≤ last → Effect last share n v w r t c
    → Sound last share v → Sound last share w
stays_sound last share n v w r t c some (quiet q e queues streams) h = same_sound last share v w h queues streams
stays_sound last share n v w r t c some (refuses_reservation e d) h = same_sound last share v w h d.queues d.streams
stays_sound last share n v w r t c some (reserves {s = s} {permitted = p} e d) h =
    changed_sound last share v w h s (keeping (reserve_of p)) d.below d.streams (fit_reserve last p some)
    (rw d.was_free (omega (arith, d.within_share)))
    (λ k. rw (d.queues k, d.was_free) (omega (arith, used_by_most k free)))
    (λ k. rw (d.queues k) (h.charged k))
stays_sound last share n v w r t c some (refuses_withdrawal e d) h = same_sound last share v w h d.queues d.streams
stays_sound last share n v w r t c some (withdraws {s = s} e d) h =
    let x = v.stream s in
    changed_sound last share v w h s (withdrawn (last + 1) x) d.below d.streams (h.fit s)
    (omega (arith, h.within_share))
    (λ k. rw (d.queues k) (omega (arith, used_withdrawn last k x (h.fit s) d.keeps)))
    (λ k. rw (d.queues k) (h.charged k))
stays_sound last share n v w r t c some (refuses_arrival e d) h = same_sound last share v w h d.queues d.streams
stays_sound last share n v w r t c some (arrives {s = s} {charge = a} {tag = tag} e d) h =
    let x = (v.stream s).stream in
    let f : Marked = record { stream = s; charge = a; tag = tag; number = n } in
    changed_sound last share v w h s (keeping (stream_of (arrive_of last x a))) d.below d.streams (fit_arrive last x a (h.fit s))
    (omega (arith, permitted_arrive last x a, h.within_share))
    (λ k. rw (d.queues k)
    (omega (
      arith,
      after_octets k f (arrive_of last x a) (v.queue k),
      used_keeping k (v.stream s) d.keeps,
      used_keeping k (keeping (stream_of (arrive_of last x a))) refl,
      used_arrive last k x a (h.fit s),
    )))
    (λ k. rw (d.queues k) (after_charged k f (arrive_of last x a) (v.queue k) (h.charged k) (within_bounds least_charge greatest_charge a d.fits).0))
stays_sound last share n v w r t c some (ticks e d) h =
    let permitted : permitted_of w ≤ permitted_of v =
    sum_to_le (λ s. (w.stream s).stream.permitted) (λ s. (v.stream s).stream.permitted) stream_count (λ s. rw (d.streams s) (permitted_ticked (v.stream s))) in
    record {
      fit = λ s. rw (d.streams s) (fit_ticked (v.stream s) last some (h.fit s));
      within_share = omega (arith, permitted, h.within_share);
      room = λ k. rw (d.queues k)
          (omega (
            arith,
            h.room (suc k),
            sum_to_le (λ s. used_by (suc k) (v.stream s)) (λ s. used_by k (w.stream s)) stream_count
                (λ s. rw (d.streams s) (used_nearer last k (v.stream s) (h.fit s))),
          ));
      charged = λ k. rw (d.queues k) (h.charged (suc k));
    }
stays_sound last share n v w r t c some (sends k f fs d) h = sends_sound last share v w h k f fs d.waiting d.queues d.streams
stays_sound last share n v w r t c some (idles e i queues streams) h = same_sound last share v w h queues streams
