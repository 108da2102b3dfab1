-- Transmit on a port that holds a view: it sends the oldest frame of prior, of current or of best effort, or nothing. Assumes nothing.
use Prim.Native.Nat.{ℕ, ◌-◌, ◌<◌}
use mathlib.Core.Bool.{cond}
use mathlib.Core.Path.{◌≡◌, refl, sym, ap, subst, ◌∙◌}
use mathlib.Core.Logic.{inl, ⊎_elim}
use mathlib.Core.List.{List, []}
use native.Mathlib.Omega.{arith}
use borrow.Author.Tests.{eq-eqb, ne_eqb}
use lib.ListN.{get_or}
use lib.Dec.{eqb}
use Rattle.lists.proofs.Order.{eq_or_not}
use Rattle.stream.specs.Replies.{granted}
use Rattle.queue.specs.declared.Frame.{Frame}
use Rattle.queue.specs.declared.Queue.{Queue}
use Rattle.queue.specs.Ring.{front_of, sent_queue}
use Rattle.queue.specs.Waiting.{waiting}
use Rattle.queue.proofs.WaitingLaws.{sends, length_waiting}
use Rattle.record.specs.Layout.{Whole, queue_room}
use Rattle.record.specs.Queues.{queues_at, best_effort_at}
use Rattle.record.specs.Head.{waits_at, queue_at, with_queue}
use Rattle.record.proofs.QueueLaws.{queues_least, queues_most, queues_queue}
use Rattle.record.proofs.HeadPairs.{queue_queue, other_queue, prior_queue, stream_queue}
use Rattle.record.proofs.DrainPairs.{drain_queue}
use Rattle.record.proofs.KeepLaws.{keeps_queue}
use Rattle.fitness.proofs.FitLaws.{fit_record}
use Rattle.steps.specs.Outcome.{outcome}
use Rattle.steps.specs.Roles.{role_at, prior_role, current_role}
use Rattle.steps.proofs.RoleLaws.{role_below, role_apart, role_same}
use Rattle.sending.specs.Sending.{sent, sent_best_effort, nothing, transmit_step}
use Rattle.sending.proofs.SendLaws.{sends_prior, sends_current, sends_best_effort_lem, sends_nothing_lem}
use Rattle.gates.specs.Refusals.{closed_refusal}
use Rattle.steps.specs.Call.{Call, ticking, transmitting}
use Rattle.port.specs.Calls.{called}
use Rattle.port_laws.specs.Counting.{action_of}
use Rattle.port_laws.proofs.GateNumbers.{closed_passes}
use Rattle.guarantee.specs.Events.{Marked, Sent, reserved_sent, best_effort_sent, none, brought_by, marked}
use Rattle.guarantee.specs.Claims.{reply_of_sent}
use Rattle.lists.proofs.EachLaws.{differ, none_long}
use Rattle.guarantee.proofs.Run.{View, sends as sends-frame, idles}
use Rattle.guarantee.proofs.CallLaws.{not_reserved, none_reserved}
use Rattle.guarantee.proofs.Tied.{Tied, Oldest, oldest, tied_length}
use Rattle.guarantee.proofs.BestEffortWritten.{written, written_keeps, written_here, written_stream, written_role}
use Rattle.guarantee.proofs.Held.{Holds, in_role, same_reservation, role_kept, same_seen}
use Rattle.guarantee.proofs.Next.{link_kept, Next, unmoved, by_gate}

module _ (all : List Call) (n link : ℕ) (p m k : List ℕ) (v : View) (best : List Marked) (h : Holds all link p m k v best) where
  whole : Whole p
  whole = (fit_record p m h.fit).long

  -- no frame waits in a role whose queue counts none
  role_empty : (role : ℕ) → role < queues_at p → (queue_at p (role_at p role)).count ≡ 0 → v.queue role ≡ []
  role_empty role b zero-count =
      none_long (v.queue role)
      (sym (tied_length all reserved_sent (in_role p m role) (in_role p k role) (v.queue role) (h.queues role b))
      ∙ length_waiting m (role_at p role) (queue_at p (role_at p role))
      ∙ zero-count)

  -- the oldest frame in a queue that counts some, in both memories
  first_of : (kind : Marked → Sent) (number : ℕ) (x : Queue) (fs : List Marked) → Tied all kind (waiting m number x) (waiting k number x) fs → (x.count ≡ 0 → ⊥)
      → Oldest all kind (front_of m number x) (front_of k number x) (waiting m number (sent_queue x)) (waiting k number (sent_queue x)) fs
  first_of kind number x fs tied some =
      oldest all kind (front_of m number x) (front_of k number x) (waiting m number (sent_queue x)) (waiting k number (sent_queue x)) fs
      (rw (sends m number x (omega arith), sends k number x (omega arith)) at tied)

  -- the marked call names the frame's call
  names : (kind : Marked → Sent) (number : ℕ) (x : Queue) (fs : List Marked)
      (o : Oldest all kind (front_of m number x) (front_of k number x) (waiting m number (sent_queue x)) (waiting k number (sent_queue x)) fs)
      → brought_by (front_of k number x).tag (action_of (get_or all (front_of k number x).tag ticking)) ≡ kind o.first
  names kind number x fs o = ap (λ (g : Frame). brought_by g.tag (action_of (get_or all g.tag ticking))) o.shown ∙ o.known.1

  -- a reserved frame is sent from a role
  module _ (role : ℕ) (b : role < queues_at p) (some : (queue_at p (role_at p role)).count ≡ 0 → ⊥) (earlier : (j : ℕ) → j < role → v.queue j ≡ []) where
    abbrev number : ℕ
    number = role_at p role

    abbrev there : Queue
    there = queue_at p number

    abbrev after : List ℕ
    after = with_queue p number (sent_queue there)

    front : Oldest all reserved_sent (front_of m number there) (front_of k number there) (waiting m number (sent_queue there)) (waiting k number (sent_queue there)) (v.queue role)
    front = first_of reserved_sent number there (v.queue role) (h.queues role b) some

    abbrev sent_view : View
    sent_view = record { queue = λ j. cond (eqb j role) front.others (v.queue j); stream = v.stream }

    sent_here : sent_view.queue role ≡ front.others
    sent_here = rw (eq-eqb role role refl)

    sent_else : (j : ℕ) → (j ≡ role → ⊥) → sent_view.queue j ≡ v.queue j
    sent_else j o = rw (ne_eqb j role o)

    number_below : number < queue_room
    number_below = omega (arith, role_below p role, queues_most p)

    after_here : (l : List ℕ) → in_role after l role ≡ waiting l number (sent_queue there)
    after_here l = rw (role_same p after role (prior_queue p number (sent_queue there)) (queues_queue p number (sent_queue there)), queue_queue p number (sent_queue there) whole number_below)

    after_else : (l : List ℕ) (j : ℕ) → j < queues_at p → (j ≡ role → ⊥) → in_role after l j ≡ in_role p l j
    after_else l j c o =
        role_kept p after l j (prior_queue p number (sent_queue there)) (queues_queue p number (sent_queue there)) (other_queue p number (sent_queue there) (role_at p j) (role_apart p j role c b o))

    sent_queues : (j : ℕ) → j < queues_at p → Tied all reserved_sent (in_role after m j) (in_role after k j) (sent_view.queue j)
    sent_queues j c =
        ⊎_elim
        (λ (e : j ≡ role). rw (e, after_here m, after_here k, sent_here) front.rest)
        (λ (o : j ≡ role → ⊥). rw (after_else m j c o, after_else k j c o, sent_else j o) (h.queues j c))
        (eq_or_not j role)

    sent_next : Next all all n link p m k v transmitting (sent p m number there) (sent p k number there)
    sent_next =
        let f = front.first in
        let sends-it = names reserved_sent number there (v.queue role) front in
        let reply : granted (front_of m number there).stream (front_of m number there).tag ≡ granted f.stream f.tag =
        ap (λ (g : Frame). granted g.stream g.tag) front.real in
        record {
          view = sent_view;
          best = best;
          effect =
              sends-frame role f front.others
              (record {
                waiting = front.split;
                earlier = earlier;
                sent = sends-it;
                reply = reply;
                queues = (sent_here, sent_else);
                streams = λ s. refl;
              });
          same = refl;
          moved =
              record {
                keeps = link_kept _ _ (keeps_queue p number (sent_queue there) number_below);
                streams = same_seen p after v h.streams (λ i c. same_reservation p after i (stream_queue p number (sent_queue there) i number_below) (drain_queue p i number (sent_queue there) number_below));
                queues = sent_queues;
                above = λ j c. sent_else j (λ e. omega arith) ∙ h.above j c;
                waits = rw (other_queue p number (sent_queue there) (best_effort_at p) (λ e. omega (arith, role_below p role, queues_most p))) h.waits;
              };
          says = λ z. (
            reply ∙ sym (ap (reply_of_sent (λ g. g.tag)) sends-it),
            ap (λ (g : Frame). granted g.stream g.tag) front.shown ∙ sym (ap (reply_of_sent (λ g. g.number)) sends-it),
          );
          marks = λ z. differ z;
          not_lent = inl (omega arith);
        }

  -- a frame of best effort is sent
  module _ (some : (queue_at p (best_effort_at p)).count ≡ 0 → ⊥) (prior-empty : v.queue 0 ≡ []) where
    abbrev waiting_there : Queue
    waiting_there = queue_at p (best_effort_at p)

    oldest_there : Oldest all best_effort_sent (front_of m (best_effort_at p) waiting_there) (front_of k (best_effort_at p) waiting_there) (waiting m (best_effort_at p) (sent_queue waiting_there))
        (waiting k (best_effort_at p) (sent_queue waiting_there)) best
    oldest_there = first_of best_effort_sent (best_effort_at p) waiting_there best h.waits some

    -- the charge is the same in both memories
    same_charge : (front_of k (best_effort_at p) waiting_there).charge ≡ (front_of m (best_effort_at p) waiting_there).charge
    same_charge = ap (λ (g : Frame). g.charge) oldest_there.shown ∙ sym (ap (λ (g : Frame). g.charge) oldest_there.real)

    best_effort_next : Next all all n link p m k v transmitting (sent_best_effort p m (best_effort_at p) waiting_there) (sent_best_effort p k (best_effort_at p) waiting_there)
    best_effort_next =
        let f = oldest_there.first in
        let octets = waits_at p - (front_of m (best_effort_at p) waiting_there).charge in
        let sends-it = names best_effort_sent (best_effort_at p) waiting_there best oldest_there in
        record {
          view = v;
          best = oldest_there.others;
          effect = idles prior-empty (λ g e. not_reserved f g (sym sends-it ∙ e)) (λ j. refl) (λ s. refl);
          same = ap (λ (charge : ℕ). written p (sent_queue waiting_there) (waits_at p - charge)) same_charge;
          moved =
              record {
                keeps = link_kept _ _ (written_keeps p (sent_queue waiting_there) octets);
                streams = same_seen p (written p (sent_queue waiting_there) octets) v h.streams (λ i c. written_stream p (sent_queue waiting_there) octets i);
                queues = λ role b. rw (written_role p (sent_queue waiting_there) octets m role, written_role p (sent_queue waiting_there) octets k role) (h.queues role b);
                above = h.above;
                waits = rw (written_here p (sent_queue waiting_there) octets whole) oldest_there.rest;
              };
          says = λ z. (
            ap (λ (g : Frame). granted g.stream g.tag) oldest_there.real ∙ sym (ap (reply_of_sent (λ g. g.tag)) sends-it),
            ap (λ (g : Frame). granted g.stream g.tag) oldest_there.shown ∙ sym (ap (reply_of_sent (λ g. g.number)) sends-it),
          );
          marks = λ z. differ z;
          not_lent = inl (omega arith);
        }

  module _ (first : brought_by 0 (action_of (get_or all 0 ticking)) ≡ none) where
    -- nothing is sent
    nothing_next : v.queue 0 ≡ [] → Next all all n link p m k v transmitting (outcome (granted nothing 0) p m) (outcome (granted nothing 0) p k)
    nothing_next prior-empty =
        record {
          view = v;
          best = best;
          effect = idles prior-empty (λ g e. none_reserved g (sym first ∙ e)) (λ j. refl) (λ s. refl);
          same = refl;
          moved = unmoved all n link p m k v best h;
          says = λ z. (sym (ap (reply_of_sent (λ g. g.tag)) first), sym (ap (reply_of_sent (λ g. g.number)) first));
          marks = λ z. differ z;
          not_lent = inl (omega arith);
        }

    -- by which queue has a frame
    transmit_next : Next all all n link p m k v transmitting (transmit_step p m) (transmit_step p k)
    unfolding transmit_step
    transmit_next =
        let prior = role_at p prior_role in
        let current = role_at p current_role in
        let a = queue_at p prior in
        let b = queue_at p current in
        let c = queue_at p (best_effort_at p) in
        ⊎_elim
        (λ (i : a.count ≡ 0).
        let prior-empty = role_empty prior_role (omega (arith, queues_least p)) i in
        ⊎_elim
        (λ (j : b.count ≡ 0).
        ⊎_elim
        (λ (z : c.count ≡ 0). rw (sends_nothing_lem p m prior current (best_effort_at p) a b c i j z, sends_nothing_lem p k prior current (best_effort_at p) a b c i j z) (nothing_next prior-empty))
        (λ (z : c.count ≡ 0 → ⊥).
        rw (sends_best_effort_lem p m prior current (best_effort_at p) a b c i j z, sends_best_effort_lem p k prior current (best_effort_at p) a b c i j z) (best_effort_next z prior-empty))
        (eq_or_not c.count 0))
        (λ (j : b.count ≡ 0 → ⊥).
        rw (sends_current p m prior current (best_effort_at p) a b c i j, sends_current p k prior current (best_effort_at p) a b c i j)
        (sent_next current_role (omega (arith, queues_least p)) j (λ role z. subst (λ (y : ℕ). v.queue y ≡ []) (omega arith) prior-empty)))
        (eq_or_not b.count 0))
        (λ (i : a.count ≡ 0 → ⊥).
        rw (sends_prior p m prior current (best_effort_at p) a b c i, sends_prior p k prior current (best_effort_at p) a b c i) (sent_next prior_role (omega (arith, queues_least p)) i (λ role z. absurd (omega arith))))
        (eq_or_not a.count 0)

    pub next_transmit : Next all all n link p m k v transmitting (called transmitting p m) (called (marked n transmitting) p k)
    next_transmit =
        by_gate all n link p m k v best h (closed_refusal p) transmitting (transmit_step p m) (transmit_step p k) (λ z. absurd (z (closed_passes p h.opened)))
        (λ z. transmit_next)
