-- What a record reads after Open, whatever stood in it before: nothing of it but its length is asked. Assumes nothing.
use Prim.Native.Nat.{ℕ, ◌+◌, ◌<◌}
use mathlib.Core.Path.{◌≡◌, ap, ◌∙◌}
use mathlib.Core.Bool.{true, false}
use mathlib.Core.List.{List}
use native.Mathlib.Omega.{arith}
use lib.ListN.{length}
use Rattle.lists.proofs.TurnLaws.{sum_to_same, sum_to_none, iterate_keeps, iterate_each}
use Rattle.stream.specs.declared.Stream.{Stream}
use Rattle.queue.specs.Ring.{empty_queue}
use Rattle.record.specs.Layout.{Whole, stream_count}
use Rattle.record.specs.Queues.{queues_at}
use Rattle.record.specs.Head.{open_at, with_open, prior_at, with_prior, delay_at, with_delay, link_at, with_link, waits_at, queue_at, with_queue}
use Rattle.record.specs.Entry.{stream_at, drain_at, bound_at, dropped}
use Rattle.record.proofs.QueueLaws.{queues_most, queues_open, queues_delay, queues_link, queues_queue, queues_dropped}
use Rattle.record.proofs.HeadPairs.{prior_prior, waits_waits, prior_waits, queue_queue, other_queue, prior_queue, waits_queue}
use Rattle.record.proofs.KeepLaws.{keeps_prior, keeps_waits}
use Rattle.record.proofs.OpenPairs.{length_open, open_open, length_delay, delay_delay, open_delay, prior_delay, length_link, link_link, open_link, prior_link, delay_link, length_queue, open_queue, delay_queue, link_queue}
use Rattle.record.proofs.DropPairs.{length_dropped, open_dropped, prior_dropped, delay_dropped, link_dropped, waits_dropped, queue_dropped, stream_dropped, drain_dropped, bound_dropped, other_stream_dropped, other_drain_dropped, other_bound_dropped}
use Rattle.record.specs.Reservations.{permitted_of, permitted_sum}
use Rattle.steps.specs.Call.{Terms}
use Rattle.opening.specs.Opening.{opened_head, all_emptied, all_dropped, opened_record}

-- a whole record with the head that Open writes, and as many queues as before
record Opened (p : List ℕ) (t : Terms) (l : List ℕ) : Type 0 where
  whole : Whole l
  opened : open_at l ≡ true
  count : queues_at l ≡ queues_at p
  prior : prior_at l ≡ 0
  epochs : delay_at l ≡ t.delay
  octets : link_at l ≡ t.link
  waits : waits_at l ≡ 0

-- as it is written, field after field
head_opened : (p : List ℕ) (t : Terms) → Whole p → Opened p t (opened_head p t)
head_opened p t h =
    let a = with_open p in
    let b = with_prior a 0 in
    let c = with_delay b t.delay in
    let d = with_link c t.link in
    let in_a : Whole a = omega (arith, length_open p) in
    let in_b : Whole b = omega (arith, (keeps_prior a 0).long) in
    let in_c : Whole c = omega (arith, length_delay b t.delay) in
    let in_d : Whole d = omega (arith, length_link c t.link) in
    record {
      whole = omega (arith, (keeps_waits d 0).long);
      opened = (keeps_waits d 0).opened ∙ open_link c t.link ∙ open_delay b t.delay ∙ (keeps_prior a 0).opened ∙ open_open p h;
      count = (keeps_waits d 0).queues ∙ queues_link c t.link ∙ queues_delay b t.delay ∙ (keeps_prior a 0).queues ∙ queues_open p;
      prior = prior_waits d 0 ∙ prior_link c t.link ∙ prior_delay b t.delay ∙ prior_prior a 0 in_a;
      epochs = (keeps_waits d 0).delay ∙ delay_link c t.link ∙ delay_delay b t.delay in_b;
      octets = (keeps_waits d 0).link ∙ link_link c t.link in_c;
      waits = waits_waits d 0 in_d;
    }

-- emptying a queue and dropping a stream leave the head
queue_leaves : (p : List ℕ) (t : Terms) (q : ℕ) (l : List ℕ) → Opened p t l → Opened p t (with_queue l q empty_queue)
queue_leaves p t q l o =
    record {
      whole = omega (arith, length_queue l q empty_queue, o.whole);
      opened = open_queue l q empty_queue ∙ o.opened;
      count = queues_queue l q empty_queue ∙ o.count;
      prior = prior_queue l q empty_queue ∙ o.prior;
      epochs = delay_queue l q empty_queue ∙ o.epochs;
      octets = link_queue l q empty_queue ∙ o.octets;
      waits = waits_queue l q empty_queue ∙ o.waits;
    }

dropped_leaves : (p : List ℕ) (t : Terms) (s : ℕ) (l : List ℕ) → Opened p t l → Opened p t (dropped l s)
dropped_leaves p t s l o =
    record {
      whole = omega (arith, length_dropped l s, o.whole);
      opened = open_dropped l s ∙ o.opened;
      count = queues_dropped l s ∙ o.count;
      prior = prior_dropped l s ∙ o.prior;
      epochs = delay_dropped l s ∙ o.epochs;
      octets = link_dropped l s ∙ o.octets;
      waits = waits_dropped l s ∙ o.waits;
    }

-- after each turn of emptying, its queue is empty
emptied : (l : List ℕ) (q : ℕ) → q < queues_at l + 1 → Whole (all_emptied l) → queue_at (all_emptied l) q ≡ empty_queue
emptied l q b whole =
    iterate_each (λ r k. Whole k → r < queues_at l + 1 → queue_at k r ≡ empty_queue) (λ r k. with_queue k r empty_queue) (queues_at l + 1) l
    (λ r k w c. queue_queue k r empty_queue (omega (arith, length_queue k r empty_queue, w)) (omega (arith, queues_most l)))
    (λ r i k h g w c. other_queue k i empty_queue r (λ e. omega arith) ∙ g (omega (arith, length_queue k i empty_queue, w)) c)
    q b whole b

-- and after each turn of dropping, its stream is neither reserved nor bound, and its draining is ended
abbrev Free : ℕ → List ℕ → Type 0
Free s l = Whole l → s < stream_count → ((stream_at l s).reserved ≡ false) × ((bound_at l s ≡ false) × (drain_at l s ≡ 0))

freed : (l : List ℕ) (s : ℕ) → s < stream_count → Free s (all_dropped l)
freed l s b =
    iterate_each Free (λ t k. dropped k t) stream_count l
    (λ t k w c.
    let whole : Whole k = omega (arith, length_dropped k t, w) in
    (stream_dropped k t whole c, (bound_dropped k t whole c, drain_dropped k t whole c)))
    (λ t i k h g w c.
    let free = g (omega (arith, length_dropped k i, w)) c in (
      ap (λ (x : Stream). x.reserved) (other_stream_dropped k i t (λ e. omega arith)) ∙ free.0,
      (other_bound_dropped k i t (λ e. omega arith) ∙ free.1.0, other_drain_dropped k i t (λ e. omega arith) ∙ free.1.1),
    ))
    s b

module _ (p : List ℕ) (t : Terms) (h : Whole p) where
  -- the head, after all queues and then all streams
  emptied_head : Opened p t (all_emptied (opened_head p t))
  emptied_head =
      iterate_keeps (Opened p t) (λ q l. with_queue l q empty_queue) (queues_at (opened_head p t) + 1) (opened_head p t) (queue_leaves p t) (head_opened p t h)

  record_opened : Opened p t (opened_record p t)
  unfolding opened_record
  record_opened = iterate_keeps (Opened p t) (λ s l. dropped l s) stream_count (all_emptied (opened_head p t)) (dropped_leaves p t) emptied_head

  -- the port is open and has as many queues as before, prior is queue 0, K and L are those given, W is 0
  pub opened_whole : Whole (opened_record p t)
  opened_whole = record_opened.whole

  pub opened_open : open_at (opened_record p t) ≡ true
  opened_open = record_opened.opened

  pub opened_queues : queues_at (opened_record p t) ≡ queues_at p
  opened_queues = record_opened.count

  pub opened_prior : prior_at (opened_record p t) ≡ 0
  opened_prior = record_opened.prior

  pub opened_delay : delay_at (opened_record p t) ≡ t.delay
  opened_delay = record_opened.epochs

  pub opened_link : link_at (opened_record p t) ≡ t.link
  opened_link = record_opened.octets

  pub opened_waits : waits_at (opened_record p t) ≡ 0
  opened_waits = record_opened.waits

  -- every queue is empty
  pub opened_queue : (q : ℕ) → q < queues_at p + 1 → queue_at (opened_record p t) q ≡ empty_queue
  unfolding opened_record
  opened_queue q b =
      iterate_keeps (λ l. queue_at l q ≡ empty_queue) (λ s l. dropped l s) stream_count (all_emptied (opened_head p t))
      (λ s l g. queue_dropped l s q (omega (arith, queues_most p)) ∙ g)
      (emptied (opened_head p t) q (omega (arith, (head_opened p t h).count)) emptied_head.whole)

  -- no stream is reserved, and none is bound
  pub opened_stream : (s : ℕ) → s < stream_count → (stream_at (opened_record p t) s).reserved ≡ false
  unfolding opened_record
  opened_stream s b = (freed (all_emptied (opened_head p t)) s b opened_whole b).0

  pub opened_bound : (s : ℕ) → s < stream_count → bound_at (opened_record p t) s ≡ false
  unfolding opened_record
  opened_bound s b = (freed (all_emptied (opened_head p t)) s b opened_whole b).1.0

  -- "Open ends all draining"
  pub opened_drain : (s : ℕ) → s < stream_count → drain_at (opened_record p t) s ≡ 0
  unfolding opened_record
  opened_drain s b = (freed (all_emptied (opened_head p t)) s b opened_whole b).1.1

  -- so R is 0
  pub opened_sum : permitted_sum (opened_record p t) ≡ 0
  opened_sum = sum_to_same (λ s. permitted_of (stream_at (opened_record p t) s)) (λ s. 0) stream_count (λ s b. rw (opened_stream s b)) ∙ sum_to_none stream_count

-- the record stays as long as it was
pub length_opened : (p : List ℕ) (t : Terms) → length (opened_record p t) ≡ length p
unfolding opened_record
length_opened p t =
    let a = with_open p in
    let b = with_prior a 0 in
    let c = with_delay b t.delay in
    iterate_keeps (λ l. length l ≡ length p) (λ s l. dropped l s) stream_count (all_emptied (opened_head p t)) (λ s l e. length_dropped l s ∙ e)
    (iterate_keeps (λ l. length l ≡ length p) (λ q l. with_queue l q empty_queue) (queues_at (opened_head p t) + 1) (opened_head p t) (λ q l e. length_queue l q empty_queue ∙ e)
    ((keeps_waits (with_link c t.link) 0).long ∙ length_link c t.link ∙ length_delay b t.delay ∙ (keeps_prior a 0).long ∙ length_open p))
