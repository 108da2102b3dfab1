-- What the record and the memory hold of a view: the streams, the queues by their roles, and best effort. Assumes nothing.
use Prim.Native.Nat.{ℕ, ◌≤◌, ◌<◌}
use mathlib.Core.Bool.{Bool, true, false, not, ◌&&◌, cond}
use mathlib.Core.Path.{◌≡◌, refl, sym, ap, ap₂, ◌∙◌}
use mathlib.Core.Logic.{⊎_elim}
use mathlib.Core.List.{List, []}
use borrow.Author.Tests.{lt-ltb, le-ltb, lt-leb, le-leb, eq-eqb, ne_eqb, eqb-true, not-false}
use lib.Dec.{ltb, eqb}
use Rattle.lists.proofs.TurnLaws.{sum_to_same}
use Rattle.lists.proofs.Order.{le_or_lt, eq_or_not}
use Rattle.queue.specs.declared.Frame.{Frame}
use Rattle.queue.specs.Waiting.{waiting}
use Rattle.record.specs.Layout.{stream_count}
use Rattle.record.specs.Queues.{queues_at, best_effort_at, HasMemory}
use Rattle.record.specs.Head.{open_at, prior_at, link_at, queue_at}
use Rattle.record.specs.Entry.{stream_at, drain_at, drains_at}
use Rattle.record.specs.Reservations.{permitted_of as reservedP, permitted_sum}
use Rattle.fitness.specs.Fit.{record_fits}
use Rattle.steps.specs.Roles.{role_at}
use Rattle.steps.proofs.RoleLaws.{role_same}
use Rattle.ranges.specs.Ranges.{share_of}
use Rattle.gates.specs.Refusals.{reserve_refusal, withdraw_refusal, arrive_refusal}
use Rattle.steps.specs.Call.{Call}
use Rattle.guarantee.specs.Events.{Marked, reserved_sent, best_effort_sent}
use Rattle.guarantee.proofs.Reservation.{Reservation, reservation, free, draining, arrival_refusal, withdrawal_refusal, reservation_refusal}
use Rattle.guarantee.proofs.Run.{View, permitted_of}
use Rattle.guarantee.proofs.Tied.{Tied}

-- a stream of the record with its draining count
abbrev pub reservation_at : List ℕ → ℕ → Reservation
reservation_at p s = reservation (stream_at p s) (drain_at p s)

-- it is as it was where both are
pub same_reservation : (p q : List ℕ) (s : ℕ) → stream_at q s ≡ stream_at p s → drain_at q s ≡ drain_at p s → reservation_at q s ≡ reservation_at p s
same_reservation p q s = ap₂ reservation

-- as it is seen: free where it is not reserved, or is none of the port's
abbrev pub seen : Reservation → Reservation
seen x = cond x.stream.reserved x free

abbrev pub seen_at : List ℕ → ℕ → Reservation
seen_at p s = cond (ltb s stream_count) (seen (reservation_at p s)) free

-- the frames of the queue in a role
abbrev pub in_role : List ℕ → List ℕ → ℕ → List Frame
in_role p m role = waiting m (role_at p role) (queue_at p (role_at p role))

-- record p, memory m and the memory k of the marked calls hold the view v; `best` are the frames in best effort
pub record Holds (all : List Call) (link : ℕ) (p m k : List ℕ) (v : View) (best : List Marked) : Type 0 where
  pub fit : record_fits p m ≡ true
  pub fit_marked : record_fits p k ≡ true
  pub long : HasMemory p m
  pub long_marked : HasMemory p k
  pub opened : open_at p ≡ true
  pub octets : link_at p ≡ link
  pub streams : (s : ℕ) → v.stream s ≡ seen_at p s
  pub queues : (role : ℕ) → role < queues_at p → Tied all reserved_sent (in_role p m role) (in_role p k role) (v.queue role)
  pub above : (role : ℕ) → queues_at p ≤ role → v.queue role ≡ []
  pub waits : Tied all best_effort_sent (waiting m (best_effort_at p) (queue_at p (best_effort_at p))) (waiting k (best_effort_at p) (queue_at p (best_effort_at p))) best

-- a stream of the port is seen as it is in the record, any other as free
pub seen_below : (p : List ℕ) (s : ℕ) → s < stream_count → seen_at p s ≡ seen (reservation_at p s)
seen_below p s b = rw (lt-ltb s stream_count b)

pub seen_above : (p : List ℕ) (s : ℕ) → stream_count ≤ s → seen_at p s ≡ free
seen_above p s a = rw (le-ltb s stream_count a)

-- the sum of P
seen_permitted : (x : Reservation) → (seen x).stream.permitted ≡ reservedP x.stream
seen_permitted x = told x.stream.reserved
  where
    told : (b : Bool) → (cond b x free).stream.permitted ≡ cond b x.stream.permitted 0
    told true = refl
    told false = refl

pub seen_sum : (p : List ℕ) (v : View) → ((s : ℕ) → v.stream s ≡ seen_at p s) → permitted_of v ≡ permitted_sum p
seen_sum p v streams =
    sum_to_same _ _ stream_count (λ s b. ap (λ (x : Reservation). x.stream.permitted) (streams s ∙ seen_below p s b) ∙ seen_permitted (reservation_at p s))

-- whether a stream is reserved
pub seen_reserved : (x : Reservation) → (seen x).stream.reserved ≡ x.stream.reserved
seen_reserved x = told x.stream.reserved refl
  where
    told : (b : Bool) → x.stream.reserved ≡ b → (cond b x free).stream.reserved ≡ b
    told true e = e
    told false e = refl

pub seen_as_is : (x : Reservation) → x.stream.reserved ≡ true → seen x ≡ x
seen_as_is x e = rw e

pub seen_free : (x : Reservation) → x.stream.reserved ≡ false → seen x ≡ free
seen_free x e = rw e

-- and whether it drains
seen_drains : (p : List ℕ) (s : ℕ) → draining (seen (reservation_at p s)) ≡ drains_at p s
unfolding drains_at
seen_drains p s = told (stream_at p s).reserved
  where
    told : (b : Bool) → draining (cond b (reservation_at p s) free) ≡ (b && not (eqb (drain_at p s) 0))
    told true = refl
    told false = refl

-- a reserved stream that does not drain has no ticks to go
pub drains_none : (p : List ℕ) (s : ℕ) → drains_at p s ≡ false → (stream_at p s).reserved ≡ true → drain_at p s ≡ 0
unfolding drains_at
drains_none p s keeps is = eqb-true (drain_at p s) 0 (not-false (eqb (drain_at p s) 0) (sym (ap (λ (b : Bool). b && not (eqb (drain_at p s) 0)) is) ∙ keeps))

-- so the refusals of an arrival, of a withdrawal and of a reservation are those that the view gives
module _ (p : List ℕ) (s : ℕ) (opened : open_at p ≡ true) where
  pub arrival_refusal_lem : (a : ℕ) → arrive_refusal p s a ≡ arrival_refusal s (seen_at p s) a
  unfolding arrive_refusal
  arrival_refusal_lem a =
      ⊎_elim
      (λ (above : stream_count ≤ s). rw (opened, le-leb stream_count s above))
      (λ (below : s < stream_count).
      rw (opened, lt-leb stream_count s below, seen_below p s below, seen_drains p s, seen_reserved (reservation_at p s)))
      (le_or_lt stream_count s)

  pub withdrawal_refusal_lem : withdraw_refusal p s ≡ withdrawal_refusal s (seen_at p s)
  unfolding withdraw_refusal
  withdrawal_refusal_lem =
      ⊎_elim
      (λ (above : stream_count ≤ s). rw (opened, le-leb stream_count s above))
      (λ (below : s < stream_count).
      rw (opened, lt-leb stream_count s below, seen_below p s below, seen_drains p s, seen_reserved (reservation_at p s)))
      (le_or_lt stream_count s)

  pub reservation_refusal_lem : (permitted : ℕ) → reserve_refusal p s permitted ≡ reservation_refusal (share_of (link_at p)) (permitted_sum p) s (seen_at p s) permitted
  unfolding reserve_refusal
  reservation_refusal_lem permitted =
      ⊎_elim
      (λ (above : stream_count ≤ s). rw (opened, le-leb stream_count s above))
      (λ (below : s < stream_count).
      rw (opened, lt-leb stream_count s below, seen_below p s below, seen_drains p s, seen_reserved (reservation_at p s)))
      (le_or_lt stream_count s)

-- a role's frames are as they were where its queue is
pub role_kept : (p q m : List ℕ) (role : ℕ) → prior_at q ≡ prior_at p → queues_at q ≡ queues_at p → queue_at q (role_at p role) ≡ queue_at p (role_at p role) → in_role q m role ≡ in_role p m role
role_kept p q m role prior count queue = rw (role_same p q role prior count, queue)

-- the streams of a view with stream s changed
abbrev pub changed : View → ℕ → Reservation → ℕ → Reservation
changed v s x i = cond (eqb i s) x (v.stream i)

pub changed_here : (v : View) (s : ℕ) (x : Reservation) → changed v s x s ≡ x
changed_here v s x = rw (eq-eqb s s refl)

pub changed_else : (v : View) (s : ℕ) (x : Reservation) (i : ℕ) → (i ≡ s → ⊥) → changed v s x i ≡ v.stream i
changed_else v s x i o = rw (ne_eqb i s o)

-- the record with a reserved stream written is seen so
pub changed_seen : (p q : List ℕ) (v : View) (s : ℕ) (x : Reservation) → s < stream_count → ((i : ℕ) → v.stream i ≡ seen_at p i)
    → reservation_at q s ≡ x → x.stream.reserved ≡ true
    → ((i : ℕ) → i < stream_count → (i ≡ s → ⊥) → reservation_at q i ≡ reservation_at p i)
    → (i : ℕ) → changed v s x i ≡ seen_at q i
changed_seen p q v s x below streams here is others i =
    ⊎_elim
    (λ (e : i ≡ s). rw e (changed_here v s x ∙ sym (seen_below q s below ∙ ap seen here ∙ seen_as_is x is)))
    (λ (o : i ≡ s → ⊥). changed_else v s x i o ∙ streams i ∙
    ⊎_elim
    (λ (above : stream_count ≤ i). seen_above p i above ∙ sym (seen_above q i above))
    (λ (b : i < stream_count). seen_below p i b ∙ ap seen (sym (others i b o)) ∙ sym (seen_below q i b))
    (le_or_lt stream_count i))
    (eq_or_not i s)

-- the record with the same streams is seen the same
pub same_seen : (p q : List ℕ) (v : View) → ((i : ℕ) → v.stream i ≡ seen_at p i) → ((i : ℕ) → i < stream_count → reservation_at q i ≡ reservation_at p i)
    → (i : ℕ) → v.stream i ≡ seen_at q i
same_seen p q v streams same i =
    streams i ∙
    ⊎_elim
    (λ (above : stream_count ≤ i). seen_above p i above ∙ sym (seen_above q i above))
    (λ (b : i < stream_count). seen_below p i b ∙ ap seen (sym (same i b)) ∙ sym (seen_below q i b))
    (le_or_lt stream_count i)
