-- A list of calls, from a port that holds a view on, is a run of the views. Assumes nothing.
use Prim.Native.Nat.{ℕ, suc, ◌-◌, ◌<◌}
use mathlib.Core.Bool.{Bool, true, false, cond}
use mathlib.Core.Path.{◌≡◌, refl, sym, ap, ap₂, subst, ◌∙◌}
use mathlib.Core.Logic.{inl, inr}
use mathlib.Core.List.{List, [], ◌∷◌, ◌++◌}
use native.Mathlib.Omega.{arith}
use lib.ListN.{length, get_or, length-append}
use Rattle.lists.specs.Each.{All}
use Rattle.lists.proofs.EachLaws.{differ, get_or_before, get_or_last}
use Rattle.record.specs.Queues.{last_place_at}
use Rattle.record.proofs.QueueLaws.{queues_least}
use Rattle.ranges.specs.Ranges.{share_of}
use Rattle.header.specs.Header.{charge_of, length_fits}
use Rattle.fitness.specs.Fit.{record_fits}
use Rattle.steps.specs.Outcome.{Outcome}
use Rattle.std.specs.Prelude.{Option, Some, None}
use Rattle.binding.specs.Finding.{frame_lookup}
use Rattle.steps.specs.Call.{Call, opening, reserving, withdrawing, arriving, ticking, transmitting, joining_best_effort, binding, framing}
use Rattle.gates.specs.Becoming.{becoming}
use Rattle.port.specs.Calls.{called}
use Rattle.port.specs.Quick.{quickly_called}
use Rattle.port_laws.specs.Counting.{action_of, counts_as}
use Rattle.port_laws.proofs.GateNumbers.{Own}
use Rattle.port_laws.proofs.SameLength.{memory_length_lem}
use Rattle.port_laws.proofs.FrameLaws.{frame_becomes}
use Rattle.port_laws.proofs.QuickLaws.{quick_call}
use Rattle.port_laws.proofs.StayLaws.{stays_fit}
use Rattle.guarantee.specs.Events.{Marked, Sent, reserved_sent, best_effort_sent, none, brought_by, is_transmit, marked, Made, made, sent_by, Event, events_after}
use Rattle.guarantee.specs.Claims.{SameRecord, SaysWhatItSends, AlikeMarked, NotByHost}
use Rattle.guarantee.proofs.Run.{View, Effect, Run}
use Rattle.guarantee.proofs.CallLaws.{sends_none}
use Rattle.guarantee.proofs.Room.{Sound, stays_sound}
use Rattle.guarantee.proofs.Tied.{tied_later}
use Rattle.guarantee.proofs.Held.{Holds, in_role}
use Rattle.guarantee.proofs.Next.{Moved, Next}
use Rattle.guarantee.proofs.NextReserve.{next_reserve, next_open}
use Rattle.guarantee.proofs.NextWithdraw.{next_withdraw}
use Rattle.guarantee.proofs.NextBestEffort.{next_best_effort}
use Rattle.guarantee.proofs.NextBind.{next_bind}
use Rattle.guarantee.proofs.NextFrame.{next_refused_frame}
use Rattle.guarantee.proofs.NextArrive.{next_arrive}
use Rattle.guarantee.proofs.NextTick.{next_tick}
use Rattle.guarantee.proofs.NextTransmit.{next_transmit}

-- what holds of a port holds after one more call, of which nothing is known yet
module _ (earlier : List Call) (c : Call) where
  abbrev with_call : List Call
  with_call = earlier ++ (c ∷ [])

  holds_later : (link : ℕ) (p m k : List ℕ) (v : View) (best : List Marked) → Holds earlier link p m k v best → Holds with_call link p m k v best
  holds_later link p m k v best h =
      record {
        fit = h.fit;
        fit_marked = h.fit_marked;
        long = h.long;
        long_marked = h.long_marked;
        opened = h.opened;
        octets = h.octets;
        streams = h.streams;
        queues = λ role b. tied_later earlier reserved_sent c (in_role p m role) (in_role p k role) (v.queue role) (h.queues role b);
        above = h.above;
        waits = tied_later earlier best_effort_sent c _ _ best h.waits;
      }

  moved_later : (p q m k : List ℕ) (w : View) (best : List Marked) → Moved earlier p q m k w best → Moved with_call p q m k w best
  moved_later p q m k w best h =
      record {
        keeps = h.keeps;
        streams = h.streams;
        queues = λ role b. tied_later earlier reserved_sent c (in_role q m role) (in_role q k role) (w.queue role) (h.queues role b);
        above = h.above;
        waits = tied_later earlier best_effort_sent c _ _ best h.waits;
      }

  -- its place in the list
  counted : length earlier < length with_call
  counted = omega (arith, length-append earlier (c ∷ []))

module _ (earlier : List Call) (link : ℕ) (p m k : List ℕ) (v : View) where
  -- what a call that counts as d leaves, by the calls up to it
  abbrev pub AfterAs : Call → Outcome → Outcome → Type 0
  AfterAs d o u = Next earlier (with_call earlier d) (length earlier) link p m k v d o u

  abbrev pub After : Call → Type 0
  After c = AfterAs (counts_as p c) (called c p m) (called (marked (length earlier) c) p k)

  -- a call that sends nothing sends nothing by whichever calls
  no_sender : (c : Call) (all : List Call) (o u : Outcome) → is_transmit (action_of c) ≡ false → Next all all (length earlier) link p m k v c o u → Next earlier all (length earlier) link p m k v c o u
  no_sender c all o u h x =
      record {
        view = x.view;
        best = x.best;
        effect =
            subst (λ (t : Sent). Effect (last_place_at p) (share_of link) (length earlier) v x.view o.reply t (action_of c))
            (sends_none all c u.reply h ∙ sym (sends_none earlier c u.reply h))
            x.effect;
        same = x.same;
        moved = x.moved;
        says = λ e. differ (sym e ∙ h);
        marks = x.marks;
        not_lent = x.not_lent;
      }

  -- a transmit sends by the calls before it, and brings no frame
  sender : (c : Call) (o u : Outcome) → Next earlier earlier (length earlier) link p m k v c o u → Next earlier (with_call earlier c) (length earlier) link p m k v c o u
  sender c o u x =
      record {
        view = x.view;
        best = x.best;
        effect = x.effect;
        same = x.same;
        moved = moved_later earlier c p o.port o.memory u.memory x.view x.best x.moved;
        says = x.says;
        marks = x.marks;
        not_lent = x.not_lent;
      }

  -- any call
  module _ (best : List Marked) (h : Holds earlier link p m k v best) (sound : Sound (last_place_at p) (share_of link) v) (first : brought_by 0 (action_of (get_or earlier 0 ticking)) ≡ none) where
    abbrev held : (c : Call) → Holds (with_call earlier c) link p m k v best
    held c = holds_later earlier c link p m k v best h

    -- a call that brings a frame
    next_arriving : (s charge tag : ℕ) → After (arriving s charge tag)
    next_arriving s charge tag =
        let c = arriving s charge tag in
        no_sender c _ _ _ refl
        (next_arrive (with_call earlier c) (length earlier) link p m k v best (held c) sound s charge tag (counted earlier c) (get_or_last earlier c ticking))

    next_joining : (charge tag : ℕ) → After (joining_best_effort charge tag)
    next_joining charge tag =
        let c = joining_best_effort charge tag in
        no_sender c _ _ _ refl
        (next_best_effort (with_call earlier c) (length earlier) link p m k v best (held c) charge tag (counted earlier c) (get_or_last earlier c ticking))

    -- a Frame, as what it becomes
    next_becoming : (octets : List ℕ) (tag : ℕ) (found : Option ℕ)
        → AfterAs (becoming octets tag found) (called (becoming octets tag found) p m) (called (becoming octets (length earlier) found) p k)
    next_becoming octets tag (Some s) = next_arriving s (charge_of octets) tag
    next_becoming octets tag None = next_joining (charge_of octets) tag

    next_framing : (octets : List ℕ) (tag : ℕ) → After (framing octets tag)
    next_framing octets tag = told (length_fits octets) refl
      where
        told : (b : Bool) → length_fits octets ≡ b
            → AfterAs (cond b (becoming octets tag (frame_lookup p octets)) (framing octets tag)) (called (framing octets tag) p m) (called (framing octets (length earlier)) p k)
        told true fits =
            let d = becoming octets tag (frame_lookup p octets) in
            subst (λ (o : Outcome). AfterAs d o (called (framing octets (length earlier)) p k)) (sym (frame_becomes p m octets tag fits))
            (subst (AfterAs d (called d p m)) (sym (frame_becomes p k octets (length earlier) fits)) (next_becoming octets tag (frame_lookup p octets)))
        told false short =
            let c = framing octets tag in
            no_sender c _ _ _ refl (next_refused_frame (with_call earlier c) (length earlier) link p m k v best (held c) octets tag short)

    next_call : (c : Call) → After c
    next_call (opening t) =
        no_sender (opening t) _ _ _ refl (next_open (with_call earlier (opening t)) (length earlier) link p m k v best (held (opening t)) t)
    next_call (reserving s permitted) =
        no_sender (reserving s permitted) _ _ _ refl
        (next_reserve (with_call earlier (reserving s permitted)) (length earlier) link p m k v best (held (reserving s permitted)) s permitted)
    next_call (withdrawing s) =
        no_sender (withdrawing s) _ _ _ refl
        (next_withdraw (with_call earlier (withdrawing s)) (length earlier) link p m k v best (held (withdrawing s)) s)
    next_call (arriving s charge tag) = next_arriving s charge tag
    next_call ticking = no_sender ticking _ _ _ refl (next_tick (with_call earlier ticking) (length earlier) link p m k v best (held ticking))
    next_call transmitting = sender transmitting _ _ (next_transmit earlier (length earlier) link p m k v best h first)
    next_call (joining_best_effort charge tag) = next_joining charge tag
    next_call (binding s address vid) =
        let c = binding s address vid in
        no_sender c _ _ _ refl (next_bind (with_call earlier c) (length earlier) link p m k v best (held c) s address vid)
    next_call (framing octets tag) = next_framing octets tag

  -- the port holds the view after a call
  holds_next : (best : List Marked) (c : Call) → Holds earlier link p m k v best → (next : After c)
      → Holds (with_call earlier (counts_as p c)) link (called c p m).port (called c p m).memory (called (marked (length earlier) c) p k).memory next.view next.best
  holds_next best c h next =
      let moved = next.moved in
      let count = moved.keeps.1.1 in
      record {
        fit = stays_fit c p m h.fit;
        fit_marked =
            subst (λ (l : List ℕ). record_fits l (called (marked (length earlier) c) p k).memory ≡ true) next.same
            (stays_fit (marked (length earlier) c) p k h.fit_marked);
        long = omega (arith, memory_length_lem c p m, count, h.long);
        long_marked = omega (arith, memory_length_lem (marked (length earlier) c) p k, count, h.long_marked);
        opened = moved.keeps.0 ∙ h.opened;
        octets = moved.keeps.1.0 ∙ h.octets;
        streams = moved.streams;
        queues = λ role b. moved.queues role (omega (arith, count));
        above = λ role b. moved.above role (omega (arith, count));
        waits = rw count moved.waits;
      }

-- what is shown of the calls that were made after `earlier`, and of their events, on a port with this last place
pub record Plays (last link n : ℕ) (v : View) (earlier : List Call) (xs : List Made) : Type 0 where
  pub run : Run last (share_of link) n v (events_after earlier xs)
  pub records : All SameRecord xs
  pub says : All SaysWhatItSends (events_after earlier xs)
  pub marks : All AlikeMarked (events_after earlier xs)
  pub not_by_host : All NotByHost (events_after earlier xs)

-- a call's own refusal is none of the host's
not_lent : (e : Event) → Own e.reply.refusal → NotByHost e
not_lent e (inl h) = (λ z. omega arith, (λ z. omega arith, λ z. omega arith))
not_lent e (inr h) = (λ z. omega arith, (λ z. omega arith, λ z. omega arith))

-- the first call brings no frame
abbrev pub FirstBringsNone : List Call → Type 0
FirstBringsNone earlier = (0 < length earlier) × (brought_by 0 (action_of (get_or earlier 0 ticking)) ≡ none)

first_later : (earlier : List Call) (c : Call) → FirstBringsNone earlier → FirstBringsNone (earlier ++ (c ∷ []))
first_later earlier c h = (omega (arith, h.0, length-append earlier (c ∷ [])), ap (λ (d : Call). brought_by 0 (action_of d)) (get_or_before earlier c ticking 0 h.0) ∙ h.1)

-- a call that was made, with its outcome and that of the marked one, and its event
abbrev pub one : Call → Outcome → Outcome → Made
one d o u = record { call = d; real = o; shown = u }

abbrev event : List Call → Made → Event
event earlier x = record { call = x.call; reply = x.real.reply; shown = x.shown.reply; sent = sent_by earlier x.call x.shown.reply }

module _ (last link : ℕ) where
  -- what is to be shown of the calls cs: on record p, with this last place, and memory m, and marked on record q, which is p, and memory k
  abbrev PlaysOn : List Call → Type 0
  PlaysOn cs =
      (earlier : List Call) (p m q k : List ℕ) (v : View) (best : List Marked) → Holds earlier link p m k v best → last_place_at p ≡ last → Sound last (share_of link) v
      → FirstBringsNone earlier → q ≡ p → Plays last link (length earlier) v earlier (made called earlier cs p m q k)

  plays_one : (c : Call) (cs : List Call) → PlaysOn cs → (earlier : List Call) (p m k : List ℕ) (v : View) (best : List Marked) → Holds earlier link p m k v best
      → last_place_at p ≡ last → Sound last (share_of link) v → FirstBringsNone earlier → Plays last link (length earlier) v earlier (made called earlier (c ∷ cs) p m p k)
  plays_one c cs rest earlier p m k v best h count sound first =
      let next = next_call earlier link p m k v best h (subst (λ (place : ℕ). Sound place (share_of link) v) (sym count) sound) first.1 c in
      let d = counts_as p c in
      let o = called c p m in
      let u = called (marked (length earlier) c) p k in
      let effect = subst (λ (place : ℕ). Effect place (share_of link) (length earlier) v next.view o.reply (sent_by earlier d u.reply) (action_of d)) count next.effect in
      let xs = made called (earlier ++ (d ∷ [])) cs o.port o.memory u.port u.memory in
      let one_more : length (earlier ++ (d ∷ [])) ≡ suc (length earlier) = omega (arith, length-append earlier (d ∷ [])) in
      let later : Plays last link (suc (length earlier)) next.view (earlier ++ (d ∷ [])) xs =
      subst (λ (n : ℕ). Plays last link n next.view (earlier ++ (d ∷ [])) xs) one_more
      (rest (earlier ++ (d ∷ [])) o.port o.memory u.port u.memory next.view next.best (holds_next earlier link p m k v best c h next)
      (ap (λ (q : ℕ). q - 1) next.moved.keeps.1.1 ∙ count)
      (stays_sound last (share_of link) (length earlier) v next.view o.reply _ (action_of d) (omega (arith, queues_least p)) effect sound)
      (first_later earlier d first) next.same) in
      record {
        run = (next.view, effect, later.run);
        records = (next.same, later.records);
        says = (next.says, later.says);
        marks = (next.marks, later.marks);
        not_by_host = (not_lent (event earlier (one d o u)) next.not_lent, later.not_by_host);
      }

  pub plays : (cs : List Call) → PlaysOn cs
  plays [] = λ earlier p m q k v best h count sound first same. record { run = tt; records = tt; says = tt; marks = tt; not_by_host = tt }
  plays (c ∷ cs) = λ earlier p m q k v best h count sound first same.
      subst (λ (q : List ℕ). Plays last link (length earlier) v earlier (made called earlier (c ∷ cs) p m q k)) (sym same)
      (plays_one c cs (plays cs) earlier p m k v best h count sound first)

  -- the quick calls, which do not scan the record, do the same
  abbrev QuickOn : List Call → Type 0
  QuickOn cs =
      (earlier : List Call) (p m q k : List ℕ) (v : View) (best : List Marked) → Holds earlier link p m k v best → last_place_at p ≡ last → Sound last (share_of link) v
      → FirstBringsNone earlier → q ≡ p → made quickly_called earlier cs p m q k ≡ made called earlier cs p m q k

  quick_one : (c : Call) (cs : List Call) → QuickOn cs → (earlier : List Call) (p m k : List ℕ) (v : View) (best : List Marked) → Holds earlier link p m k v best
      → last_place_at p ≡ last → Sound last (share_of link) v → FirstBringsNone earlier → made quickly_called earlier (c ∷ cs) p m p k ≡ made called earlier (c ∷ cs) p m p k
  quick_one c cs rest earlier p m k v best h count sound first =
      let next = next_call earlier link p m k v best h (subst (λ (place : ℕ). Sound place (share_of link) v) (sym count) sound) first.1 c in
      let d = counts_as p c in
      let o = called c p m in
      let u = called (marked (length earlier) c) p k in
      let effect = subst (λ (place : ℕ). Effect place (share_of link) (length earlier) v next.view o.reply (sent_by earlier d u.reply) (action_of d)) count next.effect in
      ap₂ (λ (x y : Outcome). one d x y ∷ made quickly_called (earlier ++ (d ∷ [])) cs x.port x.memory y.port y.memory)
      (quick_call c p m h.fit) (quick_call (marked (length earlier) c) p k h.fit_marked)
      ∙ ap (λ (xs : List Made). one d o u ∷ xs)
      (rest (earlier ++ (d ∷ [])) o.port o.memory u.port u.memory next.view next.best (holds_next earlier link p m k v best c h next)
      (ap (λ (q : ℕ). q - 1) next.moved.keeps.1.1 ∙ count)
      (stays_sound last (share_of link) (length earlier) v next.view o.reply _ (action_of d) (omega (arith, queues_least p)) effect sound)
      (first_later earlier d first) next.same)

  pub quick_plays : (cs : List Call) → QuickOn cs
  quick_plays [] = λ earlier p m q k v best h count sound first same. refl
  quick_plays (c ∷ cs) = λ earlier p m q k v best h count sound first same.
      subst (λ (q : List ℕ). made quickly_called earlier (c ∷ cs) p m q k ≡ made called earlier (c ∷ cs) p m q k) (sym same)
      (quick_one c cs (quick_plays cs) earlier p m k v best h count sound first)
