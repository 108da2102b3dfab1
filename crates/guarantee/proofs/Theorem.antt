-- Demand 3, the theorem. Assumes nothing.
use Prim.Native.Nat.{ℕ, ◌+◌, ◌-◌, ◌≤◌, ◌<◌}
use mathlib.Core.Bool.{true}
use mathlib.Core.Path.{◌≡◌, refl, sym, ap, subst, ◌∙◌}
use mathlib.Core.Logic.{⊎_elim}
use mathlib.Core.List.{List, [], ◌∷◌}
use native.Mathlib.Omega.{arith}
use Rattle.lists.proofs.TurnLaws.{sum_to_none}
use Rattle.lists.proofs.EachLaws.{differ}
use Rattle.lists.proofs.Order.{le_or_lt}
use Rattle.stream.specs.State.{current_place}
use Rattle.stream.specs.Replies.{granted}
use Rattle.queue.specs.Waiting.{waiting}
use Rattle.queue.proofs.WaitingLaws.{empty_waits}
use Rattle.record.specs.Layout.{Whole, stream_count}
use Rattle.record.specs.Queues.{queues_at, last_place_at, best_effort_at, HasMemory}
use Rattle.record.specs.Head.{queue_at}
use Rattle.record.proofs.QueueLaws.{queues_least, queues_same}
use Rattle.ranges.specs.Ranges.{least_charge, share_of}
use Rattle.fitness.specs.Fit.{record_fits, lent_refusal}
use Rattle.fitness.proofs.FitLaws.{fit_record, lent_fit}
use Rattle.steps.specs.Outcome.{Outcome, gated}
use Rattle.steps.specs.Roles.{role_at}
use Rattle.steps.proofs.RoleLaws.{role_below}
use Rattle.opening.specs.Opening.{opened_record, open_step}
use Rattle.gates.specs.Refusals.{open_refusal}
use Rattle.steps.proofs.OutcomeLaws.{grants, let_through}
use Rattle.steps.specs.Call.{Terms, Call, opening}
use Rattle.port.specs.Calls.{called}
use Rattle.port.specs.Quick.{quickly_called}
use Rattle.port_laws.proofs.QuickLaws.{quick_call}
use Rattle.port_laws.proofs.StayLaws.{stays_fit}
use Rattle.port_laws.proofs.OpenLaws.{opened_open, opened_queues, opened_link, opened_queue, opened_stream}
use Rattle.guarantee.specs.Events.{reserved_sent, best_effort_sent, Made, made, Event, events_after, events}
use Rattle.guarantee.specs.Claims.{LinkCondition}
use Rattle.guarantee.specs.Demand3.{CallList, queues_in, events_in, LinkHolds, Promised, Demand3}
use Rattle.guarantee.specs.Beyond.{SentByReply, RepliedAlone, AlikeWithdrawals}
use Rattle.guarantee.specs.Withdrawal.{WithdrawalHolds}
use Rattle.guarantee.proofs.Reservation.{free}
use Rattle.guarantee.proofs.Run.{View, quiet, Run}
use Rattle.guarantee.proofs.Room.{Sound}
use Rattle.guarantee.proofs.Purge.{no_purge}
use Rattle.guarantee.proofs.Delay.{sent_by_reply, all_sent}
use Rattle.guarantee.proofs.Conforming.{prompt}
use Rattle.guarantee.proofs.OwnRun.{replied_alone}
use Rattle.guarantee.proofs.Alone.{alike, withdrawals_alike}
use Rattle.guarantee.proofs.WithdrawalRun.{withdrawal_holds}
use Rattle.guarantee.proofs.Tied.{tied_empty}
use Rattle.guarantee.proofs.Held.{Holds, reservation_at, seen_at, seen_below, seen_above, seen_free}
use Rattle.guarantee.proofs.Play.{Plays, one, plays, quick_plays}

-- a port as Open leaves it: no frame waits, no stream is reserved
abbrev empty_view : View
empty_view = record { queue = λ role. []; stream = λ s. free }

empty_sound : (last share : ℕ) → 1 ≤ last → Sound last share empty_view
empty_sound last share some =
    record {
      fit = λ s. omega arith;
      within_share = omega (arith, sum_to_none stream_count);
      room = λ role. omega arith;
      charged = λ role. tt;
    }

module _ (p m : List ℕ) (t : Terms) (is : (called (opening t) p m).reply.refusal ≡ 0) where
  abbrev opens : Outcome
  opens = gated (open_refusal p t) p m (open_step p m t)

  not_lent : lent_refusal p m ≡ 0
  not_lent = let_through (lent_refusal p m) p m opens is

  fit : record_fits p m ≡ true
  fit = (lent_fit p m not_lent).1

  -- the granted Open is its step
  open_so : called (opening t) p m ≡ open_step p m t
  open_so =
      let passed = grants (lent_refusal p m) p m opens not_lent in
      passed
      ∙ grants (open_refusal p t) p m (open_step p m t)
      (let_through (open_refusal p t) p m (open_step p m t) (sym (ap (λ (o : Outcome). o.reply.refusal) passed) ∙ is))

  whole : Whole p
  whole = (fit_record p m fit).long

  abbrev after : List ℕ
  after = opened_record p t

  no_frames : (number : ℕ) → number ≤ best_effort_at p → waiting m number (queue_at after number) ≡ []
  no_frames number b = ap (waiting m number) (opened_queue p t whole number (omega arith)) ∙ empty_waits m number

  as_many : queues_at after ≡ queues_at p
  as_many = opened_queues p t whole

  open_holds : (all : List Call) → Holds all t.link after m m empty_view []
  open_holds all =
      let fit_after : record_fits after m ≡ true =
      subst (λ (o : Outcome). record_fits o.port o.memory ≡ true) open_so (stays_fit (opening t) p m fit) in
      let long : HasMemory after m = omega (arith, as_many, (lent_fit p m not_lent).0) in
      record {
        fit = fit_after;
        fit_marked = fit_after;
        long = long;
        long_marked = long;
        opened = opened_open p t whole;
        octets = opened_link p t whole;
        streams = λ s. sym (seen_opened s);
        queues = λ role b. rw (no_frames (role_at after role) (omega (arith, role_below after role, as_many))) (tied_empty all reserved_sent);
        above = λ role b. refl;
        waits = rw (no_frames (best_effort_at after) (omega (arith, as_many))) (tied_empty all best_effort_sent);
      }
    where
      seen_opened : (s : ℕ) → seen_at after s ≡ free
      seen_opened s =
          ⊎_elim
          (λ (above : stream_count ≤ s). seen_above after s above)
          (λ (b : s < stream_count). seen_below after s b ∙ seen_free (reservation_at after s) (opened_stream p t whole s b))
          (le_or_lt stream_count s)

-- the events after the Open, from the port that it leaves
module _ (l : CallList) where
  -- the Open, and what it leaves
  abbrev first : List Call
  first = opening l.terms ∷ []

  abbrev opened : Outcome
  opened = called (opening l.terms) l.port l.memory

  opened_so : opened ≡ open_step l.port l.memory l.terms
  opened_so = open_so l.port l.memory l.terms l.opened

  opened_holds : Holds first l.terms.link opened.port opened.memory opened.memory empty_view []
  opened_holds =
      subst (λ (o : Outcome). Holds first l.terms.link o.port o.memory o.memory empty_view []) (sym opened_so)
      (open_holds l.port l.memory l.terms l.opened first)

  -- the last place of the list's port, before its Open and after it
  abbrev last : ℕ
  last = queues_in l - 1

  opened_last : last_place_at opened.port ≡ last
  opened_last =
      ap (λ (o : Outcome). last_place_at o.port) opened_so
      ∙ ap (λ (q : ℕ). q - 1) (opened_queues l.port l.terms (whole l.port l.memory l.terms l.opened))

  opened_sound : Sound last (share_of l.terms.link) empty_view
  opened_sound = empty_sound last (share_of l.terms.link) (omega (arith, queues_least l.port))

  later_plays : Plays last l.terms.link 1 empty_view first (made called first l.later opened.port opened.memory opened.port opened.memory)
  later_plays =
      plays last l.terms.link l.later first opened.port opened.memory opened.port opened.memory empty_view [] opened_holds opened_last opened_sound (omega arith, refl) refl

  -- the Open touches nothing of an empty view
  run : Run last (share_of l.terms.link) 0 empty_view (events_in l)
  run = (empty_view, quiet tt refl (λ role. refl) (λ s. refl), later_plays.run)

-- another list's, in a port with as many queues
other_run : (l other : CallList) → Run (last l) (share_of other.terms.link) 0 empty_view (events_in other)
other_run l other =
    subst (λ (place : ℕ). Run place (share_of other.terms.link) 0 empty_view (events_in other)) (ap (λ (q : ℕ). q - 1) (queues_same other.port l.port)) (run other)

-- the Open's reply tells the share
pub opened_reply : (l : CallList) → (called (opening l.terms) l.port l.memory).reply ≡ granted (share_of l.terms.link) 0
opened_reply l = ap (λ (o : Outcome). o.reply) (opened_so l)

-- what the link condition promises, whatever the number of queues, also where it asks less than the share by less than the least charge
pub promises : (last share asked : ℕ) (es : List Event) → current_place < last → share < asked + least_charge → Run last share 0 empty_view es → LinkCondition asked es
    → Promised (last + 1) es
promises last share asked es more slack run link =
    let sound = empty_sound last share (omega arith) in
    let purges = no_purge last share asked (omega arith) slack es 0 empty_view run sound link refl in
    record {
      no_purge = purges;
      all_sent = all_sent last share empty_view es (omega arith) run sound purges _ (omega arith);
      prompt = prompt last share empty_view es more run sound purges;
    }

-- of every list of calls, and beyond the demand: less than the share would do, by less than the least charge
pub promised_by_less : (l : CallList) (asked : ℕ) → share_of l.terms.link < asked + least_charge → LinkCondition asked (events_in l) → Promised (queues_in l) (events_in l)
promised_by_less l asked slack link =
    subst (λ (queues : ℕ). Promised queues (events_in l)) (omega (arith, queues_least l.port))
    (promises (last l) (share_of l.terms.link) asked (events_in l) (omega (arith, queues_least l.port)) slack (run l) link)

-- every list of calls from a granted Open
pub demand_3 : (l : CallList) → Demand3 l
demand_3 l =
    record {
      promised = promised_by_less l (share_of l.terms.link) (omega arith);
      alike = λ other s.
          alike (last l) (share_of l.terms.link) (share_of other.terms.link) s (events_in l) (events_in other) empty_view empty_view refl (run l) (other_run l other);
      records = (refl, (later_plays l).records);
      says = (λ e. differ (sym e), (later_plays l).says);
      marks = (λ e. refl, (later_plays l).marks);
      not_by_host = ((λ e. omega (arith, l.opened), (λ e. omega (arith, l.opened), λ e. omega (arith, l.opened))), (later_plays l).not_by_host);
    }

-- and a frame is sent before the tick that its reply tells
pub sent_as_replied : (l : CallList) → LinkHolds l → SentByReply (events_in l)
sent_as_replied l link =
    sent_by_reply (last l) (share_of l.terms.link) empty_view (events_in l) (omega (arith, queues_least l.port)) (run l) (opened_sound l)
    ((demand_3 l).promised link).no_purge

-- and to a stream's own offers a port replies what the stream replies by itself
pub replied_as_alone : (l : CallList) → RepliedAlone (queues_in l - 1) (events_in l)
replied_as_alone l = replied_alone (last l) (share_of l.terms.link) empty_view (events_in l) (omega (arith, queues_least l.port)) (run l) (opened_sound l)

-- and lists that are alike in one stream's own calls have the same of its withdrawals granted
pub alike_withdrawals : (l other : CallList) (s : ℕ) → AlikeWithdrawals s (events_in l) (events_in other)
alike_withdrawals l other s =
    withdrawals_alike (last l) (share_of l.terms.link) (share_of other.terms.link) s (events_in l) (events_in other) empty_view empty_view refl (run l) (other_run l other)

-- and a withdrawn stream drains until the tick whose number is that of the queues, and its number is free from that tick on
pub withdrawals : (l : CallList) → WithdrawalHolds (queues_in l) (events_in l)
withdrawals l =
    subst (λ (queues : ℕ). WithdrawalHolds queues (events_in l)) (omega (arith, queues_least l.port))
    (withdrawal_holds (last l) (share_of l.terms.link) empty_view (events_in l) (omega (arith, queues_least l.port)) (run l) (opened_sound l))

-- the quick calls, which do not scan the record, are these calls in every such list
pub quick_events_lem : (l : CallList) → events quickly_called (opening l.terms ∷ l.later) l.port l.memory ≡ events_in l
quick_events_lem l =
    let c = opening l.terms in
    let same = quick_call c l.port l.memory (fit l.port l.memory l.terms l.opened) in
    ap (events_after [])
    (ap (λ (o : Outcome). one c o o ∷ made quickly_called (first l) l.later o.port o.memory o.port o.memory) same
    ∙ ap (λ (xs : List Made). one c (opened l) (opened l) ∷ xs)
    (quick_plays (last l) l.terms.link l.later (first l) (opened l).port (opened l).memory (opened l).port (opened l).memory empty_view [] (opened_holds l) (opened_last l) (opened_sound l) (omega arith, refl) refl))
