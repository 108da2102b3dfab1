-- Lists that are alike in ticks, a stream's own calls and which of its reservations are granted leave the stream the same counts: these are the number of its
-- replies since it began, and demand 3 gives the stream's arrivals the same replies in both. Assumes nothing.
use Prim.Native.Nat.{ℕ, ◌+◌, ◌%◌, ◌^◌, ◌≤◌}
use mathlib.Core.Path.{◌≡◌, refl, sym, ap, ap₂, subst, ◌∙◌}
use mathlib.Core.Bool.{Bool, true, false, cond, ◌&&◌, ◌||◌}
use mathlib.Core.List.{List, [], ◌∷◌, ◌++◌}
use native.Mathlib.Omega.{arith}
use lib.ListN.{length}
use lib.Dec.{eqb}
use Rattle.lists.specs.Each.{All}
use Rattle.stream.specs.declared.Reply.{Reply}
use Rattle.steps.specs.Call.{Call, opening, reserving, withdrawing, arriving, ticking, transmitting, joining_best_effort, binding, framing}
use Rattle.steps.specs.Outcome.{Outcome}
use Rattle.port.specs.Calls.{called}
use Rattle.port_laws.specs.Counting.{action_of, counts_as}
use Rattle.guarantee.specs.Events.{made, Event, events_after, marked}
use Rattle.guarantee.specs.Claims.{is_tick, is_withdraw_of, is_arrive_of, is_own_of, remaining, answers}
use Rattle.guarantee.specs.Beyond.{withdrawal_grants}
use Rattle.guarantee.proofs.Theorem.{demand_3, alike_withdrawals}
use Rattle.register_block.specs.Layout.{block_length, accepted_octet, discarded_octet}
use Rattle.register_block.specs.Fields.{word_at}
use Rattle.registers.specs.Lent.{record_part, block_part}
use Rattle.register_laws.specs.Uses.{all_calls, UseList, opened_by, left_by}
use Rattle.register_laws.specs.Happenings.{Happening, replied, written, happenings_in}
use Rattle.register_laws.specs.History.{sort_of, granted_open, beginning, arrival_replied, is_reply}
use Rattle.register_laws.specs.Guaranteed.{calls_in}
use Rattle.register_laws.specs.Alike.{events_of, CountsAlike}
use Rattle.register_laws.proofs.FollowLaws.{only_calls, happen_on, call_follows, list_follows}
use Rattle.register_laws.proofs.SinceLaws.{count_from}
use Rattle.register_laws.proofs.FieldLaws.{Counter, accepted_counter, discarded_counter}
use Rattle.register_laws.proofs.OpenedLaws.{opened_whole, opened_record_lem, list_no_open}
use Rattle.register_laws.proofs.Histories.{counts_on}

-- events as happenings
abbrev happened : List Event → List Happening
happened [] = []
happened (e ∷ es) = replied e.call e.reply ∷ happened es

-- the events of calls are what happens on the record alone
events_happen : (earlier later : List Call) (cs : List Call) (p m q k : List ℕ) → happened (events_after earlier (made called later cs p m q k)) ≡ happen_on cs p m
events_happen earlier later [] p m q k = refl
events_happen earlier later (c ∷ cs) p m q k =
    let o = called c p m in
    let d = counts_as p c in
    let u = called (marked (length later) c) q k in
    ap (λ (hs : List Happening). replied d o.reply ∷ hs) (events_happen (earlier ++ (d ∷ [])) (later ++ (d ∷ [])) cs o.port o.memory u.port u.memory)

-- a stream's count from n on, by the calls that remain, the replies to its arrivals and which of its withdrawals are granted
abbrev tally : ℕ → ℕ → List Call → List Reply → List Bool → ℕ
tally refusal n [] rs gs = n
tally refusal n (opening t ∷ cs) rs gs = tally refusal n cs rs gs
tally refusal n (reserving s permitted ∷ cs) rs gs = tally refusal n cs rs gs
tally refusal n (withdrawing s ∷ cs) rs [] = n
tally refusal n (withdrawing s ∷ cs) rs (g ∷ gs) = tally refusal (cond g 0 n) cs rs gs
tally refusal n (arriving s charge tag ∷ cs) [] gs = n
tally refusal n (arriving s charge tag ∷ cs) (r ∷ rs) gs = tally refusal (cond (eqb r.refusal refusal) (n + 1) n) cs rs gs
tally refusal n (ticking ∷ cs) rs gs = tally refusal n cs rs gs
tally refusal n (transmitting ∷ cs) rs gs = tally refusal n cs rs gs
tally refusal n (joining_best_effort charge tag ∷ cs) rs gs = tally refusal n cs rs gs
tally refusal n (binding s address vid ∷ cs) rs gs = tally refusal n cs rs gs
tally refusal n (framing octets tag ∷ cs) rs gs = tally refusal n cs rs gs

module _ (refusal s : ℕ) where
  -- the count of happenings
  abbrev counted : ℕ → List Happening → ℕ
  counted = count_from (is_reply (beginning s)) (is_reply (arrival_replied refusal s))

  -- that of events, by these lists of theirs
  abbrev Tallied : List Event → Type 0
  Tallied es = (n : ℕ) → counted n (happened es) ≡ tally refusal n (remaining s es) (answers s es) (withdrawal_grants s es)

  -- with a call in front, where no Open is granted
  module _ (r : Reply) (es : List Event) (rest : Tallied es) where
    abbrev TalliedWith : Call → Type 0
    TalliedWith c =
        (n : ℕ) → granted_open (sort_of c) r ≡ false
        → counted n (replied c r ∷ happened es)
        ≡ tally refusal n (cond (is_tick (action_of c) || is_own_of s (action_of c)) (c ∷ remaining s es) (remaining s es))
        (cond (is_arrive_of s (action_of c)) (r ∷ answers s es) (answers s es))
        (cond (is_withdraw_of s (action_of c)) (eqb r.refusal 0 ∷ withdrawal_grants s es) (withdrawal_grants s es))

    one : (c : Call) → TalliedWith c
    one (opening t) n none = ap (λ (b : Bool). counted (cond b 0 n) (happened es)) none ∙ rest n
    one (reserving i permitted) n none = by_stream (eqb i s)
      where
        by_stream : (x : Bool) → counted n (happened es)
            ≡ tally refusal n (cond (x || false) (reserving i permitted ∷ remaining s es) (remaining s es)) (answers s es) (withdrawal_grants s es)
        by_stream true = rest n
        by_stream false = rest n
    one (withdrawing i) n none = by_stream (eqb i s)
      where
        by_stream : (x : Bool) → counted (cond (x && eqb r.refusal 0) 0 n) (happened es)
            ≡ tally refusal n (cond (x || false) (withdrawing i ∷ remaining s es) (remaining s es)) (answers s es)
            (cond x (eqb r.refusal 0 ∷ withdrawal_grants s es) (withdrawal_grants s es))
        by_stream true = rest (cond (eqb r.refusal 0) 0 n)
        by_stream false = rest n
    one (arriving i charge tag) n none = by_stream (eqb i s)
      where
        by_stream : (x : Bool) → counted (cond (x && eqb r.refusal refusal) (n + 1) n) (happened es)
            ≡ tally refusal n (cond x (arriving i charge tag ∷ remaining s es) (remaining s es)) (cond x (r ∷ answers s es) (answers s es)) (withdrawal_grants s es)
        by_stream true = rest (cond (eqb r.refusal refusal) (n + 1) n)
        by_stream false = rest n
    one ticking n none = rest n
    one transmitting n none = rest n
    one (joining_best_effort charge tag) n none = rest n
    one (binding i address vid) n none = rest n
    one (framing octets tag) n none = rest n

  tallied : (es : List Event) → All (λ h. is_reply granted_open h ≡ false) (happened es) → Tallied es
  tallied [] none n = refl
  tallied (e ∷ es) none n = one e.reply es (tallied es none.1) e.call n none.0

  -- writes to registers count nothing
  only_counted : (hs : List Happening) (n : ℕ) → counted n hs ≡ counted n (only_calls hs)
  only_counted [] n = refl
  only_counted (replied c r ∷ hs) n = only_counted hs _
  only_counted (written offset number ∷ hs) n = only_counted hs n

no_open_only : (hs : List Happening) → All (λ h. is_reply granted_open h ≡ false) hs → All (λ h. is_reply granted_open h ≡ false) (only_calls hs)
no_open_only [] none = tt
no_open_only (replied c r ∷ hs) none = (none.0, no_open_only hs none.1)
no_open_only (written offset number ∷ hs) none = no_open_only hs none.1

module _ (l : UseList) where
  -- the Open on the record alone, and the events after it
  abbrev opened : Outcome
  opened = called (opening l.terms) (record_part l.port) l.memory

  abbrev later_events : List Event
  later_events =
      events_after (opening l.terms ∷ [])
      (made called (opening l.terms ∷ []) (all_calls l.later) opened.port opened.memory opened.port opened.memory)

  -- are what happens in the list of uses, but for its writes
  calls_happen : only_calls (happenings_in l) ≡ happened later_events
  calls_happen =
      let opens = call_follows l.port l.memory (opened_whole l) (opening l.terms) in
      (list_follows l.later (opened_by l).port (opened_by l).memory opens.whole).calls
      ∙ ap₂ (happen_on (all_calls l.later)) opens.same_record opens.same_memory
      ∙ sym (events_happen _ _ (all_calls l.later) opened.port opened.memory opened.port opened.memory)

  -- so a stream's count goes by these lists of its calls
  by_lists : (octet s refusal : ℕ) → octet + 4 ≤ block_length → Counter octet (beginning s) (arrival_replied refusal s)
      → word_at (block_part (left_by l).port) octet ≡ tally refusal 0 (remaining s (events_of l)) (answers s (events_of l)) (withdrawal_grants s (events_of l)) % 2 ^ 32
  by_lists octet s refusal inside rule =
      counts_on l octet (beginning s) (arrival_replied refusal s) inside rule
      ∙ ap (λ (n : ℕ). n % 2 ^ 32)
      (only_counted refusal s (happenings_in l) 0
      ∙ ap (counted refusal s 0) calls_happen
      ∙ tallied refusal s later_events (subst (All (λ h. is_reply granted_open h ≡ false)) calls_happen (no_open_only (happenings_in l) (list_no_open l))) 0)

-- "depend only on ticks, its own calls (frames bound to it too) and which of its reservations are granted"
pub counts_alike : CountsAlike
counts_alike l k s below alike =
    let first = calls_in l (opened_record_lem l) in
    let other = calls_in k (opened_record_lem k) in
    let replied_alike : answers s (events_of l) ≡ answers s (events_of k) = (demand_3 first).alike other s alike.calls alike.granted in
    let withdrawn_alike : withdrawal_grants s (events_of l) ≡ withdrawal_grants s (events_of k) = alike_withdrawals first other s alike.calls alike.granted in
    let same : (refusal : ℕ)
    → tally refusal 0 (remaining s (events_of l)) (answers s (events_of l)) (withdrawal_grants s (events_of l)) % 2 ^ 32
    ≡ tally refusal 0 (remaining s (events_of k)) (answers s (events_of k)) (withdrawal_grants s (events_of k)) % 2 ^ 32 =
    λ refusal.
    ap (λ (n : ℕ). n % 2 ^ 32)
    (ap (λ (cs : List Call). tally refusal 0 cs (answers s (events_of l)) (withdrawal_grants s (events_of l))) alike.calls
    ∙ ap₂ (tally refusal 0 (remaining s (events_of k))) replied_alike withdrawn_alike) in
    record {
      accepted =
          by_lists l (accepted_octet s) s 0 (omega (arith, below)) (accepted_counter s below)
          ∙ same 0
          ∙ sym (by_lists k (accepted_octet s) s 0 (omega (arith, below)) (accepted_counter s below));
      discarded =
          by_lists l (discarded_octet s) s 14 (omega (arith, below)) (discarded_counter s below)
          ∙ same 14
          ∙ sym (by_lists k (discarded_octet s) s 14 (omega (arith, below)) (discarded_counter s below));
    }
