-- What a stream's arrivals reply, and which of its withdrawals are granted, is decided by the ticks, its own calls and which of its reservations are granted.
-- Assumes nothing.
use Prim.Native.Nat.{ℕ, suc, ◌+◌}
use mathlib.Core.Bool.{Bool, true, false, ◌||◌, cond}
use mathlib.Core.Path.{◌≡◌, refl, sym, ap, ap₂, subst, ◌∙◌}
use mathlib.Core.Logic.{⊎_elim}
use mathlib.Core.List.{List, [], ◌∷◌, ◌++◌, map}
use borrow.Author.Tests.{eq-eqb, ne_eqb}
use lib.Dec.{eqb}
use Rattle.lists.proofs.Order.{eq_or_not}
use Rattle.stream.specs.declared.Reply.{Reply}
use Rattle.stream.specs.State.{reserve_of}
use Rattle.stream.specs.Steps.{arrive_of}
use Rattle.stream.specs.Replies.{refused_by, reply_of, stream_of}
use Rattle.port_laws.specs.Counting.{Action, action_of, to_arrive, to_reserve, to_withdraw, to_tick, to_transmit, to_best_effort, to_frame, neither}
use Rattle.guarantee.specs.Events.{Sent, Event, action}
use Rattle.guarantee.specs.Claims.{is_tick, is_reserve_of, is_withdraw_of, is_arrive_of, is_own_of, remaining, grants, answers, Alike}
use Rattle.guarantee.specs.Beyond.{withdrawal_grants, AlikeWithdrawals}
use Rattle.guarantee.proofs.Reservation.{Reservation, keeping, withdrawn, ticked, arrival_refusal, withdrawal_refusal}
use Rattle.guarantee.proofs.Run.{View, Quiet, Effect, quiet, refuses_reservation, reserves, refuses_withdrawal, withdraws, refuses_arrival, arrives, ticks, sends, idles, Run}

-- what an arrival on the stream replies, and the stream after it
abbrev pub own_reply : ℕ → ℕ → Reservation → ℕ → Reply
own_reply last s x a = cond (eqb (arrival_refusal s x a) 0) (reply_of (arrive_of last x.stream a)) (refused_by (arrival_refusal s x a))

abbrev pub own_next : ℕ → ℕ → Reservation → ℕ → Reservation
own_next last s x a = cond (eqb (arrival_refusal s x a) 0) (keeping (stream_of (arrive_of last x.stream a))) x

-- the stream after a withdrawal of it
abbrev pub own_withdrawn : ℕ → ℕ → Reservation → Reservation
own_withdrawn last s x = cond (eqb (withdrawal_refusal s x) 0) (withdrawn (last + 1) x) x

-- what is heard of the stream's own calls, by what is made of an arrival's reply and of a withdrawal's refusal or 0
module _ {A : Type 0} (arrived : Reply → List A) (withdrew : ℕ → List A) where
  -- of one call, and of the calls of a list
  abbrev heard_of : ℕ → Action → Reply → List A
  heard_of s c r = cond (is_arrive_of s c) (arrived r) (cond (is_withdraw_of s c) (withdrew r.refusal) [])

  abbrev heard : ℕ → List Event → List A
  heard s [] = []
  heard s (e ∷ es) = heard_of s (action e) e.reply ++ heard s es

  -- of the stream by itself: from the actions that remain, the ticks and its own calls, and which of its reservations are granted
  unfoldable heard_alone : ℕ → ℕ → Reservation → List Action → List Bool → List A
  heard_alone last s x [] gs = []
  heard_alone last s x (to_tick ∷ cs) gs = heard_alone last s (ticked x) cs gs
  heard_alone last s x (to_transmit ∷ cs) gs = heard_alone last s x cs gs
  heard_alone last s x (to_reserve r permitted ∷ cs) [] = []
  heard_alone last s x (to_reserve r permitted ∷ cs) (g ∷ gs) = heard_alone last s (cond g (keeping (reserve_of permitted)) x) cs gs
  heard_alone last s x (to_withdraw r ∷ cs) gs = withdrew (withdrawal_refusal s x) ++ heard_alone last s (own_withdrawn last s x) cs gs
  heard_alone last s x (to_arrive r charge tag ∷ cs) gs = arrived (own_reply last s x charge) ++ heard_alone last s (own_next last s x charge) cs gs
  heard_alone last s x (to_best_effort charge tag ∷ cs) gs = heard_alone last s x cs gs
  heard_alone last s x (to_frame octets tag ∷ cs) gs = heard_alone last s x cs gs
  heard_alone last s x (neither ∷ cs) gs = heard_alone last s x cs gs

-- whether an action remains, and the actions of the calls that do
abbrev remains : ℕ → Action → Bool
remains s c = is_tick c || is_own_of s c

abbrev pub actions_left : ℕ → List Event → List Action
actions_left s [] = []
actions_left s (e ∷ es) = cond (remains s (action e)) (action e ∷ actions_left s es) (actions_left s es)

left_actions : (s : ℕ) (es : List Event) → actions_left s es ≡ map action_of (remaining s es)
left_actions s [] = refl
left_actions s (e ∷ es) = told (remains s (action e)) (left_actions s es)
  where
    told : (b : Bool) → actions_left s es ≡ map action_of (remaining s es)
        → cond b (action e ∷ actions_left s es) (actions_left s es) ≡ map action_of (cond b (e.call ∷ remaining s es) (remaining s es))
    told true same = ap (λ (cs : List Action). action e ∷ cs) same
    told false same = same

-- a quiet action is struck out
quiet_foreign : (s : ℕ) (c : Action) → Quiet c → (is_tick c ≡ false) × ((is_reserve_of s c ≡ false) × ((is_withdraw_of s c ≡ false) × (is_arrive_of s c ≡ false)))
quiet_foreign s (to_best_effort charge tag) q = (refl, (refl, (refl, refl)))
quiet_foreign s (to_frame octets tag) q = (refl, (refl, (refl, refl)))
quiet_foreign s neither q = (refl, (refl, (refl, refl)))
quiet_foreign s to_tick q = elim q [ ]
quiet_foreign s to_transmit q = elim q [ ]
quiet_foreign s (to_reserve _ _) q = elim q [ ]
quiet_foreign s (to_withdraw _) q = elim q [ ]
quiet_foreign s (to_arrive _ _ _) q = elim q [ ]

-- by whether there is a refusal
allowed_so : {A : Type 0} (g : ℕ) (y z : A) → g ≡ 0 → cond (eqb g 0) y z ≡ y
allowed_so g y z e = ap (λ (b : Bool). cond b y z) (eq-eqb g 0 e)

refused_so : {A : Type 0} (g : ℕ) (y z : A) → (g ≡ 0 → ⊥) → cond (eqb g 0) y z ≡ z
refused_so g y z o = ap (λ (b : Bool). cond b y z) (ne_eqb g 0 o)

module _ {A : Type 0} (arrived : Reply → List A) (withdrew : ℕ → List A) (last share n s : ℕ) (v w : View) (r : Reply) (t : Sent) (es : List Event) where
  -- what is heard from the view after a call on
  abbrev From : Reservation → List A
  From x = heard_alone arrived withdrew last s x (actions_left s es) (grants s es)

  abbrev AloneAfter : Reservation → Type 0
  AloneAfter x = heard arrived withdrew s es ≡ From x

  -- and from the view before it on, with the call in front of the rest
  abbrev AloneWith : Action → Type 0
  AloneWith c =
      heard_of arrived withdrew s c r ++ heard arrived withdrew s es
      ≡ heard_alone arrived withdrew last s (v.stream s)
      (cond (remains s c) (c ∷ actions_left s es) (actions_left s es))
      (cond (is_reserve_of s c) (eqb r.refusal 0 ∷ grants s es) (grants s es))

  -- the reply to an arrival on stream i, and that stream after it
  abbrev Own : ℕ → ℕ → Type 0
  Own a i = (r ≡ own_reply last i (v.stream i) a) × (w.stream i ≡ own_next last i (v.stream i) a)

  -- the refusal of a withdrawal of stream i, and that stream after it
  abbrev OwnDrain : ℕ → Type 0
  OwnDrain i = (r.refusal ≡ withdrawal_refusal i (v.stream i)) × (w.stream i ≡ own_withdrawn last i (v.stream i))

  module _ (later : AloneAfter (w.stream s)) where
    kept : w.stream s ≡ v.stream s → AloneAfter (v.stream s)
    kept same = later ∙ ap From same

    -- a Reserve, the stream's own or another's
    own_reserve : (i p : ℕ) → (i ≡ s → w.stream s ≡ cond (eqb r.refusal 0) (keeping (reserve_of p)) (v.stream s)) → ((i ≡ s → ⊥) → w.stream s ≡ v.stream s)
        → AloneWith (to_reserve i p)
    unfolding heard_alone
    own_reserve i p own other =
        ⊎_elim
        (λ (e : i ≡ s). rw (eq-eqb i s e) (later ∙ ap From (own e)))
        (λ (o : i ≡ s → ⊥). rw (ne_eqb i s o) (kept (other o)))
        (eq_or_not i s)

    -- a Withdraw, the stream's own or another's
    own_withdraw : (i : ℕ) → (i ≡ s → OwnDrain s) → ((i ≡ s → ⊥) → w.stream s ≡ v.stream s) → AloneWith (to_withdraw i)
    unfolding heard_alone
    own_withdraw i own other =
        ⊎_elim
        (λ (e : i ≡ s). rw (eq-eqb i s e) (ap₂ ◌++◌ (ap withdrew (own e).0) (later ∙ ap From (own e).1)))
        (λ (o : i ≡ s → ⊥). rw (ne_eqb i s o) (kept (other o)))
        (eq_or_not i s)

    -- an Arrive, the stream's own or another's
    own_arrive : (i a tag : ℕ) → (i ≡ s → Own a s)
        → ((i ≡ s → ⊥) → w.stream s ≡ v.stream s)
        → AloneWith (to_arrive i a tag)
    unfolding heard_alone
    own_arrive i a tag own other =
        ⊎_elim
        (λ (e : i ≡ s). rw (eq-eqb i s e) (ap₂ ◌++◌ (ap arrived (own e).0) (later ∙ ap From (own e).1)))
        (λ (o : i ≡ s → ⊥). rw (ne_eqb i s o) (kept (other o)))
        (eq_or_not i s)

    alone_with_lem : (c : Action) → Effect last share n v w r t c → AloneWith c
    unfolding heard_alone
    alone_with_lem c (quiet q e queues streams) = let f = quiet_foreign s c q in rw (f.0, f.1.0, f.1.1.0, f.1.1.1) (kept (streams s))
    alone_with_lem c (refuses_reservation {s = i} {permitted = p} e d) =
        own_reserve i p (λ same. rw (ap (λ (x : Reply). x.refusal) d.reply, ne_eqb _ 0 d.refused) (d.streams s)) (λ o. d.streams s)
    alone_with_lem c (reserves {s = i} {permitted = p} e d) =
        own_reserve i p (λ same. rw (eq-eqb r.refusal 0 d.accepted) (rw same at d.streams.0)) (λ o. d.streams.1 s (λ f. o (sym f)))
    alone_with_lem c (refuses_withdrawal {s = i} e d) =
        own_withdraw i
        (λ same. subst OwnDrain same (ap (λ (x : Reply). x.refusal) d.reply, d.streams i ∙ sym (refused_so _ _ _ d.refused)))
        (λ o. d.streams s)
    alone_with_lem c (withdraws {s = i} e d) =
        own_withdraw i
        (λ same. subst OwnDrain same (d.accepted ∙ sym d.allowed, d.streams.0 ∙ sym (allowed_so _ _ _ d.allowed)))
        (λ o. d.streams.1 s (λ f. o (sym f)))
    alone_with_lem c (refuses_arrival {s = i} {charge = a} {tag = tag} e d) =
        own_arrive i a tag
        (λ same. subst (Own a) same (d.reply ∙ sym (refused_so _ _ _ d.refused), d.streams i ∙ sym (refused_so _ _ _ d.refused)))
        (λ o. d.streams s)
    alone_with_lem c (arrives {s = i} {charge = a} {tag = tag} e d) =
        own_arrive i a tag
        (λ same. subst (Own a) same (d.reply ∙ sym (allowed_so _ _ _ d.allowed), d.streams.0 ∙ sym (allowed_so _ _ _ d.allowed)))
        (λ o. d.streams.1 s (λ f. o (sym f)))
    alone_with_lem c (ticks e d) = later ∙ ap From (d.streams s)
    alone_with_lem c (sends k f fs d) = kept (d.streams s)
    alone_with_lem c (idles e i queues streams) = kept (streams s)

module _ {A : Type 0} (arrived : Reply → List A) (withdrew : ℕ → List A) where
  -- one list: what is heard of the stream's own calls is what is heard of the stream by itself
  alone : (last share s : ℕ) (es : List Event) (n : ℕ) (v : View) → Run last share n v es
      → heard arrived withdrew s es ≡ heard_alone arrived withdrew last s (v.stream s) (actions_left s es) (grants s es)
  unfolding heard_alone
  alone last share s [] n v run = refl
  alone last share s (e ∷ es) n v (w, effect, run) =
      alone_with_lem arrived withdrew last share n s v w e.reply e.sent es (alone last share s es (suc n) w run) (action e) effect

  -- two lists
  heard_alike : (last share share' s : ℕ) (es fs : List Event) (v v' : View) → v.stream s ≡ v'.stream s → Run last share 0 v es → Run last share' 0 v' fs
      → remaining s es ≡ remaining s fs → grants s es ≡ grants s fs → heard arrived withdrew s es ≡ heard arrived withdrew s fs
  heard_alike last share share' s es fs v v' same run run' calls granted =
      alone last share s es 0 v run
      ∙ ap (λ (x : Reservation). heard_alone arrived withdrew last s x (actions_left s es) (grants s es)) same
      ∙ ap₂ (heard_alone arrived withdrew last s (v'.stream s)) (left_actions s es ∙ ap (map action_of) calls ∙ sym (left_actions s fs)) granted
      ∙ sym (alone last share' s fs 0 v' run')

-- an arrival's reply alone,
abbrev answer : Reply → List Reply
answer r = r ∷ []

abbrev no_answer : ℕ → List Reply
no_answer refusal = []

heard_answers : (s : ℕ) (es : List Event) → heard answer no_answer s es ≡ answers s es
heard_answers s [] = refl
heard_answers s (e ∷ es) = told (is_arrive_of s (action e)) (is_withdraw_of s (action e)) (heard_answers s es)
  where
    told : (x y : Bool) → heard answer no_answer s es ≡ answers s es
        → cond x (answer e.reply) (cond y (no_answer e.reply.refusal) []) ++ heard answer no_answer s es ≡ cond x (e.reply ∷ answers s es) (answers s es)
    told true y same = ap (λ (rs : List Reply). e.reply ∷ rs) same
    told false true same = same
    told false false same = same

pub alike : (last share share' s : ℕ) (es fs : List Event) (v v' : View) → v.stream s ≡ v'.stream s → Run last share 0 v es → Run last share' 0 v' fs → Alike s es fs
alike last share share' s es fs v v' same run run' calls granted =
    sym (heard_answers s es) ∙ heard_alike answer no_answer last share share' s es fs v v' same run run' calls granted ∙ heard_answers s fs

-- and whether a withdrawal is granted alone
abbrev grant : ℕ → List Bool
grant refusal = eqb refusal 0 ∷ []

abbrev no_grant : Reply → List Bool
no_grant r = []

heard_withdrawals : (s : ℕ) (es : List Event) → heard no_grant grant s es ≡ withdrawal_grants s es
heard_withdrawals s [] = refl
heard_withdrawals s (e ∷ es) = told (action e) (heard_withdrawals s es)
  where
    by_number : (b : Bool) → heard no_grant grant s es ≡ withdrawal_grants s es
        → cond b (grant e.reply.refusal) [] ++ heard no_grant grant s es ≡ cond b (eqb e.reply.refusal 0 ∷ withdrawal_grants s es) (withdrawal_grants s es)
    by_number true same = ap (λ (gs : List Bool). eqb e.reply.refusal 0 ∷ gs) same
    by_number false same = same

    by_arrival : (b : Bool) → heard no_grant grant s es ≡ withdrawal_grants s es → cond b (no_grant e.reply) [] ++ heard no_grant grant s es ≡ withdrawal_grants s es
    by_arrival true same = same
    by_arrival false same = same

    told : (c : Action) → heard no_grant grant s es ≡ withdrawal_grants s es
        → heard_of no_grant grant s c e.reply ++ heard no_grant grant s es ≡ cond (is_withdraw_of s c) (eqb e.reply.refusal 0 ∷ withdrawal_grants s es) (withdrawal_grants s es)
    told to_tick same = same
    told to_transmit same = same
    told (to_reserve i permitted) same = same
    told (to_withdraw i) same = by_number (eqb i s) same
    told (to_arrive i charge tag) same = by_arrival (eqb i s) same
    told (to_best_effort charge tag) same = same
    told (to_frame octets tag) same = same
    told neither same = same

pub withdrawals_alike : (last share share' s : ℕ) (es fs : List Event) (v v' : View) → v.stream s ≡ v'.stream s → Run last share 0 v es → Run last share' 0 v' fs
    → AlikeWithdrawals s es fs
withdrawals_alike last share share' s es fs v v' same run run' calls granted =
    sym (heard_withdrawals s es) ∙ heard_alike no_grant grant last share share' s es fs v v' same run run' calls granted ∙ heard_withdrawals s fs
