-- What the claims say of withdrawals, on events that are written out. Assumes nothing.
use Prim.Native.Nat.{ℕ}
use mathlib.Core.Bool.{true}
use mathlib.Core.Path.{◌≡◌, refl, sym, ap, ◌∙◌}
use mathlib.Core.Logic.{inl, ⊎_elim}
use mathlib.Core.List.{List, [], ◌∷◌, ◌++◌}
use native.Mathlib.Omega.{arith}
use borrow.Author.Tests.{eq-eqb}
use lib.ListN.{length, get_or, length-append}
use Rattle.lists.proofs.EachLaws.{differ}
use Rattle.stream.specs.declared.Reply.{Reply}
use Rattle.stream.specs.Replies.{refused_by}
use Rattle.steps.specs.Call.{Call, reserving}
use Rattle.port_laws.specs.Counting.{action_of}
use Rattle.guarantee.specs.Events.{Event, action}
use Rattle.guarantee.specs.Claims.{is_reserve_of, is_withdraw_of, Stays, ConformingPrompt}
use Rattle.guarantee.specs.Beyond.{RepliedAlone}
use Rattle.guarantee.specs.Withdrawal.{WithdrawalOf, RefusedAsDraining, DrainsUntil, NotGranted, RefusedAsFree, FreeFrom}
use Rattle.guarantee.specs.Instances.{replied, quiet_tick, joins_current, joins_other, grant_of_5, refusal_of_6, withdrawal_of_5, withdrawal_refused, withdrawal_of_6, draining_arrival, free_arrival, withdrawn_soon, accepted_still, draining_yet}

-- `Stays`: a granted withdrawal of the stream ends what its grant began, one that is refused does not, nor does one of another stream
withdrawal_ends : Stays 5 withdrawal_of_5 → ⊥
withdrawal_ends stays = stays refl refl

refused_stays : Stays 5 withdrawal_refused
refused_stays own is = omega (arith, is)

other_stays : Stays 5 withdrawal_of_6
other_stays own is = differ (sym own)

-- a grant in `withdrawn_soon` is its first event
no_later_grant : {A : Type 0} (s permitted : ℕ) (b : Event) (before rest : List Event) (g : Event) → withdrawn_soon ≡ b ∷ (before ++ (g ∷ rest))
    → g.call ≡ reserving s permitted → A
no_later_grant s permitted b [] rest g split call =
    differ (sym (ap (λ (c : Call). is_reserve_of s (action_of c)) call ∙ eq-eqb s s refl) ∙ sym (ap (λ (es : List Event). is_reserve_of s (action (get_or es 1 quiet_tick))) split))
no_later_grant s permitted b (c ∷ []) rest g split call =
    differ (sym (ap (λ (d : Call). is_reserve_of s (action_of d)) call ∙ eq-eqb s s refl) ∙ sym (ap (λ (es : List Event). is_reserve_of s (action (get_or es 2 quiet_tick))) split))
no_later_grant s permitted b (c ∷ d ∷ before) rest g split call =
    absurd (omega (arith, ap (λ (es : List Event). length es) split, length-append before (g ∷ rest)))

-- and what follows that is its withdrawal
withdrawn_next : {A : Type 0} (s permitted : ℕ) (g e : Event) (rest : List Event) → withdrawn_soon ≡ g ∷ e ∷ rest → g.call ≡ reserving s permitted → Stays s e → A
withdrawn_next s permitted g e rest split call stays =
    let named : is_reserve_of s (action grant_of_5) ≡ true =
    ap (λ (es : List Event). is_reserve_of s (action (get_or es 0 quiet_tick))) split ∙ ap (λ (c : Call). is_reserve_of s (action_of c)) call ∙ eq-eqb s s refl in
    absurd
    (stays (sym (ap (λ (es : List Event). is_withdraw_of s (action (get_or es 1 quiet_tick))) split) ∙ named)
    (sym (ap (λ (es : List Event). (get_or es 1 quiet_tick).reply.refusal) split)))

-- so nothing is said of the arrival after it, neither that it is accepted,
ended : ConformingPrompt withdrawn_soon
ended s permitted [] [] rest g split call is within stays earlier later e charge tag place arrival fits =
    absurd (omega (arith, ap (λ (es : List Event). length es) place, length-append earlier (e ∷ later)))
ended s permitted [] (x ∷ while) rest g split call is within stays earlier later e charge tag place arrival fits =
    withdrawn_next s permitted g x (while ++ rest) split call stays.0
ended s permitted (b ∷ before) while rest g split call is within stays earlier later e charge tag place arrival fits =
    no_later_grant s permitted b before (while ++ rest) g split call

-- nor that it is replied to as by the stream alone
ended_alone : (last : ℕ) → RepliedAlone last withdrawn_soon
ended_alone last s permitted [] [] rest g split call is stays = refl
ended_alone last s permitted [] (x ∷ while) rest g split call is stays = withdrawn_next s permitted g x (while ++ rest) split call stays.0
ended_alone last s permitted (b ∷ before) while rest g split call is stays = no_later_grant s permitted b before (while ++ rest) g split call

-- `WithdrawalOf`: of this stream, and granted
withdrawal_so : WithdrawalOf 5 withdrawal_of_5
withdrawal_so = (refl, refl)

refused_no_withdrawal : WithdrawalOf 5 withdrawal_refused → ⊥
refused_no_withdrawal w = omega (arith, w.1)

-- `RefusedAsDraining`: arrivals, reservations and withdrawals of this stream, and no other call
draining_refused_so : RefusedAsDraining 5 draining_arrival
draining_refused_so own = refl

withdrawal_refused_so : RefusedAsDraining 5 withdrawal_refused
withdrawal_refused_so own = refl

other_not_refused : RefusedAsDraining 5 joins_other
other_not_refused own = differ (sym own)

grant_told : RefusedAsDraining 5 grant_of_5 → ⊥
grant_told refused = omega (arith, ap (λ (r : Reply). r.refusal) (refused refl))

withdrawal_told : RefusedAsDraining 5 withdrawal_of_5 → ⊥
withdrawal_told refused = omega (arith, ap (λ (r : Reply). r.refusal) (refused refl))

-- `DrainsUntil`: an arrival that is accepted after the withdrawal, before any tick, is told
accepted_told : DrainsUntil 1 accepted_still → ⊥
accepted_told drains =
    omega (arith, ap (λ (r : Reply). r.refusal) ((drains 5 [] (joins_current ∷ []) [] withdrawal_of_5 refl (refl, refl) (omega arith)).0 refl))

-- `NotGranted`: a granted reservation of the stream is told from one that is refused
granted_told : NotGranted 5 grant_of_5 → ⊥
granted_told not-granted = not-granted refl refl

refusal_not_granted : NotGranted 6 refusal_of_6
refusal_not_granted own is = omega (arith, is)

-- `RefusedAsFree`: an arrival is refused with 12 and a reservation for its P alone
free_refused_so : RefusedAsFree 5 free_arrival
free_refused_so = (λ own. refl, λ own. differ (sym own))

too_little_refused : RefusedAsFree 5 (replied (reserving 5 83) (refused_by 7))
too_little_refused = (λ own. differ (sym own), λ own. inl refl)

reserved_told : RefusedAsFree 5 (replied (reserving 5 200) (refused_by 6)) → ⊥
reserved_told free =
    ⊎_elim
    (λ (e : refused_by 6 ≡ refused_by 7). omega (arith, ap (λ (r : Reply). r.refusal) e))
    (λ (e : refused_by 6 ≡ refused_by 8). omega (arith, ap (λ (r : Reply). r.refusal) e))
    (free.1 refl)

-- `FreeFrom`: an arrival that is refused as one of a draining stream after that tick is told
draining_told : FreeFrom 1 draining_yet → ⊥
draining_told free =
    omega (
      arith,
      ap (λ (r : Reply). r.refusal)
          ((free 5 [] [] (draining_arrival ∷ []) [] withdrawal_of_5 quiet_tick refl (refl, refl) refl refl (λ own. differ (sym own), tt)).0.0 refl),
    )
