-- Demand 3 of a list of calls that is known by its events. Assumes nothing.
use Prim.Native.Nat.{ℕ, ◌-◌}
use mathlib.Core.Bool.{Bool, true, not, ◌&&◌}
use mathlib.Core.Path.{◌≡◌, refl, sym, ap, subst, ◌∙◌}
use mathlib.Core.Logic.{inl, inr}
use mathlib.Core.List.{List, [], ◌∷◌, ◌++◌}
use borrow.Author.Tests.{eq-eqb}
use lib.Dec.{eqb}
use Rattle.lists.specs.Each.{All, Some}
use Rattle.lists.proofs.EachLaws.{differ}
use Rattle.lists.proofs.TurnLaws.{both}
use Rattle.stream.specs.declared.Reply.{Reply}
use Rattle.stream.specs.State.{least_queues}
use Rattle.record.specs.Queues.{queues_at}
use Rattle.ranges.specs.Ranges.{share_of}
use Rattle.guarantee.specs.Events.{Marked, Sent, reserved_sent, best_effort_sent, none, Event}
use Rattle.guarantee.specs.Claims.{SameRecord, LinkCondition, SaysWhatItSends, AlikeMarked, Sends, Alike, NotByHost}
use Rattle.guarantee.specs.Demand3.{runs_of, events_in, LinkHolds, Promised}
use Rattle.guarantee.specs.Beyond.{RepliedAlone}
use Rattle.guarantee.proofs.Theorem.{opened_reply, demand_3, replied_as_alone}
use Rattle.guarantee_examples.specs.Examples.{Happens}

-- the share, which the first event replies, since it is a granted Open
abbrev pub first_share : List Event → ℕ
first_share [] = 0
first_share (e ∷ es) = e.reply.first

-- replies with the same numbers are the same
pub by_numbers : (a b : Reply) → a.refusal ≡ b.refusal → a.first ≡ b.first → a.second ≡ b.second → a ≡ b
by_numbers a b refusal first second = rw (refusal, first, second)

module _ (es : List Event) (happens : Happens es) where
  -- that share
  pub first_share_lem : first_share es ≡ share_of happens.list.terms.link
  first_share_lem = sym (ap first_share happens.so) ∙ ap (λ (r : Reply). r.first) (opened_reply happens.list)

  -- the link condition of the list
  pub link_of_lem : LinkCondition (first_share es) es → LinkHolds happens.list
  link_of_lem link = subst (LinkCondition (share_of happens.list.terms.link)) (sym happens.so) (subst (λ (share : ℕ). LinkCondition share es) first_share_lem link)

  -- what the link condition promises, on a port with four queues
  pub promised_of : LinkCondition (first_share es) es → Promised least_queues es
  unfolding queues_at
  promised_of link = subst (Promised least_queues) happens.so ((demand_3 happens.list).promised (link_of_lem link))

  -- what is so in every list
  pub alike_of : (fs : List Event) (s : ℕ) → Happens fs → Alike s es fs
  alike_of fs s other =
      subst (λ (zs : List Event). Alike s zs fs) happens.so
      (subst (Alike s (events_in happens.list)) other.so ((demand_3 happens.list).alike other.list s))

  pub records_of : All SameRecord (runs_of happens.list)
  records_of = (demand_3 happens.list).records

  pub says_of : All SaysWhatItSends es
  says_of = subst (All SaysWhatItSends) happens.so (demand_3 happens.list).says

  pub marks_of : All AlikeMarked es
  marks_of = subst (All AlikeMarked) happens.so (demand_3 happens.list).marks

  pub not_by_host_of : All NotByHost es
  not_by_host_of = subst (All NotByHost) happens.so (demand_3 happens.list).not_by_host

  pub replied_alone_of : RepliedAlone (least_queues - 1) es
  unfolding queues_at
  replied_alone_of = subst (RepliedAlone (least_queues - 1)) happens.so (replied_as_alone happens.list)

-- whether what is sent is no reserved frame of call number n
abbrev is_other : ℕ → Sent → Bool
is_other n (reserved_sent f) = not (eqb f.number n)
is_other n (best_effort_sent f) = true
is_other n none = true

abbrev pub all_other : ℕ → List Event → Bool
all_other n [] = true
all_other n (e ∷ es) = is_other n e.sent && all_other n es

module _ (f : Marked) where
  not_other : (e : Event) → is_other f.number e.sent ≡ true → Sends f e → ⊥
  not_other e other sends = differ (sym other ∙ (ap (is_other f.number) sends.0 ∙ ap not (eq-eqb f.number f.number refl)))

  -- events that send other frames do not send it
  pub none_sends : (es : List Event) → all_other f.number es ≡ true → Some (Sends f) es → ⊥
  none_sends (e ∷ es) others (inl sends) = not_other e (both _ _ others).0 sends
  none_sends (e ∷ es) others (inr sends) = none_sends es (both (is_other f.number e.sent) _ others).1 sends
  none_sends [] others x'' = elim x'' [ ]

  -- where some event sends the frame and no other does, this one does
  pub only : (before after : List Event) (e : Event) → all_other f.number before ≡ true → all_other f.number after ≡ true
      → Some (Sends f) (before ++ (e ∷ after)) → e.sent ≡ reserved_sent f
  only [] after e others others-after (inl sends) = sends.0
  only [] after e others others-after (inr sends) = absurd (none_sends after others-after sends)
  only (d ∷ before) after e others others-after (inl sends) = absurd (not_other d (both _ _ others).0 sends)
  only (d ∷ before) after e others others-after (inr sends) =
      only before after e (both (is_other f.number d.sent) _ others).1 others-after sends
