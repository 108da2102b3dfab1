-- What is proved of the lists beyond demand 3.
use Rattle.std.specs.Prelude.{ℕ, ◌+◌, Bool, cond, ◌≡◌, List, [], ◌∷◌, ◌++◌, length, eqb}
use Rattle.lists.specs.Each.{All}
use Rattle.stream.specs.State.{reserve_of}
use Rattle.stream.specs.Alone.{replies}
use Rattle.steps.specs.Call.{reserving, arriving}
use Rattle.guarantee.specs.Events.{Event, action}
use Rattle.guarantee.specs.Claims.{SentBefore, Stays, is_withdraw_of, remaining, grants}
use Rattle.guarantee.specs.Own.{own, own_replies}

-- a frame whose reply names queue k is sent before tick k + 1 after it
abbrev pub SentByReply : List Event → Type 0
SentByReply es =
    (before after : List Event) (e : Event) (s charge tag : ℕ) → es ≡ before ++ (e ∷ after)
    → e.call ≡ arriving s charge tag → e.reply.refusal ≡ 0
    → SentBefore (e.reply.first + 1) (record { stream = s; charge = charge; tag = tag; number = length before }) after

-- with or without the link condition, the replies to a stream's own offers, from its grant to its withdrawal, are those of the stream by itself, in a port
-- with this last place: nothing that is sent on other streams is in them
abbrev pub RepliedAlone : ℕ → List Event → Type 0
RepliedAlone last es =
    (s permitted : ℕ) (before while rest : List Event) (g : Event) → es ≡ before ++ (g ∷ (while ++ rest))
    → g.call ≡ reserving s permitted → g.reply.refusal ≡ 0 → All (Stays s) while
    → own_replies s while ≡ replies last (reserve_of permitted) (own s while)

-- which of a stream's withdrawals are granted
abbrev pub withdrawal_grants : ℕ → List Event → List Bool
withdrawal_grants s [] = []
withdrawal_grants s (e ∷ es) = cond (is_withdraw_of s (action e)) (eqb e.reply.refusal 0 ∷ withdrawal_grants s es) (withdrawal_grants s es)

-- two lists alike in ticks, one stream's own calls and which of its reservations are granted give not only its arrivals the same replies: the same of its
-- withdrawals are granted
abbrev pub AlikeWithdrawals : ℕ → List Event → List Event → Type 0
AlikeWithdrawals s es fs = remaining s es ≡ remaining s fs → grants s es ≡ grants s fs → withdrawal_grants s es ≡ withdrawal_grants s fs
