-- What a withdrawal does to the replies of a list, in a port with so many queues for reserved traffic: the stream drains until the tick of that number
-- after it, whatever is called meanwhile, and its number is free from that tick on.
use Rattle.std.specs.Prelude.{ℕ, ◌+◌, ◌<◌, true, ◌||◌, ◌≡◌, ◌⊎◌, List, ◌∷◌, ◌++◌}
use Rattle.lists.specs.Each.{All}
use Rattle.stream.specs.Replies.{refused_by}
use Rattle.steps.specs.Call.{withdrawing}
use Rattle.guarantee.specs.Events.{Event, action}
use Rattle.guarantee.specs.Claims.{Tick, tick_count, is_reserve_of, is_withdraw_of, is_arrive_of, is_own_of}

-- a granted Withdraw of the stream
abbrev pub WithdrawalOf : ℕ → Event → Type 0
WithdrawalOf s g = (g.call ≡ withdrawing s) × (g.reply.refusal ≡ 0)

-- "It refuses with 25 an arrival, reservation, [..] or withdrawal of a draining stream"; a Frame that counts as an arrival on it is one
abbrev pub RefusedAsDraining : ℕ → Event → Type 0
RefusedAsDraining s e = is_own_of s (action e) ≡ true → e.reply ≡ refused_by 25

-- "It drains until the fourth tick after the withdrawal": in general, until the tick whose number is that of the queues
abbrev pub DrainsUntil : ℕ → List Event → Type 0
DrainsUntil queues es =
    (s : ℕ) (before while rest : List Event) (g : Event) → es ≡ before ++ (g ∷ (while ++ rest))
    → WithdrawalOf s g → tick_count while < queues
    → All (RefusedAsDraining s) while

-- no reservation of the stream is granted
abbrev pub NotGranted : ℕ → Event → Type 0
NotGranted s e = is_reserve_of s (action e) ≡ true → e.reply.refusal ≡ 0 → ⊥

-- an arrival on a stream that is not reserved and a withdrawal of it are refused with 12, and a reservation of it for its P alone, with "7 P below 84" or
-- "8 sum of P above the share"
abbrev pub RefusedAsFree : ℕ → Event → Type 0
RefusedAsFree s e =
    ((is_withdraw_of s (action e) || is_arrive_of s (action e)) ≡ true → e.reply ≡ refused_by 12)
    × (is_reserve_of s (action e) ≡ true → (e.reply ≡ refused_by 7) ⊎ (e.reply ≡ refused_by 8))

-- "then number and share are free": from that tick t on, and until a reservation of it is granted again
abbrev pub FreeFrom : ℕ → List Event → Type 0
FreeFrom queues es =
    (s : ℕ) (before while after rest : List Event) (g t : Event) → es ≡ before ++ (g ∷ (while ++ (t ∷ (after ++ rest))))
    → WithdrawalOf s g → tick_count while + 1 ≡ queues → Tick t → All (NotGranted s) after
    → All (RefusedAsFree s) after

-- both of a list, so that it is exactly this tick
pub record WithdrawalHolds (queues : ℕ) (es : List Event) : Type 0 where
  pub draining : DrainsUntil queues es
  pub free : FreeFrom queues es
