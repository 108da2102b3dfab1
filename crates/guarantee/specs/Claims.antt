-- Demand 3, its sentences one by one, of the events of a list.
use Rattle.std.specs.Prelude.{ℕ, ◌+◌, ◌≤◌, Bool, true, false, ◌&&◌, ◌||◌, cond, ◌≡◌, ◌⊎◌, List, [], ◌∷◌, ◌++◌, length, eqb}
use Rattle.lists.specs.Each.{All, Some}
use Rattle.lists.specs.Turns.{sum_of}
use Rattle.stream.specs.declared.Reply.{Reply}
use Rattle.stream.specs.Replies.{granted}
use Rattle.stream.specs.State.{current_place}
use Rattle.sending.specs.Sending.{nothing}
use Rattle.ranges.specs.Ranges.{charge_fits}
use Rattle.steps.specs.Call.{Call, reserving, arriving}
use Rattle.port_laws.specs.Counting.{Action, to_tick, to_transmit, to_reserve, to_withdraw, to_arrive, to_best_effort, to_frame, neither}
use Rattle.guarantee.specs.Events.{Marked, Sent, reserved_sent, best_effort_sent, none, is_transmit, Made, Event, action}

-- whether an action is a Tick, and how many of the events are
abbrev pub is_tick : Action → Bool
is_tick to_tick = true
is_tick to_transmit = false
is_tick (to_reserve r permitted) = false
is_tick (to_withdraw r) = false
is_tick (to_arrive r charge tag) = false
is_tick (to_best_effort charge tag) = false
is_tick (to_frame octets tag) = false
is_tick neither = false

abbrev pub Tick : Event → Type 0
Tick e = is_tick (action e) ≡ true

abbrev pub NoTick : Event → Type 0
NoTick e = is_tick (action e) ≡ false

abbrev pub tick_count : List Event → ℕ
tick_count = sum_of (λ e. cond (is_tick (action e)) 1 0)

-- "the reserved octets sent": "Octets sent or offered are sums of charges"
abbrev pub reserved_charge : Sent → ℕ
reserved_charge (reserved_sent f) = f.charge
reserved_charge (best_effort_sent f) = 0
reserved_charge none = 0

abbrev pub reserved_octets : List Event → ℕ
reserved_octets = sum_of (λ e. reserved_charge e.sent)

-- "some transmit sends no reserved frame"
abbrev pub Transmit : Event → Type 0
Transmit e = is_transmit (action e) ≡ true

abbrev pub NoTransmit : Event → Type 0
NoTransmit e = is_transmit (action e) ≡ false

abbrev pub Idle : Event → Type 0
Idle e = Transmit e × ((f : Marked) → e.sent ≡ reserved_sent f → ⊥)

-- "the reserved octets sent are at least the port's share or some transmit sends no reserved frame"
abbrev pub Linked : ℕ → List Event → Type 0
Linked share between = (share ≤ reserved_octets between) ⊎ Some Idle between

-- "Suppose that between any two consecutive ticks" this is so "(the link condition)"
abbrev pub LinkCondition : ℕ → List Event → Type 0
LinkCondition share es =
    (before between after : List Event) (t u : Event) → es ≡ before ++ (t ∷ (between ++ (u ∷ after)))
    → Tick t → Tick u → All NoTick between → Linked share between

-- "Then no tick purges a frame": "every tick is granted and replies two zeros"
abbrev pub PurgesNothing : Event → Type 0
PurgesNothing e = Tick e → e.reply ≡ granted 0 0

-- "the reply is that frame's stream and tag", and where the tag is the call's number its stream and that; "stream (255 best effort, 254 nothing), tag
-- (0 for nothing)"
abbrev pub reply_of_sent : (Marked → ℕ) → Sent → Reply
reply_of_sent tag (reserved_sent f) = granted f.stream (tag f)
reply_of_sent tag (best_effort_sent f) = granted f.stream (tag f)
reply_of_sent tag none = granted nothing 0

abbrev pub SaysWhatItSends : Event → Type 0
SaysWhatItSends e = Transmit e → (e.reply ≡ reply_of_sent (λ f. f.tag) e.sent) × (e.shown ≡ reply_of_sent (λ f. f.number) e.sent)

-- every other call replies the same, whatever the tags
abbrev pub AlikeMarked : Event → Type 0
AlikeMarked e = NoTransmit e → e.shown ≡ e.reply

-- the run whose frames are marked is a run of the same port: its record is the port's own after every call
abbrev pub SameRecord : Made → Type 0
SameRecord x = x.shown.port ≡ x.real.port

-- a frame is sent before the tick of that number among the events after it: "claimed where the list reaches that tick"
abbrev pub Sends : Marked → Event → Type 0
Sends f e = (e.sent ≡ reserved_sent f) × (e.reply ≡ granted f.stream f.tag)

abbrev pub SentBefore : ℕ → Marked → List Event → Type 0
SentBefore number f es =
    (between after : List Event) (u : Event) → es ≡ between ++ (u ∷ after) → Tick u → tick_count between + 1 ≡ number → Some (Sends f) between

-- "every accepted reserved frame is sent before the fourth tick after it"; accepted "is a reply without refusal"
abbrev pub AllSentBefore : ℕ → List Event → Type 0
AllSentBefore number es =
    (before after : List Event) (e : Event) (s charge tag : ℕ) → es ≡ before ++ (e ∷ after)
    → e.call ≡ arriving s charge tag → e.reply.refusal ≡ 0
    → SentBefore number (record { stream = s; charge = charge; tag = tag; number = length before }) after

-- whether an action is an offer of the stream: "each frame" is "each arrival of a charge from 84 to" 2,020, and "its offers are the same arrivals"
abbrev pub is_offer_of : ℕ → Action → Bool
is_offer_of s to_tick = false
is_offer_of s to_transmit = false
is_offer_of s (to_reserve r permitted) = false
is_offer_of s (to_withdraw r) = false
is_offer_of s (to_arrive r charge tag) = eqb r s && charge_fits charge
is_offer_of s (to_best_effort charge tag) = false
is_offer_of s (to_frame octets tag) = false
is_offer_of s neither = false

-- the octets that it offers
abbrev pub offer : ℕ → Action → ℕ
offer s to_tick = 0
offer s to_transmit = 0
offer s (to_reserve r permitted) = 0
offer s (to_withdraw r) = 0
offer s (to_arrive r charge tag) = cond (is_offer_of s (to_arrive r charge tag)) charge 0
offer s (to_best_effort charge tag) = 0
offer s (to_frame octets tag) = 0
offer s neither = 0

abbrev pub offers : ℕ → List Event → ℕ
offers s = sum_of (λ e. offer s (action e))

-- "never offers more than its permitted octets"
abbrev pub Offered : ℕ → ℕ → List Event → Type 0
Offered s permitted between = offers s between ≤ permitted

-- "a stream that never offers more than its permitted octets between ticks", "also before the first tick and after the last": in no stretch without a
-- tick
abbrev pub OffersWithin : ℕ → ℕ → List Event → Type 0
OffersWithin s permitted es =
    (before between after : List Event) → es ≡ before ++ (between ++ after) → All NoTick between → Offered s permitted between

-- "has each frame accepted as current and sent before the second tick after it"; "as current" is a reply "whose first number is 1"
abbrev pub Prompt : Marked → Event → List Event → Type 0
Prompt f e after = (e.reply.refusal ≡ 0) × ((e.reply.first ≡ current_place) × SentBefore 2 f after)

-- whether an action is a withdrawal of the stream, and an event at which the stream stays: no withdrawal of it that is granted
abbrev pub is_withdraw_of : ℕ → Action → Bool
is_withdraw_of s to_tick = false
is_withdraw_of s to_transmit = false
is_withdraw_of s (to_reserve r permitted) = false
is_withdraw_of s (to_withdraw r) = eqb r s
is_withdraw_of s (to_arrive r charge tag) = false
is_withdraw_of s (to_best_effort charge tag) = false
is_withdraw_of s (to_frame octets tag) = false
is_withdraw_of s neither = false

abbrev pub Stays : ℕ → Event → Type 0
Stays s e = is_withdraw_of s (action e) ≡ true → e.reply.refusal ≡ 0 → ⊥

-- the stream's offers are within P from its grant on for as long as `while` lasts, in which it is not withdrawn: "its 'each frame' runs from a grant to
-- the withdrawal"; each frame that it offers meanwhile is prompt, also where its second tick comes after the withdrawal. A stream that never offers more
-- and is never withdrawn is the case of an empty `rest`
abbrev pub ConformingPrompt : List Event → Type 0
ConformingPrompt es =
    (s permitted : ℕ) (before while rest : List Event) (g : Event) → es ≡ before ++ (g ∷ (while ++ rest))
    → g.call ≡ reserving s permitted → g.reply.refusal ≡ 0 → OffersWithin s permitted while → All (Stays s) while
    → (earlier later : List Event) (e : Event) (charge tag : ℕ) → while ≡ earlier ++ (e ∷ later)
    → e.call ≡ arriving s charge tag → charge_fits charge ≡ true
    → Prompt (record { stream = s; charge = charge; tag = tag; number = length before + 1 + length earlier }) e (later ++ rest)

-- "A stream's own calls are the Reserves and Arrives that name it", and its withdrawals: the guarantee "has withdrawals in its lists and a stream's own
-- calls"
abbrev pub is_reserve_of : ℕ → Action → Bool
is_reserve_of s to_tick = false
is_reserve_of s to_transmit = false
is_reserve_of s (to_reserve r permitted) = eqb r s
is_reserve_of s (to_withdraw r) = false
is_reserve_of s (to_arrive r charge tag) = false
is_reserve_of s (to_best_effort charge tag) = false
is_reserve_of s (to_frame octets tag) = false
is_reserve_of s neither = false

abbrev pub is_arrive_of : ℕ → Action → Bool
is_arrive_of s to_tick = false
is_arrive_of s to_transmit = false
is_arrive_of s (to_reserve r permitted) = false
is_arrive_of s (to_withdraw r) = false
is_arrive_of s (to_arrive r charge tag) = eqb r s
is_arrive_of s (to_best_effort charge tag) = false
is_arrive_of s (to_frame octets tag) = false
is_arrive_of s neither = false

abbrev pub is_own_of : ℕ → Action → Bool
is_own_of s c = is_reserve_of s c || (is_withdraw_of s c || is_arrive_of s c)

-- the ticks and the stream's own calls, "once all others are struck out"
abbrev pub remaining : ℕ → List Event → List Call
remaining s [] = []
remaining s (e ∷ es) = cond (is_tick (action e) || is_own_of s (action e)) (e.call ∷ remaining s es) (remaining s es)

-- "which of its reservations are granted"
abbrev pub grants : ℕ → List Event → List Bool
grants s [] = []
grants s (e ∷ es) = cond (is_reserve_of s (action e)) (eqb e.reply.refusal 0 ∷ grants s es) (grants s es)

-- its arrivals' replies: "refusal or 0 and both reply numbers of each of its Arrives"
abbrev pub answers : ℕ → List Event → List Reply
answers s [] = []
answers s (e ∷ es) = cond (is_arrive_of s (action e)) (e.reply ∷ answers s es) (answers s es)

-- "two lists alike in the order of ticks and one stream's own calls, and in which of its reservations are granted, give its arrivals the same
-- replies, whatever was sent on other streams"
abbrev pub Alike : ℕ → List Event → List Event → Type 0
Alike s es fs = remaining s es ≡ remaining s fs → grants s es ≡ grants s fs → answers s es ≡ answers s fs

-- the refusals that a host brings about: "20 [..] (never met in a list from opening)", nor are 18 and 19
abbrev pub NotByHost : Event → Type 0
NotByHost e = (e.reply.refusal ≡ 18 → ⊥) × ((e.reply.refusal ≡ 19 → ⊥) × (e.reply.refusal ≡ 20 → ⊥))
