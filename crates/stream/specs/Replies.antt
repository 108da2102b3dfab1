-- Document 01's numbers for each answer: a call replies its refusal, or 0, and two numbers.
use Rattle.std.specs.Prelude.{ℕ, Result, Ok, Err}
use Rattle.stream.specs.declared.Stream.{Stream}
use Rattle.stream.specs.declared.Reply.{Reply}
use Rattle.stream.specs.declared.Arrival.{Arrival}
use Rattle.stream.specs.declared.Arrival.TheVariants.{Joined, Discarded}
use Rattle.stream.specs.declared.answer.Numbers.{Numbers}
use Rattle.stream.specs.declared.answer.Refusal.{Refusal}
use Rattle.stream.specs.declared.answer.Refusal.TheVariants.{Closed, OpenAlready, LinkRange, DelayRange, StreamRange, ReservedAlready, PermittedRange, ShareExceeded, VidRange, BoundAlready, PairBoundAlready, NotReserved, ChargeRange, Discard, BestEffortFull, LimitExceeded, FrameLength, ShortMemory, UnfitRecord, QueueFull, Draining, OffsetRange}

-- "A refusal replies its number and two zeros"
abbrev pub refused_by : ℕ → Reply
refused_by number = record { refusal = number; first = 0; second = 0 }

-- a call that is not refused replies 0 and its two numbers
abbrev pub granted : ℕ → ℕ → Reply
granted first second = record { refusal = 0; first = first; second = second }

-- "arrive: queue joined (1 current, 2 next, 3 last), left after the step"; 14 discard
abbrev pub reply_of : Arrival → Reply
reply_of (Joined place s) = granted place s.left
reply_of (Discarded s) = refused_by 14

-- the stream that an arrival hands back
abbrev pub stream_of : Arrival → Stream
stream_of (Joined place s) = s
stream_of (Discarded s) = s

-- the number of each refusal
abbrev pub number_of : Refusal → ℕ
number_of Closed = 1
number_of OpenAlready = 2
number_of LinkRange = 3
number_of DelayRange = 4
number_of StreamRange = 5
number_of ReservedAlready = 6
number_of PermittedRange = 7
number_of ShareExceeded = 8
number_of VidRange = 9
number_of BoundAlready = 10
number_of PairBoundAlready = 11
number_of NotReserved = 12
number_of ChargeRange = 13
number_of Discard = 14
number_of BestEffortFull = 15
number_of LimitExceeded = 16
number_of FrameLength = 17
number_of ShortMemory = 18
number_of UnfitRecord = 19
number_of QueueFull = 20
number_of Draining = 25
number_of OffsetRange = 26

-- the reply of a call that gives these numbers
abbrev pub given : Numbers → Reply
given numbers = granted numbers.first numbers.second

-- the reply of what a call answers
abbrev pub answered : Result Numbers Refusal → Reply
answered (Ok numbers) = given numbers
answered (Err refusal) = refused_by (number_of refusal)

-- the number of a refusal, or 0 where nothing is refused
abbrev pub refusal_number : {T : Type 0} → Result T Refusal → ℕ
refusal_number (Ok t) = 0
refusal_number (Err refusal) = number_of refusal
