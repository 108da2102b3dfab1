-- Every refusal has a number that is not 0, so that a reply tells whether a call was refused. Assumes nothing.
use Prim.Native.Nat.{ℕ, ◌<◌}
use mathlib.Core.Path.{◌≡◌, refl}
use native.Mathlib.Omega.{arith}
use Rattle.stream.specs.declared.answer.Refusal.{Refusal}
use Rattle.stream.specs.declared.answer.Refusal.TheVariants.{Closed, OpenAlready, LinkRange, DelayRange, StreamRange, ReservedAlready, PermittedRange, ShareExceeded, VidRange, BoundAlready, PairBoundAlready, NotReserved, ChargeRange, Discard, BestEffortFull, LimitExceeded, FrameLength, ShortMemory, UnfitRecord, QueueFull, Draining, OffsetRange}
use Rattle.std.specs.Prelude.{Result, Ok, Err}
use Rattle.stream.specs.declared.answer.Numbers.{Numbers}
use Rattle.stream.specs.Replies.{number_of, answered, refusal_number}

pub number_positive : (refusal : Refusal) → 0 < number_of refusal
number_positive Closed = omega arith
number_positive OpenAlready = omega arith
number_positive LinkRange = omega arith
number_positive DelayRange = omega arith
number_positive StreamRange = omega arith
number_positive ReservedAlready = omega arith
number_positive PermittedRange = omega arith
number_positive ShareExceeded = omega arith
number_positive VidRange = omega arith
number_positive BoundAlready = omega arith
number_positive PairBoundAlready = omega arith
number_positive NotReserved = omega arith
number_positive ChargeRange = omega arith
number_positive Discard = omega arith
number_positive BestEffortFull = omega arith
number_positive LimitExceeded = omega arith
number_positive FrameLength = omega arith
number_positive ShortMemory = omega arith
number_positive UnfitRecord = omega arith
number_positive QueueFull = omega arith
number_positive Draining = omega arith
number_positive OffsetRange = omega arith

pub number_some : (refusal : Refusal) → number_of refusal ≡ 0 → ⊥
number_some refusal none = omega (arith, none, number_positive refusal)

-- 14 is the number of a discard alone
pub discard_only : (refusal : Refusal) → number_of refusal ≡ 14 → refusal ≡ Discard
discard_only Closed e = absurd (omega (arith, e))
discard_only OpenAlready e = absurd (omega (arith, e))
discard_only LinkRange e = absurd (omega (arith, e))
discard_only DelayRange e = absurd (omega (arith, e))
discard_only StreamRange e = absurd (omega (arith, e))
discard_only ReservedAlready e = absurd (omega (arith, e))
discard_only PermittedRange e = absurd (omega (arith, e))
discard_only ShareExceeded e = absurd (omega (arith, e))
discard_only VidRange e = absurd (omega (arith, e))
discard_only BoundAlready e = absurd (omega (arith, e))
discard_only PairBoundAlready e = absurd (omega (arith, e))
discard_only NotReserved e = absurd (omega (arith, e))
discard_only ChargeRange e = absurd (omega (arith, e))
discard_only Discard e = refl
discard_only BestEffortFull e = absurd (omega (arith, e))
discard_only LimitExceeded e = absurd (omega (arith, e))
discard_only FrameLength e = absurd (omega (arith, e))
discard_only ShortMemory e = absurd (omega (arith, e))
discard_only UnfitRecord e = absurd (omega (arith, e))
discard_only QueueFull e = absurd (omega (arith, e))
discard_only Draining e = absurd (omega (arith, e))
discard_only OffsetRange e = absurd (omega (arith, e))

-- the refusal in the reply of an answer is the answer's own
pub answered_number : (answer : Result Numbers Refusal) → refusal_number answer ≡ (answered answer).refusal
answered_number (Ok numbers) = refl
answered_number (Err refusal) = refl
