-- A list in which other streams, best effort and transmits stand between one stream's calls, and what the theorems say of the stream's counts: each line
-- follows from the theorem that its comment names, and would be lost with it.
use Rattle.std.specs.Prelude.{◌≡◌, Bool, true, List, [], ◌∷◌}
use Rattle.stream.specs.Replies.{granted}
use Rattle.steps.specs.Call.{Call, reserving, arriving, ticking, transmitting, joining_best_effort}
use Rattle.registers.specs.StreamCounts.{port_counts}
use Rattle.register_laws.specs.Uses.{Use, calling, writing, left_by}
use Rattle.register_laws.specs.Alike.{AlikeFor, SameCounts}
use Rattle.register_laws.specs.Cases.{control_uses}
use Rattle.register_laws.specs.Says.{Opens, list_of}

-- stream 5's calls and the ticks are those of `control_uses`, in which the ticks are control writes, and all else is another's
abbrev pub crowded_uses : List Use
crowded_uses =
    calling (reserving 6 300)
    ∷ calling (reserving 5 200)
    ∷ calling (arriving 6 200 8)
    ∷ calling (arriving 5 200 1)
    ∷ calling (joining_best_effort 84 9)
    ∷ calling (arriving 5 200 2)
    ∷ writing 28 6
    ∷ calling (arriving 5 200 3)
    ∷ calling transmitting
    ∷ calling (arriving 5 84 4)
    ∷ calling ticking
    ∷ calling (arriving 6 301 10)
    ∷ calling ticking
    ∷ calling ticking
    ∷ []

-- what remains of both once all others are struck out, and which of the stream's reservations are granted
abbrev pub own_calls : List Call
own_calls =
    reserving 5 200
    ∷ arriving 5 200 1
    ∷ arriving 5 200 2
    ∷ arriving 5 200 3
    ∷ arriving 5 84 4
    ∷ ticking
    ∷ ticking
    ∷ ticking
    ∷ []

abbrev pub own_grants : List Bool
own_grants = true ∷ []

pub record CrowdedSays : Type 0 where
  pub opens : Opens crowded_uses
  pub alike : AlikeFor 5 (list_of crowded_uses opens) (list_of control_uses opens)
  -- `counts_alike`: the two lists leave the stream the same counts,
  pub same : SameCounts 5 (list_of crowded_uses opens) (list_of control_uses opens)
  -- so those of the crowded one are those that are known of the other
  pub counted : port_counts 5 (left_by (list_of crowded_uses opens)).port ≡ granted 3 1
