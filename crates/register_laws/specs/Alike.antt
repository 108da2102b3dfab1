-- "A stream's counts depend only on ticks, its own calls (frames bound to it too) and which of its reservations are granted."
use Rattle.std.specs.Prelude.{ℕ, ◌<◌, ◌≡◌, List, ◌∷◌}
use Rattle.record.specs.Layout.{stream_count}
use Rattle.steps.specs.Call.{opening}
use Rattle.port.specs.Calls.{called}
use Rattle.guarantee.specs.Events.{Event, events}
use Rattle.guarantee.specs.Claims.{remaining, grants}
use Rattle.register_block.specs.Layout.{accepted_octet, discarded_octet}
use Rattle.register_block.specs.Fields.{word_at}
use Rattle.registers.specs.Lent.{record_part, block_part}
use Rattle.register_laws.specs.Uses.{all_calls, UseList, left_by}

-- the events of a list's calls, as demand 3 has them: a control write counts as the tick and the transmit that it makes, and a Frame that becomes an arrival
-- as that arrival
abbrev pub events_of : UseList → List Event
events_of l = events called (opening l.terms ∷ all_calls l.later) (record_part l.port) l.memory

-- two lists are alike in the order of ticks and the stream's own calls, and in which of its reservations are granted
pub record AlikeFor (s : ℕ) (l k : UseList) : Type 0 where
  pub calls : remaining s (events_of l) ≡ remaining s (events_of k)
  pub granted : grants s (events_of l) ≡ grants s (events_of k)

-- they leave the stream the same counts
pub record SameCounts (s : ℕ) (l k : UseList) : Type 0 where
  pub accepted : word_at (block_part (left_by l).port) (accepted_octet s) ≡ word_at (block_part (left_by k).port) (accepted_octet s)
  pub discarded : word_at (block_part (left_by l).port) (discarded_octet s) ≡ word_at (block_part (left_by k).port) (discarded_octet s)

-- "whatever else is in them", on whatever port each begins
abbrev pub CountsAlike : Type 0
CountsAlike = (l k : UseList) (s : ℕ) → s < stream_count → AlikeFor s l k → SameCounts s l k
