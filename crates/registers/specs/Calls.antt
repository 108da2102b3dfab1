-- The calls of a port with its registers: the call on the record, then what its reply does to the block. Each gives reply, slice and memory for every slice,
-- memory and argument.
use Rattle.std.specs.Prelude.{ℕ, List, ◌++◌}
use Rattle.steps.specs.Call.{Call}
use Rattle.steps.specs.Outcome.{Outcome, outcome, gated}
use Rattle.port.specs.Calls.{called}
use Rattle.port.specs.Quick.{quickly_called}
use Rattle.port_laws.specs.Counting.{counts_as}
use Rattle.registers.specs.Lent.{record_part, block_part, short_refusal}
use Rattle.registers.specs.Notes.{noted}

-- what a call leaves of the record, with the block behind it as that which it counts as and its reply make it
abbrev pub with_note : Call → List ℕ → Outcome → Outcome
with_note c b o = outcome o.reply (o.port ++ noted c o.reply b) o.memory

-- the call of this sort, with registers
unfoldable pub registered : (Call → List ℕ → List ℕ → Outcome) → Call → List ℕ → List ℕ → Outcome
registered call c p m = gated (short_refusal p m) p m (with_note (counts_as (record_part p) c) (block_part p) (call c (record_part p) m))

-- every call, and every quick call
abbrev pub port_call : Call → List ℕ → List ℕ → Outcome
port_call = registered called

abbrev pub quick_port_call : Call → List ℕ → List ℕ → Outcome
quick_port_call = registered quickly_called
