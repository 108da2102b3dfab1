-- What the host lends for a port: its record, and behind it the register block. Octets past the two are neither read nor written.
use Rattle.std.specs.Prelude.{ℕ, ◌+◌, ◌≤◌, cond, List, ◌++◌, length, take, drop, eqb, ltb}
use Rattle.record.specs.Layout.{record_length, memory_length}
use Rattle.record.specs.Queues.{queues_at}
use Rattle.register_block.specs.Layout.{block_length}

-- the octets that are lent for a port
abbrev pub port_length : ℕ
port_length = record_length + block_length

-- the slice reaches to the end of the block
abbrev pub WholePort : List ℕ → Type 0
WholePort p = port_length ≤ length p

-- the record, and the block with what may lie behind it
abbrev pub record_part : List ℕ → List ℕ
record_part p = take record_length p

abbrev pub block_part : List ℕ → List ℕ
block_part p = drop record_length p

-- the slice with its block changed, and nothing else
unfoldable pub in_block : (List ℕ → List ℕ) → List ℕ → List ℕ
in_block change p = record_part p ++ change (block_part p)

-- 19 of a slice that is too short for record and block, or 18, which is asked first, where the memory is too short as well; of a slice that is long enough
-- the call on the record asks both
unfoldable pub short_refusal : List ℕ → List ℕ → ℕ
short_refusal p m = cond (ltb (length p) port_length) (cond (ltb (length m) (memory_length (queues_at p))) 18 19) 0

-- the refusal of what is lent for a port: of a slice that is too short, or else this refusal of record and memory
abbrev pub port_refusal : (List ℕ → List ℕ → ℕ) → List ℕ → List ℕ → ℕ
port_refusal refusal p m = cond (eqb (short_refusal p m) 0) (refusal (record_part p) m) (short_refusal p m)
