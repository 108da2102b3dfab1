-- The register accesses: a read and a write by offset. Their checks run 26, 18, 19, and for a control write's ticks and transmits 1.
use Rattle.std.specs.Prelude.{ℕ, ◌%◌, cond, not, ◌||◌, List, [], ◌∷◌, ◌++◌, eqb, ltb}
use Rattle.stream.specs.Replies.{granted}
use Rattle.record.specs.Head.{open_at}
use Rattle.fitness.specs.Fit.{lent_refusal}
use Rattle.steps.specs.Call.{Call, ticking, transmitting}
use Rattle.steps.specs.Outcome.{Outcome, outcome, gated}
use Rattle.port.specs.Calls.{called}
use Rattle.port.specs.Quick.{length_refusal, quickly_called}
use Rattle.register_block.specs.Layout.{last_offset, register_length, control_offset}
use Rattle.register_block.specs.Fields.{bit_of, bit0, bit1}
use Rattle.register_block.specs.Shown.{register_at}
use Rattle.register_block.specs.Written.{written_at}
use Rattle.registers.specs.Lent.{block_part, in_block, port_refusal}
use Rattle.registers.specs.Calls.{registered}

-- "It refuses with 26 an offset that is no multiple of 4 or is above 60, before 18"
unfoldable pub offset_refusal : ℕ → ℕ
offset_refusal offset = cond (not (eqb (offset % register_length) 0) || ltb last_offset offset) 26 0

-- "A read replies the register and 0", by this refusal of what is lent
unfoldable pub read_by : (List ℕ → List ℕ → ℕ) → ℕ → List ℕ → List ℕ → Outcome
read_by refusal offset p m =
    gated (offset_refusal offset) p m
    (gated (port_refusal refusal p m) p m (outcome (granted (register_at (open_at p) (block_part p) offset) 0) p m))

-- the calls that a number written to control names: "writing bit 0 ticks, then bit 1 transmits"
unfoldable pub named : ℕ → List Call
named number = cond (bit_of number bit0) (ticking ∷ []) [] ++ cond (bit_of number bit1) (transmitting ∷ []) []

-- what is done in turn, each on what the one before it left; the outcome of the last one
abbrev pub in_turn : {X : Type 0} → (X → List ℕ → List ℕ → Outcome) → Outcome → List X → Outcome
in_turn does o [] = o
in_turn does o (x ∷ xs) = in_turn does (does x o.port o.memory) xs

-- a write that names these calls, by this sort of call and this refusal of what is lent: it replies "as its last call"; one that names none writes the
-- register, and replies "two zeros", whether the port is open or not: "1 stops only ticks and transmits"
abbrev pub written_by : (Call → List ℕ → List ℕ → Outcome) → (List ℕ → List ℕ → ℕ) → ℕ → ℕ → List ℕ → List ℕ → List Call → Outcome
written_by call refusal offset number p m [] = gated (port_refusal refusal p m) p m (outcome (granted 0 0) (in_block (written_at offset number) p) m)
written_by call refusal offset number p m (c ∷ cs) = in_turn (registered call) (registered call c p m) cs

unfoldable pub write_by : (Call → List ℕ → List ℕ → Outcome) → (List ℕ → List ℕ → ℕ) → ℕ → ℕ → List ℕ → List ℕ → Outcome
write_by call refusal offset number p m =
    gated (offset_refusal offset) p m (written_by call refusal offset number p m (cond (eqb offset control_offset) (named number) []))

-- the read and the write, and the quick ones, which of 18 and 19 ask only the lengths
abbrev pub register_read : ℕ → List ℕ → List ℕ → Outcome
register_read = read_by lent_refusal

abbrev pub register_write : ℕ → ℕ → List ℕ → List ℕ → Outcome
register_write = write_by called lent_refusal

abbrev pub quick_register_read : ℕ → List ℕ → List ℕ → Outcome
quick_register_read = read_by length_refusal

abbrev pub quick_register_write : ℕ → ℕ → List ℕ → List ℕ → Outcome
quick_register_write = write_by quickly_called length_refusal
