-- Lists of calls and register accesses on one port and its memory: each gets both as the one before it left them.
use Rattle.std.specs.Prelude.{ℕ, ◌≡◌, cond, List, [], ◌∷◌, ◌++◌, eqb}
use Rattle.stream.specs.Replies.{granted}
use Rattle.steps.specs.Call.{Terms, Call, opening}
use Rattle.steps.specs.Outcome.{Outcome, outcome}
use Rattle.register_block.specs.Layout.{control_offset}
use Rattle.registers.specs.Calls.{port_call, quick_port_call}
use Rattle.registers.specs.Accesses.{named, in_turn, register_read, register_write, quick_register_read, quick_register_write}

-- a use of a port: a call, a read of a register by its offset, or a write to one by its offset and the number written
pub data Use : Type 0 where
  calling : Call → Use
  reading : ℕ → Use
  writing : ℕ → ℕ → Use

-- what each use does
abbrev pub used : Use → List ℕ → List ℕ → Outcome
used (calling c) = port_call c
used (reading offset) = register_read offset
used (writing offset number) = register_write offset number

-- and what the quick ones do
abbrev pub quickly_used : Use → List ℕ → List ℕ → Outcome
quickly_used (calling c) = quick_port_call c
quickly_used (reading offset) = quick_register_read offset
quickly_used (writing offset number) = quick_register_write offset number

-- a port before its first use
abbrev pub lent : List ℕ → List ℕ → Outcome
lent p m = outcome (granted 0 0) p m

-- what a list of uses leaves
abbrev pub ran : List Use → List ℕ → List ℕ → Outcome
ran us p m = in_turn used (lent p m) us

-- the calls that a use makes: "a control write counts as the tick and the transmit that it makes"
abbrev pub calls_of : Use → List Call
calls_of (calling c) = c ∷ []
calls_of (reading offset) = []
calls_of (writing offset number) = cond (eqb offset control_offset) (named number) []

abbrev pub all_calls : List Use → List Call
all_calls [] = []
all_calls (u ∷ us) = calls_of u ++ all_calls us

-- a list of uses from a granted Open: what it was given, the Open's terms, and the uses after it
pub record UseList : Type 0 where
  pub port : List ℕ
  pub memory : List ℕ
  pub terms : Terms
  pub later : List Use
  pub opened : (port_call (opening terms) port memory).reply.refusal ≡ 0

-- the Open's outcome, and what the whole list leaves
abbrev pub opened_by : UseList → Outcome
opened_by l = port_call (opening l.terms) l.port l.memory

abbrev pub left_by : UseList → Outcome
left_by l = ran l.later (opened_by l).port (opened_by l).memory
