-- Lists of calls on one port and its memory: each call gets both as the one before it left them.
use Rattle.std.specs.Prelude.{ℕ, List, [], ◌∷◌, replicate}
use Rattle.stream.specs.declared.Reply.{Reply}
use Rattle.stream.specs.State.{least_queues}
use Rattle.record.specs.Layout.{record_length, memory_length}
use Rattle.steps.specs.Call.{Call}
use Rattle.steps.specs.Outcome.{Outcome}

-- the replies of a list of calls, by whichever sort of call
abbrev pub replies : (Call → List ℕ → List ℕ → Outcome) → List Call → List ℕ → List ℕ → List Reply
replies call [] p m = []
replies call (c ∷ cs) p m = let o = call c p m in o.reply ∷ replies call cs o.port o.memory

-- "A port starts closed, its queues empty and no stream reserved"
abbrev pub fresh_record : List ℕ
fresh_record = replicate record_length 0

-- the memory that such a port is lent, for the fewest queues
abbrev pub fresh_memory : List ℕ
fresh_memory = replicate (memory_length least_queues) 0
