-- What happens to a port's register block in a list of uses: each call, as that which it counts as, with its reply, and each write to a register that is
-- not refused.
use Rattle.std.specs.Prelude.{ℕ, cond, List, [], ◌∷◌, ◌++◌, eqb}
use Rattle.stream.specs.declared.Reply.{Reply}
use Rattle.steps.specs.Call.{Call}
use Rattle.port_laws.specs.Counting.{counts_as}
use Rattle.register_block.specs.Written.{written_at}
use Rattle.registers.specs.Lent.{record_part}
use Rattle.registers.specs.Notes.{noted}
use Rattle.registers.specs.Calls.{port_call}
use Rattle.registers.specs.Accesses.{register_write}
use Rattle.register_laws.specs.Uses.{Use, calling, reading, writing, used, calls_of, UseList, opened_by}

-- a call as that which it counts as, so that a Frame of a stream's pair is the arrival, with its reply; or a number written to a register
pub data Happening : Type 0 where
  replied : Call → Reply → Happening
  written : ℕ → ℕ → Happening

-- the calls one after the other, each with its reply
abbrev pub replied_to : List Call → List ℕ → List ℕ → List Happening
replied_to [] p m = []
replied_to (c ∷ cs) p m = let o = port_call c p m in replied (counts_as (record_part p) c) o.reply ∷ replied_to cs o.port o.memory

-- a write that makes these calls; one that makes none is written where it is not refused
abbrev pub write_happens : ℕ → ℕ → List ℕ → List ℕ → List Call → List Happening
write_happens offset number p m [] = cond (eqb (register_write offset number p m).reply.refusal 0) (written offset number ∷ []) []
write_happens offset number p m (c ∷ cs) = replied_to (c ∷ cs) p m

-- what happens at a use, and in a list of them
abbrev pub happens : Use → List ℕ → List ℕ → List Happening
happens (calling c) p m = replied_to (c ∷ []) p m
happens (reading offset) p m = []
happens (writing offset number) p m = write_happens offset number p m (calls_of (writing offset number))

abbrev pub happenings : List Use → List ℕ → List ℕ → List Happening
happenings [] p m = []
happenings (u ∷ us) p m = let o = used u p m in happens u p m ++ happenings us o.port o.memory

-- what happens after the Open of a list
abbrev pub happenings_in : UseList → List Happening
happenings_in l = happenings l.later (opened_by l).port (opened_by l).memory

-- the replies among them
abbrev pub replies_in : List Happening → List Reply
replies_in [] = []
replies_in (replied c r ∷ hs) = r ∷ replies_in hs
replies_in (written offset number ∷ hs) = replies_in hs

-- what a happening does to the block, and what all do
abbrev pub note : Happening → List ℕ → List ℕ
note (replied c r) b = noted c r b
note (written offset number) b = written_at offset number b

abbrev pub noted_all : List Happening → List ℕ → List ℕ
noted_all [] b = b
noted_all (h ∷ hs) b = noted_all hs (note h b)
