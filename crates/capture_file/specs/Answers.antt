-- What the code's answers say of a file.
use Rattle.std.specs.Prelude.{ℕ, Result, Ok, Err}
use Rattle.capture_file.specs.declared.refused.Fault.{Fault}
use Rattle.capture_file.specs.declared.refused.Fault.TheVariants.{Length, Header, Index, Record}
use Rattle.capture_file.specs.declared.refused.Refused.{Refused}
use Rattle.capture_file.specs.Checks.{FileRefusal, refused_at, all_good}

-- the number of each fault
abbrev pub number_of : Fault → ℕ
number_of Length = 21
number_of Header = 22
number_of Index = 23
number_of Record = 24

-- a refusal as a number and an index
abbrev pub told : Refused → FileRefusal
told r = refused_at (number_of r.fault) r.index

-- the refusal of an answer; where the answer is `Ok`, nothing is refused
abbrev pub refusal_of : {T : Type 0} → Result T Refused → FileRefusal
refusal_of (Ok t) = all_good
refusal_of (Err r) = told r

-- the number of a record's fault, or 0
abbrev pub fault_of : {T : Type 0} → Result T Fault → ℕ
fault_of (Ok t) = 0
fault_of (Err fault) = number_of fault
