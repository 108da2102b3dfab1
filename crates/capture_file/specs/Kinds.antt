-- The kinds of events in the code, and their numbers in a file.
use Rattle.std.specs.Prelude.{ℕ, ◌≡◌, ◌<◌, ◌⊎◌, Result, MatchResult}
use Rattle.capture_file.specs.declared.kind.Kind.{Kind}
use Rattle.capture_file.specs.declared.kind.Kind.TheVariants.{Open, Reserve, Arrive, BestEffort, Tick, Transmit, Withdraw}
use Rattle.capture_file.specs.declared.kind.UnknownKind.{UnknownKind}
use Rattle.capture_file.specs.File.{open_kind, reserve_kind, arrive_kind, best_effort_kind, tick_kind, transmit_kind, withdraw_kind}

-- the number of a kind
abbrev pub kind_number : Kind → ℕ
kind_number Open = open_kind
kind_number Reserve = reserve_kind
kind_number Arrive = arrive_kind
kind_number BestEffort = best_effort_kind
kind_number Tick = tick_kind
kind_number Transmit = transmit_kind
kind_number Withdraw = withdraw_kind

-- the kind of a number, or the number back where no kind has it
abbrev pub Names : ℕ → Result Kind UnknownKind → Type 0
Names n r = MatchResult r (λ kind. kind_number kind ≡ n) (λ unknown. (unknown.0 ≡ n) × ((n < open_kind) ⊎ (withdraw_kind < n)))
