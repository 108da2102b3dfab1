-- What a call leaves: its reply, the record and the memory after it.
use Rattle.std.specs.Prelude.{ℕ, cond, List, eqb}
use Rattle.stream.specs.declared.Reply.{Reply}
use Rattle.stream.specs.Replies.{refused_by}

-- the three together
pub record Outcome : Type 0 where
  pub reply : Reply
  pub port : List ℕ
  pub memory : List ℕ

-- the outcome of a reply, a record and a memory
abbrev pub outcome : Reply → List ℕ → List ℕ → Outcome
outcome reply port memory = record { reply = reply; port = port; memory = memory }

-- "A refusal replies its number and two zeros [..]; port and memory keep their contents"
abbrev pub refused : ℕ → List ℕ → List ℕ → Outcome
refused number p m = outcome (refused_by number) p m

-- a refusal, which leaves record and memory as they are, or what is done where its number is 0
abbrev pub gated : ℕ → List ℕ → List ℕ → Outcome → Outcome
gated number p m done = cond (eqb number 0) done (refused number p m)

-- what a call does to a record and a memory that are long enough: its own refusals, and where there is none its step
abbrev pub performed : (List ℕ → ℕ) → (List ℕ → List ℕ → Outcome) → List ℕ → List ℕ → Outcome
performed refusal step p m = gated (refusal p) p m (step p m)
