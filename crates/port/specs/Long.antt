-- Record and memory that are long enough for every step.
use Rattle.std.specs.Prelude.{ℕ, ◌≤◌, List, length}
use Rattle.record.specs.Layout.{record_length}
use Rattle.record.specs.Queues.{HasMemory}

pub record Long (p m : List ℕ) : Type 0 where
  pub whole : record_length ≤ length p
  pub room : HasMemory p m
