-- The reply of a call as an export hands it over: the refusal is returned, the two numbers are left in `first` and `second`.
use Rattle.std.specs.Prelude.{ℕ}
use Rattle.stream.specs.declared.Reply.{Reply}

abbrev pub handed : ℕ → ℕ → ℕ → Reply
handed returned first second = record { refusal = returned; first = first; second = second }
