-- R, what the reservations of a port take of its share.
use Rattle.std.specs.Prelude.{ℕ, cond, List}
use Rattle.lists.specs.Turns.{sum_to}
use Rattle.stream.specs.declared.Stream.{Stream}
use Rattle.record.specs.Layout.{stream_count}
use Rattle.record.specs.Entry.{stream_at}

-- what one stream adds to it: P where it is reserved
abbrev pub permitted_of : Stream → ℕ
permitted_of s = cond s.reserved s.permitted 0

-- R, "the sum of the reserved streams' P"
abbrev pub permitted_sum : List ℕ → ℕ
permitted_sum p = sum_to (λ s. permitted_of (stream_at p s)) stream_count
