-- A stream where its rule has moved it.
use Rattle.std.specs.Prelude.{ℕ, List}
use Rattle.stream.specs.declared.Stream.{Stream}
use Rattle.record.specs.Entry.{with_place}

-- the record with the stream at the place, and with what is left there, that the stream's rule hands back
abbrev pub moved : List ℕ → ℕ → Stream → List ℕ
moved p s next = with_place p s next.place next.left
