-- `ticking::tick_streams` meets its contract. After the last turn the loop has come to the number of the streams. Assumes nothing.
use mathlib.Core.Path.{◌≡◌}
use native.Mathlib.Omega.{arith}
use Rattle.record.specs.Layout.{stream_count}
use Rattle.ticking.proofs.tick_streams.Goals as goal

pub returns : goal.returns
returns c =
    let all : c.loop-s.s ≡ stream_count = omega arith in
    rw all at c.loop-s.invariant
