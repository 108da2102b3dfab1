-- What Bind and Frame refuse of a record and memory that are long enough, in document 01's order, as the other calls do (Refusals).
use Rattle.std.specs.Prelude.{ℕ, not, cond, List, leb}
use Rattle.record.specs.Layout.{stream_count}
use Rattle.record.specs.Head.{open_at}
use Rattle.record.specs.Entry.{stream_at, drains_at, bound_at}
use Rattle.ranges.specs.Ranges.{vid_fits}
use Rattle.header.specs.Header.{length_fits}
use Rattle.binding.specs.Finding.{lookup, is_bound}

-- Bind: "12 stream not reserved [..]; 9 VID outside 1 to 4,094; 10 stream bound already; 11 pair bound already"
unfoldable pub bind_refusal : List ℕ → ℕ → List ℕ → ℕ → ℕ
bind_refusal p s address vid =
    cond (not (open_at p)) 1
    (cond (leb stream_count s) 5
    (cond (drains_at p s) 25
    (cond (not (stream_at p s).reserved) 12
    (cond (not (vid_fits vid)) 9
    (cond (bound_at p s) 10
    (cond (is_bound (lookup p address vid).found) 11 0))))))

-- Frame: "17 frame outside" its octets, "60 to 1,996"; then the refusals of the call that it becomes
unfoldable pub frame_refusal : List ℕ → List ℕ → ℕ
frame_refusal p f = cond (not (open_at p)) 1 (cond (not (length_fits f)) 17 0)
