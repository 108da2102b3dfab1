-- What Withdraw writes and replies, and what Reserve and Open do to a draining count, in numbers. Assumes nothing.
use Prim.Native.Nat.{ℕ}
use mathlib.Core.Path.{◌≡◌, refl}
use mathlib.Core.Bool.{true}
use mathlib.Core.List.{List, [], ◌∷◌, ◌++◌}
use lib.ListN.{replicate}
use Rattle.lists.specs.Turns.{iterate}
use Rattle.record.specs.Queues.{queues_at}
use Rattle.record.specs.Head.{with_queue}
use Rattle.record.specs.Entry.{stream_at, with_stream, drain_at, with_drain, bound_at, dropped}
use Rattle.opening.specs.Opening.{all_dropped, reserved_record}
use Rattle.opening.specs.Withdrawing.{withdrawn_record, withdraw_step}

-- the front of a record, up to the mark of stream 0's binding: open, prior 0, K 1 and no L, which nothing here reads, a frame in queue 0, and stream 0
-- reserved, at current with 200 octets left of 200, its draining count, and bound
abbrev port_with : ℕ → List ℕ
port_with drain =
    (1 ∷ 0 ∷ 1 ∷ replicate {A = ℕ} 5 0)
    ++ (replicate {A = ℕ} 11 0 ++ (1 ∷ (replicate {A = ℕ} 44 0 ++ (1 ∷ 1 ∷ 0 ∷ 200 ∷ 0 ∷ 200 ∷ drain ∷ 1 ∷ []))))

-- "It drains until the fourth tick after the withdrawal"
withdrawn_count : drain_at (withdrawn_record (port_with 0) 0) 0 ≡ 4
unfolding iterate queues_at with_queue stream_at with_stream drain_at with_drain bound_at dropped
withdrawn_count = refl

-- "It still counts as reserved", its binding stands, "its frames already queued stay queued", and nothing else is written
withdrawn_reserved : (stream_at (withdrawn_record (port_with 0) 0) 0).reserved ≡ true
unfolding iterate queues_at with_queue stream_at with_stream drain_at with_drain bound_at dropped
withdrawn_reserved = refl

withdrawn_bound : bound_at (withdrawn_record (port_with 0) 0) 0 ≡ true
unfolding iterate queues_at with_queue stream_at with_stream drain_at with_drain bound_at dropped
withdrawn_bound = refl

withdrawn_record_lem : withdrawn_record (port_with 0) 0 ≡ port_with 4
unfolding iterate queues_at with_queue stream_at with_stream drain_at with_drain bound_at dropped
withdrawn_record_lem = refl

-- "A withdrawal replies two zeros"
withdrawal_first : (withdraw_step (port_with 0) [] 0).reply.first ≡ 0
unfolding iterate queues_at with_queue stream_at with_stream drain_at with_drain bound_at dropped
withdrawal_first = refl

withdrawal_second : (withdraw_step (port_with 0) [] 0).reply.second ≡ 0
unfolding iterate queues_at with_queue stream_at with_stream drain_at with_drain bound_at dropped
withdrawal_second = refl

-- a reservation, and an opening, end the draining of what was there before
reserved_count : drain_at (reserved_record (port_with 2) 0 200) 0 ≡ 0
unfolding iterate queues_at with_queue stream_at with_stream drain_at with_drain bound_at dropped
reserved_count = refl

opened_count : drain_at (all_dropped (port_with 2)) 0 ≡ 0
unfolding iterate queues_at with_queue stream_at with_stream drain_at with_drain bound_at dropped
opened_count = refl
