-- An arrival keeps a record fit, whether the frame joins, is discarded or finds its queue full. Assumes nothing.
use Prim.Native.Nat.{ℕ, ◌≤◌, ◌<◌}
use mathlib.Core.Path.{◌≡◌}
use mathlib.Core.Bool.{true}
use mathlib.Core.Logic.{⊎_elim}
use mathlib.Core.List.{List}
use native.Mathlib.Omega.{arith}
use borrow.Author.Tests.{le-leb, lt-leb, lt-ltb, ne_eqb}
use Rattle.lists.proofs.Order.{le_or_lt}
use Rattle.stream.specs.declared.Stream.{Stream}
use Rattle.stream.specs.declared.Reply.{Reply}
use Rattle.stream.specs.declared.Arrival.{Arrival}
use Rattle.stream.specs.declared.Arrival.TheVariants.{Joined, Discarded}
use Rattle.stream.specs.Steps.{arrive_of}
use Rattle.stream.specs.Replies.{reply_of, stream_of}
use Rattle.stream.proofs.FitLaws.{fit_arrive, permitted_arrive}
use Rattle.queue.specs.declared.Frame.{Frame}
use Rattle.queue.specs.Ring.{place_count, joined_memory, joined_queue}
use Rattle.queue.proofs.WaitingLaws.{joins_elsewhere}
use Rattle.record.specs.Layout.{stream_count}
use Rattle.record.specs.Queues.{queues_at, last_place_at, best_effort_at, HasMemory}
use Rattle.record.specs.Head.{queue_at}
use Rattle.record.specs.Entry.{stream_at, drain_at}
use Rattle.record.proofs.KeepLaws.{keeps_place}
use Rattle.ranges.specs.Ranges.{charge_fits}
use Rattle.fitness.specs.Clauses.{frame_fits}
use Rattle.fitness.specs.Fit.{record_fits}
use Rattle.fitness.proofs.FitLaws.{Fit, fit_record, record_fit}
use Rattle.fitness.proofs.TestLaws.{stream_fit}
use Rattle.steps.specs.Roles.{role_at}
use Rattle.arriving.specs.Arriving.{joined_into, arrived, arrive_step}
use Rattle.steps.specs.Moves.{moved}
use Rattle.steps.proofs.RoleLaws.{role_below}
use Rattle.port_laws.proofs.WriteFit.{fits_moved, fits_queue, fits_joined}

-- a frame of a reserved stream is fit in each queue for reserved traffic
pub frame_fits_lem : (best number : ℕ) (f : Frame) → number < best → f.stream < stream_count → charge_fits f.charge ≡ true → frame_fits best number f ≡ true
frame_fits_lem best number f n s charge = rw (ne_eqb number best (λ e. omega arith), lt-ltb f.stream stream_count s, charge)

module _ (p m : List ℕ) (fit : Fit p m) (room : HasMemory p m) (f : Frame) (b : f.stream < stream_count) (charge : charge_fits f.charge ≡ true) where
  -- the frame joins, or its queue is full
  joined_fits : (s number : ℕ) (reply : Reply) (next : Stream) → number < queues_at p → Fit (moved p s next) m
      → Fit (joined_into p m s reply next number f).port (joined_into p m s reply next number f).memory
  joined_fits s number reply next n there =
      let x = queue_at p number in
      let same = (keeps_place p s next.place next.left).queues in
      ⊎_elim
      (λ (full : place_count ≤ x.count). rw (le-leb place_count x.count full) fit)
      (λ (free : x.count < place_count).
      rw (lt-leb place_count x.count free)
      (fits_queue (moved p s next) m there (joined_memory m number x f) number (joined_queue x)
      (rw same (fits_joined p m fit number f (omega arith) room free (frame_fits_lem (best_effort_at p) number f n b charge)))
      (λ r y o. joins_elsewhere m number r x y f o)
      (omega (arith, same))))
      (le_or_lt place_count x.count)

  arrived_fits : (s : ℕ) (reply : Reply) (r : Arrival) → Fit (moved p s (stream_of r)) m → Fit (arrived p m s f reply r).port (arrived p m s f reply r).memory
  arrived_fits s reply (Joined place next) there = joined_fits s (role_at p place) reply next (role_below p place) there
  arrived_fits s reply (Discarded spent) there = there

-- by where the stream's rule puts the frame
pub arrive_fits : (p m : List ℕ) (s a tag : ℕ) → HasMemory p m → record_fits p m ≡ true → s < stream_count → (stream_at p s).reserved ≡ true
    → charge_fits a ≡ true
    → record_fits (arrive_step p m s a tag).port (arrive_step p m s a tag).memory ≡ true
unfolding arrive_step
arrive_fits p m s a tag room h b reserved charge =
    let fit = fit_record p m h in
    let r = arrive_of (last_place_at p) (stream_at p s) a in
    record_fit (arrive_step p m s a tag).port (arrive_step p m s a tag).memory
    (arrived_fits p m fit room (record { stream = s; charge = a; tag = tag }) b charge s (reply_of r) r
    (fits_moved p m fit s (stream_of r)
    (λ c. fit_arrive (last_place_at p) (stream_at p s) a (stream_fit (last_place_at p) (stream_at p s) (drain_at p s) reserved (fit.streams s b)))
    reserved
    (permitted_arrive (last_place_at p) (stream_at p s) a)))
