-- What is said of the record while a withdrawn stream drains, and after that, follows from `drains_exactly`. Assumes nothing.
use Prim.Native.Nat.{ℕ, ◌+◌, ◌≤◌, ◌<◌}
use mathlib.Core.Bool.{true}
use mathlib.Core.Path.{◌≡◌, refl}
use mathlib.Core.List.{List}
use native.Mathlib.Omega.{arith}
use borrow.Author.Tests.{eq-eqb, ne_eqb, le-ltb}
use Rattle.octets.specs.Numbers.{two_of}
use Rattle.stream.specs.State.{reserve_of}
use Rattle.lists.proofs.TurnLaws.{sum_to_change}
use Rattle.record.specs.Layout.{stream_count}
use Rattle.record.specs.Queues.{queues_at}
use Rattle.record.specs.Entry.{stream_at, with_stream, drains_at}
use Rattle.record.specs.Reservations.{permitted_of, permitted_sum}
use Rattle.ranges.specs.Ranges.{share_of, permitted_fits}
use Rattle.record.specs.Head.{open_at, link_at}
use Rattle.gates.specs.Refusals.{reserve_refusal}
use Rattle.steps.specs.Call.{withdrawing}
use Rattle.port.specs.Calls.{called}
use Rattle.port_laws.specs.Lists.{fresh_record}
use Rattle.guarantee.specs.Draining.{Taken, RefusedDraining, Free}
use Rattle.guarantee.proofs.DrainingLaws.{drains_exactly}
use Rattle.guarantee_examples.specs.Withdrawn.{between_calls}
use Rattle.guarantee_examples.specs.DrainingSays.{others_part, others_permitted, NoOwnPart, still_draining, drained, DrainingSays, AllDrain}

own_part : others_part 5 (with_stream fresh_record 5 (reserve_of 200)) 5 ≡ 0
unfolding stream_at with_stream two_of
own_part = refl

pub no_own_part : NoOwnPart
no_own_part = own_part

-- R is a stream's part of it and that of the others
with_others : (s : ℕ) (l : List ℕ) → s < stream_count → permitted_sum l ≡ others_permitted s l + permitted_of (stream_at l s)
with_others s l below =
    let one : ℕ → ℕ = λ r. permitted_of (stream_at l r) in
    let none : others_part s l s ≡ 0 = rw (eq-eqb s s refl) in
    omega (arith, none, sum_to_change one (others_part s l) stream_count s below (λ r other. rw (ne_eqb r s other)))

module _ (p m : List ℕ) (is : (called (withdrawing 5) p m).reply.refusal ≡ 0) where
  abbrev port : List ℕ
  port = (still_draining p m).port

  abbrev memory : List ℕ
  memory = (still_draining p m).memory

  abbrev after : List ℕ
  after = drained p m

  taken : Taken 5 p port
  unfolding queues_at
  taken = (drains_exactly p m 5 is between_calls).taken (omega arith)

  refused : RefusedDraining 5 port memory
  unfolding queues_at
  refused = (drains_exactly p m 5 is between_calls).refused (omega arith)

  free : Free 5 after
  unfolding queues_at
  free = (drains_exactly p m 5 is between_calls).free (omega arith)

  -- only P and share are asked of a reservation
  reserved_again : (permitted : ℕ) → open_at after ≡ true → permitted_fits permitted ≡ true → permitted_sum after + permitted ≤ share_of (link_at after)
      → reserve_refusal after 5 permitted ≡ 0
  unfolding reserve_refusal drains_at
  reserved_again permitted opened fits room =
      rw (opened, free.number, fits, le-ltb (share_of (link_at after)) (permitted_sum after + permitted) room)

  says : DrainingSays p m
  says =
      record {
        still_reserved = taken.number;
        still_permitted = omega (arith, with_others 5 port (omega arith), taken.share);
        still_bound = taken.bound;
        still_vid = taken.vid;
        still_address = taken.address;
        still_no_arrival = refused.arrival;
        still_no_reservation = refused.reservation;
        still_no_binding = refused.bind;
        still_no_withdrawal = refused.withdrawal;
        then_reserved = reserved_again;
        then_permitted = omega (arith, with_others 5 after (omega arith), free.share);
        then_not_bound = free.bound;
      }

pub all_drain : AllDrain
all_drain = says
