-- What the examples show of demand 3: its premise can be met, in either way, and what it claims cannot be claimed of smaller numbers.
use Rattle.std.specs.Prelude.{◌-◌, ◌<◌, ◌≡◌, [], ◌∷◌}
use Rattle.lists.specs.Each.{All, Some}
use Rattle.stream.specs.State.{least_queues}
use Rattle.ranges.specs.Ranges.{least_charge}
use Rattle.steps.specs.Call.{reserving, arriving, ticking}
use Rattle.port_laws.specs.Lists.{fresh_record, fresh_memory}
use Rattle.guarantee.specs.Events.{events}
use Rattle.guarantee.specs.Claims.{reserved_octets, Idle, LinkCondition, PurgesNothing, SentBefore, AllSentBefore, offers, remaining, grants, answers}
use Rattle.guarantee.specs.Instances.{marked_frame}
use Rattle.guarantee_examples.specs.Examples.{Happens, busy, light, after_arrival, withheld, permitted200, permitted100, framed, silently, silent, calls_of}

-- each example is what happens in a list of calls, the last one by the machine whose transmit says nothing
pub record AllHappen : Type 0 where
  pub busy_happens : Happens busy
  pub light_happens : Happens light
  pub withheld_happens : Happens withheld
  pub permitted_200_happens : Happens permitted200
  pub permitted_100_happens : Happens permitted100
  pub framed_happens : Happens framed
  pub silent_happens : events silently (calls_of silent) fresh_record fresh_memory ≡ silent

pub record ExamplesShow : Type 0 where
  pub happen : AllHappen
  -- by octets: the link condition is met, and no transmit is without a reserved frame
  pub busy_links : LinkCondition 84 busy
  pub busy_never_idle : Some Idle busy → ⊥
  -- the third tick would be too early
  pub busy_not_by_third : AllSentBefore (least_queues - 1) busy → ⊥
  -- by a transmit without a reserved frame: the link condition is met, with fewer octets than the share
  pub light_links : LinkCondition 600 light
  pub light_octets : reserved_octets light < 600
  -- and for a conforming stream the first tick would be too early
  pub light_not_by_first : SentBefore 1 (marked_frame 5 120 7 3) after_arrival → ⊥
  -- without it: the link condition fails, and a tick purges
  pub withheld_fails : LinkCondition 600 withheld → ⊥
  pub withheld_purges : All PurgesNothing withheld → ⊥
  -- a link condition that asked the least charge less would be met
  pub withheld_nearly_links : LinkCondition (600 - least_charge) withheld
  -- a stream's reservations are among its own calls, since its replies depend on P
  pub same_grants : grants 5 permitted200 ≡ grants 5 permitted100
  pub other_answers : answers 5 permitted200 ≡ answers 5 permitted100 → ⊥
  -- the frame that becomes an Arrive is among its stream's offers and its own calls, and no other frame is
  pub framed_offers : offers 5 framed ≡ 84
  pub framed_remaining : remaining 5 framed ≡ reserving 5 200 ∷ arriving 5 84 7 ∷ ticking ∷ []
  -- demand 3 is false of a machine whose transmit says nothing
  pub silent_links : LinkCondition 600 silent
  pub silent_purges : All PurgesNothing silent → ⊥
