-- What demand 3 says of these lists. Each line follows from the theorem that its comment names, and would be lost with it. What it says of an open part
-- it says of every list of calls with such events, on whatever record and memory; that no more can be said is shown beside it or in Shown.
use Rattle.std.specs.Prelude.{ℕ, ◌+◌, ◌-◌, true, false, ◌≡◌, List, [], ◌∷◌, ◌++◌, map, get_or}
use Rattle.lists.specs.Each.{Some}
use Rattle.stream.specs.declared.Reply.{Reply}
use Rattle.stream.specs.Replies.{granted, refused_by}
use Rattle.queue.specs.Place.{place_length}
use Rattle.queue.specs.Ring.{part_length}
use Rattle.record.specs.Head.{open_at}
use Rattle.ranges.specs.Ranges.{link_of}
use Rattle.fitness.specs.Fit.{record_fits}
use Rattle.gates.specs.FrameRefusals.{frame_refusal}
use Rattle.steps.specs.Call.{terms, Call, opening, joining_best_effort, framing}
use Rattle.port.specs.Calls.{called}
use Rattle.port.specs.Quick.{quickly_called}
use Rattle.port_laws.specs.Lists.{replies, fresh_record, fresh_memory}
use Rattle.guarantee.specs.Events.{Sent, reserved_sent, Made, both_runs, Event, events}
use Rattle.guarantee.specs.Claims.{LinkCondition, Sends, SentBefore, OffersWithin}
use Rattle.guarantee.specs.Demand3.{runs_of}
use Rattle.guarantee_examples.specs.Examples.{Happens, untagged, busy, permitted200, permitted100, calls_of}
use Rattle.guarantee_examples.specs.LeftOpen.{transmitted, later_calls, crowded_before, crowded_to_second_tick, crowded_after, crowded_with, crowded_place, crowded_frame, too_soon, crowded_third, crowded, crowded_own, busy_last_arrival, busy_after, busy_with, second_frame, third_frame, busy_second, busy_third, purges_none, nearly_with, nearly, alone_calls, alone_with, alone_own, six_answers, alone, arrived_with, discards, too_short, unfit, queue_full, shortest_frame, unfit_record, kept_tag, number_tag}
use Rattle.guarantee_examples.specs.AddUp.{replies_alone}

-- where the tag of current's first frame ends at opening, when current is queue 1
abbrev pub tag_octet : ℕ
tag_octet = part_length + place_length - 1

-- the lists happen, on a port never opened, with the open parts as they are written; so nothing below is said of no list
pub record OpenPartsHappen : Type 0 where
  pub crowded_happens : events called (opening (terms (link_of 600) 1) ∷ later_calls crowded) fresh_record fresh_memory ≡ crowded
  pub crowded_links : LinkCondition 600 crowded
  pub busy_happens : busy_with busy_second busy_third purges_none ≡ busy
  pub nearly_happens : events called (opening (terms (link_of 600) 1) ∷ later_calls nearly) fresh_record fresh_memory ≡ nearly
  pub alone_happens : events called (opening (terms (link_of 200) 3) ∷ alone_calls) fresh_record fresh_memory ≡ alone
  pub arrived_happens : arrived_with (refused_by discards) (refused_by discards) ≡ permitted100

-- the last octet of the frame's tag in the memory of each run of `permitted200`: the caller's tag, and the call's number
pub record TagsKept : Type 0 where
  pub own_tag : map (λ (x : Made). get_or x.real.memory tag_octet 0) (both_runs called (calls_of permitted200) fresh_record fresh_memory) ≡ 0 ∷ 0 ∷ kept_tag ∷ []
  pub shown_tag : map (λ (x : Made). get_or x.shown.memory tag_octet 0) (both_runs called (calls_of permitted200) fresh_record fresh_memory) ≡ 0 ∷ 0 ∷ number_tag ∷ []

-- what follows from the fields of `demand_3`
pub record DemandSays : Type 0 where
  -- `prompt`: stream 5 conforms, though 6 and 7 do not; so its frame joins current ..
  pub prompt_joins : (reply : Reply) (sent : Sent) (said shown : Reply) → let es = crowded_with reply (transmitted sent said shown) in
      Happens es → LinkCondition 600 es → (reply.refusal ≡ 0) × (reply.first ≡ crowded_place)
  -- .. and some event sends it before the second tick: of those that are open, the third transmit
  pub prompt_sends : (reply : Reply) (sent : Sent) (said shown : Reply) → let es = crowded_with reply (transmitted sent said shown) in
      Happens es → LinkCondition 600 es → Some (Sends crowded_frame) (crowded_to_second_tick (transmitted sent said shown))
  pub prompt_sends_third : (reply : Reply) (sent : Sent) (said shown : Reply) → let es = crowded_with reply (transmitted sent said shown) in
      Happens es → LinkCondition 600 es → sent ≡ reserved_sent crowded_frame
  -- it is not sent before the first tick, and stream 6 does not conform
  pub prompt_not_sooner : SentBefore too_soon crowded_frame (crowded_after crowded_third) → ⊥
  pub prompt_six_offers : OffersWithin 6 200 crowded_before → ⊥
  -- `all_sent`: the frame that joined last is sent after the third tick, before the fourth (`busy_not_by_third`)
  pub all_sent_third : (sent : Sent) (said shown : Reply) → let es = busy_with busy_second (transmitted sent said shown) purges_none in
      Happens es → LinkCondition 84 es → sent ≡ reserved_sent third_frame
  -- `no_purge`: the fourth tick replies two zeros, and where the link condition fails it need not (`withheld_purges`)
  pub no_purge_zeros : (reply : Reply) → Happens (busy_with busy_second busy_third reply) → reply ≡ purges_none
  -- `alike`: the arrivals of stream 6 get the same replies alone as in the crowd, where L, K and the calls of all others differ
  pub alike_six : (first second third fourth : Reply) → Happens (alone_with first second third fourth)
      → first ∷ second ∷ third ∷ fourth ∷ [] ≡ six_answers
  -- `records`: after each call the record of the run whose frames are marked is the port's own (its memory is not, `TagsKept`)
  pub records_same : (happens : Happens permitted200) (before after : List Made) (x : Made) → runs_of happens.list ≡ before ++ (x ∷ after)
      → x.shown.port ≡ x.real.port
  -- `says`: the transmit that sends stream 5's frame replies its stream and tag, and where the tags are the calls' numbers its stream and number
  pub says_frame : (said shown : Reply) → Happens (crowded_with (granted crowded_place 80) (transmitted (reserved_sent crowded_frame) said shown))
      → (said ≡ granted 5 7) × (shown ≡ granted 5 10)
  -- `marks`: a discard is replied as such where the tags are the calls' numbers
  pub marks_discard : (shown : Reply) → Happens (arrived_with (refused_by discards) shown) → shown ≡ refused_by discards
  -- `not_by_host`: the arrival that is discarded there is nowhere refused with 18, 19 or 20
  pub never_18 : Happens (arrived_with (refused_by too_short) (refused_by too_short)) → ⊥
  pub never_19 : Happens (arrived_with (refused_by unfit) (refused_by unfit)) → ⊥
  pub never_20 : Happens (arrived_with (refused_by queue_full) (refused_by queue_full)) → ⊥

-- what follows from the theorems beside it
pub record TheoremsSay : Type 0 where
  -- `sent_as_replied`: the frame that joined next is sent before the third tick, and not before the second
  pub replied_second : (sent : Sent) (said shown : Reply) → let es = busy_with (transmitted sent said shown) busy_third purges_none in
      Happens es → LinkCondition 84 es → sent ≡ reserved_sent second_frame
  pub replied_not_sooner : SentBefore 2 second_frame (busy_last_arrival ∷ busy_after busy_second busy_third purges_none) → ⊥
  -- `replied_as_alone`: whatever 6 and 7 send, and without the link condition, stream 5 gets the replies that it gets by itself ..
  pub crowd_alone : (reply : Reply) (sent : Sent) (said shown : Reply) → Happens (crowded_with reply (transmitted sent said shown))
      → reply ∷ granted 1 80 ∷ [] ≡ replies_alone 200 crowded_own
  -- .. and so does stream 6 of which the first arrival is by a Frame
  pub frame_alone : (first second third fourth : Reply) → Happens (alone_with first second third fourth)
      → first ∷ second ∷ third ∷ fourth ∷ [] ≡ replies_alone 200 alone_own
  -- `promised_by_less`: with 83 octets less than the share sent the link condition fails, and yet no tick purges; with 84 less one does (`withheld_purges`)
  pub nearly_fails : LinkCondition 600 nearly → ⊥
  pub nearly_purges_none : (reply : Reply) → Happens (nearly_with reply) → reply ≡ purges_none
  -- `quick_events_lem`, `quick_replies`: by the quick calls the same happens, and they reply the same
  pub quick_crowded : events quickly_called (opening (terms (link_of 600) 1) ∷ later_calls crowded) fresh_record fresh_memory ≡ crowded
  pub quick_alone : replies quickly_called (opening (terms (link_of 200) 3) ∷ alone_calls) fresh_record fresh_memory ≡ map (λ (e : Event). e.reply) alone
  -- `stays_fit`, `quick_call`: after any call on a port never opened the quick form of any other equals it
  pub quick_second : (c d : Call) → let o = called c fresh_record fresh_memory in quickly_called d o.port o.memory ≡ called d o.port o.memory
  -- `granted_open_fits`: the quick Open of an unfit record, which Open refuses, leaves one that is fit
  pub unfit_before : record_fits unfit_record fresh_memory ≡ false
  pub unfit_refused : (called (opening (terms (link_of 600) 1)) unfit_record fresh_memory).reply ≡ refused_by 19
  pub unfit_opened : (quickly_called (opening (terms (link_of 600) 1)) unfit_record fresh_memory).reply ≡ granted 600 0
  pub fit_after : let o = quickly_called (opening (terms (link_of 600) 1)) unfit_record fresh_memory in record_fits o.port o.memory ≡ true
  -- `frame_becomes`: a frame without a VLAN tag, of the fewest octets that it may have, is a Best effort on every record and memory ..
  pub untagged_joins : (p m : List ℕ) → called (framing (untagged shortest_frame) 9) p m ≡ called (joining_best_effort 84 9) p m
  -- .. `frame_not_17`: it is nowhere refused with 17; `Frame-refused`: with an octet less it is, on every open port
  pub untagged_not_17 : (p m : List ℕ) → (called (framing (untagged shortest_frame) 9) p m).reply.refusal ≡ 17 → ⊥
  pub untagged_short : (p : List ℕ) → open_at p ≡ true → frame_refusal p (untagged (shortest_frame - 1)) ≡ 17
