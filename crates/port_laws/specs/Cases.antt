-- Document 01's cases C1 to C12 with document 02's numbers, each as calls on a port never opened, and what they reply. Stream 5 with P = 200,
-- L = 2,620, K = 1, unless said otherwise.
use Rattle.std.specs.Prelude.{ℕ, ◌-◌, List, [], ◌∷◌, ◌++◌, replicate}
use Rattle.stream.specs.declared.Reply.{Reply}
use Rattle.stream.specs.Replies.{granted, refused_by}
use Rattle.steps.specs.Call.{terms, Call, opening, reserving, withdrawing, arriving, ticking, transmitting, joining_best_effort, binding, framing}
use Rattle.port.specs.Calls.{called}
use Rattle.port_laws.specs.Lists.{replies, fresh_record, fresh_memory}

-- a case: the calls, and what they are to reply
pub record Case : Type 0 where
  pub calls : List Call
  pub expected : List Reply

-- the calls of a case after those of another
abbrev pub continued : Case → List Call → List Reply → Case
continued c cs rs = record { calls = c.calls ++ cs; expected = c.expected ++ rs }

-- L, "unless said otherwise"
abbrev pub case_link : ℕ
case_link = 2620

-- the port open, and the stream reserved
abbrev pub opened_case : Case
opened_case = record { calls = opening (terms case_link 1) ∷ []; expected = granted 600 0 ∷ [] }

abbrev pub reserved_case : Case
reserved_case = continued opened_case (reserving 5 200 ∷ []) (granted 400 0 ∷ [])

-- "C1 L" 2,103: "3"; 2,104: "share 84"
abbrev pub c1 : Case
c1 = record { calls = opening (terms 2103 1) ∷ opening (terms 2104 1) ∷ []; expected = refused_by 3 ∷ granted 84 0 ∷ [] }

-- "C2 L" 23,524: "share 21,504"; 23,525: "3", the refused one first, since a port opens once
abbrev pub c2 : Case
c2 = record { calls = opening (terms 23525 1) ∷ opening (terms 23524 1) ∷ []; expected = refused_by 3 ∷ granted 21504 0 ∷ [] }

-- "C3 P 83: 7; 84 granted"
abbrev pub c3 : Case
c3 = continued opened_case (reserving 5 83 ∷ reserving 5 84 ∷ []) (refused_by 7 ∷ granted 516 0 ∷ [])

-- "C4 after 200, P 401: 8; 400 granted"
abbrev pub c4 : Case
c4 = continued reserved_case (reserving 6 401 ∷ reserving 6 400 ∷ []) (refused_by 8 ∷ granted 0 0 ∷ [])

-- "C5 charge 200: current, then next with left 200"
abbrev pub c5 : Case
c5 = continued reserved_case (arriving 5 200 1 ∷ []) (granted 1 200 ∷ [])

-- "C6 120, 100: as in the output", that is, of the sample capture, whose other events follow here
abbrev pub c6 : Case
c6 = continued reserved_case (arriving 5 120 7 ∷ arriving 5 100 8 ∷ []) (granted 1 80 ∷ granted 2 100 ∷ [])

abbrev pub sample : Case
sample =
    continued c6
    (transmitting ∷ transmitting ∷ ticking ∷ transmitting ∷ [])
    (granted 5 7 ∷ granted 254 0 ∷ granted 0 0 ∷ granted 5 8 ∷ [])

-- "C7 then 90: next, left 10; then 84: last, left 116"
abbrev pub c7 : Case
c7 = continued c6 (arriving 5 90 9 ∷ arriving 5 84 10 ∷ []) (granted 2 10 ∷ granted 3 116 ∷ [])

-- "C8 200 three times: current, next, last; then 84: 14"
abbrev pub c8 : Case
c8 =
    continued reserved_case
    (arriving 5 200 1 ∷ arriving 5 200 2 ∷ arriving 5 200 3 ∷ arriving 5 84 4 ∷ [])
    (granted 1 200 ∷ granted 2 200 ∷ granted 3 0 ∷ refused_by 14 ∷ [])

-- "C9 C8, tick, 84: last, left 116"
abbrev pub c9 : Case
c9 = continued c8 (ticking ∷ arriving 5 84 5 ∷ []) (granted 0 0 ∷ granted 3 116 ∷ [])

-- "C10 charge 201: 14; then 84: 14"
abbrev pub c10 : Case
c10 = continued reserved_case (arriving 5 201 1 ∷ arriving 5 84 2 ∷ []) (refused_by 14 ∷ refused_by 14 ∷ [])

-- "C11 charges 83 and" 2,021: "13"
abbrev pub c11 : Case
c11 = continued reserved_case (arriving 5 83 1 ∷ arriving 5 2021 2 ∷ []) (refused_by 13 ∷ refused_by 13 ∷ [])

-- "C12 becomes 2,020, then 400, W 2,420"; "then 84: 16"
abbrev pub c12 : Case
c12 =
    continued reserved_case
    (joining_best_effort 2020 1 ∷ joining_best_effort 400 2 ∷ joining_best_effort 84 3 ∷ [])
    (granted 2020 0 ∷ granted 2420 0 ∷ refused_by 16 ∷ [])

abbrev pub cases : List Case
cases = c1 ∷ c2 ∷ c3 ∷ c4 ∷ c5 ∷ c6 ∷ sample ∷ c7 ∷ c8 ∷ c9 ∷ c10 ∷ c11 ∷ c12 ∷ []

-- beside them, the calls that no case makes: a Bind, the Frame that becomes an Arrive by it, and one without a VLAN tag, each of so many octets
abbrev pub case_address : List ℕ
case_address = 1 ∷ 0 ∷ 94 ∷ 0 ∷ 0 ∷ 5 ∷ []

abbrev pub case_tagged : ℕ → List ℕ
case_tagged octets = case_address ++ (replicate {A = ℕ} 6 0 ++ (129 ∷ 0 ∷ 0 ∷ 100 ∷ replicate {A = ℕ} (octets - 16) 0))

abbrev pub case_untagged : ℕ → List ℕ
case_untagged octets = replicate {A = ℕ} octets 0

abbrev pub frames_case : Case
frames_case =
    continued reserved_case
    (binding 5 case_address 100 ∷ framing (case_tagged 60) 7 ∷ framing (case_untagged 60) 8 ∷ [])
    (granted 0 0 ∷ granted 1 116 ∷ granted 84 0 ∷ [])

-- "frames of up to 2,000 octets with check sequence", on a stream that has the largest charge in each epoch: the longest, one octet more, the longest in
-- best effort, and the shortest of those beyond 1,518 octets
abbrev pub long_frames_case : Case
long_frames_case =
    record {
      calls = opening (terms 4040 1)
          ∷ reserving 5 2020
          ∷ binding 5 case_address 100
          ∷ framing (case_tagged 1996) 7
          ∷ framing (case_tagged 1997) 8
          ∷ framing (case_untagged 1996) 9
          ∷ framing (case_tagged 1519) 10
          ∷ [];
      expected = granted 2020 0 ∷ granted 0 0 ∷ granted 0 0 ∷ granted 1 2020 ∷ refused_by 17 ∷ granted 2020 0 ∷ granted 2 477 ∷ [];
    }

-- a stream that is withdrawn and asked for again, at once and after each tick: "It drains until the fourth tick after the withdrawal"
abbrev pub withdraw_case : Case
withdraw_case =
    continued reserved_case
    (withdrawing 5
    ∷ reserving 5 200
    ∷ ticking
    ∷ reserving 5 200
    ∷ ticking
    ∷ reserving 5 200
    ∷ ticking
    ∷ reserving 5 200
    ∷ ticking
    ∷ reserving 5 200
    ∷ [])
    (granted 0 0
    ∷ refused_by 25
    ∷ granted 0 0
    ∷ refused_by 25
    ∷ granted 0 0
    ∷ refused_by 25
    ∷ granted 0 0
    ∷ refused_by 25
    ∷ granted 0 0
    ∷ granted 400 0
    ∷ [])

-- what the calls reply to a case
abbrev pub replies_to : Case → List Reply
replies_to c = replies called c.calls fresh_record fresh_memory
