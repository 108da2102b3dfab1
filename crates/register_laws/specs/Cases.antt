-- The request's sentences as lists of uses on a port never opened, and what they reply. Stream 5 with P = 200, L = 2,620, K = 1.
use Rattle.std.specs.Prelude.{ℕ, ◌+◌, List, [], ◌∷◌, ◌++◌, replicate}
use Rattle.lists.specs.Window.{put}
use Rattle.octets.specs.Numbers.{four_octets}
use Rattle.stream.specs.declared.Reply.{Reply}
use Rattle.stream.specs.Replies.{granted, refused_by}
use Rattle.record.specs.Layout.{record_length}
use Rattle.steps.specs.Call.{terms, opening, reserving, withdrawing, arriving, joining_best_effort, binding, framing}
use Rattle.port_laws.specs.Cases.{case_address, case_tagged}
use Rattle.steps.specs.Outcome.{Outcome}
use Rattle.register_block.specs.Layout.{accepted_octet}
use Rattle.registers.specs.Lent.{port_length}
use Rattle.register_laws.specs.Uses.{Use, calling, reading, writing}

-- the slice of a port never opened, record and block
abbrev pub fresh_port : List ℕ
fresh_port = replicate port_length 0

-- uses, and what they are to reply
pub record UseCase : Type 0 where
  pub uses : List Use
  pub expected : List Reply

-- what a list of uses replies, by whichever sort
abbrev pub uses_reply : (Use → List ℕ → List ℕ → Outcome) → List Use → List ℕ → List ℕ → List Reply
uses_reply does [] p m = []
uses_reply does (u ∷ us) p m = let o = does u p m in o.reply ∷ uses_reply does us o.port o.memory

-- a closed port keeps a mask and a choice that are written, and its status is 0; a granted Open starts both anew
abbrev pub closed_case : UseCase
closed_case =
    record {
      uses = writing 12 7
          ∷ writing 28 70
          ∷ reading 12
          ∷ reading 28
          ∷ reading 4
          ∷ writing 0 1
          ∷ calling (opening (terms 2103 1))
          ∷ reading 12
          ∷ calling (opening (terms 2620 1))
          ∷ reading 12
          ∷ reading 28
          ∷ reading 4
          ∷ [];
      expected = granted 0 0
          ∷ granted 0 0
          ∷ granted 7 0
          ∷ granted 70 0
          ∷ granted 0 0
          ∷ refused_by 1
          ∷ refused_by 3
          ∷ granted 7 0
          ∷ granted 600 0
          ∷ granted 0 0
          ∷ granted 0 0
          ∷ granted 1 0
          ∷ [];
    }

-- three frames of the chosen stream accepted and one discarded, with a mask of bits 0 and 2: counts, flags and line; the flag cleared by a one, and not by a
-- zero
abbrev pub discard_uses : List Use
discard_uses =
    calling (reserving 5 200)
    ∷ writing 12 5
    ∷ writing 28 5
    ∷ calling (arriving 5 200 1)
    ∷ calling (arriving 5 200 2)
    ∷ calling (arriving 5 200 3)
    ∷ calling (arriving 5 84 4)
    ∷ []

abbrev pub discard_case : UseCase
discard_case =
    record {
      uses = (calling (opening (terms 2620 1)) ∷ discard_uses) ++ (reading 16 ∷ reading 20 ∷ reading 8 ∷ reading 4 ∷ writing 8 6 ∷ reading 8 ∷ writing 8 1 ∷ reading 8 ∷ reading 4 ∷ []);
      expected = granted 600 0
          ∷ granted 400 0
          ∷ granted 0 0
          ∷ granted 0 0
          ∷ granted 1 200
          ∷ granted 2 200
          ∷ granted 3 0
          ∷ refused_by 14
          ∷ granted 3 0
          ∷ granted 1 0
          ∷ granted 1 0
          ∷ granted 3 0
          ∷ granted 0 0
          ∷ granted 1 0
          ∷ granted 0 0
          ∷ granted 0 0
          ∷ granted 1 0
          ∷ [];
    }

-- both bits tick and then transmit, and reply as the transmit; two ticks more purge a frame; a transmit sends, and one has nothing to send
abbrev pub control_uses : List Use
control_uses = discard_uses ++ (writing 0 3 ∷ writing 0 1 ∷ writing 0 1 ∷ writing 0 2 ∷ writing 0 2 ∷ [])

abbrev pub control_case : UseCase
control_case =
    record {
      uses = (calling (opening (terms 2620 1)) ∷ control_uses) ++ (reading 8 ∷ reading 24 ∷ reading 4 ∷ reading 0 ∷ writing 16 9 ∷ reading 16 ∷ reading 32 ∷ reading 2 ∷ reading 64 ∷ []);
      expected = granted 600 0
          ∷ granted 400 0
          ∷ granted 0 0
          ∷ granted 0 0
          ∷ granted 1 200
          ∷ granted 2 200
          ∷ granted 3 0
          ∷ refused_by 14
          ∷ granted 5 1
          ∷ granted 0 0
          ∷ granted 1 200
          ∷ granted 5 3
          ∷ granted 254 0
          ∷ granted 7 0
          ∷ granted 2 0
          ∷ granted 3 0
          ∷ granted 0 0
          ∷ granted 0 0
          ∷ granted 3 0
          ∷ granted 0 0
          ∷ refused_by 26
          ∷ refused_by 26
          ∷ [];
    }

-- "Accepted and discarded counts are to be held for each stream", "frames bound to it too": streams 0 and 63, a frame of each of the three calls, and what
-- each choice shows; "a number above 63 there makes both read zero", and it is "kept as written"
abbrev pub streams_case : UseCase
streams_case =
    record {
      uses = calling (opening (terms 2620 1))
          ∷ calling (reserving 0 84)
          ∷ calling (reserving 63 200)
          ∷ calling (binding 63 case_address 100)
          ∷ calling (arriving 0 84 1)
          ∷ calling (framing (case_tagged 60) 2)
          ∷ calling (joining_best_effort 84 3)
          ∷ calling (arriving 63 201 4)
          ∷ reading 16
          ∷ reading 20
          ∷ writing 28 63
          ∷ reading 16
          ∷ reading 20
          ∷ writing 28 64
          ∷ reading 16
          ∷ reading 20
          ∷ reading 28
          ∷ writing 28 4294967295
          ∷ reading 16
          ∷ reading 28
          ∷ [];
      expected = granted 600 0
          ∷ granted 516 0
          ∷ granted 316 0
          ∷ granted 0 0
          ∷ granted 1 84
          ∷ granted 1 116
          ∷ granted 84 0
          ∷ refused_by 14
          ∷ granted 1 0
          ∷ granted 0 0
          ∷ granted 0 0
          ∷ granted 1 0
          ∷ granted 1 0
          ∷ granted 0 0
          ∷ granted 0 0
          ∷ granted 0 0
          ∷ granted 64 0
          ∷ granted 0 0
          ∷ granted 0 0
          ∷ granted 4294967295 0
          ∷ [];
    }

-- "since the latest opening or granted withdrawal": both counts are 0 from the withdrawal on; what is refused while the stream drains counts nothing, nor does
-- its last tick, and a new grant counts on from 0
abbrev pub withdrawn_case : UseCase
withdrawn_case =
    record {
      uses = (calling (opening (terms 2620 1)) ∷ discard_uses)
          ++ (calling (withdrawing 5)
          ∷ reading 16
          ∷ reading 20
          ∷ calling (arriving 5 84 5)
          ∷ calling (withdrawing 5)
          ∷ writing 0 1
          ∷ writing 0 1
          ∷ writing 0 1
          ∷ writing 0 1
          ∷ calling (reserving 5 200)
          ∷ calling (arriving 5 84 6)
          ∷ reading 16
          ∷ calling (withdrawing 6)
          ∷ reading 16
          ∷ reading 20
          ∷ []);
      expected = granted 600 0
          ∷ granted 400 0
          ∷ granted 0 0
          ∷ granted 0 0
          ∷ granted 1 200
          ∷ granted 2 200
          ∷ granted 3 0
          ∷ refused_by 14
          ∷ granted 0 0
          ∷ granted 0 0
          ∷ granted 0 0
          ∷ refused_by 25
          ∷ refused_by 25
          ∷ granted 0 0
          ∷ granted 1 200
          ∷ granted 1 200
          ∷ granted 1 200
          ∷ granted 400 0
          ∷ granted 1 116
          ∷ granted 1 0
          ∷ refused_by 12
          ∷ granted 1 0
          ∷ granted 0 0
          ∷ [];
    }

abbrev pub use_cases : List UseCase
use_cases = closed_case ∷ discard_case ∷ control_case ∷ streams_case ∷ withdrawn_case ∷ []

-- a count of stream 5 that stands at 4,294,967,295 in an open port, on which the stream is reserved and chosen: the next accepted frame makes it 0, and the one
-- after that 1
abbrev pub at_the_end : List ℕ → List ℕ
at_the_end p = put p (record_length + accepted_octet 5) (four_octets 4294967295)

abbrev pub wrap_uses : List Use
wrap_uses =
    calling (reserving 5 200) ∷ writing 28 5 ∷ reading 16 ∷ calling (arriving 5 84 1) ∷ reading 16 ∷ calling (arriving 5 84 2) ∷ reading 16 ∷ []

abbrev pub wrap_expected : List Reply
wrap_expected = granted 400 0 ∷ granted 0 0 ∷ granted 4294967295 0 ∷ granted 1 116 ∷ granted 0 0 ∷ granted 1 32 ∷ granted 1 0 ∷ []
