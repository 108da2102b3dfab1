-- The events of a capture: each record's call, and the line that its reply prints.
use Rattle.std.specs.Prelude.{ℕ, ◌+◌, cond, List, [], ◌∷◌, ◌++◌, eqb}
use Rattle.stream.specs.declared.Reply.{Reply}
use Rattle.steps.specs.Call.{terms, Call, opening, reserving, withdrawing, arriving, ticking, transmitting, joining_best_effort}
use Rattle.port.specs.Calls.{called}
use Rattle.port_laws.specs.Lists.{fresh_record, fresh_memory}
use Rattle.text.specs.Lines.{line_of}
use Rattle.capture_file.specs.File.{kind_of, stream_octet_of, number_a, number_b, open_kind, reserve_kind, arrive_kind, best_effort_kind, tick_kind, withdraw_kind, first_of, chain_within, most_events}

-- "open (A = L, B = K); reserve (A = P); arrive (A charge, B tag); best effort (A charge, B tag); tick; transmit", and a withdrawal; no other kind passes
-- the checks
abbrev pub call_of : ℕ → ℕ → ℕ → ℕ → Call
call_of kind stream a b =
    cond (eqb kind open_kind) (opening (terms a b))
    (cond (eqb kind reserve_kind) (reserving stream a)
    (cond (eqb kind arrive_kind) (arriving stream a b)
    (cond (eqb kind best_effort_kind) (joining_best_effort a b)
    (cond (eqb kind tick_kind) ticking
    (cond (eqb kind withdraw_kind) (withdrawing stream) transmitting)))))

-- the call of record i
unfoldable pub call_at : List ℕ → ℕ → Call
call_at f i = call_of (kind_of f i) (stream_octet_of f i) (number_a f i) (number_b f i)

-- "one line per event: port, event number from 1, kind, refusal or 0, two reply numbers"
unfoldable pub event_line : ℕ → ℕ → ℕ → Reply → List ℕ
event_line q n kind r = line_of (q ∷ n ∷ kind ∷ r.refusal ∷ r.first ∷ r.second ∷ [])

-- the lines of the records of a chain, played in turn on a record and a memory, the first of them event n of port q
unfoldable pub lines_of : List ℕ → ℕ → ℕ → List ℕ → List ℕ → List ℕ → List ℕ
lines_of f q n [] p m = []
lines_of f q n (i ∷ is) p m = let o = called (call_at f i) p m in event_line q n (kind_of f i) o.reply ++ lines_of f q (n + 1) is o.port o.memory

-- the events of a port: the records of its chain
abbrev pub events_of : List ℕ → ℕ → List ℕ
events_of f q = chain_within f (most_events f) (first_of f q)

-- the lines of a port: its events from event 1 on, on a record and a memory of its own
abbrev pub port_text : List ℕ → ℕ → List ℕ
port_text f q = lines_of f q 1 (events_of f q) fresh_record fresh_memory
