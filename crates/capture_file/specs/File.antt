-- A capture file as document 01 lays it out: "high octet first, 16-octet records, numbered from 0". Each reader takes the file's octets.
use Rattle.std.specs.Prelude.{ℕ, zero, suc, ◌+◌, ◌-◌, ◌*◌, ◌/◌, ◌<◌, cond, List, [], ◌∷◌, length, get_or, eqb}
use Rattle.lists.specs.Window.{get}
use Rattle.octets.specs.Numbers.{two_of, four_of}

-- the octets of a record, and how many whole records a file has
abbrev pub record_octets : ℕ
record_octets = 16

abbrev pub record_count : List ℕ → ℕ
record_count f = length f / record_octets

-- the file has a record of this index
abbrev pub HasRecord : List ℕ → ℕ → Type 0
HasRecord f i = i < record_count f

-- where record i begins
abbrev pub record_start : ℕ → ℕ
record_start i = i * record_octets

-- "Record 0: the letters EPCH, four 16-bit first indices for ports 0 to 3 (0: no events), four zero octets"
abbrev pub port_count : ℕ
port_count = 4

abbrev pub letters : List ℕ
letters = 69 ∷ 80 ∷ 67 ∷ 72 ∷ []

unfoldable pub letters_of : List ℕ → List ℕ
letters_of f = get f 0 4

unfoldable pub first_of : List ℕ → ℕ → ℕ
first_of f q = two_of (get f (4 + q * 2) 2)

-- "Other records: kind (1 octet), stream (1), next index (2), number A (4), number B (4), four zero octets"
unfoldable pub kind_of : List ℕ → ℕ → ℕ
kind_of f i = get_or f (record_start i) 0

unfoldable pub stream_octet_of : List ℕ → ℕ → ℕ
stream_octet_of f i = get_or f (record_start i + 1) 0

unfoldable pub next_of : List ℕ → ℕ → ℕ
next_of f i = two_of (get f (record_start i + 2) 2)

unfoldable pub number_a : List ℕ → ℕ → ℕ
number_a f i = four_of (get f (record_start i + 4) 4)

unfoldable pub number_b : List ℕ → ℕ → ℕ
number_b f i = four_of (get f (record_start i + 8) 4)

-- the four octets that end every record, as a number: 0 where all are zero
unfoldable pub end_of : List ℕ → ℕ → ℕ
end_of f i = four_of (get f (record_start i + 12) 4)

-- "Kinds: 1 open (A = L, B = K); 2 reserve (A = P); 3 arrive (A charge, B tag); 4 best effort (A charge, B tag); 5 tick; 6 transmit"
abbrev pub open_kind : ℕ
open_kind = 1

abbrev pub reserve_kind : ℕ
reserve_kind = 2

abbrev pub arrive_kind : ℕ
arrive_kind = 3

abbrev pub best_effort_kind : ℕ
best_effort_kind = 4

abbrev pub tick_kind : ℕ
tick_kind = 5

abbrev pub transmit_kind : ℕ
transmit_kind = 6

-- a withdrawal: "in captures it is kind 7"
abbrev pub withdraw_kind : ℕ
withdraw_kind = 7

-- the stream octet of best effort
abbrev pub best_effort_octet : ℕ
best_effort_octet = 255

-- "Records are chained by next index; zero ends the chain": at most n records of the chain that goes on with record i
unfoldable pub chain_within : List ℕ → ℕ → ℕ → List ℕ
chain_within f zero i = []
chain_within f (suc n) i = cond (eqb i 0) [] (i ∷ chain_within f n (next_of f i))

-- as many records as the file has after its header: no chain has more before its end or its first refused record (`refusal_whole`, `list_whole`)
abbrev pub most_events : List ℕ → ℕ
most_events f = record_count f - 1
