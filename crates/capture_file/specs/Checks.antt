-- What of a capture file is refused: "All checks of the file come before any event". The orders are document 01's.
use Rattle.std.specs.Prelude.{ℕ, zero, suc, ◌+◌, ◌%◌, Bool, true, false, not, cond, ◌&&◌, ◌||◌, List, length, leb, ltb, eqb}
use Rattle.lists.specs.Equal.{octets_equal}
use Rattle.capture_file.specs.File.{record_octets, record_count, port_count, letters, letters_of, first_of, kind_of, stream_octet_of, next_of, number_a, number_b, open_kind, reserve_kind, arrive_kind, best_effort_kind, tick_kind, transmit_kind, withdraw_kind, best_effort_octet, end_of, most_events}

-- a refusal of a file: its number, or 0 where nothing is refused, and the index of the record
pub record FileRefusal : Type 0 where
  pub number : ℕ
  pub index : ℕ

-- a refusal names "the record index (0 for the whole file or the header)"
abbrev pub refused_at : ℕ → ℕ → FileRefusal
refused_at number index = record { number = number; index = index }

-- nothing is refused
abbrev pub all_good : FileRefusal
all_good = refused_at 0 0

-- the first of two refusals, or the second where the first refuses nothing
abbrev pub first_refusal : FileRefusal → FileRefusal → FileRefusal
first_refusal r s = cond (eqb r.number 0) s r

-- 21 "file length not a multiple of 16, under 16 or over 65,536"
abbrev pub most_octets : ℕ
most_octets = 65536

abbrev pub length_good : List ℕ → Bool
length_good f = eqb (length f % record_octets) 0 && (leb record_octets (length f) && leb (length f) most_octets)

-- 22 "header letters or zero octets"
unfoldable pub header_good : List ℕ → Bool
header_good f = octets_equal (letters_of f) letters && eqb (end_of f 0) 0

-- "a first index is 0 or below that count"
unfoldable pub first_good : List ℕ → ℕ → Bool
first_good f q = eqb (first_of f q) 0 || ltb (first_of f q) (record_count f)

-- "A next index is 0, or above its record's own index and below the record count"
unfoldable pub next_good : List ℕ → ℕ → Bool
next_good f i = eqb (next_of f i) 0 || (ltb i (next_of f i) && ltb (next_of f i) (record_count f))

-- neither number is used
abbrev pub both_zero : ℕ → ℕ → Bool
both_zero a b = eqb a 0 && eqb b 0

-- neither stream octet nor number is used
abbrev pub all_zero : ℕ → ℕ → ℕ → Bool
all_zero stream a b = eqb stream 0 && both_zero a b

-- "The stream octet is any value in 2 and 3, 255 in 4, else 0. Unused A and B are 0"; "kind 7, with any stream octet and A and B 0"; there is no other
-- kind
abbrev pub fields_good : ℕ → ℕ → ℕ → ℕ → Bool
fields_good kind stream a b =
    cond (eqb kind open_kind) (eqb stream 0)
    (cond (eqb kind reserve_kind) (eqb b 0)
    (cond (eqb kind arrive_kind) true
    (cond (eqb kind best_effort_kind) (eqb stream best_effort_octet)
    (cond (eqb kind tick_kind) (all_zero stream a b)
    (cond (eqb kind transmit_kind) (all_zero stream a b)
    (cond (eqb kind withdraw_kind) (both_zero a b) false))))))

-- 24 "kind, stream octet, unused number or zero octets"
unfoldable pub record_good : List ℕ → ℕ → Bool
record_good f i = fields_good (kind_of f i) (stream_octet_of f i) (number_a f i) (number_b f i) && eqb (end_of f i) 0

-- a record of a chain: "24 before 23 at a record"
unfoldable pub record_refusal : List ℕ → ℕ → ℕ
record_refusal f i = cond (not (record_good f i)) 24 (cond (not (next_good f i)) 23 0)

-- the chain that goes on with record i, in at most n records: "each chain from its front"
unfoldable pub chain_refusal : List ℕ → ℕ → ℕ → FileRefusal
chain_refusal f zero i = all_good
chain_refusal f (suc n) i = cond (eqb i 0) all_good (first_refusal (refused_at (record_refusal f i) i) (chain_refusal f n (next_of f i)))

-- a port: "the first index tested as a port's walk begins"
unfoldable pub port_refusal : List ℕ → ℕ → FileRefusal
port_refusal f q = cond (not (first_good f q)) (refused_at 23 0) (chain_refusal f (most_events f) (first_of f q))

-- "Ports are walked in order": n ports, from port q on
unfoldable pub ports_refusal : List ℕ → ℕ → ℕ → FileRefusal
ports_refusal f q zero = all_good
ports_refusal f q (suc n) = first_refusal (port_refusal f q) (ports_refusal f (q + 1) n)

-- the whole file
unfoldable pub file_refusal : List ℕ → FileRefusal
file_refusal f =
    cond (not (length_good f)) (refused_at 21 0)
    (cond (not (header_good f)) (refused_at 22 0)
    (ports_refusal f 0 port_count))
