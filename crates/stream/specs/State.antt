-- The state of one stream: document 01, "State of a port", its last point.
use Rattle.std.specs.Prelude.{ℕ, ◌≤◌, true}
use Rattle.stream.specs.declared.Stream.{Stream}

-- "a place (current, next or last)": each is the number that the replies give it, 1 current, 2 next, 3 last
abbrev pub current_place : ℕ
current_place = 1

-- a port has at least so many queues for reserved traffic, prior and one for each place, and at most so many; the rules of a stream take the last
-- place as an argument
abbrev pub least_queues : ℕ
least_queues = 4

abbrev pub most_queues : ℕ
most_queues = 8

-- the stream at a place with so much left (octets still free there); P (permitted octets per epoch) and whether it is reserved stay
abbrev pub at_place : Stream → ℕ → ℕ → Stream
at_place s place left = record { reserved = s.reserved; permitted = s.permitted; place = place; left = left }

-- the stream at a place where "left becomes P"
abbrev pub full_at : Stream → ℕ → Stream
full_at s place = at_place s place s.permitted

-- "Reserve(s, P) sets place current, left P"
abbrev pub reserve_of : ℕ → Stream
reserve_of permitted = record { reserved = true; permitted = permitted; place = current_place; left = permitted }

-- what refusal 19 asks of a reserved stream's place and left: one of the places up to the last, and left at most P
pub record StreamFit (last : ℕ) (s : Stream) : Type 0 where
  pub first_place : current_place ≤ s.place
  pub last_place : s.place ≤ last
  pub left_within : s.left ≤ s.permitted
