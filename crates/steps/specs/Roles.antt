-- The roles of the queues for reserved traffic: "At opening prior, current, next, last are queues 0 to 3; a tick moves each role to the next number, 3
-- to 0". With any number of queues they are 0 to one less, and that one is followed by 0.
use Rattle.std.specs.Prelude.{ℕ, ◌+◌, ◌%◌, List}
use Rattle.stream.specs.State.{current_place}
use Rattle.record.specs.Queues.{queues_at}
use Rattle.record.specs.Head.{prior_at}

-- the number of the queue in a role: 0 is prior, and the others have the numbers of the places, 1 current, 2 next and so on to the last
unfoldable pub role_at : List ℕ → ℕ → ℕ
role_at p role = (prior_at p + role) % queues_at p

abbrev pub prior_role : ℕ
prior_role = 0

abbrev pub current_role : ℕ
current_role = current_place
