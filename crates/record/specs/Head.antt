-- The fields of the record's head, each read and written: open or closed, prior, K, L, W, and the start and count of each queue.
use Rattle.std.specs.Prelude.{ℕ, Bool, List, [], ◌∷◌, ◌++◌, get_or, eqb}
use Rattle.lists.specs.Window.{put, get}
use Rattle.octets.specs.Numbers.{two_of, two_octets, four_of, four_octets}
use Rattle.queue.specs.declared.Queue.{Queue}
use Rattle.record.specs.Layout.{open_offset, prior_offset, delay_offset, link_offset, waits_offset, queue_offset, queue_length, count_offset}

-- one octet as a number, and as a mark: 1 is yes, any other no
abbrev pub octet_of : List ℕ → ℕ
octet_of o = get_or o 0 0

abbrev pub mark_of : List ℕ → Bool
mark_of o = eqb (octet_of o) 1

-- whether the port is open, and the record of an open one
unfoldable pub open_at : List ℕ → Bool
open_at l = mark_of (get l open_offset 1)

unfoldable pub with_open : List ℕ → List ℕ
with_open l = put l open_offset (1 ∷ [])

-- the number of the queue that is prior
unfoldable pub prior_at : List ℕ → ℕ
prior_at l = octet_of (get l prior_offset 1)

unfoldable pub with_prior : List ℕ → ℕ → List ℕ
with_prior l number = put l prior_offset (number ∷ [])

-- K, the best-effort delay bound in epochs
unfoldable pub delay_at : List ℕ → ℕ
delay_at l = octet_of (get l delay_offset 1)

unfoldable pub with_delay : List ℕ → ℕ → List ℕ
with_delay l epochs = put l delay_offset (epochs ∷ [])

-- L, the link octets in an epoch
unfoldable pub link_at : List ℕ → ℕ
link_at l = two_of (get l link_offset 2)

unfoldable pub with_link : List ℕ → ℕ → List ℕ
with_link l octets = put l link_offset (two_octets octets)

-- W, the sum of charges waiting in best effort
unfoldable pub waits_at : List ℕ → ℕ
waits_at l = four_of (get l waits_offset 4)

unfoldable pub with_waits : List ℕ → ℕ → List ℕ
with_waits l octets = put l waits_offset (four_octets octets)

-- the start and count of queue q
abbrev pub queue_of : List ℕ → Queue
queue_of o = record { start = two_of (get o 0 2); count = two_of (get o count_offset 2) }

abbrev pub queue_octets : Queue → List ℕ
queue_octets x = two_octets x.start ++ two_octets x.count

unfoldable pub queue_at : List ℕ → ℕ → Queue
queue_at l q = queue_of (get l (queue_offset q) queue_length)

unfoldable pub with_queue : List ℕ → ℕ → Queue → List ℕ
with_queue l q x = put l (queue_offset q) (queue_octets x)
