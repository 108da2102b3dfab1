-- The number of queues, and what goes by it, in numbers. Assumes nothing.
use Prim.Native.Nat.{◌+◌}
use mathlib.Core.Path.{◌≡◌, refl}
use mathlib.Core.List.{[]}
use Rattle.record.specs.Layout.{memory_length}
use Rattle.record.specs.Queues.{queues_at, last_place_at, best_effort_at}

queues_of_a_port : queues_at [] ≡ 4
unfolding queues_at
queues_of_a_port = refl

last_place_of_a_port : last_place_at [] + 1 ≡ queues_at []
unfolding queues_at
last_place_of_a_port = refl

best_effort_of_a_port : best_effort_at [] ≡ queues_at []
unfolding queues_at
best_effort_of_a_port = refl

memory_of_six : memory_length 6 ≡ 14336
memory_of_six = refl
