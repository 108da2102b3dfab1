-- How long a withdrawn stream is taken, on the record: its number, its share and its binding stand until the tick whose number is that of the queues,
-- whatever is called meanwhile, refused calls included, and are free after it.
use Rattle.std.specs.Prelude.{ℕ, ◌+◌, ◌<◌, true, false, cond, ◌≡◌, List, [], ◌∷◌}
use Rattle.lists.specs.Turns.{sum_of}
use Rattle.stream.specs.Replies.{refused_by}
use Rattle.record.specs.Queues.{queues_at}
use Rattle.record.specs.Entry.{stream_at, bound_at, vid_at, address_at}
use Rattle.record.specs.Reservations.{permitted_of}
use Rattle.steps.specs.Call.{Call, reserving, withdrawing, arriving, ticking, binding}
use Rattle.port.specs.Calls.{called}
use Rattle.port_laws.specs.Counting.{action_of}
use Rattle.guarantee.specs.Claims.{is_tick}

-- the record and the memory that a list of calls leaves, each call with both as the one before it left them
pub record Lent : Type 0 where
  pub port : List ℕ
  pub memory : List ℕ

abbrev pub lent_after : List Call → List ℕ → List ℕ → Lent
lent_after [] p m = record { port = p; memory = m }
lent_after (c ∷ cs) p m = let o = called c p m in lent_after cs o.port o.memory

-- how many of the calls are ticks
abbrev pub ticks_in : List Call → ℕ
ticks_in = sum_of (λ c. cond (is_tick (action_of c)) 1 0)

-- "it still counts as reserved, with its P in R and the share", and its binding stands: of stream s record k has these as record p has them
pub record Taken (s : ℕ) (p k : List ℕ) : Type 0 where
  pub number : (stream_at k s).reserved ≡ true
  pub share : permitted_of (stream_at k s) ≡ permitted_of (stream_at p s)
  pub bound : bound_at k s ≡ bound_at p s
  pub vid : vid_at k s ≡ vid_at p s
  pub address : address_at k s ≡ address_at p s

-- "It refuses with 25 an arrival, reservation, binding or withdrawal of a draining stream"
pub record RefusedDraining (s : ℕ) (k m : List ℕ) : Type 0 where
  pub arrival : (charge tag : ℕ) → (called (arriving s charge tag) k m).reply ≡ refused_by 25
  pub reservation : (permitted : ℕ) → (called (reserving s permitted) k m).reply ≡ refused_by 25
  pub bind : (address : List ℕ) (vid : ℕ) → (called (binding s address vid) k m).reply ≡ refused_by 25
  pub withdrawal : (called (withdrawing s) k m).reply ≡ refused_by 25

-- "then number and share are free and its binding is gone"
pub record Free (s : ℕ) (k : List ℕ) : Type 0 where
  pub number : (stream_at k s).reserved ≡ false
  pub share : permitted_of (stream_at k s) ≡ 0
  pub bound : bound_at k s ≡ false

-- "It drains until the fourth tick after the withdrawal": in general, the tick whose number is that of the queues. These calls come after a granted
-- withdrawal of s on record p and memory m
pub record Draining (s : ℕ) (p m : List ℕ) (cs : List Call) : Type 0 where
  -- before that tick
  pub taken : ticks_in cs < queues_at p → Taken s p (lent_after (withdrawing s ∷ cs) p m).port
  pub refused : ticks_in cs < queues_at p → RefusedDraining s (lent_after (withdrawing s ∷ cs) p m).port (lent_after (withdrawing s ∷ cs) p m).memory
  -- after it
  pub free : ticks_in cs + 1 ≡ queues_at p
      → Free s (called ticking (lent_after (withdrawing s ∷ cs) p m).port (lent_after (withdrawing s ∷ cs) p m).memory).port

-- of every record and memory, every granted withdrawal, and all calls after it
abbrev pub DrainsExactly : Type 0
DrainsExactly = (p m : List ℕ) (s : ℕ) → (called (withdrawing s) p m).reply.refusal ≡ 0 → (cs : List Call) → Draining s p m cs
