-- What a write beside a stream's entry leaves: every octet of the entry, whether the port is open, and the number of its queues. Assumes nothing.
use Prim.Native.Nat.{ℕ, ◌+◌, ◌≤◌, ◌<◌}
use mathlib.Core.Path.{◌≡◌, refl, sym, ap, ◌∙◌}
use mathlib.Core.List.{List, [], ◌∷◌, ◌++◌}
use native.Mathlib.Omega.{arith}
use lib.ListN.{length}
use Rattle.lists.specs.Window.{put, get, Apart}
use Rattle.lists.proofs.WindowLaws.{get_apart, get_get}
use Rattle.octets.specs.Numbers.{two_of, four_octets}
use Rattle.stream.specs.declared.Stream.{Stream}
use Rattle.queue.specs.declared.Queue.{Queue}
use Rattle.record.specs.Layout.{prior_offset, waits_offset, queue_offset, queue_room, entry_offset, entry_length, place_offset, stream_length, drain_offset, bound_offset, pair_offset, address_offset, address_length}
use Rattle.record.specs.Head.{octet_of, mark_of, open_at, with_prior, with_waits, queue_octets, with_queue}
use Rattle.record.specs.Queues.{queues_at}
use Rattle.record.specs.Entry.{entry_stream, place_octets, stream_octets, stream_at, with_stream, with_place, drain_at, with_drain, bound_at, vid_at, address_at, pair_octets, with_binding, dropped}
use Rattle.record.proofs.QueueLaws.{queues_binding, queues_dropped}
use Rattle.record.proofs.KeepLaws.{Keeps, keeps_prior, keeps_waits, keeps_queue, keeps_stream, keeps_place, keeps_drain}
use Rattle.record.proofs.BindingPairs.{open_binding}
use Rattle.record.proofs.DropPairs.{open_dropped, other_dropped}

-- record k has these as record l has them
pub record Beside (s : ℕ) (l k : List ℕ) : Type 0 where
  pub entry : get k (entry_offset s) entry_length ≡ get l (entry_offset s) entry_length
  pub opened : open_at k ≡ open_at l
  pub queues : queues_at k ≡ queues_at l

-- no change at all, and one change after another
pub beside_same : (s : ℕ) (l : List ℕ) → Beside s l l
beside_same s l = record { entry = refl; opened = refl; queues = refl }

pub beside_both : (s : ℕ) (j k l : List ℕ) → Beside s j k → Beside s k l → Beside s j l
beside_both s j k l a b = record { entry = b.entry ∙ a.entry; opened = b.opened ∙ a.opened; queues = b.queues ∙ a.queues }

-- so the entry's fields are as they were
module _ (s : ℕ) (l k : List ℕ) (beside : Beside s l k) where
  part : (i n : ℕ) → i + n ≤ entry_length → get k (entry_offset s + i) n ≡ get l (entry_offset s + i) n
  part i n within =
      sym (get_get k (entry_offset s) entry_length i n within) ∙ ap (λ (o : List ℕ). get o i n) beside.entry ∙ get_get l (entry_offset s) entry_length i n within

  pub beside_stream : stream_at k s ≡ stream_at l s
  unfolding stream_at
  beside_stream =
      ap entry_stream
      (ap (λ (i : ℕ). get k i stream_length) (omega arith) ∙ part 0 stream_length (omega arith) ∙ ap (λ (i : ℕ). get l i stream_length) (omega arith))

  pub beside_drain : drain_at k s ≡ drain_at l s
  unfolding drain_at
  beside_drain = ap octet_of (part drain_offset 1 (omega arith))

  pub beside_bound : bound_at k s ≡ bound_at l s
  unfolding bound_at
  beside_bound = ap mark_of (part bound_offset 1 (omega arith))

  pub beside_vid : vid_at k s ≡ vid_at l s
  unfolding vid_at
  beside_vid = ap two_of (part pair_offset 2 (omega arith))

  pub beside_address : address_at k s ≡ address_at l s
  unfolding address_at
  beside_address = part address_offset address_length (omega arith)

-- a write that keeps open and queues, apart from the entry
beside_put : (s : ℕ) (l : List ℕ) (i : ℕ) (vs : List ℕ) → Apart (entry_offset s) entry_length i (length vs) → Keeps l (put l i vs) → Beside s l (put l i vs)
beside_put s l i vs apart keeps = record { entry = get_apart l i vs (entry_offset s) entry_length apart; opened = keeps.opened; queues = keeps.queues }

-- the writes in the head
module _ (s : ℕ) (l : List ℕ) where
  pub beside_prior : (number : ℕ) → Beside s l (with_prior l number)
  unfolding with_prior
  beside_prior number = beside_put s l prior_offset (number ∷ []) (λ k a b c d. omega arith) (keeps_prior l number)

  pub beside_waits : (octets : ℕ) → Beside s l (with_waits l octets)
  unfolding with_waits
  beside_waits octets = beside_put s l waits_offset (four_octets octets) (λ k a b c d. omega arith) (keeps_waits l octets)

  pub beside_queue : (q : ℕ) (x : Queue) → q < queue_room → Beside s l (with_queue l q x)
  unfolding with_queue
  beside_queue q x h = beside_put s l (queue_offset q) (queue_octets x) (λ k a b c d. omega arith) (keeps_queue l q x h)

-- the writes in the entry of another stream
module _ (s : ℕ) (l : List ℕ) (t : ℕ) (other : s ≡ t → ⊥) where
  pub beside_reserved : (x : Stream) → Beside s l (with_stream l t x)
  unfolding with_stream
  beside_reserved x = beside_put s l (entry_offset t) (stream_octets x ++ (0 ∷ [])) (λ k a b c d. other (omega arith)) (keeps_stream l t x)

  pub beside_place : (place left : ℕ) → Beside s l (with_place l t place left)
  unfolding with_place
  beside_place place left = beside_put s l (entry_offset t + place_offset) (place_octets place left) (λ k a b c d. other (omega arith)) (keeps_place l t place left)

  pub beside_draining : (ticks : ℕ) → Beside s l (with_drain l t ticks)
  unfolding with_drain
  beside_draining ticks = beside_put s l (entry_offset t + drain_offset) (ticks ∷ []) (λ k a b c d. other (omega arith)) (keeps_drain l t ticks)

  pub beside_binding : (address : List ℕ) (vid : ℕ) → Beside s l (with_binding l t address vid)
  unfolding with_binding
  beside_binding address vid =
      record {
        entry = get_apart l (entry_offset t + bound_offset) (1 ∷ pair_octets address vid) (entry_offset s) entry_length (λ k a b c d. other (omega arith));
        opened = open_binding l t address vid;
        queues = queues_binding l t address vid;
      }

  pub beside_dropped : Beside s l (dropped l t)
  beside_dropped =
      record { entry = other_dropped l t s (entry_offset s) entry_length other (omega arith) (omega arith); opened = open_dropped l t; queues = queues_dropped l t }
