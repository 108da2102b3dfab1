-- What every write keeps but those of open, K, L and the bindings: the record's length, whether the port is open, the number of its queues, K and L, and
-- the bindings. Assumes nothing.
use Prim.Native.Nat.{ℕ, ◌+◌, ◌-◌, ◌<◌}
use mathlib.Core.Path.{◌≡◌, refl, ap, ◌∙◌}
use mathlib.Core.List.{List, [], ◌∷◌, ◌++◌}
use native.Mathlib.Omega.{arith}
use lib.ListN.{length}
use Rattle.lists.specs.Window.{put, Apart}
use Rattle.lists.proofs.WindowLaws.{length_put, get_apart}
use Rattle.octets.specs.Numbers.{two_of, four_octets}
use Rattle.stream.specs.declared.Stream.{Stream}
use Rattle.queue.specs.declared.Queue.{Queue}
use Rattle.record.specs.Layout.{open_offset, prior_offset, delay_offset, link_offset, waits_offset, queue_offset, queue_room, entry_offset, entry_length, place_offset, drain_offset, bound_offset, pair_offset, address_offset, address_length}
use Rattle.record.specs.Head.{octet_of, mark_of, open_at, with_prior, delay_at, link_at, with_waits, queue_octets, with_queue}
use Rattle.record.specs.Queues.{queues_at}
use Rattle.record.specs.Entry.{place_octets, stream_octets, with_stream, with_place, with_drain, bound_at, vid_at, address_at}

-- record k has these as record l has them
pub record Keeps (l k : List ℕ) : Type 0 where
  pub long : length k ≡ length l
  pub opened : open_at k ≡ open_at l
  pub queues : queues_at k ≡ queues_at l
  pub delay : delay_at k ≡ delay_at l
  pub link : link_at k ≡ link_at l
  pub bound : (s : ℕ) → bound_at k s ≡ bound_at l s
  pub vid : (s : ℕ) → vid_at k s ≡ vid_at l s
  pub address : (s : ℕ) → address_at k s ≡ address_at l s

-- no change at all
pub keeps_same : (l : List ℕ) → Keeps l l
keeps_same l = record { long = refl; opened = refl; queues = refl; delay = refl; link = refl; bound = λ s. refl; vid = λ s. refl; address = λ s. refl }

-- one change after another
pub keeps_both : (j k l : List ℕ) → Keeps j k → Keeps k l → Keeps j l
keeps_both j k l a b =
    record {
      long = b.long ∙ a.long;
      opened = b.opened ∙ a.opened;
      queues = b.queues ∙ a.queues;
      delay = b.delay ∙ a.delay;
      link = b.link ∙ a.link;
      bound = λ s. b.bound s ∙ a.bound s;
      vid = λ s. b.vid s ∙ a.vid s;
      address = λ s. b.address s ∙ a.address s;
    }

-- octets written apart from all of these keep them
keeps_put : (l : List ℕ) (i : ℕ) (vs : List ℕ)
    → Apart open_offset 1 i (length vs)
    → Apart delay_offset 1 i (length vs)
    → Apart link_offset 2 i (length vs)
    → ((s : ℕ) → Apart (entry_offset s + bound_offset) (entry_length - bound_offset) i (length vs))
    → Keeps l (put l i vs)
unfolding open_at queues_at delay_at link_at bound_at vid_at address_at
keeps_put l i vs opened delay link binding =
    record {
      long = length_put l i vs;
      opened = ap mark_of (get_apart l i vs open_offset 1 opened);
      queues = refl;
      delay = ap octet_of (get_apart l i vs delay_offset 1 delay);
      link = ap two_of (get_apart l i vs link_offset 2 link);
      bound = λ s. ap mark_of (get_apart l i vs (entry_offset s + bound_offset) 1 (λ k a b c d. binding s k a (omega arith) c d));
      vid = λ s. ap two_of (get_apart l i vs (entry_offset s + pair_offset) 2 (λ k a b c d. binding s k (omega arith) (omega arith) c d));
      address = λ s. get_apart l i vs (entry_offset s + address_offset) address_length (λ k a b c d. binding s k (omega arith) (omega arith) c d);
    }

module _ (l : List ℕ) where
  pub keeps_prior : (number : ℕ) → Keeps l (with_prior l number)
  unfolding with_prior
  keeps_prior number =
      keeps_put l prior_offset (number ∷ []) (λ k a b c d. omega arith) (λ k a b c d. omega arith) (λ k a b c d. omega arith) (λ s k a b c d. omega arith)

  pub keeps_waits : (octets : ℕ) → Keeps l (with_waits l octets)
  unfolding with_waits
  keeps_waits octets =
      keeps_put l waits_offset (four_octets octets) (λ k a b c d. omega arith) (λ k a b c d. omega arith) (λ k a b c d. omega arith) (λ s k a b c d. omega arith)

  pub keeps_queue : (q : ℕ) (x : Queue) → q < queue_room → Keeps l (with_queue l q x)
  unfolding with_queue
  keeps_queue q x h =
      keeps_put l (queue_offset q) (queue_octets x) (λ k a b c d. omega arith) (λ k a b c d. omega arith) (λ k a b c d. omega arith) (λ s k a b c d. omega arith)

  pub keeps_stream : (s : ℕ) (x : Stream) → Keeps l (with_stream l s x)
  unfolding with_stream
  keeps_stream s x =
      keeps_put l (entry_offset s) (stream_octets x ++ (0 ∷ [])) (λ k a b c d. omega arith) (λ k a b c d. omega arith) (λ k a b c d. omega arith) (λ t k a b c d. omega arith)

  pub keeps_place : (s place left : ℕ) → Keeps l (with_place l s place left)
  unfolding with_place
  keeps_place s place left =
      keeps_put l (entry_offset s + place_offset) (place_octets place left) (λ k a b c d. omega arith) (λ k a b c d. omega arith) (λ k a b c d. omega arith)
      (λ t k a b c d. omega arith)

  pub keeps_drain : (s ticks : ℕ) → Keeps l (with_drain l s ticks)
  unfolding with_drain
  keeps_drain s ticks =
      keeps_put l (entry_offset s + drain_offset) (ticks ∷ []) (λ k a b c d. omega arith) (λ k a b c d. omega arith) (λ k a b c d. omega arith)
      (λ t k a b c d. omega arith)
