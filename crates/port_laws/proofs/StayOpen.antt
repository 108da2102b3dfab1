-- An open port stays open through every call, so no later Open is granted, and it asks for no more memory. Assumes nothing.
use Prim.Native.Nat.{ℕ}
use mathlib.Core.Path.{◌≡◌, refl, sym, ◌∙◌}
use mathlib.Core.Bool.{true}
use mathlib.Core.List.{List}
use native.Mathlib.Omega.{arith}
use Rattle.record.specs.Head.{open_at}
use Rattle.record.specs.Queues.{queues_at, HasMemory}
use Rattle.record.proofs.QueueLaws.{queues_queue, queues_binding, queues_dropped}
use Rattle.record.proofs.KeepLaws.{keeps_prior, keeps_waits, keeps_place, keeps_stream, keeps_drain}
use Rattle.record.proofs.DropPairs.{open_dropped}
use Rattle.record.proofs.OpenPairs.{open_queue}
use Rattle.record.proofs.BindingPairs.{open_binding}
use Rattle.steps.specs.Call.{Call}
use Rattle.port.specs.Calls.{called}
use Rattle.port_laws.proofs.GateNumbers.{open_taken}
use Rattle.port_laws.proofs.SameLength.{memory_length_lem}
use Rattle.port_laws.proofs.CallKeeps.{Kept, call_keeps}

-- no write but Open's touches the mark
open_kept : Kept (λ l. open_at l ≡ true)
open_kept =
    record {
      by_prior = λ l number e. (keeps_prior l number).opened ∙ e;
      by_waits = λ l octets e. (keeps_waits l octets).opened ∙ e;
      by_queue = λ l q x e. open_queue l q x ∙ e;
      by_stream = λ l s x e. (keeps_stream l s x).opened ∙ e;
      by_place = λ l s place left e. (keeps_place l s place left).opened ∙ e;
      by_drain = λ l s ticks e. (keeps_drain l s ticks).opened ∙ e;
      by_drop = λ l s e. open_dropped l s ∙ e;
      by_binding = λ l s address vid e. open_binding l s address vid ∙ e;
    }

pub stays_open : (c : Call) (p m : List ℕ) → open_at p ≡ true → open_at (called c p m).port ≡ true
stays_open c p m opened = call_keeps (λ l. open_at l ≡ true) open_kept p m opened c (λ t e. absurd (omega (arith, sym (open_taken p t opened) ∙ e)))

-- no write but an Open's touches the number of queues
queues_kept : (n : ℕ) → Kept (λ l. queues_at l ≡ n)
queues_kept n =
    record {
      by_prior = λ l number e. (keeps_prior l number).queues ∙ e;
      by_waits = λ l octets e. (keeps_waits l octets).queues ∙ e;
      by_queue = λ l q x e. queues_queue l q x ∙ e;
      by_stream = λ l s x e. (keeps_stream l s x).queues ∙ e;
      by_place = λ l s place left e. (keeps_place l s place left).queues ∙ e;
      by_drain = λ l s ticks e. (keeps_drain l s ticks).queues ∙ e;
      by_drop = λ l s e. queues_dropped l s ∙ e;
      by_binding = λ l s address vid e. queues_binding l s address vid ∙ e;
    }

-- so an open port asks for as much memory after a call as before it
pub stays_long : (c : Call) (p m : List ℕ) → open_at p ≡ true → HasMemory p m → HasMemory (called c p m).port (called c p m).memory
stays_long c p m opened long =
    let same = call_keeps (λ l. queues_at l ≡ queues_at p) (queues_kept (queues_at p)) p m refl c (λ t e. absurd (omega (arith, sym (open_taken p t opened) ∙ e))) in
    omega (arith, same, memory_length_lem c p m, long)
