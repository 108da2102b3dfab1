-- A tick, as it comes to one stream: what stands before its turn is as it was, and what the turn leaves stays. Assumes nothing.
use Prim.Native.Nat.{ℕ, zero, suc, ◌-◌, ◌≤◌, ◌<◌}
use mathlib.Core.Path.{◌≡◌, refl, ◌∙◌}
use mathlib.Core.Logic.{⊎_elim}
use mathlib.Core.List.{List}
use native.Mathlib.Nat.{eq-or-lt_of_le}
use native.Mathlib.Omega.{arith}
use lib.ListN.{length}
use Rattle.lists.specs.Turns.{iterate}
use Rattle.lists.proofs.TurnLaws.{iterate_keeps}
use Rattle.queue.specs.Ring.{empty_queue}
use Rattle.record.specs.Layout.{Whole, stream_count}
use Rattle.record.specs.Head.{with_prior, with_queue}
use Rattle.record.specs.Entry.{drain_at}
use Rattle.record.proofs.QueueLaws.{queues_most}
use Rattle.record.proofs.KeepLaws.{keeps_prior}
use Rattle.record.proofs.OpenPairs.{length_queue}
use Rattle.record.proofs.BesideLaws.{Beside, beside_same, beside_both, beside_prior, beside_queue, beside_place, beside_draining, beside_dropped}
use Rattle.steps.specs.Roles.{role_at, prior_role, current_role}
use Rattle.steps.proofs.RoleLaws.{role_below}
use Rattle.ticking.specs.Ticking.{ticked_at, ticked_record}
use Rattle.port_laws.proofs.SameLength.{ticked_length}
use Rattle.port_laws.proofs.TurnKeeps.{ticked_keeps}

-- the turn of another stream
turn_beside : (s i : ℕ) (l : List ℕ) → (s ≡ i → ⊥) → Beside s l (ticked_at i l)
turn_beside s i l o =
    ticked_keeps (Beside s l) i
    (λ k h. beside_both s l k _ h (beside_dropped s k i o))
    (λ k h. beside_both s l k _ h (beside_draining s k i o (drain_at k i - 1)))
    (λ k place left h. beside_both s l k _ h (beside_place s k i o place left))
    l (beside_same s l)

-- all turns: those before its own, its own, those after it
module _ (s : ℕ) (l : List ℕ) where
  turns_before : (n : ℕ) → n ≤ s → Beside s l (iterate ticked_at n l)
  unfolding iterate
  turns_before zero h = beside_same s l
  turns_before (suc n) h = beside_both s l (iterate ticked_at n l) _ (turns_before n (omega arith)) (turn_beside s n (iterate ticked_at n l) (λ e. omega arith))

  turns_after : (n : ℕ) → s < n → Beside s (ticked_at s (iterate ticked_at s l)) (iterate ticked_at n l)
  unfolding iterate
  turns_after zero h = absurd (omega arith)
  turns_after (suc n) h =
      ⊎_elim
      (λ (e : s ≡ n). rw e (beside_same n (ticked_at n (iterate ticked_at n l))))
      (λ (z : s < n). beside_both s _ (iterate ticked_at n l) _ (turns_after n z) (turn_beside s n (iterate ticked_at n l) (λ e. omega arith)))
      (eq-or-lt_of_le (omega arith))

  turns_whole : (n : ℕ) → Whole l → Whole (iterate ticked_at n l)
  turns_whole n whole = let long = iterate_keeps (λ k. length k ≡ length l) ticked_at n l (λ i k h. ticked_length i k ∙ h) refl in omega (arith, long)

module _ (p : List ℕ) (s : ℕ) where
  -- the record before the streams' turns
  abbrev turned : List ℕ
  turned = with_prior (with_queue p (role_at p prior_role) empty_queue) (role_at p current_role)

  turned_beside : Beside s p turned
  turned_beside =
      beside_both s p _ turned (beside_queue s p (role_at p prior_role) empty_queue (omega (arith, role_below p prior_role, queues_most p)))
      (beside_prior s _ (role_at p current_role))

  turned_whole : Whole p → Whole turned
  turned_whole whole =
      omega (arith, (keeps_prior (with_queue p (role_at p prior_role) empty_queue) (role_at p current_role)).long, length_queue p (role_at p prior_role) empty_queue)

  -- the record that its turn finds
  abbrev pub at_turn : List ℕ
  at_turn = iterate ticked_at s turned

  pub at_turn_lem : Beside s p at_turn
  at_turn_lem = beside_both s p turned at_turn turned_beside (turns_before s turned s (omega arith))

  pub at_turn_whole : Whole p → Whole at_turn
  at_turn_whole whole = turns_whole s turned s (turned_whole whole)

  -- and what its turn leaves
  pub after_turn : s < stream_count → Beside s (ticked_at s at_turn) (ticked_record p)
  unfolding ticked_record
  after_turn b = turns_after s turned stream_count b
