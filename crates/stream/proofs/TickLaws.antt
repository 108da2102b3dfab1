-- What a tick does to a stream: the two ways of the rule, and what they have in common. Assumes nothing.
use Prim.Native.Nat.{◌+◌, ◌-◌, ◌≤◌, ◌<◌}
use mathlib.Core.Path.{◌≡◌, sym, subst}
use mathlib.Core.Logic.{⊎_elim}
use native.Mathlib.Omega.{arith}
use borrow.Author.Tests.{le-leb, lt-leb}
use Rattle.lists.proofs.Order.{le_or_lt}
use Rattle.stream.specs.declared.Stream.{Stream}
use Rattle.stream.specs.State.{current_place, at_place, full_at}
use Rattle.stream.specs.Steps.{tick_of}

module _ (s : Stream) where
  -- a stream at current stays there, with all of P
  pub stays_current : s.place ≤ current_place → tick_of s ≡ full_at s current_place
  unfolding tick_of
  stays_current h = rw (le-leb s.place current_place h)

  -- a stream at a later place comes one place nearer, and keeps its left
  pub comes_nearer : current_place < s.place → tick_of s ≡ at_place s (s.place - 1) s.left
  unfolding tick_of
  comes_nearer h = rw (lt-leb s.place current_place h)

  -- whatever holds of both ways holds of the tick
  pub tick_cases : (G : Stream → Type 0)
      → (s.place ≤ current_place → G (full_at s current_place))
      → (current_place < s.place → G (at_place s (s.place - 1) s.left))
      → G (tick_of s)
  tick_cases G stays nearer =
      ⊎_elim
      (λ (h : s.place ≤ current_place). subst G (sym (stays_current h)) (stays h))
      (λ (h : current_place < s.place). subst G (sym (comes_nearer h)) (nearer h))
      (le_or_lt s.place current_place)

  -- the place falls by one at most, and not below current
  pub tick_place : s.place ≤ (tick_of s).place + 1
  tick_place = tick_cases (λ t. s.place ≤ t.place + 1) (λ h. omega arith) (λ h. omega arith)

  pub tick_current : current_place ≤ (tick_of s).place
  tick_current = tick_cases (λ t. current_place ≤ t.place) (λ h. omega arith) (λ h. omega arith)
