-- The roles of the queues for reserved traffic, of whatever number: each role has one of them, another role another, and a tick moves them on. Assumes
-- nothing.
use Prim.Native.Nat.{ℕ, suc, ◌+◌, ◌-◌, ◌%◌, ◌≤◌, ◌<◌}
use mathlib.Core.Path.{◌≡◌, sym, ap, ap₂, ◌∙◌}
use mathlib.Core.Logic.{◌⊎◌, inl, inr, ⊎_elim}
use mathlib.Core.List.{List}
use native.Mathlib.Omega.{arith}
use native.Mathlib.Nat.{mod-lt, mod-eq_of_lt, mod-eq-sub-mod, mod-add-mod, add-mod_right}
use Rattle.lists.proofs.Order.{le_or_lt}
use Rattle.record.specs.Head.{prior_at}
use Rattle.record.specs.Queues.{queues_at}
use Rattle.record.proofs.QueueLaws.{queues_least}
use Rattle.steps.specs.declared.Roles.{Roles}
use Rattle.steps.specs.Roles.{role_at, prior_role, current_role}

-- a number from q to less than twice q leaves what it has above q
pub mod_once : (n q : ℕ) → q ≤ n → n < q + q → n % q ≡ n - q
mod_once n q a b = mod-eq-sub-mod a ∙ mod-eq_of_lt (omega arith)

-- below q, different numbers added to one number leave different remainders
mod_apart : (a r s q : ℕ) → a < q → r < q → s < q → (a + r) % q ≡ (a + s) % q → r ≡ s
mod_apart a r s q x y z e = by_side (side r y) (side s z)
  where
    Side : ℕ → Type 0
    Side t = ((a + t) % q ≡ a + t) ⊎ ((q ≤ a + t) × ((a + t) % q ≡ a + t - q))

    side : (t : ℕ) → t < q → Side t
    side t b = ⊎_elim (λ (h : q ≤ a + t). inr (h, mod_once (a + t) q h (omega arith))) (λ (h : a + t < q). inl (mod-eq_of_lt h)) (le_or_lt q (a + t))

    by_side : Side r → Side s → r ≡ s
    by_side (inl f) (inl g) = omega (arith, e, f, g)
    by_side (inl f) (inr g) = omega (arith, e, f, g)
    by_side (inr f) (inl g) = omega (arith, e, f, g)
    by_side (inr f) (inr g) = omega (arith, e, f, g)

-- a role by what was read of the record is that of the record
pub role_read : (p : List ℕ) (roles : Roles) (role number : ℕ) → number ≡ (roles.prior + role) % roles.queues
    → (roles.queues ≡ queues_at p) × (roles.prior ≡ prior_at p)
    → number ≡ role_at p role
unfolding role_at
role_read p roles role number e read = e ∙ ap₂ (λ (prior queues : ℕ). (prior + role) % queues) read.1 read.0

pub role_below : (p : List ℕ) (role : ℕ) → role_at p role < queues_at p
unfolding role_at
role_below p role = mod-lt (prior_at p + role) (omega (arith, queues_least p))

-- another role, another queue
pub role_apart : (p : List ℕ) (r s : ℕ) → r < queues_at p → s < queues_at p → (r ≡ s → ⊥) → role_at p r ≡ role_at p s → ⊥
unfolding role_at
role_apart p r s a b apart e =
    let q = queues_at p in
    apart
    (mod_apart (prior_at p % q) r s q (mod-lt (prior_at p) (omega (arith, queues_least p))) a b
    (mod-add-mod (prior_at p) q r ∙ e ∙ sym (mod-add-mod (prior_at p) q s)))

-- the roles go by prior and the number of queues
pub role_same : (p q : List ℕ) (role : ℕ) → prior_at q ≡ prior_at p → queues_at q ≡ queues_at p → role_at q role ≡ role_at p role
unfolding role_at
role_same p q role e f = ap₂ (λ (prior queues : ℕ). (prior + role) % queues) e f

-- where current has become prior, each queue has the role before its own
pub role_nearer : (p q : List ℕ) (role : ℕ) → prior_at q ≡ role_at p current_role → queues_at q ≡ queues_at p → role_at q role ≡ role_at p (suc role)
unfolding role_at
role_nearer p q role e f =
    ap₂ (λ (prior queues : ℕ). (prior + role) % queues) e f
    ∙ mod-add-mod (prior_at p + 1) (queues_at p) role
    ∙ ap (λ (n : ℕ). n % queues_at p) (omega arith)

-- and last is the queue that was prior
pub role_wraps : (p : List ℕ) (role : ℕ) → suc role ≡ queues_at p → role_at p (suc role) ≡ role_at p prior_role
unfolding role_at
role_wraps p role e =
    ap (λ (n : ℕ). (prior_at p + n) % queues_at p) e ∙ add-mod_right (prior_at p) (queues_at p) ∙ ap (λ (n : ℕ). n % queues_at p) (omega arith)
