-- `fitness::bindings::fit` meets its contract. One stream more: it is compared with the pairs gathered before it, and its own is gathered. Assumes nothing.
use Prim.Native.Nat.{ℕ}
use mathlib.Core.Bool.{Bool, not, ◌&&◌}
use mathlib.Core.List.{List}
use mathlib.Core.Path.{◌≡◌, ◌∙◌, ap, ap₂, sym}
use native.Mathlib.Omega.{arith}
use lib.Dec.{eqb}
use lib.ListN.{length}
use Rattle.std.specs.List.{list_all}
use Rattle.lists.specs.Turns.{all_of}
use Rattle.octets.proofs.NumberLaws.{Octets}
use Rattle.record.specs.Entry.{bound_at}
use Rattle.record.specs.Layout.{stream_count}
use Rattle.record.specs.PairNumber.{pair_at}
use Rattle.fitness.specs.Clauses.{binding_fits, unlike_earlier}
use Rattle.fitness.proofs.GatherLaws.{Gathered, gathers, unlike_gathered, at_most_one}
use Rattle.fitness.proofs.TestLaws.{all_to_turn, all_to_false}
use Rattle.fitness.proofs.bindings.fit.Goals as goal

-- what `binding_fits` answers, by the definition
fits : (p pairs items : List ℕ) (s : ℕ) (answer : Bool) → Octets p → Gathered p items s → pairs ≡ items
    → answer ≡ binding_fits p s (list_all (λ gathered. not (eqb gathered (pair_at p s))) pairs)
    → answer ≡ binding_fits p s (unlike_earlier p s)
fits p pairs items s answer o g same h =
    h
    ∙ ap (λ (xs : List ℕ). binding_fits p s (list_all (λ gathered. not (eqb gathered (pair_at p s))) xs)) same
    ∙ ap (binding_fits p s) (unlike_gathered p items s o g)

pub returns-then-not-binding_fits : goal.returns-then-not-binding_fits
returns-then-not-binding_fits c =
    let p = c.args.port.now in
    let l = c.loop-s in
    let told = fits p c.as_slice.result.now l.pairs.items l.s c.binding_fits.result (λ k. omega (arith, c.type_inv.port k)) l.invariant.1.1 c.as_slice.ensures.value c.binding_fits.ensures in
    sym (all_to_false (λ t. binding_fits p t (unlike_earlier p t)) stream_count l.s (omega arith) (sym told ∙ c.if-not-binding_fits.true))

pub loop-s-preserved : goal.loop-s-preserved
loop-s-preserved c =
    let p = c.args.port.now in
    let l = c.loop-s in
    let told = fits p c.as_slice.result.now l.pairs.items l.s c.binding_fits.result (λ k. omega (arith, c.type_inv.port k)) l.invariant.1.1 c.as_slice.ensures.value c.binding_fits.ensures in (
      omega (arith, ap length c.gather.ensures, at_most_one (bound_at p l.s) l.pairs.items (pair_at p l.s)),
      (
        all_to_turn (λ t. binding_fits p t (unlike_earlier p t)) l.s ∙ ap₂ ◌&&◌ l.invariant.1.0 (sym told ∙ c.if-not-binding_fits.false),
        λ h. ap (all_of h) c.gather.ensures ∙ gathers p l.pairs.items l.s l.invariant.1.1 h,
      ),
    )
