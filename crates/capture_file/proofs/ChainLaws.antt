-- Laws of the chains: how the walk of a chain goes on, that it goes forward, what it leaves, and that the bound on its records cuts nothing off.
-- Assumes nothing.
use Prim.Native.Nat.{◌+◌, ◌-◌, ◌<◌, ◌≤◌, suc, zero, ℕ}
use mathlib.Core.Path.{◌∙◌, ◌≡◌, ap, refl, sym}
use mathlib.Core.Bool.{Bool, ◌&&◌, ◌||◌, cond, false, not, true}
use mathlib.Core.Logic.{◌⊎◌, inl, inr, ⊎_elim}
use mathlib.Core.List.{List, [], ◌∷◌}
use native.Mathlib.Omega.{arith}
use borrow.Author.Tests.{eq-eqb, ltb-true, ne_eqb}
use lib.Dec.{eqb, ltb}
use Rattle.capture_file.specs.Checks.{FileRefusal, all_good, chain_refusal, first_refusal, next_good, record_good, record_refusal, refused_at}
use Rattle.capture_file.specs.File.{chain_within, most_events, next_of, record_count}
use Rattle.lists.proofs.Order.{eq_or_not}
use Rattle.lists.proofs.TurnLaws.{both}

-- a refusal that refuses nothing gives way to the next; any other stands
pub first_passes : (r s : FileRefusal) → r.number ≡ 0 → first_refusal r s ≡ s
first_passes r s e = ap (λ (b : Bool). cond b s r) (eq-eqb r.number 0 e)

pub first_stands : (r s : FileRefusal) → (r.number ≡ 0 → ⊥) → first_refusal r s ≡ r
first_stands r s e = ap (λ (b : Bool). cond b s r) (ne_eqb r.number 0 e)

-- index 0 ends a chain
pub chain_ends : (f : List ℕ) (n : ℕ) → chain_refusal f n 0 ≡ all_good
unfolding chain_refusal
chain_ends f zero = refl
chain_ends f (suc n) = refl

step : (f : List ℕ) (n i : ℕ) → (i ≡ 0 → ⊥) → chain_refusal f (suc n) i ≡ first_refusal (refused_at (record_refusal f i) i) (chain_refusal f n (next_of f i))
unfolding chain_refusal
step f n i some = ap (λ (b : Bool). cond b all_good (first_refusal (refused_at (record_refusal f i) i) (chain_refusal f n (next_of f i)))) (ne_eqb i 0 some)

-- a record that is refused ends the walk; any other leaves the chain from its next index on
pub chain_stops : (f : List ℕ) (n i : ℕ) → (i ≡ 0 → ⊥) → (record_refusal f i ≡ 0 → ⊥) → chain_refusal f (suc n) i ≡ refused_at (record_refusal f i) i
chain_stops f n i some bad = step f n i some ∙ first_stands _ _ bad

pub chain_goes_on : (f : List ℕ) (n i : ℕ) → (i ≡ 0 → ⊥) → record_refusal f i ≡ 0 → chain_refusal f (suc n) i ≡ chain_refusal f n (next_of f i)
chain_goes_on f n i some good = step f n i some ∙ first_passes _ _ good

-- what is true of a record that is not refused
pub record_passed : (f : List ℕ) (i : ℕ) → record_refusal f i ≡ 0 → (record_good f i ≡ true) × (next_good f i ≡ true)
unfolding record_refusal
record_passed f i e = told (record_good f i) (next_good f i) refl refl e
  where
    told : (b c : Bool) → record_good f i ≡ b → next_good f i ≡ c → ◌≡◌ {A = ℕ} (cond (not b) 24 (cond (not c) 23 0)) 0 → (record_good f i ≡ true) × (next_good f i ≡ true)
    told true true g h z = (g, h)
    told true false g h z = absurd (omega arith)
    told false c g h z = absurd (omega arith)

-- a good next index ends the chain or leads forward
pub forward : (f : List ℕ) (i : ℕ) → next_good f i ≡ true → (next_of f i ≡ 0) ⊎ ((i < next_of f i) × (next_of f i < record_count f))
unfolding next_good
forward f i e =
    ⊎_elim
    (λ (zero : next_of f i ≡ 0). inl zero)
    (λ (some : next_of f i ≡ 0 → ⊥). (
    let further = both _ _ (sym (ap (λ (b : Bool). b || (ltb i (next_of f i) && ltb (next_of f i) (record_count f))) (ne_eqb _ _ some)) ∙ e) in
    inr (ltb-true _ _ further.0, ltb-true _ _ further.1)))
    (eq_or_not (next_of f i) 0)

-- the next record is one of the file
pub next_has : (f : List ℕ) (i : ℕ) → i < record_count f → next_good f i ≡ true → next_of f i < record_count f
next_has f i has good =
    ⊎_elim
    (λ (zero : next_of f i ≡ 0). omega (arith, zero))
    (λ (further : (i < next_of f i) × (next_of f i < record_count f)). further.1)
    (forward f i good)

-- the chain as a list: index 0 ends it, and any other index is its front
pub list_ends : (f : List ℕ) (n : ℕ) → chain_within f n 0 ≡ []
unfolding chain_within
list_ends f zero = refl
list_ends f (suc n) = refl

pub list_goes_on : (f : List ℕ) (n i : ℕ) → (i ≡ 0 → ⊥) → chain_within f (suc n) i ≡ i ∷ chain_within f n (next_of f i)
unfolding chain_within
list_goes_on f n i some = ap (λ (b : Bool). cond b [] (i ∷ chain_within f n (next_of f i))) (ne_eqb i 0 some)

-- the front of a good chain is not refused, and the rest of it is good
pub good_front : (f : List ℕ) (n i : ℕ) → (i ≡ 0 → ⊥) → (chain_refusal f (suc n) i).number ≡ 0 → (record_refusal f i ≡ 0) × ((chain_refusal f n (next_of f i)).number ≡ 0)
good_front f n i some good =
    ⊎_elim
    (λ (passed : record_refusal f i ≡ 0). (passed, ap (λ (r : FileRefusal). r.number) (sym (chain_goes_on f n i some passed)) ∙ good))
    (λ (bad : record_refusal f i ≡ 0 → ⊥). absurd (bad (ap (λ (r : FileRefusal). r.number) (sym (chain_stops f n i some bad)) ∙ good)))
    (eq_or_not (record_refusal f i) 0)

-- n records are enough for a walk that has come to record i
abbrev pub Enough : List ℕ → ℕ → ℕ → Type 0
Enough f n i = (i ≡ 0 → ⊥) → record_count f ≤ i + n

-- so are n for the next record, where n + 1 are for this one
enough_next : (f : List ℕ) (n i : ℕ) → (i ≡ 0 → ⊥) → next_good f i ≡ true → Enough f (suc n) i → Enough f n (next_of f i)
enough_next f n i some good enough more =
    ⊎_elim
    (λ (zero : next_of f i ≡ 0). absurd (more zero))
    (λ (further : (i < next_of f i) × (next_of f i < record_count f)). omega (arith, further.0, enough some))
    (forward f i good)

-- as many records as the file has after its header are enough, wherever a chain begins
pub most_enough : (f : List ℕ) (i : ℕ) → Enough f (most_events f) i
most_enough f i some = omega arith

-- the bound on the records of a walk does not matter where it is enough: neither to what is refused, nor to the records of a good chain
pub refusal_whole : (f : List ℕ) (n m i : ℕ) → i < record_count f → Enough f n i → Enough f m i → chain_refusal f n i ≡ chain_refusal f m i
refusal_whole f zero m i has a b =
    ⊎_elim
    (λ (end : i ≡ 0). rw end (chain_ends f zero ∙ sym (chain_ends f m)))
    (λ (some : i ≡ 0 → ⊥). absurd (omega (arith, has, a some)))
    (eq_or_not i 0)
refusal_whole f (suc n) zero i has a b =
    ⊎_elim
    (λ (end : i ≡ 0). rw end (chain_ends f (suc n) ∙ sym (chain_ends f zero)))
    (λ (some : i ≡ 0 → ⊥). absurd (omega (arith, has, b some)))
    (eq_or_not i 0)
refusal_whole f (suc n) (suc m) i has a b =
    ⊎_elim
    (λ (end : i ≡ 0). rw end (chain_ends f (suc n) ∙ sym (chain_ends f (suc m))))
    (λ (some : i ≡ 0 → ⊥).
    ⊎_elim
    (λ (good : record_refusal f i ≡ 0). (
    let next = (record_passed f i good).1 in
    chain_goes_on f n i some good
    ∙ refusal_whole f n m (next_of f i) (next_has f i has next) (enough_next f n i some next a) (enough_next f m i some next b)
    ∙ sym (chain_goes_on f m i some good)))
    (λ (bad : record_refusal f i ≡ 0 → ⊥). chain_stops f n i some bad ∙ sym (chain_stops f m i some bad))
    (eq_or_not (record_refusal f i) 0))
    (eq_or_not i 0)

pub list_whole : (f : List ℕ) (n m i : ℕ) → i < record_count f → (chain_refusal f n i).number ≡ 0 → Enough f n i → Enough f m i → chain_within f n i ≡ chain_within f m i
list_whole f zero m i has good a b =
    ⊎_elim
    (λ (end : i ≡ 0). rw end (list_ends f zero ∙ sym (list_ends f m)))
    (λ (some : i ≡ 0 → ⊥). absurd (omega (arith, has, a some)))
    (eq_or_not i 0)
list_whole f (suc n) zero i has good a b =
    ⊎_elim
    (λ (end : i ≡ 0). rw end (list_ends f (suc n) ∙ sym (list_ends f zero)))
    (λ (some : i ≡ 0 → ⊥). absurd (omega (arith, has, b some)))
    (eq_or_not i 0)
list_whole f (suc n) (suc m) i has good a b =
    ⊎_elim
    (λ (end : i ≡ 0). rw end (list_ends f (suc n) ∙ sym (list_ends f (suc m))))
    (λ (some : i ≡ 0 → ⊥). (
    let front = good_front f n i some good in
    let next = (record_passed f i front.0).1 in
    list_goes_on f n i some
    ∙ ap (λ (is : List ℕ). i ∷ is) (list_whole f n m (next_of f i) (next_has f i has next) front.1 (enough_next f n i some next a) (enough_next f m i some next b))
    ∙ sym (list_goes_on f m i some)))
    (eq_or_not i 0)

-- how far a walk that has come to record i still has to go, at most
abbrev pub ahead : List ℕ → ℕ → ℕ
ahead f i = cond (eqb i 0) 0 (record_count f - i)

-- it falls with each record
pub ahead_falls : (f : List ℕ) (i : ℕ) → (i ≡ 0 → ⊥) → i < record_count f → next_good f i ≡ true → ahead f (next_of f i) < ahead f i
ahead_falls f i some has good =
    let here : ahead f i ≡ record_count f - i = ap (λ (b : Bool). cond b 0 (record_count f - i)) (ne_eqb i 0 some) in
    ⊎_elim
    (λ (zero : next_of f i ≡ 0). (
    let there : ahead f (next_of f i) ≡ 0 = ap (λ (b : Bool). cond b 0 (record_count f - next_of f i)) (eq-eqb (next_of f i) 0 zero) in
    omega (arith, here, there, has)))
    (λ (further : (i < next_of f i) × (next_of f i < record_count f)). (
    let there : ahead f (next_of f i) ≡ record_count f - next_of f i =
    ap (λ (b : Bool). cond b 0 (record_count f - next_of f i)) (ne_eqb (next_of f i) 0 (λ e. omega (arith, further.0))) in
    omega (arith, here, there, has, further.0, further.1)))
    (forward f i good)

-- a walk that has come to record i: n more records are enough, and they refuse what the whole chain does
abbrev pub Walk : List ℕ → ℕ → ℕ → Type 0
Walk f first i = (n : ℕ) × (Enough f n i × (chain_refusal f n i ≡ chain_refusal f (most_events f) first))

pub walk_begins : (f : List ℕ) (first : ℕ) → Walk f first first
walk_begins f first = (most_events f, (most_enough f first, refl))

pub walk_goes_on : (f : List ℕ) (first i : ℕ) → (i ≡ 0 → ⊥) → i < record_count f → record_refusal f i ≡ 0 → Walk f first i → Walk f first (next_of f i)
walk_goes_on f first i some has good (zero, (enough, same)) = absurd (omega (arith, enough some, has))
walk_goes_on f first i some has good (suc n, (enough, same)) =
    (n, (enough_next f n i some (record_passed f i good).1 enough, sym (chain_goes_on f n i some good) ∙ same))

-- a walk that meets a refused record has found what the whole chain refuses
pub walk_stops : (f : List ℕ) (first i : ℕ) → (i ≡ 0 → ⊥) → i < record_count f → (record_refusal f i ≡ 0 → ⊥) → Walk f first i
    → refused_at (record_refusal f i) i ≡ chain_refusal f (most_events f) first
walk_stops f first i some has bad (zero, (enough, same)) = absurd (omega (arith, enough some, has))
walk_stops f first i some has bad (suc n, (enough, same)) = sym (chain_stops f n i some bad) ∙ same

-- a walk that has come to the chain's end has found nothing refused
pub walk_ends : (f : List ℕ) (first : ℕ) → Walk f first 0 → all_good ≡ chain_refusal f (most_events f) first
walk_ends f first (n, (enough, same)) = sym (chain_ends f n) ∙ same

pub ruleset walk_steps = (walk_begins, walk_stops, walk_ends)
