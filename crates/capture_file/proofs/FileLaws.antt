-- What is true of a file, a port and a record of which nothing is refused. Assumes nothing.
use Prim.Native.Nat.{◌%◌, ◌+◌, ◌-◌, ◌<◌, ◌≤◌, suc, zero, ℕ}
use mathlib.Core.Path.{◌∙◌, ◌≡◌, ap, refl, sym}
use mathlib.Core.Bool.{Bool, ◌||◌, cond, false, not, true}
use mathlib.Core.Logic.{⊎_elim}
use mathlib.Core.List.{List}
use native.Mathlib.Omega.{arith}
use lib.ListN.{length}
use borrow.Author.Tests.{leb-true, ltb-true, ne_eqb}
use lib.Dec.{eqb, leb, ltb}
use Rattle.capture_file.proofs.ChainLaws.{first_passes, first_stands}
use Rattle.capture_file.specs.Checks.{FileRefusal, all_good, chain_refusal, fields_good, first_good, header_good, length_good, most_octets, port_refusal, ports_refusal, record_good, file_refusal, refused_at}
use Rattle.capture_file.specs.File.{first_of, kind_of, most_events, number_a, number_b, port_count, record_count, record_octets, stream_octet_of}
use Rattle.lists.proofs.Order.{eq_or_not, le_or_lt}
use Rattle.lists.proofs.TurnLaws.{both}

-- a good record has one of the kinds
pub kind_known : (f : List ℕ) (i : ℕ) → record_good f i ≡ true → kind_of f i < 8
unfolding record_good
kind_known f i good = known (kind_of f i) (stream_octet_of f i) (number_a f i) (number_b f i) (both _ _ good).0
  where
    apart : (kind n : ℕ) → 8 ≤ kind → n < 8 → eqb kind n ≡ false
    apart kind n h k = ne_eqb kind n (λ e. omega (arith, h, k, e))

    known : (kind stream a b : ℕ) → fields_good kind stream a b ≡ true → kind < 8
    known kind stream a b e =
        ⊎_elim
        (λ (other : 8 ≤ kind). (
        let none : fields_good kind stream a b ≡ false =
        simp
        (apart kind 1 other (omega arith), apart kind 2 other (omega arith), apart kind 3 other (omega arith), apart kind 4 other (omega arith), apart kind 5 other (omega arith), apart kind 6 other (omega arith), apart kind 7 other (omega arith)) in
        let z : ◌≡◌ {A = ℕ} 0 1 = cc in
        absurd (omega arith)))
        (λ (one : kind < 8). one)
        (le_or_lt 8 kind)

-- what is true of a length that will do
pub length_passed : (f : List ℕ) → length_good f ≡ true → (record_octets ≤ length f) × (length f ≤ most_octets)
length_passed f e =
    let ends = both (leb record_octets (length f)) (leb (length f) most_octets) (both (eqb (length f % record_octets) 0) _ e).1 in
    (leb-true _ _ ends.0, leb-true _ _ ends.1)

-- a good first index is that of a record, where there is one
pub first_has : (f : List ℕ) (q : ℕ) → 0 < record_count f → first_good f q ≡ true → first_of f q < record_count f
unfolding first_good
first_has f q some e =
    ⊎_elim
    (λ (zero : first_of f q ≡ 0). omega (arith, zero))
    (λ (more : first_of f q ≡ 0 → ⊥). ltb-true _ _ (sym (ap (λ (b : Bool). b || ltb (first_of f q) (record_count f)) (ne_eqb _ _ more)) ∙ e))
    (eq_or_not (first_of f q) 0)

-- a port that is refused ends the walk of the ports; any other leaves the ports after it
pub ports_stop : (f : List ℕ) (q n : ℕ) → ((port_refusal f q).number ≡ 0 → ⊥) → ports_refusal f q (suc n) ≡ port_refusal f q
unfolding ports_refusal
ports_stop f q n bad = first_stands _ _ bad

pub ports_go_on : (f : List ℕ) (q n : ℕ) → (port_refusal f q).number ≡ 0 → ports_refusal f q (suc n) ≡ ports_refusal f (q + 1) n
unfolding ports_refusal
ports_go_on f q n good = first_passes _ _ good

-- after the last port nothing is refused
pub ports_end : (f : List ℕ) (q : ℕ) → port_count ≤ q → ports_refusal f q (port_count - q) ≡ all_good
unfolding ports_refusal
ports_end f q h = let none : port_count - q ≡ 0 = omega (arith, h) in ap (ports_refusal f q) none

-- the ports from this one on, where it is refused and where it is not
pub ports_stop_at : (f : List ℕ) (q : ℕ) → q < port_count → ((port_refusal f q).number ≡ 0 → ⊥) → ports_refusal f q (port_count - q) ≡ port_refusal f q
ports_stop_at f q h bad =
    let more : port_count - q ≡ suc (port_count - (q + 1)) = omega (arith, h) in
    ap (ports_refusal f q) more ∙ ports_stop f q (port_count - (q + 1)) bad

pub ports_go_on_at : (f : List ℕ) (q : ℕ) → q < port_count → (port_refusal f q).number ≡ 0 → ports_refusal f q (port_count - q) ≡ ports_refusal f (q + 1) (port_count - (q + 1))
ports_go_on_at f q h good =
    let more : port_count - q ≡ suc (port_count - (q + 1)) = omega (arith, h) in
    ap (ports_refusal f q) more ∙ ports_go_on f q (port_count - (q + 1)) good

pub ruleset ports_steps = (ports_end, ports_stop_at, ports_go_on_at)

-- what is true of a file of which nothing is refused
pub file_passed : (f : List ℕ) → (file_refusal f).number ≡ 0 → (length_good f ≡ true) × ((ports_refusal f 0 port_count).number ≡ 0)
unfolding file_refusal
file_passed f e = told (length_good f) (header_good f) refl refl e
  where
    told : (b c : Bool) → length_good f ≡ b → header_good f ≡ c
        → (cond (not b) (refused_at 21 0) (cond (not c) (refused_at 22 0) (ports_refusal f 0 port_count))).number ≡ 0
        → (length_good f ≡ true) × ((ports_refusal f 0 port_count).number ≡ 0)
    told true true g h z = (g, z)
    told true false g h z = absurd (omega (arith, z))
    told false c g h z = absurd (omega (arith, z))

-- each of its ports is good, counted from port q on
port_good : (f : List ℕ) (n q k : ℕ) → (ports_refusal f q n).number ≡ 0 → k < n → (port_refusal f (q + k)).number ≡ 0
port_good f zero q k e h = absurd (omega arith)
port_good f (suc n) q k e h =
    ⊎_elim
    (λ (good : (port_refusal f q).number ≡ 0). counted k h good (λ j. port_good f n (q + 1) j (ap (λ (r : FileRefusal). r.number) (sym (ports_go_on f q n good)) ∙ e)))
    (λ (bad : (port_refusal f q).number ≡ 0 → ⊥). absurd (bad (ap (λ (r : FileRefusal). r.number) (sym (ports_stop f q n bad)) ∙ e)))
    (eq_or_not (port_refusal f q).number 0)
  where
    counted : (k : ℕ) → k < suc n → (port_refusal f q).number ≡ 0 → ((j : ℕ) → j < n → (port_refusal f (q + 1 + j)).number ≡ 0) → (port_refusal f (q + k)).number ≡ 0
    counted zero h good later = let here : q + 0 ≡ q = omega arith in ap (λ (p : ℕ). (port_refusal f p).number) here ∙ good
    counted (suc j) h good later = let there : q + suc j ≡ q + 1 + j = omega arith in ap (λ (p : ℕ). (port_refusal f p).number) there ∙ later j (omega arith)

pub ports_good : (f : List ℕ) (q : ℕ) → (ports_refusal f 0 port_count).number ≡ 0 → q < port_count → (port_refusal f q).number ≡ 0
ports_good f q e h = let here : 0 + q ≡ q = omega arith in ap (λ (p : ℕ). (port_refusal f p).number) (sym here) ∙ port_good f port_count 0 q e h

-- a port that is not refused has a good first index and a good chain
pub port_passed : (f : List ℕ) (q : ℕ) → (port_refusal f q).number ≡ 0 → (first_good f q ≡ true) × ((chain_refusal f (most_events f) (first_of f q)).number ≡ 0)
unfolding port_refusal
port_passed f q e = told (first_good f q) refl e
  where
    told : (b : Bool) → first_good f q ≡ b
        → (cond (not b) (refused_at 23 0) (chain_refusal f (most_events f) (first_of f q))).number ≡ 0
        → (first_good f q ≡ true) × ((chain_refusal f (most_events f) (first_of f q)).number ≡ 0)
    told true g z = (g, z)
    told false g z = absurd (omega (arith, z))
