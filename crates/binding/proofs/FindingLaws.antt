-- The lookup turn by turn; it finds the first stream that is bound to the pair, none where none is, and its number is the sum over the bindings gone
-- through. Assumes nothing.
use Prim.Native.Nat.{ℕ, zero, suc, ◌+◌, ◌-◌, ◌*◌, ◌≤◌, ◌<◌}
use mathlib.Core.Path.{◌≡◌, refl, sym, ap, ap₂, subst, ◌∙◌}
use mathlib.Core.Bool.{Bool, true, false, ◌&&◌, cond}
use mathlib.Core.Logic.{⊎_elim}
use mathlib.Core.List.{List}
use native.Mathlib.Omega.{arith}
use borrow.Author.Tests.{eq-eqb, ne_eqb}
use lib.ListN.{get_or}
use lib.Dec.{eqb}
use Rattle.lists.specs.Turns.{all_to, sum_to}
use Rattle.lists.specs.Window.{get}
use Rattle.lists.specs.Equal.{octets_equal}
use Rattle.lists.proofs.EachLaws.{differ}
use Rattle.lists.proofs.Order.{eq_or_not, le_or_lt}
use Rattle.lists.proofs.TurnLaws.{all_to_same, sum_to_same, sum_to_none}
use Rattle.lists.proofs.WindowLaws.{get_or_get}
use Rattle.record.specs.Layout.{stream_count, address_length}
use Rattle.record.specs.Entry.{bound_at, vid_at, address_at}
use Rattle.std.specs.Prelude.{Option, Some, None}
use Rattle.binding.specs.declared.Comparison.{Comparison}
use Rattle.binding.specs.declared.Answer.{Answer}
use Rattle.binding.specs.Finding.{compared_back, compared_at, lookup_from, lookup, is_bound}
use Rattle.binding.specs.LookupClaims.{bound_to, first_from, first_bound, SameStream, reached, octets_compared, gone_through, ExactNumber, NumberWithin}

-- what holds of both outcomes of a comparison holds of it
either_way : (P : Comparison → Type 0) (e : Bool) (x y : Comparison) → P x → P y → P (cond e x y)
either_way P true x y a b = a
either_way P false x y a b = b

module _ (a b : List ℕ) where
  -- whether octet i is the same in both
  abbrev same : ℕ → Bool
  same i = eqb (get_or a i 0) (get_or b i 0)

  -- one turn back, where n octets are left: the last of them is equal and the comparison goes on, or it differs and was the last
  pub back_equal : (n compared : ℕ) → 0 < n → get_or a (n - 1) 0 ≡ get_or b (n - 1) 0 → compared_back a b n compared ≡ compared_back a b (n - 1) (compared + 1)
  unfolding compared_back
  back_equal zero compared some e = absurd (omega arith)
  back_equal (suc n) compared some e = let one : suc n - 1 ≡ n = omega arith in let last : same n ≡ true = eq-eqb _ _ (rw one at e) in rw (one, last)

  pub back_differs : (n compared : ℕ) → 0 < n → (get_or a (n - 1) 0 ≡ get_or b (n - 1) 0 → ⊥)
      → compared_back a b n compared ≡ record { equal = false; compared = compared + 1 }
  unfolding compared_back
  back_differs zero compared some e = absurd (omega arith)
  back_differs (suc n) compared some e = let one : suc n - 1 ≡ n = omega arith in let last : same n ≡ false = ne_eqb _ _ (rw one at e) in rw last

  -- the addresses are said to be equal where all octets are
  back_all : (n compared : ℕ) → (compared_back a b n compared).equal ≡ all_to same n
  unfolding compared_back all_to
  back_all zero compared = refl
  back_all (suc n) compared = told (same n) (back_all n (compared + 1))
    where
      told : (e : Bool) → (compared_back a b n (compared + 1)).equal ≡ all_to same n
          → (cond e (compared_back a b n (compared + 1)) (record { equal = false; compared = compared + 1 })).equal ≡ (e && all_to same n)
      told true later = later
      told false later = refl

  -- octet i of n is compared where all octets behind it are the same
  abbrev behind : ℕ → ℕ → Bool
  behind n i = all_to (λ j. same (i + 1 + j)) (n - (i + 1))

  abbrev so_many : ℕ → ℕ
  so_many n = sum_to (λ i. cond (behind n i) 1 0) n

  -- one octet more behind all
  behind_more : (n i : ℕ) → i < n → behind (suc n) i ≡ (same n && behind n i)
  unfolding all_to
  behind_more n i below =
      let more : suc n - (i + 1) ≡ suc (n - (i + 1)) = omega arith in
      let last : i + 1 + (n - (i + 1)) ≡ n = omega arith in
      rw (more, last)

  many_more : (n : ℕ) → so_many (suc n) ≡ cond (same n) (so_many n) 0 + 1
  unfolding sum_to all_to
  many_more n =
      let none : suc n - (n + 1) ≡ 0 = omega arith in
      ap₂ ◌+◌
      (sum_to_same (λ i. cond (behind (suc n) i) 1 0) (λ i. cond (same n && behind n i) 1 0) n (λ i below. ap (λ (x : Bool). cond x 1 0) (behind_more n i below)) ∙ told (same n))
      (rw none)
    where
      told : (e : Bool) → sum_to (λ i. cond (e && behind n i) 1 0) n ≡ cond e (so_many n) 0
      told true = refl
      told false = sum_to_none n

  -- and the number is that of these octets, added to those compared before
  back_number : (n compared : ℕ) → (compared_back a b n compared).compared ≡ compared + so_many n
  unfolding compared_back sum_to
  back_number zero compared = omega arith
  back_number (suc n) compared = told (same n) (back_number n (compared + 1)) ∙ ap (λ (k : ℕ). compared + k) (sym (many_more n))
    where
      told : (e : Bool) → (compared_back a b n (compared + 1)).compared ≡ compared + 1 + so_many n
          → (cond e (compared_back a b n (compared + 1)) (record { equal = false; compared = compared + 1 })).compared
          ≡ compared + (cond e (so_many n) 0 + 1)
      told true later = later ∙ omega arith
      told false later = omega arith

  -- no octet is compared twice
  back_most : (n compared : ℕ) → (compared_back a b n compared).compared ≤ compared + n
  unfolding compared_back
  back_most zero compared = omega arith
  back_most (suc n) compared =
      let later = back_most n (compared + 1) in
      either_way (λ c. c.compared ≤ compared + suc n) (same n) (compared_back a b n (compared + 1)) (record { equal = false; compared = compared + 1 })
      (omega (arith, later)) (omega arith)

  -- of equal addresses all octets are compared
  back_whole : (n compared : ℕ) → (compared_back a b n compared).equal ≡ true → (compared_back a b n compared).compared ≡ compared + n
  unfolding compared_back
  back_whole zero compared = λ is. omega arith
  back_whole (suc n) compared =
      let later = back_whole n (compared + 1) in
      either_way (λ c. c.equal ≡ true → c.compared ≡ compared + suc n) (same n) (compared_back a b n (compared + 1)) (record { equal = false; compared = compared + 1 })
      (λ is. later is ∙ omega arith) (λ is. differ (sym is))

module _ (p address : List ℕ) (vid : ℕ) where
  -- what is compared with a stream's binding: nothing where it is unbound or has another VID
  pub passed_unbound : (s compared : ℕ) → bound_at p s ≡ false → compared_at p address vid s compared ≡ record { equal = false; compared = compared }
  unfolding compared_at
  passed_unbound s compared e = rw e

  pub passed_vid : (s compared : ℕ) → bound_at p s ≡ true → eqb (vid_at p s) vid ≡ false
      → compared_at p address vid s compared ≡ record { equal = false; compared = compared }
  unfolding compared_at
  passed_vid s compared e f = rw (e, f)

  pub compared_vid : (s compared : ℕ) → bound_at p s ≡ true → eqb (vid_at p s) vid ≡ true
      → compared_at p address vid s compared ≡ compared_back (address_at p s) address address_length compared
  unfolding compared_at
  compared_vid s compared e f = rw (e, f)

  -- and never more than an address has
  most_at : (s compared : ℕ) → (compared_at p address vid s compared).compared ≤ compared + address_length
  unfolding compared_at
  most_at s compared =
      either_way (λ c. c.compared ≤ compared + address_length) (bound_at p s && eqb (vid_at p s) vid) (compared_back (address_at p s) address address_length compared)
      (record { equal = false; compared = compared }) (back_most (address_at p s) address address_length compared) (omega arith)

  -- of a binding that matches just as many
  whole_at : (s compared : ℕ) → (compared_at p address vid s compared).equal ≡ true → (compared_at p address vid s compared).compared ≡ compared + address_length
  unfolding compared_at
  whole_at s compared =
      either_way (λ c. c.equal ≡ true → c.compared ≡ compared + address_length) (bound_at p s && eqb (vid_at p s) vid)
      (compared_back (address_at p s) address address_length compared) (record { equal = false; compared = compared })
      (back_whole (address_at p s) address address_length compared) (λ is. differ (sym is))

  -- one turn of the lookup, by what comparing gave: the binding matches and is found, or it is passed over
  module _ (s compared : ℕ) (here : Comparison) (told : here ≡ compared_at p address vid s compared) where
    pub found_here : s < stream_count → here.equal ≡ true
        → lookup_from p address vid s (stream_count - s) compared ≡ record { found = Some s; compared = here.compared }
    unfolding lookup_from
    found_here below e = let more : stream_count - s ≡ suc (stream_count - (s + 1)) = omega arith in rw (more, sym told, e)

    pub passed_over : s < stream_count → here.equal ≡ false
        → lookup_from p address vid s (stream_count - s) compared ≡ lookup_from p address vid (s + 1) (stream_count - (s + 1)) here.compared
    unfolding lookup_from
    passed_over below e = let more : stream_count - s ≡ suc (stream_count - (s + 1)) = omega arith in rw (more, sym told, e)

    pub at_most : here.compared ≤ compared + address_length
    at_most = subst (λ (x : Comparison). x.compared ≤ compared + address_length) (sym told) (most_at s compared)

  -- no stream is left
  pub none_left : (s compared : ℕ) → stream_count ≤ s → lookup_from p address vid s (stream_count - s) compared ≡ record { found = None; compared = compared }
  unfolding lookup_from
  none_left s compared end = let none : stream_count - s ≡ 0 = omega arith in rw none

-- a stream's binding is said to match where the stream is bound to the pair, and nowhere else
matches : (p address : List ℕ) (vid s compared : ℕ) → (compared_at p address vid s compared).equal ≡ bound_to p address vid s
unfolding compared_at octets_equal all_to address_at
matches p address vid s compared =
    told (bound_at p s) (eqb (vid_at p s) vid)
  where
    told : (bound : Bool) (equal : Bool)
        → (cond (bound && equal) (compared_back (address_at p s) address address_length compared) (record { equal = false; compared = compared })).equal
        ≡ (bound && (equal && octets_equal (address_at p s) (get address 0 address_length)))
    told true true =
        back_all (address_at p s) address address_length compared
        ∙ all_to_same _ _ address_length (λ i below. ap (λ (x : ℕ). eqb (get_or (address_at p s) i 0) x) (sym (get_or_get address 0 address_length i below)))
    told true false = refl
    told false equal = refl

same_from : (p address : List ℕ) (vid n s compared : ℕ) → (lookup_from p address vid s n compared).found ≡ first_from (bound_to p address vid) s n
unfolding lookup_from first_from
same_from p address vid zero s compared = refl
same_from p address vid (suc n) s compared =
    let here = compared_at p address vid s compared in
    told here.equal ∙ ap₂ (λ (x : Bool) (later : Option ℕ). cond x (Some s) later) (matches p address vid s compared) (same_from p address vid n (s + 1) here.compared)
  where
    told : (x : Bool) → (cond x (record { found = Some s; compared = (compared_at p address vid s compared).compared })
        (lookup_from p address vid (s + 1) n (compared_at p address vid s compared).compared)).found
        ≡ cond x (Some s) (lookup_from p address vid (s + 1) n (compared_at p address vid s compared).compared).found
    told true = refl
    told false = refl

-- the lookup finds the first stream that is bound to the pair
pub finds_same : SameStream
unfolding lookup first_bound
finds_same p address vid = same_from p address vid stream_count 0 0

-- with stream s's binding so many octets are compared as the claim says
number_at : (p address : List ℕ) (vid s compared : ℕ) → (compared_at p address vid s compared).compared ≡ compared + octets_compared p address vid s
unfolding compared_at
number_at p address vid s compared = told (bound_at p s && eqb (vid_at p s) vid)
  where
    told : (e : Bool)
        → (cond e (compared_back (address_at p s) address address_length compared) (record { equal = false; compared = compared })).compared
        ≡ compared + cond e (sum_to (λ i. cond (reached (address_at p s) address i) 1 0) address_length) 0
    told true = back_number (address_at p s) address address_length compared
    told false = omega arith

-- the streams gone through from s on, of n
abbrev gone : ℕ → Option ℕ → ℕ
gone end (Some s) = s + 1
gone end None = end

gone_all : (found : Option ℕ) → gone (0 + stream_count) found ≡ gone_through found
gone_all (Some s) = refl
gone_all None = refl

sum_more : (f : ℕ → ℕ) (n : ℕ) → sum_to f (n + 1) ≡ sum_to f n + f n
unfolding sum_to
sum_more f n = let one : n + 1 ≡ suc n = omega arith in rw one

-- one turn more in front of what is counted later
counted_on : (octets : ℕ → ℕ) (s n compared : ℕ) (here : Comparison) (later : Answer) (matched : Bool)
    → here.compared ≡ compared + octets s
    → sum_to octets (s + 1) + later.compared ≡ here.compared + sum_to octets (gone (s + 1 + n) later.found)
    → sum_to octets s + (cond matched (record { found = Some s; compared = here.compared }) later).compared
    ≡ compared + sum_to octets (gone (s + suc n) (cond matched (record { found = Some s; compared = here.compared }) later).found)
counted_on octets s n compared here later true one rest = let more : sum_to octets (s + 1) ≡ sum_to octets s + octets s = sum_more octets s in omega (arith, one, more)
counted_on octets s n compared here later false one rest =
    let end : s + suc n ≡ s + 1 + n = omega arith in
    let more : sum_to octets (s + 1) ≡ sum_to octets s + octets s = sum_more octets s in
    rw end (omega (arith, one, rest, more))

number_from : (p address : List ℕ) (vid n s compared : ℕ)
    → sum_to (octets_compared p address vid) s + (lookup_from p address vid s n compared).compared
    ≡ compared + sum_to (octets_compared p address vid) (gone (s + n) (lookup_from p address vid s n compared).found)
unfolding lookup_from
number_from p address vid zero s compared = let none : s + 0 ≡ s = omega arith in rw none (omega arith)
number_from p address vid (suc n) s compared =
    let here = compared_at p address vid s compared in
    counted_on (octets_compared p address vid) s n compared here (lookup_from p address vid (s + 1) n here.compared) here.equal (number_at p address vid s compared)
    (number_from p address vid n (s + 1) here.compared)

-- the number is the sum over the bindings gone through
pub exact_number : ExactNumber
unfolding lookup sum_to
exact_number p address vid =
    let counted = number_from p address vid stream_count 0 0 in
    let same = ap (sum_to (octets_compared p address vid)) (gone_all (lookup p address vid).found ∙ ap gone_through (finds_same p address vid)) in
    omega (arith, counted, same)

-- the ends of the number after so many octets, with n streams from s on
abbrev Within : ℕ → ℕ → ℕ → Answer → Type 0
Within s n compared answer =
    (answer.compared + address_length * s ≤ compared + address_length * gone (s + n) answer.found)
    × (is_bound answer.found ≡ true → address_length ≤ answer.compared)

within_on : (s n compared : ℕ) (here : Comparison) (later : Answer) (matched : Bool) → here.compared ≤ compared + address_length
    → (matched ≡ true → here.compared ≡ compared + address_length) → Within (s + 1) n here.compared later
    → Within s (suc n) compared (cond matched (record { found = Some s; compared = here.compared }) later)
within_on s n compared here later true most whole rest = (omega (arith, most), λ is. omega (arith, whole refl))
within_on s n compared here later false most whole rest = let end : s + suc n ≡ s + 1 + n = omega arith in rw end (omega (arith, most, rest.0), rest.1)

within_from : (p address : List ℕ) (vid n s compared : ℕ) → Within s n compared (lookup_from p address vid s n compared)
unfolding lookup_from
within_from p address vid zero s compared = (let none : s + 0 ≡ s = omega arith in rw none (omega arith), λ is. differ (sym is))
within_from p address vid (suc n) s compared =
    let here = compared_at p address vid s compared in
    within_on s n compared here (lookup_from p address vid (s + 1) n here.compared) here.equal (most_at p address vid s compared)
    (whole_at p address vid s compared) (within_from p address vid n (s + 1) here.compared)

-- the number lies between its ends
pub number_within : NumberWithin
unfolding lookup
number_within p address vid =
    let ends = within_from p address vid stream_count 0 0 in
    (subst (λ (k : ℕ). (lookup p address vid).compared ≤ address_length * k) (gone_all (lookup p address vid).found) (omega (arith, ends.0)), ends.1)

beyond : (from t : ℕ) → from ≤ t → (t ≡ from → ⊥) → from + 1 ≤ t
beyond from t a o = ⊎_elim (λ (e : t ≤ from). absurd (o (omega arith))) (λ (h : from < t). omega arith) (le_or_lt t from)

module _ (f : ℕ → Bool) where
  -- what an answer says of the n streams from `from` on: the stream found is the first that the test is true of; where none is found, it is true of none
  abbrev Right : ℕ → ℕ → Option ℕ → Type 0
  Right from n (Some s) = (from ≤ s) × ((s < from + n) × ((f s ≡ true) × ((t : ℕ) → from ≤ t → t < s → f t ≡ false)))
  Right from n None = (t : ℕ) → from ≤ t → t < from + n → f t ≡ false

  -- the test is not true of a stream that is passed over, nor of those of which that is known
  one_more : (from t : ℕ) → f from ≡ false → ((t ≡ from → ⊥) → f t ≡ false) → f t ≡ false
  one_more from t here other = ⊎_elim (λ (e : t ≡ from). ap f e ∙ here) other (eq_or_not t from)

  in_front : (from n : ℕ) (found : Option ℕ) → f from ≡ false → Right (from + 1) n found → Right from (suc n) found
  in_front from n (Some s) not-here right =
      (omega (arith, right.0), (omega (arith, right.1.0), (right.1.1.0, λ t a b. one_more from t not-here (λ o. right.1.1.1 t (beyond from t a o) b))))
  in_front from n None not-here right = λ t a b. one_more from t not-here (λ o. right t (beyond from t a o) (omega (arith, b)))

  right_from : (n from : ℕ) → Right from n (first_from f from n)
  unfolding first_from
  right_from zero from = λ t a b. absurd (omega arith)
  right_from (suc n) from = told (f from) refl (right_from n (from + 1))
    where
      told : (b : Bool) → f from ≡ b → Right (from + 1) n (first_from f (from + 1) n)
          → Right from (suc n) (cond b (Some from) (first_from f (from + 1) n))
      told true e later = (omega arith, (omega arith, (e, λ t a b. absurd (omega arith))))
      told false e later = in_front from n (first_from f (from + 1) n) e later

module _ (p address : List ℕ) (vid : ℕ) where
  -- what the lookup finds is right of all streams
  right : Right (bound_to p address vid) 0 stream_count (lookup p address vid).found
  unfolding first_bound
  right = subst (Right (bound_to p address vid) 0 stream_count) (sym (finds_same p address vid)) (right_from (bound_to p address vid) stream_count 0)

  -- the stream found is bound to the pair, and no stream before it is
  pub finds : (s : ℕ) → (lookup p address vid).found ≡ Some s
      → (s < stream_count) × ((bound_to p address vid s ≡ true) × ((t : ℕ) → t < s → bound_to p address vid t ≡ false))
  finds s e =
      let all = subst (Right (bound_to p address vid) 0 stream_count) e right in
      (omega (arith, all.1.0), (all.1.1.0, λ t b. all.1.1.1 t (omega arith) b))

  -- and where none is found, none is bound to it
  pub finds_none : (lookup p address vid).found ≡ None → (t : ℕ) → t < stream_count → bound_to p address vid t ≡ false
  finds_none e t b = subst (Right (bound_to p address vid) 0 stream_count) e right t (omega arith) (omega arith)

  -- so is a pair that the lookup says is free
  pub free_pair : is_bound (lookup p address vid).found ≡ false → (t : ℕ) → t < stream_count → bound_to p address vid t ≡ false
  free_pair free = told (lookup p address vid).found refl free
    where
      told : (found : Option ℕ) → (lookup p address vid).found ≡ found → is_bound found ≡ false → (t : ℕ) → t < stream_count → bound_to p address vid t ≡ false
      told (Some s) e is = let z : ◌≡◌ {A = ℕ} 0 1 = cc in absurd (omega arith)
      told None e is = finds_none e

  -- a stream that is bound to it is found, if no other is
  pub finds_only : (s : ℕ) → s < stream_count → bound_to p address vid s ≡ true
      → ((t : ℕ) → t < stream_count → bound_to p address vid t ≡ true → t ≡ s)
      → (lookup p address vid).found ≡ Some s
  finds_only s below is only = told (lookup p address vid).found refl
    where
      told : (found : Option ℕ) → (lookup p address vid).found ≡ found → found ≡ Some s
      told (Some t) e = let f = finds t e in ap Some (only t f.0 f.1.0)
      told None e = let z : ◌≡◌ {A = Bool} true false = sym is ∙ finds_none e s below in let y : ◌≡◌ {A = ℕ} 0 1 = cc in absurd (omega arith)
