-- What the lookup finds and what its number is, said without its way through the bindings.
use Rattle.std.specs.Prelude.{ℕ, zero, suc, ◌+◌, ◌-◌, ◌*◌, ◌≤◌, ◌≡◌, Bool, true, ◌&&◌, cond, List, get_or, eqb, Option, Some, None}
use Rattle.lists.specs.Turns.{all_to, sum_to}
use Rattle.lists.specs.Window.{get}
use Rattle.record.specs.Layout.{stream_count, address_length}
use Rattle.record.specs.Entry.{bound_at, vid_at, address_at, same_pair}
use Rattle.binding.specs.Finding.{lookup, is_bound}

-- whether stream s is bound to an address, the first six of these octets, and a VID: "address and VID are both equal"
abbrev pub bound_to : List ℕ → List ℕ → ℕ → ℕ → Bool
bound_to p address vid s = bound_at p s && same_pair (vid_at p s) (address_at p s) vid (get address 0 address_length)

-- the first of the n streams from s on of which the test is true, if there is one
unfoldable pub first_from : (ℕ → Bool) → ℕ → ℕ → Option ℕ
first_from f s zero = None
first_from f s (suc n) = cond (f s) (Some s) (first_from f (s + 1) n)

-- the stream that is bound to an address and a VID, if one is: what the lookup found before the way to it was a rule
unfoldable pub first_bound : List ℕ → List ℕ → ℕ → Option ℕ
first_bound p address vid = first_from (bound_to p address vid) 0 stream_count

-- "Callers get the very stream they got before"
abbrev pub SameStream : Type 0
SameStream = (p address : List ℕ) (vid : ℕ) → (lookup p address vid).found ≡ first_bound p address vid

-- whether octet i of an address is compared, where the VIDs are equal: all octets behind it are
abbrev pub reached : List ℕ → List ℕ → ℕ → Bool
reached a b i = all_to (λ j. eqb (get_or a (i + 1 + j) 0) (get_or b (i + 1 + j) 0)) (address_length - (i + 1))

-- how many address octets of stream s's binding are compared, if it has one
abbrev pub octets_compared : List ℕ → List ℕ → ℕ → ℕ → ℕ
octets_compared p address vid s = cond (bound_at p s && eqb (vid_at p s) vid) (sum_to (λ i. cond (reached (address_at p s) address i) 1 0) address_length) 0

-- the streams gone through: "up to the one that matches", or all
abbrev pub gone_through : Option ℕ → ℕ
gone_through (Some s) = s + 1
gone_through None = stream_count

-- between which ends the number lies: at most six for each stream gone through, and six of the one that is found
abbrev pub NumberWithin : Type 0
NumberWithin =
    (p address : List ℕ) (vid : ℕ)
    → ((lookup p address vid).compared ≤ address_length * gone_through (lookup p address vid).found)
    × (is_bound (lookup p address vid).found ≡ true → address_length ≤ (lookup p address vid).compared)

-- "exactly the number of address octets so compared":
-- the sum over all bindings gone through,
-- found or not
abbrev pub ExactNumber : Type 0
ExactNumber =
    (p address : List ℕ) (vid : ℕ) → (lookup p address vid).compared ≡ sum_to (octets_compared p address vid) (gone_through (first_bound p address vid))
