-- What the lookup finds, and how many address octets it compares, by small examples. Assumes nothing.
use Prim.Native.Nat.{ℕ, ◌≤◌}
use mathlib.Core.Path.{◌≡◌, refl}
use mathlib.Core.Bool.{◌||◌}
use mathlib.Core.List.{List, [], ◌∷◌, ◌++◌}
use lib.ListN.{replicate, set}
use lib.Dec.{eqb}
use Rattle.lists.specs.Turns.{all_to, sum_to, list_to}
use Rattle.lists.specs.Equal.{octets_equal}
use Rattle.octets.specs.Numbers.{two_of}
use Rattle.record.specs.Layout.{record_length, address_length}
use Rattle.record.specs.Entry.{bound_at, vid_at, address_at, with_drain, with_binding, dropped}
use Rattle.header.specs.Header.{tagged_frame, vid_of}
use Rattle.std.specs.Prelude.{Some, None}
use Rattle.binding.specs.declared.Answer.{Answer}
use Rattle.binding.specs.Finding.{compared_back, compared_at, lookup_from, lookup, stream_found, frame_lookup}
use Rattle.binding.specs.LookupClaims.{first_from, first_bound, octets_compared, gone_through}
use Rattle.binding.proofs.FindingLaws.{finds_same, exact_number, number_within}

-- an address by its first octet and its last
abbrev address : ℕ → ℕ → List ℕ
address first last = first ∷ 0 ∷ 94 ∷ 0 ∷ 0 ∷ last ∷ []

-- a record without a binding, and one in which streams 3 and 5 are bound, with VID 100 and addresses that end in 66 and 67
abbrev bare : List ℕ
bare = replicate {A = ℕ} record_length 0

abbrev two : List ℕ
two = with_binding (with_binding bare 3 (address 1 66) 100) 5 (address 1 67) 100

-- what a lookup gives as two numbers: the stream, 255 where none is found, and the address octets compared
abbrev numbers : Answer → List ℕ
numbers answer = stream_found answer.found ∷ answer.compared ∷ []

-- "Two bindings ending 66 and 67, same VID, looking for the second: 7"; for the first the second is not gone through
pub finds_second : numbers (lookup two (address 1 67) 100) ≡ 5 ∷ 7 ∷ []
unfolding lookup lookup_from compared_at compared_back two_of bound_at vid_at address_at with_binding
finds_second = refl

pub finds_first : numbers (lookup two (address 1 66) 100) ≡ 3 ∷ 6 ∷ []
unfolding lookup lookup_from compared_at compared_back two_of bound_at vid_at address_at with_binding
finds_first = refl

-- none by an address that ends otherwise, or that begins otherwise: the octets are counted all the same
pub finds_no_end : numbers (lookup two (address 1 65) 100) ≡ 255 ∷ 2 ∷ []
unfolding lookup lookup_from compared_at compared_back two_of bound_at vid_at address_at with_binding
finds_no_end = refl

pub finds_no_beginning : numbers (lookup two (address 3 67) 100) ≡ 255 ∷ 7 ∷ []
unfolding lookup lookup_from compared_at compared_back two_of bound_at vid_at address_at with_binding
finds_no_beginning = refl

-- none by another VID, and no octet compared
pub finds_no_vid : numbers (lookup two (address 1 67) 101) ≡ 255 ∷ 0 ∷ []
unfolding lookup lookup_from compared_at compared_back two_of bound_at vid_at address_at with_binding
finds_no_vid = refl

-- a binding that draining leaves is gone through, one that is dropped is not
pub finds_draining : numbers (lookup (with_drain two 3 1) (address 1 67) 100) ≡ 5 ∷ 7 ∷ []
unfolding lookup lookup_from compared_at compared_back two_of bound_at vid_at address_at with_binding with_drain
finds_draining = refl

pub finds_dropped : numbers (lookup (dropped two 3) (address 1 67) 100) ≡ 5 ∷ 6 ∷ []
unfolding lookup lookup_from compared_at compared_back two_of bound_at vid_at address_at with_binding dropped
finds_dropped = refl

-- of two streams with one pair, which no fit record has, the lower, among streams 3 to 5
pub finds_lower : (lookup_from (with_binding two 5 (address 1 66) 100) (address 1 66) 100 3 3 0).found ≡ Some 3
unfolding lookup_from compared_at compared_back two_of bound_at vid_at address_at with_binding
finds_lower = refl

-- the second stream, past one with its VID and another address
pub finds_behind : (lookup two (address 1 67) 100).found ≡ Some 5
unfolding lookup lookup_from compared_at compared_back two_of bound_at vid_at address_at with_binding
finds_behind = refl

-- with a binding of another VID no octet is compared, though the address is the same; with that of a draining stream all are
pub compares_vid : (compared_at two (address 1 66) 101 3 0).compared ≡ 0
unfolding compared_at compared_back two_of bound_at vid_at address_at with_binding
compares_vid = refl

pub compares_draining : (compared_at (with_drain two 3 1) (address 1 66) 100 3 0).compared ≡ 6
unfolding compared_at compared_back two_of bound_at vid_at address_at with_binding with_drain
compares_draining = refl

-- where no stream is bound, best effort's is told
pub tells_none : stream_found None ≡ 255
tells_none = refl

-- the number goes on from binding to binding, where the first differs in every octet
pub counts_on : (lookup (with_binding two 3 (7 ∷ 7 ∷ 7 ∷ 7 ∷ 7 ∷ 7 ∷ []) 100) (address 1 67) 100).compared ≡ 7
unfolding lookup lookup_from compared_at compared_back two_of bound_at vid_at address_at with_binding
counts_on = refl

-- an address that differs from 0 1 2 3 4 5 in one octet, from the last to the first: the octet that differs is compared, and none in front of it
pub counts_back : list_to (λ i. (compared_back (0 ∷ 1 ∷ 2 ∷ 3 ∷ 4 ∷ 5 ∷ []) (set (0 ∷ 1 ∷ 2 ∷ 3 ∷ 4 ∷ 5 ∷ []) i 9) address_length 0).compared) address_length
    ≡ 6 ∷ 5 ∷ 4 ∷ 3 ∷ 2 ∷ 1 ∷ []
unfolding list_to compared_back
counts_back = refl

-- the stream of a frame by its destination, which is the first's, and not by its source, which is the other's
pub finds_frame : frame_lookup two (address 1 66 ++ (address 1 67 ++ (129 ∷ 0 ∷ 0 ∷ 100 ∷ []))) ≡ Some 3
unfolding lookup lookup_from compared_at compared_back frame_lookup tagged_frame vid_of all_to octets_equal two_of bound_at vid_at address_at with_binding
finds_frame = refl

-- what the claims speak of: the first stream of which a test is true, the streams gone through, and the octets compared with one binding
pub first_told : first_from (λ s. eqb s 4 || eqb s 5) 3 3 ≡ Some 4
unfolding first_from
first_told = refl

pub gone_told : gone_through (Some 5) ≡ 6
gone_told = refl

pub octets_told : octets_compared two (address 1 67) 100 3 ≡ 1
unfolding all_to sum_to two_of bound_at vid_at address_at with_binding
octets_told = refl

-- from the theorem: the stream is that of the definition which says nothing of the way, and it is a stream
pub same_told : (lookup two (address 1 67) 100).found ≡ Some 5
unfolding first_bound first_from all_to octets_equal two_of bound_at vid_at address_at with_binding
same_told = finds_same two (address 1 67) 100

-- from the theorem: the number is the sum of what is compared with streams 3 and 5
pub number_told : (lookup two (address 1 67) 100).compared ≡ 7
unfolding first_bound first_from all_to sum_to octets_equal two_of bound_at vid_at address_at with_binding
number_told = exact_number two (address 1 67) 100

-- from the theorem: at most 36 octets for streams 0 to 5, and at least the six of the stream found
pub ends_told : ((lookup two (address 1 67) 100).compared ≤ 36) × (6 ≤ (lookup two (address 1 67) 100).compared)
unfolding lookup lookup_from compared_at compared_back two_of bound_at vid_at address_at with_binding
ends_told = ((number_within two (address 1 67) 100).0, (number_within two (address 1 67) 100).1 refl)
