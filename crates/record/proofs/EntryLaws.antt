-- Laws of an entry's fields: a stream's reservation and its binding by their octets. Assumes nothing.
use Prim.Native.Nat.{ℕ, ◌+◌}
use mathlib.Core.Bool.{Bool, true, false, cond}
use mathlib.Core.Path.{◌≡◌, refl, sym, ap, ap₂, ◌∙◌}
use mathlib.Core.List.{List, [], ◌∷◌, ◌++◌}
use native.Mathlib.Omega.{arith}
use lib.ListN.{length, get_or, set}
use lib.Dec.{eqb}
use mir.Val.{bool_byte}
use Rattle.lists.specs.Window.{put, get}
use Rattle.lists.proofs.WindowLaws.{get_get, put_append}
use Rattle.octets.specs.Numbers.{two_of, two_octets, four_of, four_octets}
use Rattle.octets.proofs.NumberLaws.{Octets, two_again, four_again}
use Rattle.stream.specs.declared.Stream.{Stream}
use Rattle.record.specs.Layout.{entry_offset, place_offset, left_offset, permitted_offset, stream_length, drain_offset, bound_offset, pair_offset, address_offset}
use Rattle.record.specs.Entry.{place_octets, stream_at, with_stream, with_place, with_binding, dropped}

-- the fields read one by one are the reservation read
pub stream_read : (l : List ℕ) (s : ℕ)
    → record {
      reserved = eqb (get_or l (entry_offset s) 0) 1;
      permitted = two_of (get l (entry_offset s + permitted_offset) 2);
      place = get_or l (entry_offset s + place_offset) 0;
      left = two_of (get l (entry_offset s + left_offset) 2);
    }
    ≡ stream_at l s
unfolding stream_at
stream_read l s =
    ap₂ (λ (permitted left : ℕ). record { reserved = eqb (get_or l (entry_offset s) 0) 1; permitted = permitted; place = get_or l (entry_offset s + place_offset) 0; left = left })
    (ap two_of (sym (get_get l (entry_offset s) stream_length permitted_offset 2 (omega arith))))
    (ap two_of (sym (get_get l (entry_offset s) stream_length left_offset 2 (omega arith))))

-- place and left written one after the other
pub place_written : (l : List ℕ) (s place left : ℕ)
    → put (put l (entry_offset s + place_offset) (place ∷ [])) (entry_offset s + left_offset) (two_octets left) ≡ with_place l s place left
unfolding with_place
place_written l s place left = ap (λ (i : ℕ). put (set l (entry_offset s + place_offset) place) i (two_octets left)) (omega arith)

-- four writes, each where the one before it ends, are one
four_writes : (l : List ℕ) (i j k n : ℕ) (vs ws xs ys : List ℕ) → i + length vs ≡ j → j + length ws ≡ k → k + length xs ≡ n
    → put (put (put (put l i vs) j ws) k xs) n ys ≡ put l i (vs ++ (ws ++ (xs ++ ys)))
four_writes l i j k n vs ws xs ys a b c =
    ap (λ (at : ℕ). put (put (put (put l i vs) j ws) k xs) at ys) (sym c)
    ∙ sym (put_append (put (put l i vs) j ws) k xs ys)
    ∙ ap (λ (at : ℕ). put (put (put l i vs) j ws) at (xs ++ ys)) (sym b)
    ∙ sym (put_append (put l i vs) j ws (xs ++ ys))
    ∙ ap (λ (at : ℕ). put (put l i vs) at (ws ++ (xs ++ ys))) (sym a)
    ∙ sym (put_append l i vs (ws ++ (xs ++ ys)))

-- the octet of a mark: 1 is yes, 0 is no
pub mark_octet : (b : Bool) → bool_byte b ≡ cond b 1 0
mark_octet true = refl
mark_octet false = refl

-- the mark, then place and left, then P, then the draining count written are the reservation written
pub stream_written : (l : List ℕ) (s : ℕ) (x : Stream)
    → put
    (put
    (with_place (put l (entry_offset s) (cond x.reserved 1 0 ∷ [])) s x.place x.left)
    (entry_offset s + permitted_offset)
    (two_octets x.permitted))
    (entry_offset s + drain_offset)
    (0 ∷ [])
    ≡ with_stream l s x
unfolding with_place with_stream
stream_written l s x =
    four_writes l (entry_offset s) (entry_offset s + place_offset) (entry_offset s + permitted_offset) (entry_offset s + drain_offset)
    (cond x.reserved 1 0 ∷ []) (place_octets x.place x.left) (two_octets x.permitted) (0 ∷ []) (omega arith) (omega arith) (omega arith)

-- the mark of the reservation, then the draining count, then the mark of the binding written are the stream dropped
pub dropped_written : (l : List ℕ) (s : ℕ)
    → put (put (put l (entry_offset s) (0 ∷ [])) (entry_offset s + drain_offset) (0 ∷ [])) (entry_offset s + bound_offset) (0 ∷ []) ≡ dropped l s
unfolding dropped
dropped_written l s = ap (λ (i : ℕ). put (put (put l (entry_offset s) (0 ∷ [])) (entry_offset s + drain_offset) (0 ∷ [])) i (0 ∷ [])) (omega arith)

-- the mark, the VID, and the address in two parts written are the binding written, where the address is of octets
pub binding_written : (l : List ℕ) (s : ℕ) (address : List ℕ) (vid : ℕ) → Octets address
    → put
    (put
    (put (put l (entry_offset s + bound_offset) (1 ∷ [])) (entry_offset s + pair_offset) (two_octets vid))
    (entry_offset s + address_offset)
    (two_octets (two_of (get address 0 2))))
    (entry_offset s + address_offset + 2)
    (four_octets (four_of (get address 2 4)))
    ≡ with_binding l s address vid
unfolding with_binding
binding_written l s address vid o =
    let marked = put (put l (entry_offset s + bound_offset) (1 ∷ [])) (entry_offset s + pair_offset) (two_octets vid) in
    ap₂ (λ (xs ys : List ℕ). put (put marked (entry_offset s + address_offset) xs) (entry_offset s + address_offset + 2) ys)
    (two_again (get_or address 0 0) (get_or address 1 0) (o 1))
    (four_again (get_or address 2 0) (get_or address 3 0) (get_or address 4 0) (get_or address 5 0) (o 3) (o 4) (o 5))
    ∙ four_writes l (entry_offset s + bound_offset) (entry_offset s + pair_offset) (entry_offset s + address_offset) (entry_offset s + address_offset + 2)
    (1 ∷ []) (two_octets vid) (get address 0 2) (get address 2 4) (omega arith) (omega arith) (omega arith)
