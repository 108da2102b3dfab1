-- A block of which every octet is zeroed one after the other begins with so many zeros. Assumes nothing.
use Rattle.std.proofs.Common.{◌≡◌, ℕ, zero, suc, ◌≤◌, List, [], ◌∷◌, ◌++◌, length, set, take, drop, replicate, ap, sym, ◌∙◌, add-one, arith, length-take}
use Rattle.std.proofs.lemmas.List.Edits.{fill_none, fill_more}
use Rattle.lists.specs.Turns.{iterate}
use Rattle.lists.specs.Window.{put}
use Rattle.register_block.specs.Layout.{WholeBlock, block_length}
use Rattle.register_block.specs.Events.{zeroed}

-- the first n octets zeroed
zeros : (n : ℕ) (b : List ℕ) → n ≤ length b → iterate (λ octet l. put l octet (0 ∷ [])) n b ≡ replicate n 0 ++ drop n b
unfolding iterate
zeros zero b long = fill_none b 0
zeros (suc n) b long = ap (λ l. set l n 0) (zeros n b (omega (arith, long))) ∙ fill_more n 0 b (omega (arith, long)) ∙ ap (λ m. replicate m 0 ++ drop m b) (add-one n)

-- and all of them, where code has put as many zeros in place of the block's own octets
pub zeroed_is : (b front : List ℕ) → WholeBlock b → front ≡ replicate (length (take block_length b)) 0 → front ++ drop block_length b ≡ zeroed b
unfolding zeroed
zeroed_is b front whole same =
    let all : length (take block_length b) ≡ block_length = omega (arith, whole, length-take block_length b) in
    ap (λ l. l ++ drop block_length b) (same ∙ ap (λ n. replicate n 0) all) ∙ sym (zeros block_length b whole)
