-- How long the lines are at most. Assumes nothing.
use Prim.Native.Nat.{◌+◌, ◌<◌, ◌≤◌, ℕ}
use mathlib.Core.Path.{◌≡◌}
use mathlib.Core.List.{List, [], ◌∷◌}
use native.Mathlib.Omega.{arith}
use lib.ListN.{length, length-append, length-set}
use Rattle.capture.specs.Output.{line_bound}
use Rattle.text.proofs.LineLaws.{length_number}
use Rattle.text.specs.Lines.{end_before, line_feed, line_of, number_then, space}

length_line : (n : ℕ) (ns : List ℕ) → length (line_of (n ∷ ns)) ≡ length (number_then n (end_before (length ns))) + length (line_of ns)
length_line n ns = length-append (number_then n (end_before (length ns))) (line_of ns)

-- the line of an event
pub length_event : (port event kind refusal first second : ℕ)
    → port < 10
    → event < 10000
    → kind < 10
    → refusal < 256
    → first < 4294967296
    → second < 4294967296
    → length (line_of (port ∷ event ∷ kind ∷ refusal ∷ first ∷ second ∷ [])) ≤ line_bound
length_event port event kind refusal first second p e k r f s =
    omega (
      arith,
      length_line port (event ∷ kind ∷ refusal ∷ first ∷ second ∷ []),
      length_line event (kind ∷ refusal ∷ first ∷ second ∷ []),
      length_line kind (refusal ∷ first ∷ second ∷ []),
      length_line refusal (first ∷ second ∷ []),
      length_line first (second ∷ []),
      length_line second [],
      length_number 0 port space (omega arith),
      length_number 3 event space (omega arith),
      length_number 0 kind space (omega arith),
      length_number 2 refusal space (omega arith),
      length_number 9 first space (omega arith),
      length_number 9 second line_feed (omega arith),
    )

-- the numbers of a refused file
pub length_refusal_lem : (number index : ℕ) → number < 256 → index < 65536 → length (line_of (number ∷ index ∷ [])) ≤ 10
length_refusal_lem number index n i =
    omega (
      arith,
      length_line number (index ∷ []),
      length_line index [],
      length_number 2 number space (omega arith),
      length_number 4 index line_feed (omega arith),
    )

pub ruleset refused_steps = (length_refusal_lem, length-set)
