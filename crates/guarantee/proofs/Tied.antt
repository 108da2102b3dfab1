-- A queue's frames in the memory, and in the memory of the marked calls, as one list of marked frames. Assumes nothing.
use Prim.Native.Nat.{suc, ◌+◌, ◌<◌}
use mathlib.Core.Path.{◌≡◌, refl, sym, ap, ap₂, ◌∙◌}
use mathlib.Core.List.{List, [], ◌∷◌, ◌++◌, map}
use native.Mathlib.Omega.{arith}
use lib.ListN.{length, get_or, length-append}
use Rattle.lists.specs.Each.{All}
use Rattle.queue.specs.declared.Frame.{Frame}
use Rattle.queue.specs.Waiting.{charges_of}
use Rattle.steps.specs.Call.{Call, ticking}
use Rattle.port_laws.specs.Counting.{action_of}
use Rattle.guarantee.specs.Events.{Marked, Sent, brought_by}
use Rattle.lists.proofs.EachLaws.{all_snoc, get_or_before, all_map}
use Rattle.guarantee.proofs.Run.{octets}

-- the frame as it waits in the memory, and with its call's number for a tag
abbrev pub plain : Marked → Frame
plain f = record { stream = f.stream; charge = f.charge; tag = f.tag }

abbrev pub numbered : Marked → Frame
numbered f = record { stream = f.stream; charge = f.charge; tag = f.number }

-- the frame is one that an earlier call brought, the one of its number
abbrev pub Known : List Call → (Marked → Sent) → Marked → Type 0
Known earlier kind f = (f.number < length earlier) × (brought_by f.number (action_of (get_or earlier f.number ticking)) ≡ kind f)

-- the frames of a queue in both memories
pub record Tied (all : List Call) (kind : Marked → Sent) (ws ks : List Frame) (fs : List Marked) : Type 0 where
  pub real : ws ≡ map plain fs
  pub shown : ks ≡ map numbered fs
  pub known : All (Known all kind) fs

map_snoc : (g : Marked → Frame) (fs : List Marked) (f : Marked) → map g (fs ++ (f ∷ [])) ≡ map g fs ++ (g f ∷ [])
map_snoc g [] f = refl
map_snoc g (h ∷ fs) f = ap (λ (l : List Frame). g h ∷ l) (map_snoc g fs f)

module _ (all : List Call) (kind : Marked → Sent) where
  pub tied_empty : Tied all kind [] [] []
  tied_empty = record { real = refl; shown = refl; known = tt }

  -- and they stay so after one more call
  pub tied_later : (c : Call) (ws ks : List Frame) (fs : List Marked) → Tied all kind ws ks fs → Tied (all ++ (c ∷ [])) kind ws ks fs
  tied_later c ws ks fs h =
      record {
        real = h.real;
        shown = h.shown;
        known =
            all_map (Known all kind) (Known (all ++ (c ∷ [])) kind) fs
            (λ f k. (omega (arith, k.0, length-append all (c ∷ [])), ap (λ (d : Call). brought_by f.number (action_of d)) (get_or_before all c ticking f.number k.0) ∙ k.1))
            h.known;
      }

  -- a frame joins
  pub tied_joins : (ws ks : List Frame) (fs : List Marked) (f : Marked) → Tied all kind ws ks fs → Known all kind f
      → Tied all kind (ws ++ (plain f ∷ [])) (ks ++ (numbered f ∷ [])) (fs ++ (f ∷ []))
  tied_joins ws ks fs f h k =
      record {
        real = ap (λ (l : List Frame). l ++ (plain f ∷ [])) h.real ∙ sym (map_snoc plain fs f);
        shown = ap (λ (l : List Frame). l ++ (numbered f ∷ [])) h.shown ∙ sym (map_snoc numbered fs f);
        known = all_snoc (Known all kind) fs f h.known k;
      }

  -- as many frames, and as many octets
  pub tied_length : (ws ks : List Frame) (fs : List Marked) → Tied all kind ws ks fs → length ws ≡ length fs
  tied_length ws ks fs h = ap length h.real ∙ as_long fs
    where
      as_long : (gs : List Marked) → length (map plain gs) ≡ length gs
      as_long [] = refl
      as_long (g ∷ gs) = ap suc (as_long gs)

  -- the charge of a frame is the same in both memories
  as_heavy : (g : Marked → Frame) → ((f : Marked) → (g f).charge ≡ f.charge) → (fs : List Marked) → charges_of (map g fs) ≡ octets fs
  as_heavy g same [] = refl
  as_heavy g same (f ∷ fs) = ap₂ ◌+◌ (same f) (as_heavy g same fs)

  pub tied_octets : (ws ks : List Frame) (fs : List Marked) → Tied all kind ws ks fs → charges_of ws ≡ octets fs
  tied_octets ws ks fs h = ap charges_of h.real ∙ as_heavy plain (λ f. refl) fs

  pub tied_octets_shown : (ws ks : List Frame) (fs : List Marked) → Tied all kind ws ks fs → charges_of ks ≡ octets fs
  tied_octets_shown ws ks fs h = ap charges_of h.shown ∙ as_heavy numbered (λ f. refl) fs

-- the oldest frame of a queue
pub record Oldest (all : List Call) (kind : Marked → Sent) (w k : Frame) (ws ks : List Frame) (fs : List Marked) : Type 0 where
  pub first : Marked
  pub others : List Marked
  pub split : fs ≡ first ∷ others
  pub real : w ≡ plain first
  pub shown : k ≡ numbered first
  pub known : Known all kind first
  pub rest : Tied all kind ws ks others

pub oldest : (all : List Call) (kind : Marked → Sent) (w k : Frame) (ws ks : List Frame) (fs : List Marked) → Tied all kind (w ∷ ws) (k ∷ ks) fs
    → Oldest all kind w k ws ks fs
oldest all kind w k ws ks [] h = let z : length (w ∷ ws) ≡ length {A = Frame} [] = ap length h.real in absurd (omega arith)
oldest all kind w k ws ks (f ∷ fs) h =
    record {
      first = f;
      others = fs;
      split = refl;
      real = head_same w (plain f) ws (map plain fs) h.real;
      shown = head_same k (numbered f) ks (map numbered fs) h.shown;
      known = h.known.0;
      rest =
          record {
            real = tail_same w (plain f) ws (map plain fs) h.real;
            shown = tail_same k (numbered f) ks (map numbered fs) h.shown;
            known = h.known.1;
          };
    }
  where
    head_same : (a b : Frame) (l j : List Frame) → a ∷ l ≡ b ∷ j → a ≡ b
    head_same a b l j e = cc

    tail_same : (a b : Frame) (l j : List Frame) → a ∷ l ≡ b ∷ j → l ≡ j
    tail_same a b l j e = cc
