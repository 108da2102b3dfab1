-- That a stream is not withdrawn in events in hand, by a test. Assumes nothing.
use Prim.Native.Nat.{ℕ}
use mathlib.Core.Bool.{Bool, true, false, not, ◌&&◌}
use mathlib.Core.Path.{◌≡◌, sym, ◌∙◌}
use mathlib.Core.List.{List, [], ◌∷◌}
use borrow.Author.Tests.{eq-eqb}
use lib.Dec.{eqb}
use Rattle.lists.specs.Each.{All}
use Rattle.lists.proofs.EachLaws.{differ}
use Rattle.lists.proofs.TurnLaws.{both}
use Rattle.guarantee.specs.Events.{Event, action}
use Rattle.guarantee.specs.Claims.{is_withdraw_of, Stays}

-- whether an event is no granted withdrawal of the stream, and whether none of the events is
abbrev is_stay : ℕ → Event → Bool
is_stay s e = not (is_withdraw_of s (action e) && eqb e.reply.refusal 0)

abbrev pub stays_in : ℕ → List Event → Bool
stays_in s [] = true
stays_in s (e ∷ es) = is_stay s e && stays_in s es

stay_so : (s : ℕ) (e : Event) → is_stay s e ≡ true → Stays s e
stay_so s e is withdraws zero =
    let no : is_stay s e ≡ false = rw (withdraws, eq-eqb e.reply.refusal 0 zero) in
    differ (sym is ∙ no)

-- so events that pass the test do not withdraw it
pub stays_hold : (s : ℕ) (es : List Event) → stays_in s es ≡ true → All (Stays s) es
stays_hold s [] h = tt
stays_hold s (e ∷ es) h = (stay_so s e (both (is_stay s e) (stays_in s es) h).0, stays_hold s es (both (is_stay s e) (stays_in s es) h).1)
