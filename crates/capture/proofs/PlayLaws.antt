-- Laws of the play of a chain: where the loop over its records has come, what a record adds, and what is written at its end. Assumes nothing.
use Prim.Native.Nat.{◌*◌, ◌+◌, ◌-◌, ◌<◌, ◌≤◌, suc, ℕ}
use mathlib.Core.Path.{◌∙◌, ◌≡◌, ap, ap₂, refl, subst, sym}
use mathlib.Core.Bool.{false, true}
use mathlib.Core.Logic.{⊎_elim}
use mathlib.Core.List.{List, [], ◌++◌}
use native.Mathlib.Omega.{arith}
use native.Mathlib.Numerals.{add-one}
use borrow.Author.Tests.{ne_eqb}
use lib.Dec.{eqb}
use lib.ListN.{length, length-append}
use Rattle.std.specs.Prelude.{Result, Ok, Err}
use Rattle.std.specs.Result.{result_unwrap_or}
use Rattle.capture_file.proofs.ChainLaws.{forward, good_front, list_ends, list_goes_on, next_has, record_passed}
use Rattle.capture_file.proofs.FileLaws.{file_passed, first_has, kind_known, length_passed, port_passed, ports_good}
use Rattle.capture_file.specs.Checks.{chain_refusal, file_refusal, most_octets, record_refusal}
use Rattle.capture_file.specs.File.{chain_within, first_of, kind_of, most_events, next_of, number_a, number_b, port_count, record_count, record_octets, stream_octet_of}
use Rattle.capture_file.specs.Kinds.{Names, kind_number}
use Rattle.capture_file.specs.declared.kind.Kind.{Kind}
use Rattle.capture_file.specs.declared.kind.Kind.TheVariants.{Transmit}
use Rattle.capture_file.specs.declared.kind.UnknownKind.{UnknownKind}
use Rattle.capture.specs.Events.{call_at, call_of, event_line, lines_of, port_text}
use Rattle.capture.specs.Output.{line_bound, ports_text}
use Rattle.fitness.specs.Fit.{record_fits}
use Rattle.lists.proofs.WindowLaws.{length_put, put_append}
use Rattle.lists.specs.Window.{put}
use Rattle.port_laws.proofs.FreshFit.{fresh_fits}
use Rattle.port_laws.proofs.QuickLaws.{quick_call}
use Rattle.port_laws.proofs.StayLaws.{stays_fit}
use Rattle.port.specs.Calls.{called}
use Rattle.port.specs.Quick.{quickly_called}
use Rattle.steps.specs.Outcome.{Outcome}
use Rattle.text.specs.Lines.{Wrote}

-- the lines from record i on, which is event n, in a file of so many records
abbrev pub rest_of : List ℕ → ℕ → ℕ → ℕ → List ℕ → List ℕ → List ℕ
rest_of f q n i p m = lines_of f q n (chain_within f (record_count f - n) i) p m

-- the play has come to record i as event n, with the record p, the memory m, the text t and the index `to` after what is written of it: what
-- was written with what is still to come is the chain's text, written from `at` on
pub record Came (f : List ℕ) (q first at : ℕ) (p₀ m₀ t₀ p m t : List ℕ) (to i n : ℕ) : Type 0 where
  pub has : i < record_count f
  pub beyond : (i ≡ 0 → ⊥) → n ≤ i
  pub counted : (1 ≤ n) × (n ≤ record_count f)
  pub good : (chain_refusal f (record_count f - n) i).number ≡ 0
  pub fit : record_fits p m ≡ true
  pub kept : length t ≡ length t₀
  pub room : to + (record_count f - n) * line_bound ≤ at + most_events f * line_bound
  pub ends : to + length (rest_of f q n i p m) ≡ at + length (rest_of f q 1 first p₀ m₀)
  pub same : put t to (rest_of f q n i p m) ≡ put t₀ at (rest_of f q 1 first p₀ m₀)

module _ (f : List ℕ) (q first at : ℕ) (p₀ m₀ t₀ : List ℕ) where
  -- before the first record
  pub begins : first < record_count f
      → (chain_refusal f (most_events f) first).number ≡ 0
      → record_fits p₀ m₀ ≡ true
      → Came f q first at p₀ m₀ t₀ p₀ m₀ t₀ at first 1
  begins has good fit =
      record {
        has = has;
        beyond = λ some. omega (arith, some);
        counted = (omega arith, omega (arith, has));
        good = good;
        fit = fit;
        kept = refl;
        room = omega arith;
        ends = refl;
        same = refl;
      }

  -- after the last
  pub finishes : (p m t : List ℕ) (to n : ℕ)
      → Came f q first at p₀ m₀ t₀ p m t to 0 n
      → Wrote t₀ at (rest_of f q 1 first p₀ m₀) t to
  unfolding lines_of
  finishes p m t to n came =
      let none : rest_of f q n 0 p m ≡ [] = ap (λ (is : List ℕ). lines_of f q n is p m) (list_ends f (record_count f - n)) in
      (omega (arith, came.ends, ap length none), ap (put t to) (sym none) ∙ came.same)

  module _ (p m t : List ℕ) (to i n : ℕ) (some : i ≡ 0 → ⊥) (came : Came f q first at p₀ m₀ t₀ p m t to i n) where
    -- one record more than there are after it
    one_more : record_count f - n ≡ suc (record_count f - (n + 1))
    one_more = omega (arith, came.has, came.beyond some)

    front : (record_refusal f i ≡ 0) × ((chain_refusal f (record_count f - (n + 1)) (next_of f i)).number ≡ 0)
    front = good_front f (record_count f - (n + 1)) i some (subst (λ (k : ℕ). (chain_refusal f k i).number ≡ 0) one_more came.good)

    -- what the play of the record asks
    pub in_turn_lem : length f ≤ most_octets → at + most_events f * line_bound ≤ length t₀ → (n < 10000) × ((kind_of f i < 10) × (to + line_bound ≤ length t))
    in_turn_lem short enough = (
      omega (arith, came.counted.1, short),
      (omega (arith, kind_known f i (record_passed f i front.0).0), omega (arith, came.room, one_more, came.kept, enough)),
    )

    -- the next record is one of the file
    pub next_in_file : next_of f i < record_count f
    next_in_file = next_has f i came.has (record_passed f i front.0).1

    -- the line of the record, then the rest
    line_first : rest_of f q n i p m
        ≡ event_line q n (kind_of f i) (called (call_at f i) p m).reply
        ++ rest_of f q (n + 1) (next_of f i) (called (call_at f i) p m).port (called (call_at f i) p m).memory
    unfolding lines_of
    line_first =
        ap (λ (is : List ℕ). lines_of f q n is p m)
        (ap (λ (k : ℕ). chain_within f k i) one_more ∙ list_goes_on f (record_count f - (n + 1)) i some)

    -- after the record
    pub goes_on : (p' m' t' : List ℕ) (to' : ℕ)
        → Wrote t to (event_line q n (kind_of f i) (quickly_called (call_at f i) p m).reply) t' to'
        → p' ≡ (quickly_called (call_at f i) p m).port
        → m' ≡ (quickly_called (call_at f i) p m).memory
        → to' ≤ to + line_bound
        → Came f q first at p₀ m₀ t₀ p' m' t' to' (next_of f i) (n + 1)
    goes_on p' m' t' to' wrote port memory most =
        let call = quick_call (call_at f i) p m came.fit in
        let o = called (call_at f i) p m in
        let line = event_line q n (kind_of f i) o.reply in
        let e : p' ≡ o.port = port ∙ ap (λ (x : Outcome). x.port) call in
        let d : m' ≡ o.memory = memory ∙ ap (λ (x : Outcome). x.memory) call in
        let w : Wrote t to line t' to' = subst (λ (x : Outcome). Wrote t to (event_line q n (kind_of f i) x.reply) t' to') call wrote in
        let rest = rest_of f q (n + 1) (next_of f i) o.port o.memory in
        let next = (record_passed f i front.0).1 in
        let there : rest_of f q (n + 1) (next_of f i) p' m' ≡ rest = ap₂ (λ (x y : List ℕ). rest_of f q (n + 1) (next_of f i) x y) e d in
        record {
          has = next_in_file;
          beyond = λ more. ⊎_elim
              (λ (zero : next_of f i ≡ 0). absurd (more zero))
              (λ (further : (i < next_of f i) × (next_of f i < record_count f)). omega (arith, further.0, came.beyond some))
              (forward f i next);
          counted = (omega arith, omega (arith, came.has, came.beyond some));
          good = front.1;
          fit = ap₂ record_fits e d ∙ stays_fit (call_at f i) p m came.fit;
          kept = ap length w.1 ∙ length_put t to line ∙ came.kept;
          room = omega (arith, came.room, most, one_more);
          ends = omega (arith, came.ends, w.0, ap length there, ap length line_first, length-append line rest);
          same =
              ap₂ (put t') refl there
              ∙ ap₂ (λ (l : List ℕ) (k : ℕ). put l k rest) w.1 w.0
              ∙ sym (put_append t to line rest)
              ∙ ap (put t to) (sym line_first)
              ∙ came.same;
        }

-- what is true of the length of a file of which nothing is refused
pub file_length : (f : List ℕ) → (file_refusal f).number ≡ 0 → (record_octets ≤ length f) × (length f ≤ most_octets)
file_length f good = length_passed f (file_passed f good).0

-- and of each of its ports
pub port_begins : (f : List ℕ) (q : ℕ) → (file_refusal f).number ≡ 0 → q < port_count → (first_of f q < record_count f) × ((chain_refusal f (most_events f) (first_of f q)).number ≡ 0)
port_begins f q good h =
    let passed = file_passed f good in
    let port = port_passed f q (ports_good f q passed.1 h) in
    (first_has f q (omega (arith, (length_passed f passed.0).0)) port.0, port.1)

-- the lines of one port more
pub next_port : (f : List ℕ) (q : ℕ) → ports_text f (q + 1) ≡ ports_text f q ++ port_text f q
unfolding ports_text
next_port f q = rw (add-one q) refl

pub ruleset ports_steps = (file_length, next_port, put_append, length_put, length-append)

pub ruleset port_steps = (file_length, port_begins, fresh_fits)

-- the call of a record is that of its kind, and transmit where it has none
pub kind_calls : (f : List ℕ) (i : ℕ) (kind : Result Kind UnknownKind) → Names (kind_of f i) kind
    → call_of (kind_number (result_unwrap_or kind Transmit)) (stream_octet_of f i) (number_a f i) (number_b f i) ≡ call_at f i
unfolding call_at
kind_calls f i (Ok kind) e = rw (← e) refl
kind_calls f i (Err unknown) (e, none) =
    let apart : (n : ℕ) → 1 ≤ n → n ≤ 7 → eqb (kind_of f i) n ≡ false = λ n low high. ne_eqb _ _ (λ here. omega (arith, none)) in
    simp (apart 1 (omega arith) (omega arith), apart 2 (omega arith) (omega arith), apart 3 (omega arith) (omega arith), apart 4 (omega arith) (omega arith), apart 5 (omega arith) (omega arith), apart 7 (omega arith) (omega arith))

pub ruleset chain_steps = (begins, finishes, in_turn_lem, next_in_file)
