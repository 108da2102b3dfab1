-- In a list of calls and register accesses the record and the memory follow the calls alone, and the block follows what happens. Assumes nothing.
use Prim.Native.Nat.{ℕ, ◌-◌}
use mathlib.Core.Path.{◌≡◌, refl, sym, ap, ap₂, subst, ◌∙◌}
use mathlib.Core.Bool.{Bool, cond}
use mathlib.Core.Logic.{⊎_elim}
use mathlib.Core.List.{List, [], ◌∷◌, ◌++◌}
use native.Mathlib.Omega.{arith}
use lib.ListN.{length, length-append}
use lib.Seq.{take_at, drop_at}
use lib.Dec.{eqb, ltb}
use borrow.Author.Tests.{le-ltb, ne_eqb}
use Rattle.lists.proofs.Order.{eq_or_not}
use Rattle.lists.proofs.EachLaws.{some_not_none}
use Rattle.stream.specs.declared.Reply.{Reply}
use Rattle.stream.specs.Replies.{granted}
use Rattle.record.specs.Layout.{record_length, memory_length}
use Rattle.record.specs.Queues.{queues_at}
use Rattle.fitness.specs.Fit.{lent_refusal}
use Rattle.steps.specs.Call.{Call}
use Rattle.steps.specs.Outcome.{Outcome, outcome, gated, refused}
use Rattle.steps.proofs.OutcomeLaws.{grants, refuses}
use Rattle.port.specs.Calls.{called}
use Rattle.port_laws.specs.Lists.{replies}
use Rattle.port_laws.specs.Counting.{counts_as}
use Rattle.port_laws.proofs.CallKeeps.{either}
use Rattle.port_laws.proofs.SameLength.{record_length_lem}
use Rattle.register_block.specs.Layout.{control_offset}
use Rattle.register_block.specs.Written.{written_at}
use Rattle.register_block.proofs.WrittenLaws.{length_written}
use Rattle.registers.specs.Lent.{port_length, WholePort, record_part, block_part, in_block, short_refusal, port_refusal}
use Rattle.registers.specs.Notes.{noted}
use Rattle.registers.specs.Calls.{with_note, registered, port_call}
use Rattle.registers.specs.Accesses.{offset_refusal, named, in_turn, read_by, written_by, write_by, register_read, register_write}
use Rattle.registers.proofs.PartLaws.{record_long, block_long}
use Rattle.register_laws.specs.Uses.{Use, calling, reading, writing, used, lent, ran, calls_of, all_calls}
use Rattle.register_laws.specs.Happenings.{Happening, replied, written, replied_to, write_happens, happens, happenings, replies_in, note, noted_all}
use Rattle.register_laws.proofs.NoteLaws.{length_noted}

-- a slice that is long enough is not refused for its length,
pub whole_short : (p m : List ℕ) → WholePort p → short_refusal p m ≡ 0
unfolding short_refusal
whole_short p m whole = ap (λ (b : Bool). cond b (cond (ltb (length m) (memory_length (queues_at p))) 18 19) 0) (le-ltb (length p) port_length whole)

-- and the call is made on the record and noted in the block
whole_call : (call : Call → List ℕ → List ℕ → Outcome) (c : Call) (p m : List ℕ) → WholePort p → registered call c p m ≡ with_note (counts_as (record_part p) c) (block_part p) (call c (record_part p) m)
unfolding registered
whole_call call c p m whole = grants (short_refusal p m) p m (with_note (counts_as (record_part p) c) (block_part p) (call c (record_part p) m)) (whole_short p m whole)

-- the calls among happenings
abbrev pub only_calls : List Happening → List Happening
only_calls [] = []
only_calls (replied c r ∷ hs) = replied c r ∷ only_calls hs
only_calls (written offset number ∷ hs) = only_calls hs

-- calls as they happen on a record alone
abbrev pub happen_on : List Call → List ℕ → List ℕ → List Happening
happen_on [] p m = []
happen_on (c ∷ cs) p m = let o = called c p m in replied (counts_as p c) o.reply ∷ happen_on cs o.port o.memory

-- slice and memory of o are those of x, the record alone, after calls that happened alike, with the block behind as these happenings leave it
pub record Follows (p m q n : List ℕ) (cs : List Call) (hs : List Happening) (o x : Outcome) : Type 0 where
  pub whole : WholePort o.port
  pub same_record : record_part o.port ≡ x.port
  pub same_memory : o.memory ≡ x.memory
  pub block : block_part o.port ≡ noted_all hs (block_part p)
  pub calls : only_calls hs ≡ happen_on cs q n

-- so the calls reply the same
replies_only : (hs : List Happening) → replies_in (only_calls hs) ≡ replies_in hs
replies_only [] = refl
replies_only (replied c r ∷ hs) = ap (λ (rs : List Reply). r ∷ rs) (replies_only hs)
replies_only (written offset number ∷ hs) = replies_only hs

replies_on : (cs : List Call) (p m : List ℕ) → replies_in (happen_on cs p m) ≡ replies called cs p m
replies_on [] p m = refl
replies_on (c ∷ cs) p m = let o = called c p m in ap (λ (rs : List Reply). o.reply ∷ rs) (replies_on cs o.port o.memory)

pub told : (p m q n : List ℕ) (cs : List Call) (hs : List Happening) (o x : Outcome) → Follows p m q n cs hs o x → replies_in hs ≡ replies called cs q n
told p m q n cs hs o x f = sym (replies_only hs) ∙ ap replies_in f.calls ∙ replies_on cs q n

module _ (p m : List ℕ) (whole : WholePort p) where
  -- where nothing happens
  pub follows_none : (o x : Outcome) → o.port ≡ p → o.memory ≡ m → x.port ≡ record_part p → x.memory ≡ m → Follows p m (record_part p) m [] [] o x
  follows_none o x same kept record-kept memory_kept =
      record {
        whole = subst WholePort (sym same) whole;
        same_record = ap record_part same ∙ sym record-kept;
        same_memory = kept ∙ sym memory_kept;
        block = ap block_part same;
        calls = refl;
      }

  -- a call
  pub call_follows : (c : Call) → Follows p m (record_part p) m (c ∷ []) (replied_to (c ∷ []) p m) (port_call c p m) (called c (record_part p) m)
  call_follows c =
      let x = called c (record_part p) m in
      let b = noted (counts_as (record_part p) c) x.reply (block_part p) in
      let made = whole_call called c p m whole in
      let long : length x.port ≡ record_length = record_length_lem c (record_part p) m ∙ record_long p whole in
      let behind : length b ≡ length p - record_length = length_noted (counts_as (record_part p) c) x.reply (block_part p) ∙ block_long p in
      rw made
      (record {
        whole = omega (arith, length-append x.port b, long, behind, whole);
        same_record = take_at x.port b record_length long;
        same_memory = refl;
        block = drop_at x.port b record_length long;
        calls = refl;
      })

-- the replies of calls after calls, and what both leave
pub replies_after : (call : Call → List ℕ → List ℕ → Outcome) (cs ds : List Call) (o : Outcome) → replies call (cs ++ ds) o.port o.memory
    ≡ replies call cs o.port o.memory ++ replies call ds (in_turn call o cs).port (in_turn call o cs).memory
replies_after call [] ds o = refl
replies_after call (c ∷ cs) ds o = ap (λ (rs : List Reply). (call c o.port o.memory).reply ∷ rs) (replies_after call cs ds (call c o.port o.memory))

pub in_turn_both : (call : Call → List ℕ → List ℕ → Outcome) (cs ds : List Call) (o : Outcome) → in_turn call o (cs ++ ds) ≡ in_turn call (in_turn call o cs) ds
in_turn_both call [] ds o = refl
in_turn_both call (c ∷ cs) ds o = in_turn_both call cs ds (call c o.port o.memory)

pub replies_both : (hs ks : List Happening) → replies_in (hs ++ ks) ≡ replies_in hs ++ replies_in ks
replies_both [] ks = refl
replies_both (replied c r ∷ hs) ks = ap (λ (rs : List Reply). r ∷ rs) (replies_both hs ks)
replies_both (written offset number ∷ hs) ks = replies_both hs ks

calls_both : (hs ks : List Happening) → only_calls (hs ++ ks) ≡ only_calls hs ++ only_calls ks
calls_both [] ks = refl
calls_both (replied c r ∷ hs) ks = ap (λ (ls : List Happening). replied c r ∷ ls) (calls_both hs ks)
calls_both (written offset number ∷ hs) ks = calls_both hs ks

on_both : (cs ds : List Call) (o : Outcome)
    → happen_on (cs ++ ds) o.port o.memory ≡ happen_on cs o.port o.memory ++ happen_on ds (in_turn called o cs).port (in_turn called o cs).memory
on_both [] ds o = refl
on_both (c ∷ cs) ds o =
    ap (λ (hs : List Happening). replied (counts_as o.port c) (called c o.port o.memory).reply ∷ hs) (on_both cs ds (called c o.port o.memory))

noted_both : (hs ks : List Happening) (b : List ℕ) → noted_all (hs ++ ks) b ≡ noted_all ks (noted_all hs b)
noted_both [] ks b = refl
noted_both (h ∷ hs) ks b = noted_both hs ks (note h b)

-- what follows after what follows
follows_both : (p m : List ℕ) (x : Outcome) (cs ds : List Call) (hs ks : List Happening) (o u : Outcome) → Follows p m x.port x.memory cs hs o (in_turn called x cs)
    → Follows o.port o.memory (record_part o.port) o.memory ds ks u (in_turn called (in_turn called x cs) ds)
    → Follows p m x.port x.memory (cs ++ ds) (hs ++ ks) u (in_turn called (in_turn called x cs) ds)
follows_both p m x cs ds hs ks o u first second =
    record {
      whole = second.whole;
      same_record = second.same_record;
      same_memory = second.same_memory;
      block = second.block ∙ ap (noted_all ks) first.block ∙ sym (noted_both hs ks (block_part p));
      calls =
          calls_both hs ks
          ∙ ap₂ ◌++◌ first.calls (second.calls ∙ ap₂ (λ (q n : List ℕ). happen_on ds q n) first.same_record first.same_memory)
          ∙ sym (on_both cs ds x);
    }

-- calls in turn, from a port that is what the record alone is
pub turn_follows : (cs : List Call) (o x : Outcome) → WholePort o.port → record_part o.port ≡ x.port → o.memory ≡ x.memory
    → Follows o.port o.memory (record_part o.port) o.memory cs (replied_to cs o.port o.memory) (in_turn port_call o cs) (in_turn called x cs)
turn_follows [] o x whole same kept = follows_none o.port o.memory whole o x refl refl (sym same) (sym kept)
turn_follows (c ∷ cs) o x whole same kept =
    let one = call_follows o.port o.memory whole c in
    let made : called c (record_part o.port) o.memory ≡ called c x.port x.memory = ap₂ (called c) same kept in
    let start = lent (record_part o.port) o.memory in
    let u = port_call c o.port o.memory in
    let y = called c (record_part o.port) o.memory in
    subst
    (λ (z : Outcome). Follows o.port o.memory (record_part o.port) o.memory (c ∷ cs) (replied_to (c ∷ cs) o.port o.memory) (in_turn port_call u cs) (in_turn called z cs)) made
    (follows_both o.port o.memory start (c ∷ []) cs (replied_to (c ∷ []) o.port o.memory) (replied_to cs u.port u.memory) u (in_turn port_call u cs) one
    (turn_follows cs u y one.whole one.same_record one.same_memory))

-- a read leaves slice and memory as they are
pub read_leaves : (refusal : List ℕ → List ℕ → ℕ) (offset : ℕ) (p m : List ℕ) → ((read_by refusal offset p m).port ≡ p) × ((read_by refusal offset p m).memory ≡ m)
unfolding read_by
read_leaves refusal offset p m =
    let Leaves : Outcome → Type 0 = λ o. (o.port ≡ p) × (o.memory ≡ m) in
    either Leaves (eqb (offset_refusal offset) 0) _ _ (either Leaves (eqb (port_refusal refusal p m) 0) _ _ (refl, refl) (refl, refl)) (refl, refl)

module _ (offset number : ℕ) (p m : List ℕ) (whole : WholePort p) where
  -- a write that is refused
  refused_write : (g : ℕ) → (g ≡ 0 → ⊥) → register_write offset number p m ≡ refused g p m
      → Follows p m (record_part p) m [] (write_happens offset number p m []) (register_write offset number p m) (lent (record_part p) m)
  refused_write g some made =
      let none : write_happens offset number p m [] ≡ [] =
      ap (λ (o : Outcome). cond (eqb o.reply.refusal 0) (written offset number ∷ []) []) made ∙ ap (λ (b : Bool). cond b (written offset number ∷ []) []) (ne_eqb g 0 some) in
      subst (λ (hs : List Happening). Follows p m (record_part p) m [] hs (register_write offset number p m) (lent (record_part p) m)) (sym none)
      (follows_none p m whole (register_write offset number p m) (lent (record_part p) m) (ap (λ (o : Outcome). o.port) made) (ap (λ (o : Outcome). o.memory) made) refl refl)

  -- and one that is granted
  granted_write : register_write offset number p m ≡ outcome (granted 0 0) (in_block (written_at offset number) p) m
      → Follows p m (record_part p) m [] (write_happens offset number p m []) (register_write offset number p m) (lent (record_part p) m)
  unfolding in_block
  granted_write made =
      let b = written_at offset number (block_part p) in
      let long = record_long p whole in
      let behind : length b ≡ length p - record_length = length_written offset number (block_part p) ∙ block_long p in
      rw made
      (record {
        whole = omega (arith, length-append (record_part p) b, long, behind, whole);
        same_record = take_at (record_part p) b record_length long;
        same_memory = refl;
        block = drop_at (record_part p) b record_length long;
        calls = refl;
      })

  -- a write that makes no call, by its two gates
  plain_write : calls_of (writing offset number) ≡ [] → Follows p m (record_part p) m [] (write_happens offset number p m []) (register_write offset number p m) (lent (record_part p) m)
  unfolding write_by
  plain_write none =
      let body = written_by called lent_refusal offset number p m [] in
      let done = outcome (granted 0 0) (in_block (written_at offset number) p) m in
      let first : register_write offset number p m ≡ gated (offset_refusal offset) p m body = ap (λ (cs : List Call). gated (offset_refusal offset) p m (written_by called lent_refusal offset number p m cs)) none in
      ⊎_elim
      (λ (zero : offset_refusal offset ≡ 0).
      ⊎_elim
      (λ (free : port_refusal lent_refusal p m ≡ 0). granted_write (first ∙ grants (offset_refusal offset) p m body zero ∙ grants (port_refusal lent_refusal p m) p m done free))
      (λ (some : port_refusal lent_refusal p m ≡ 0 → ⊥).
      refused_write (port_refusal lent_refusal p m) some (first ∙ grants (offset_refusal offset) p m body zero ∙ refuses (port_refusal lent_refusal p m) p m done some))
      (eq_or_not (port_refusal lent_refusal p m) 0))
      (λ (some : offset_refusal offset ≡ 0 → ⊥). refused_write (offset_refusal offset) some (first ∙ refuses (offset_refusal offset) p m body some))
      (eq_or_not (offset_refusal offset) 0)

-- a write that names calls is one to control, and is those calls in turn
pub control_calls : (offset number : ℕ) (p m : List ℕ) (c : Call) (cs : List Call) → calls_of (writing offset number) ≡ c ∷ cs
    → register_write offset number p m ≡ in_turn port_call (lent p m) (c ∷ cs)
unfolding write_by offset_refusal
control_calls offset number p m c cs e =
    ⊎_elim
    (λ (is : offset ≡ control_offset).
    ap (λ (k : ℕ). gated (offset_refusal k) p m (written_by called lent_refusal offset number p m (calls_of (writing offset number)))) is
    ∙ ap (written_by called lent_refusal offset number p m) e)
    (λ (isnt : offset ≡ control_offset → ⊥).
    some_not_none c cs (sym e ∙ ap (λ (b : Bool). cond b (named number) []) (ne_eqb offset control_offset isnt)))
    (eq_or_not offset control_offset)

-- each use
pub use_follows : (u : Use) (p m : List ℕ) → WholePort p
    → Follows p m (record_part p) m (calls_of u) (happens u p m) (used u p m) (in_turn called (lent (record_part p) m) (calls_of u))
use_follows (calling c) p m whole = call_follows p m whole c
use_follows (reading offset) p m whole =
    let left = read_leaves lent_refusal offset p m in follows_none p m whole (register_read offset p m) (lent (record_part p) m) left.0 left.1 refl refl
use_follows (writing offset number) p m whole = by_calls (calls_of (writing offset number)) refl
  where
    by_calls : (cs : List Call) → calls_of (writing offset number) ≡ cs
        → Follows p m (record_part p) m cs (write_happens offset number p m cs) (register_write offset number p m) (in_turn called (lent (record_part p) m) cs)
    by_calls [] none = plain_write offset number p m whole none
    by_calls (c ∷ cs) e =
        subst (λ (o : Outcome). Follows p m (record_part p) m (c ∷ cs) (replied_to (c ∷ cs) p m) o (in_turn called (lent (record_part p) m) (c ∷ cs))) (sym (control_calls offset number p m c cs e))
        (turn_follows (c ∷ cs) (lent p m) (lent (record_part p) m) whole refl refl)

-- slice and memory after a list go by slice and memory before it, whatever was replied
pub same_after : {X : Type 0} (does : X → List ℕ → List ℕ → Outcome) (xs : List X) (o u : Outcome) → o.port ≡ u.port → o.memory ≡ u.memory
    → ((in_turn does o xs).port ≡ (in_turn does u xs).port) × ((in_turn does o xs).memory ≡ (in_turn does u xs).memory)
same_after does [] o u same kept = (same, kept)
same_after does (x ∷ xs) o u same kept =
    let made = ap (λ (z : Outcome). in_turn does z xs) (ap₂ (does x) same kept) in (ap (λ (z : Outcome). z.port) made, ap (λ (z : Outcome). z.memory) made)

follows_at : (p m q n : List ℕ) (cs : List Call) (hs : List Happening) (o u x y : Outcome) → (o.port ≡ u.port) × (o.memory ≡ u.memory)
    → (x.port ≡ y.port) × (x.memory ≡ y.memory) → Follows p m q n cs hs o x → Follows p m q n cs hs u y
follows_at p m q n cs hs o u x y same so f =
    record {
      whole = subst WholePort same.0 f.whole;
      same_record = ap record_part (sym same.0) ∙ f.same_record ∙ so.0;
      same_memory = sym same.1 ∙ f.same_memory ∙ so.1;
      block = ap block_part (sym same.0) ∙ f.block;
      calls = f.calls;
    }

-- and every list of them: the record and the memory after it are those after its calls on the record alone, which reply the same, and the block is what the
-- happenings make of it
pub list_follows : (us : List Use) (p m : List ℕ) → WholePort p
    → Follows p m (record_part p) m (all_calls us) (happenings us p m) (ran us p m) (in_turn called (lent (record_part p) m) (all_calls us))
list_follows [] p m whole = follows_none p m whole (lent p m) (lent (record_part p) m) refl refl refl refl
list_follows (u ∷ us) p m whole =
    let one = use_follows u p m whole in
    let o = used u p m in
    let x = in_turn called (lent (record_part p) m) (calls_of u) in
    let rest =
    follows_at o.port o.memory (record_part o.port) o.memory (all_calls us) (happenings us o.port o.memory)
    (ran us o.port o.memory) (in_turn used o us) (in_turn called (lent (record_part o.port) o.memory) (all_calls us)) (in_turn called x (all_calls us))
    (same_after used us (lent o.port o.memory) o refl refl)
    (same_after called (all_calls us) (lent (record_part o.port) o.memory) x one.same_record one.same_memory)
    (list_follows us o.port o.memory one.whole) in
    subst (λ (z : Outcome). Follows p m (record_part p) m (calls_of u ++ all_calls us) (happenings (u ∷ us) p m) (in_turn used o us) z) (sym (in_turn_both called (calls_of u) (all_calls us) (lent (record_part p) m)))
    (follows_both p m (lent (record_part p) m) (calls_of u) (all_calls us) (happens u p m) (happenings us o.port o.memory) o (in_turn used o us) one rest)
