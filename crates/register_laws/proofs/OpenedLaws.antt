-- A list of uses from a granted Open: the block begins with zeros, and no later Open is granted. Assumes nothing.
use Prim.Native.Nat.{ℕ}
use mathlib.Core.Path.{◌≡◌, refl, sym, ap, ap₂, ◌∙◌}
use mathlib.Core.Bool.{Bool, true, false, cond}
use mathlib.Core.List.{List, [], ◌∷◌, ◌++◌}
use native.Mathlib.Omega.{arith}
use lib.ListN.{length}
use lib.Dec.{eqb}
use borrow.Author.Tests.{eq-eqb, ne_eqb}
use Rattle.lists.specs.Each.{All}
use Rattle.stream.specs.declared.Reply.{Reply}
use Rattle.record.specs.Layout.{Whole}
use Rattle.record.specs.Head.{open_at}
use Rattle.record.specs.Queues.{queues_at, HasMemory}
use Rattle.fitness.specs.Fit.{record_fits, lent_refusal}
use Rattle.fitness.proofs.FitLaws.{fit_record, lent_fit}
use Rattle.steps.specs.Call.{Terms, Call, opening, reserving, withdrawing, arriving, ticking, transmitting, joining_best_effort, binding, framing}
use Rattle.steps.specs.Outcome.{Outcome, gated}
use Rattle.steps.proofs.OutcomeLaws.{grants, let_through}
use Rattle.opening.specs.Opening.{opened_record, open_step}
use Rattle.gates.specs.Refusals.{open_refusal}
use Rattle.gates.specs.Becoming.{becoming}
use Rattle.header.specs.Header.{length_fits}
use Rattle.std.specs.Prelude.{Option, Some, None}
use Rattle.binding.specs.Finding.{frame_lookup}
use Rattle.port.specs.Calls.{called}
use Rattle.port_laws.specs.Counting.{counts_as}
use Rattle.port_laws.proofs.GateNumbers.{open_taken}
use Rattle.port_laws.proofs.StayLaws.{stays_fit}
use Rattle.port_laws.proofs.StayOpen.{stays_open}
use Rattle.port_laws.proofs.OpenLaws.{opened_open, opened_queues}
use Rattle.register_block.specs.Layout.{WholeBlock}
use Rattle.register_block.specs.Events.{zeroed}
use Rattle.registers.specs.Lent.{WholePort, record_part, block_part, short_refusal}
use Rattle.registers.specs.Notes.{open_noted}
use Rattle.registers.specs.Calls.{registered, port_call}
use Rattle.registers.specs.Accesses.{in_turn, register_write}
use Rattle.registers.proofs.PartLaws.{enough, block_long}
use Rattle.register_laws.specs.Uses.{Use, calling, reading, writing, used, lent, calls_of, UseList, opened_by, left_by}
use Rattle.register_laws.specs.Happenings.{Happening, written, replied_to, write_happens, happens, happenings, happenings_in, noted_all}
use Rattle.register_laws.specs.History.{sort_of, granted_open, is_reply}
use Rattle.register_laws.proofs.FollowLaws.{Follows, told, call_follows, use_follows, list_follows}

-- an open port grants no Open
no_open : (t : Terms) (p m : List ℕ) → open_at p ≡ true → (called (opening t) p m).reply.refusal ≡ 0 → ⊥
no_open t p m opened e =
    let opens = gated (open_refusal p t) p m (open_step p m t) in
    let fits = let_through (lent_refusal p m) p m opens e in
    let free = let_through (open_refusal p t) p m (open_step p m t) (sym (ap (λ (o : Outcome). o.reply.refusal) (grants (lent_refusal p m) p m opens fits)) ∙ e) in
    absurd (omega (arith, sym (open_taken p t opened) ∙ free))

-- a call's reply, where the port is open, is not that of a granted Open
abbrev NoOpen : Happening → Type 0
NoOpen h = is_reply granted_open h ≡ false

call_no_open : (c : Call) (p m : List ℕ) → open_at p ≡ true → granted_open (sort_of (counts_as p c)) (called c p m).reply ≡ false
call_no_open (opening t) p m opened = ne_eqb (called (opening t) p m).reply.refusal 0 (no_open t p m opened)
call_no_open (reserving s permitted) p m opened = refl
call_no_open (withdrawing s) p m opened = refl
call_no_open (arriving s charge tag) p m opened = refl
call_no_open ticking p m opened = refl
call_no_open transmitting p m opened = refl
call_no_open (joining_best_effort charge tag) p m opened = refl
call_no_open (binding s address vid) p m opened = refl
call_no_open (framing octets tag) p m opened = by_found (length_fits octets) (frame_lookup p octets)
  where
    by_found : (fits : Bool) (found : Option ℕ) → granted_open (sort_of (cond fits (becoming octets tag found) (framing octets tag))) (called (framing octets tag) p m).reply ≡ false
    by_found true (Some s) = refl
    by_found true None = refl
    by_found false found = refl

-- the port stays open in calls one after the other,
turn_open : (cs : List Call) (x : Outcome) → open_at x.port ≡ true → open_at (in_turn called x cs).port ≡ true
turn_open [] x opened = opened
turn_open (c ∷ cs) x opened = turn_open cs (called c x.port x.memory) (stays_open c x.port x.memory opened)

-- and grants no Open in them,
calls_no_open : (cs : List Call) (p m : List ℕ) → WholePort p → open_at (record_part p) ≡ true → All NoOpen (replied_to cs p m)
calls_no_open [] p m whole opened = tt
calls_no_open (c ∷ cs) p m whole opened =
    let f = call_follows p m whole c in
    let o = port_call c p m in (
      ap (λ (rs : List Reply). granted_open (sort_of (counts_as (record_part p) c)) (first_of rs)) (told _ _ _ _ _ _ _ _ f) ∙ call_no_open c (record_part p) m opened,
      calls_no_open cs o.port o.memory f.whole (ap open_at f.same_record ∙ stays_open c (record_part p) m opened),
    )
  where
    first_of : List Reply → Reply
    first_of [] = (port_call c p m).reply
    first_of (r ∷ rs) = r

-- nor in any use
use_no_open : (u : Use) (p m : List ℕ) → WholePort p → open_at (record_part p) ≡ true → All NoOpen (happens u p m)
use_no_open (calling c) p m whole opened = calls_no_open (c ∷ []) p m whole opened
use_no_open (reading offset) p m whole opened = tt
use_no_open (writing offset number) p m whole opened = by_calls (calls_of (writing offset number))
  where
    by_grant : (t : Bool) → All NoOpen (cond t (written offset number ∷ []) [])
    by_grant true = (refl, tt)
    by_grant false = tt

    by_calls : (cs : List Call) → All NoOpen (write_happens offset number p m cs)
    by_calls [] = by_grant (eqb (register_write offset number p m).reply.refusal 0)
    by_calls (c ∷ cs) = calls_no_open (c ∷ cs) p m whole opened

all_both : {A : Type 0} (P : A → Type 0) (xs ys : List A) → All P xs → All P ys → All P (xs ++ ys)
all_both P [] ys h k = k
all_both P (x ∷ xs) ys h k = (h.0, all_both P xs ys h.1 k)

uses_no_open : (us : List Use) (p m : List ℕ) → WholePort p → open_at (record_part p) ≡ true → All NoOpen (happenings us p m)
uses_no_open [] p m whole opened = tt
uses_no_open (u ∷ us) p m whole opened =
    let f = use_follows u p m whole in
    let o = used u p m in
    all_both NoOpen (happens u p m) (happenings us o.port o.memory) (use_no_open u p m whole opened)
    (uses_no_open us o.port o.memory f.whole (ap open_at f.same_record ∙ turn_open (calls_of u) (lent (record_part p) m) opened))

module _ (l : UseList) where
  -- the slice is long enough, and the Open on the record is granted
  pub opened_whole : WholePort l.port
  unfolding registered
  opened_whole = enough l.port l.memory (let_through (short_refusal l.port l.memory) l.port l.memory _ l.opened)

  abbrev opens : Follows l.port l.memory (record_part l.port) l.memory (opening l.terms ∷ []) (replied_to (opening l.terms ∷ []) l.port l.memory) (opened_by l) (called (opening l.terms) (record_part l.port) l.memory)
  opens = call_follows l.port l.memory opened_whole (opening l.terms)

  pub opened_reply : (opened_by l).reply ≡ (called (opening l.terms) (record_part l.port) l.memory).reply
  opened_reply = first_same (opened_by l).reply (called (opening l.terms) (record_part l.port) l.memory).reply [] [] (told _ _ _ _ _ _ _ _ opens)
    where
      first_same : (r s : Reply) (rs ss : List Reply) → ◌≡◌ {A = List Reply} (r ∷ rs) (s ∷ ss) → r ≡ s
      first_same r s rs ss e = ap (λ (xs : List Reply). head_of xs) e
        where
          head_of : List Reply → Reply
          head_of [] = r
          head_of (x ∷ xs) = x

  pub opened_record_lem : (called (opening l.terms) (record_part l.port) l.memory).reply.refusal ≡ 0
  opened_record_lem = sym (ap (λ (r : Reply). r.refusal) opened_reply) ∙ l.opened

  -- so record and memory are fit, and the Open is its step
  abbrev given : List ℕ
  given = record_part l.port

  not_lent : lent_refusal given l.memory ≡ 0
  not_lent = let_through (lent_refusal given l.memory) given l.memory (gated (open_refusal given l.terms) given l.memory (open_step given l.memory l.terms)) opened_record_lem

  open_so : called (opening l.terms) given l.memory ≡ open_step given l.memory l.terms
  open_so =
      let step = open_step given l.memory l.terms in
      let tried = gated (open_refusal given l.terms) given l.memory step in
      let passed = grants (lent_refusal given l.memory) given l.memory tried not_lent in
      passed
      ∙ grants (open_refusal given l.terms) given l.memory step
      (let_through (open_refusal given l.terms) given l.memory step (sym (ap (λ (o : Outcome). o.reply.refusal) passed) ∙ opened_record_lem))

  given_whole : Whole given
  given_whole = (fit_record given l.memory (lent_fit given l.memory not_lent).1).long

  left_record : record_part (opened_by l).port ≡ opened_record given l.terms
  left_record = opens.same_record ∙ ap (λ (o : Outcome). o.port) open_so

  pub left_memory : (opened_by l).memory ≡ l.memory
  left_memory = opens.same_memory ∙ ap (λ (o : Outcome). o.memory) open_so

  -- the port is open after it, with a fit record and its memory
  pub opened_opened : open_at (record_part (opened_by l).port) ≡ true
  opened_opened = ap open_at left_record ∙ opened_open given l.terms given_whole

  pub opened_fit : record_fits (record_part (opened_by l).port) (opened_by l).memory ≡ true
  opened_fit = ap₂ record_fits opens.same_record opens.same_memory ∙ stays_fit (opening l.terms) given l.memory (lent_fit given l.memory not_lent).1

  pub opened_long : HasMemory (record_part (opened_by l).port) (opened_by l).memory
  opened_long =
      omega
      (arith, ap queues_at left_record ∙ opened_queues given l.terms given_whole, ap length left_memory, (lent_fit given l.memory not_lent).0)

  -- its block has zeros
  pub opened_block : block_part (opened_by l).port ≡ zeroed (block_part l.port)
  unfolding open_noted
  opened_block = opens.block ∙ ap (λ (b : Bool). cond b (zeroed (block_part l.port)) (block_part l.port)) (eq-eqb (opened_by l).reply.refusal 0 l.opened)

  pub block_whole : WholeBlock (block_part l.port)
  block_whole = omega (arith, opened_whole, block_long l.port)

  -- and what the list leaves follows its happenings, of which none is a granted Open
  pub list_block : block_part (left_by l).port ≡ noted_all (happenings_in l) (zeroed (block_part l.port))
  list_block =
      (list_follows l.later (opened_by l).port (opened_by l).memory opens.whole).block ∙ ap (noted_all (happenings_in l)) opened_block

  pub list_no_open : All NoOpen (happenings_in l)
  list_no_open = uses_no_open l.later (opened_by l).port (opened_by l).memory opens.whole opened_opened
