-- A withdrawn stream is taken until the tick whose number is that of the queues, and free after it, on every record and memory. Assumes nothing.
use Prim.Native.Nat.{ℕ, ◌+◌, ◌-◌, ◌≤◌, ◌<◌}
use mathlib.Core.Bool.{Bool, true, false, cond, true≢false}
use mathlib.Core.Path.{◌≡◌, refl, sym, ap, ap₂, subst, ◌∙◌}
use mathlib.Core.List.{List, [], ◌∷◌}
use native.Mathlib.Omega.{arith}
use borrow.Author.Tests.{ne_eqb, lt-leb}
use lib.ListN.{length}
use Rattle.stream.specs.declared.Stream.{Stream}
use Rattle.stream.specs.Replies.{refused_by}
use Rattle.record.specs.Layout.{record_length, stream_count}
use Rattle.record.specs.Queues.{queues_at, HasMemory}
use Rattle.record.specs.Head.{open_at}
use Rattle.record.specs.Entry.{stream_at, drain_at, drains_at}
use Rattle.record.proofs.KeepLaws.{keeps_drain}
use Rattle.record.proofs.DrainPairs.{drain_drain, stream_drain}
use Rattle.record.proofs.BesideLaws.{Beside}
use Rattle.fitness.specs.Fit.{record_fits, lent_refusal}
use Rattle.fitness.proofs.FitLaws.{fit_record, lent_fit, fit_lent}
use Rattle.steps.specs.Call.{Call, opening, reserving, withdrawing, arriving, ticking, transmitting, joining_best_effort, binding, framing}
use Rattle.steps.specs.Outcome.{Outcome, performed}
use Rattle.steps.proofs.OutcomeLaws.{grants, let_through}
use Rattle.opening.specs.Withdrawing.{withdraw_step}
use Rattle.ticking.specs.Ticking.{ticked_record, tick_step}
use Rattle.gates.specs.Refusals.{reserve_refusal, withdraw_refusal, arrive_refusal}
use Rattle.gates.specs.FrameRefusals.{bind_refusal}
use Rattle.gates.specs.Table.{refusal_of, step_of}
use Rattle.gates.proofs.GateLaws.{WithdrawAllowed, withdraw_allowed}
use Rattle.port.specs.Calls.{called}
use Rattle.port_laws.specs.Counting.{action_of}
use Rattle.port_laws.proofs.GateNumbers.{closed_passes}
use Rattle.port_laws.proofs.SameLength.{memory_length_lem}
use Rattle.port_laws.proofs.StayLaws.{stays_fit}
use Rattle.port_laws.proofs.BesideCalls.{call_beside}
use Rattle.port_laws.proofs.DrainTick.{DrainsFor, Freed, beside_drains, tick_drains, tick_frees}
use Rattle.guarantee.specs.Claims.{is_tick}
use Rattle.guarantee.proofs.NextTick.{ticked_link}
use Rattle.guarantee.specs.Draining.{lent_after, ticks_in, Taken, RefusedDraining, Free, DrainsExactly}

-- a call whose action is a tick is Tick
is_ticking : (c : Call) → is_tick (action_of c) ≡ true → c ≡ ticking
is_ticking (opening t) e = absurd (true≢false (sym e))
is_ticking (reserving s permitted) e = absurd (true≢false (sym e))
is_ticking (withdrawing s) e = absurd (true≢false (sym e))
is_ticking (arriving s charge tag) e = absurd (true≢false (sym e))
is_ticking ticking e = refl
is_ticking transmitting e = absurd (true≢false (sym e))
is_ticking (joining_best_effort charge tag) e = absurd (true≢false (sym e))
is_ticking (binding s address vid) e = absurd (true≢false (sym e))
is_ticking (framing octets tag) e = absurd (true≢false (sym e))

-- a call that is not refused with 18 or 19 and not by its own gate makes its step
steps_through : (c : Call) (p m : List ℕ) → lent_refusal p m ≡ 0 → refusal_of c p ≡ 0 → called c p m ≡ step_of c p m
steps_through c p m lent zero = grants (lent_refusal p m) p m (performed (refusal_of c) (step_of c) p m) lent ∙ grants (refusal_of c p) p m (step_of c p m) zero

module _ (s : ℕ) (below : s < stream_count) (p : List ℕ) (was : (stream_at p s).reserved ≡ true) where
  -- record k and memory m, some calls after the withdrawal on record p: the stream drains for so many ticks more
  record State (ticks : ℕ) (k m : List ℕ) : Type 0 where
    fit : record_fits k m ≡ true
    room : HasMemory k m
    opened : open_at k ≡ true
    queues : queues_at k ≡ queues_at p
    drains : DrainsFor s ticks p k

  module _ (ticks : ℕ) (k m : List ℕ) (some : 0 < ticks) (state : State ticks k m) where
    lent_none : lent_refusal k m ≡ 0
    lent_none = fit_lent k m state.room state.fit

    is_draining : drains_at k s ≡ true
    unfolding drains_at
    is_draining = rw (state.drains.reserved, ne_eqb (drain_at k s) 0 (λ e. omega (arith, e, state.drains.drain)))

    -- any call leaves a state of the record that is fit and has its memory, open and with as many queues, where the stream drains
    after : (c : Call) (rest : ℕ) → open_at (called c k m).port ≡ true → queues_at (called c k m).port ≡ queues_at k → DrainsFor s rest p (called c k m).port
        → State rest (called c k m).port (called c k m).memory
    after c rest opened queues drains =
        record {
          fit = stays_fit c k m state.fit;
          room = rw queues (omega (arith, memory_length_lem c k m, state.room));
          opened = opened;
          queues = queues ∙ state.queues;
          drains = drains;
        }

    -- a call but a tick
    next_call : (c : Call) → (c ≡ ticking → ⊥) → State ticks (called c k m).port (called c k m).memory
    next_call c other =
        let beside : Beside s k (called c k m).port = call_beside k m s state.opened is_draining c other in
        after c ticks (beside.opened ∙ state.opened) beside.queues (beside_drains s k (called c k m).port beside ticks p state.drains)

    -- a tick
    ticks_through : (called ticking k m).port ≡ ticked_record k
    unfolding tick_step
    ticks_through = ap (λ (o : Outcome). o.port) (steps_through ticking k m lent_none (closed_passes k state.opened))

    whole_record : record_length ≤ length k
    whole_record = (fit_record k m state.fit).long

    next_tick : 1 < ticks → State (ticks - 1) (called ticking k m).port (called ticking k m).memory
    next_tick more =
        let link = ticked_link k whole_record in
        after ticking (ticks - 1) (ap open_at ticks_through ∙ link.0 ∙ state.opened) (ap queues_at ticks_through ∙ link.1.1)
        (subst (DrainsFor s (ticks - 1) p) (sym ticks_through) (tick_drains k s whole_record below ticks p state.drains more))

    -- what a state says
    still_taken : Taken s p k
    still_taken =
        let d = state.drains in
        record { number = d.reserved; share = ap₂ (λ (r : Bool) (n : ℕ). cond r n 0) (d.reserved ∙ sym was) d.permitted; bound = d.bound; vid = d.vid; address = d.address }

    -- a call that a gate refuses with 25
    gate_25 : (c : Call) → refusal_of c k ≡ 25 → (called c k m).reply ≡ refused_by 25
    gate_25 c e = rw (lent_none, e)

    still_refused : RefusedDraining s k m
    unfolding reserve_refusal withdraw_refusal arrive_refusal bind_refusal
    still_refused =
        let in-range = lt-leb stream_count s below in
        record {
          arrival = λ charge tag. gate_25 (arriving s charge tag) (rw (state.opened, in-range, is_draining));
          reservation = λ permitted. gate_25 (reserving s permitted) (rw (state.opened, in-range, is_draining));
          bind = λ address vid. gate_25 (binding s address vid) (rw (state.opened, in-range, is_draining));
          withdrawal = gate_25 (withdrawing s) (rw (state.opened, in-range, is_draining));
        }

    last_frees : ticks ≡ 1 → Free s (called ticking k m).port
    last_frees last =
        let freed = subst (Freed s) (sym ticks_through) (tick_frees k s whole_record below ticks p state.drains last) in
        record { number = freed.reserved; share = rw freed.reserved; bound = freed.bound }

  -- any call, while the stream drains on after it
  next : (c : Call) (ticks : ℕ) (k m : List ℕ) → ticks_in (c ∷ []) < ticks → State ticks k m
      → State (ticks - ticks_in (c ∷ [])) (called c k m).port (called c k m).memory
  next c ticks k m h state = told (is_tick (action_of c)) refl
    where
      told : (b : Bool) → is_tick (action_of c) ≡ b → State (ticks - ticks_in (c ∷ [])) (called c k m).port (called c k m).memory
      told true e =
          let count : ticks_in (c ∷ []) ≡ 1 = ap (λ (b : Bool). cond b 1 0 + 0) e in
          subst (λ (n : ℕ). State n (called c k m).port (called c k m).memory) (omega (arith, count))
          (subst (λ (d : Call). State (ticks - 1) (called d k m).port (called d k m).memory) (sym (is_ticking c e))
          (next_tick ticks k m (omega arith) state (omega (arith, count))))
      told false e =
          let count : ticks_in (c ∷ []) ≡ 0 = ap (λ (b : Bool). cond b 1 0 + 0) e in
          subst (λ (n : ℕ). State n (called c k m).port (called c k m).memory) (omega (arith, count))
          (next_call ticks k m (omega arith) state c (λ f. true≢false (sym (ap (λ (d : Call). is_tick (action_of d)) f) ∙ e)))

  -- any calls, while fewer ticks come than it drains for
  run : (cs : List Call) (ticks : ℕ) (k m : List ℕ) → ticks_in cs < ticks → State ticks k m → State (ticks - ticks_in cs) (lent_after cs k m).port (lent_after cs k m).memory
  run [] ticks k m h state = subst (λ (n : ℕ). State n k m) (omega arith) state
  run (c ∷ cs) ticks k m h state =
      let o = called c k m in
      subst (λ (n : ℕ). State n (lent_after cs o.port o.memory).port (lent_after cs o.port o.memory).memory) (omega arith)
      (run cs (ticks - ticks_in (c ∷ [])) o.port o.memory (omega arith) (next c ticks k m (omega arith) state))

module _ (p m : List ℕ) (s : ℕ) (e : (called (withdrawing s) p m).reply.refusal ≡ 0) where
  lent : lent_refusal p m ≡ 0
  lent = let_through (lent_refusal p m) p m (performed (refusal_of (withdrawing s)) (step_of (withdrawing s)) p m) e

  asked : withdraw_refusal p s ≡ 0
  asked =
      let_through (withdraw_refusal p s) p m (withdraw_step p m s)
      (sym (ap (λ (o : Outcome). o.reply.refusal) (grants (lent_refusal p m) p m (performed (refusal_of (withdrawing s)) (step_of (withdrawing s)) p m) lent)) ∙ e)

  allowed : WithdrawAllowed p s
  allowed = withdraw_allowed p s asked

  withdraws_through : called (withdrawing s) p m ≡ withdraw_step p m s
  withdraws_through = steps_through (withdrawing s) p m lent asked

  whole : record_length ≤ length p
  whole = (fit_record p m (lent_fit p m lent).1).long

  abbrev Begun : ℕ → List ℕ → List ℕ → Type 0
  Begun = State s allowed.stream p allowed.reserved

  -- the withdrawal
  begins : Begun (queues_at p) (called (withdrawing s) p m).port (called (withdrawing s) p m).memory
  begins =
      let keeps = keeps_drain p s (queues_at p) in
      let same = stream_drain p s (queues_at p) s in
      record {
        fit = stays_fit (withdrawing s) p m (lent_fit p m lent).1;
        room = rw withdraws_through (omega (arith, keeps.queues, (lent_fit p m lent).0));
        opened = rw withdraws_through (keeps.opened ∙ allowed.opened);
        queues = rw withdraws_through keeps.queues;
        drains =
            rw withdraws_through
            (record {
              reserved = ap (λ (x : Stream). x.reserved) same ∙ allowed.reserved;
              permitted = ap (λ (x : Stream). x.permitted) same;
              drain = drain_drain p s (queues_at p) whole allowed.stream;
              bound = keeps.bound s;
              vid = keeps.vid s;
              address = keeps.address s;
            });
      }

  -- the calls after it
  module _ (cs : List Call) (h : ticks_in cs < queues_at p) where
    abbrev port : List ℕ
    port = (lent_after (withdrawing s ∷ cs) p m).port

    abbrev memory : List ℕ
    memory = (lent_after (withdrawing s ∷ cs) p m).memory

    goes_on : Begun (queues_at p - ticks_in cs) port memory
    goes_on = run s allowed.stream p allowed.reserved cs (queues_at p) _ _ h begins

    before_last : Taken s p port
    before_last = still_taken s allowed.stream p allowed.reserved (queues_at p - ticks_in cs) port memory (omega arith) goes_on

    refused_still : RefusedDraining s port memory
    refused_still = still_refused s allowed.stream p allowed.reserved (queues_at p - ticks_in cs) port memory (omega arith) goes_on

    after_last : ticks_in cs + 1 ≡ queues_at p → Free s (called ticking port memory).port
    after_last last = last_frees s allowed.stream p allowed.reserved (queues_at p - ticks_in cs) port memory (omega arith) goes_on (omega (arith, last))

pub drains_exactly : DrainsExactly
drains_exactly p m s e cs =
    record {
      taken = before_last p m s e cs;
      refused = refused_still p m s e cs;
      free = λ last. after_last p m s e cs (omega (arith, last)) last;
    }
