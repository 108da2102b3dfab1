-- A fit record stays fit through every call, refused or not; so on a list of calls the quick calls reply as the calls do. Assumes nothing.
use Prim.Native.Nat.{ℕ}
use mathlib.Core.Path.{◌≡◌, refl, ◌∙◌, sym, ap, ap₂, subst}
use mathlib.Core.Bool.{true}
use mathlib.Core.Logic.{⊎_elim}
use mathlib.Core.List.{List, [], ◌∷◌}
use Rattle.lists.proofs.Order.{eq_or_not}
use Rattle.record.specs.Queues.{HasMemory}
use Rattle.fitness.specs.Fit.{record_fits, lent_refusal}
use Rattle.fitness.proofs.FitLaws.{fit_record, lent_fit}
use Rattle.steps.specs.Call.{Terms, Call, opening, reserving, withdrawing, arriving, ticking, transmitting, joining_best_effort, binding, framing}
use Rattle.steps.specs.Outcome.{Outcome, gated, performed}
use Rattle.steps.proofs.OutcomeLaws.{grants, refuses, let_through}
use Rattle.opening.specs.Opening.{open_step}
use Rattle.arriving.specs.Arriving.{arrive_step}
use Rattle.ticking.specs.Ticking.{tick_step}
use Rattle.best_effort.specs.BestEffort.{best_effort_step}
use Rattle.header.specs.Header.{charge_of}
use Rattle.std.specs.Prelude.{Option, Some, None}
use Rattle.binding.specs.Finding.{frame_lookup}
use Rattle.gates.specs.Refusals.{open_refusal, arrive_refusal, best_effort_refusal}
use Rattle.gates.specs.Becoming.{becomes}
use Rattle.gates.specs.Table.{refusal_of, step_of}
use Rattle.gates.proofs.GateLaws.{open_allowed, reserve_allowed, withdraw_allowed, arrive_allowed, best_effort_allowed}
use Rattle.gates.proofs.FrameGateLaws.{bind_allowed}
use Rattle.port.specs.Calls.{called}
use Rattle.port.specs.Quick.{length_refusal, quickly_called}
use Rattle.port.specs.Enough.{long_enough}
use Rattle.port_laws.specs.Lists.{replies}
use Rattle.port_laws.proofs.OpenFit.{open_fits_lem}
use Rattle.port_laws.proofs.ReserveFit.{reserve_fits}
use Rattle.port_laws.proofs.WithdrawFit.{withdraw_fits}
use Rattle.port_laws.proofs.ArriveFit.{arrive_fits}
use Rattle.port_laws.proofs.TickFit.{tick_fits}
use Rattle.port_laws.proofs.SendFit.{transmit_fits}
use Rattle.port_laws.proofs.BestEffortFit.{best_effort_fits}
use Rattle.port_laws.proofs.BindFit.{bind_fits}
use Rattle.port_laws.proofs.QuickLaws.{quick_call}

-- the record that a call leaves is fit for the memory that it leaves
abbrev pub LeavesFit : Outcome → Type 0
LeavesFit o = record_fits o.port o.memory ≡ true

-- a gate leaves a fit record fit, where what it lets through does
gated_fits : (g : ℕ) (p m : List ℕ) (done : Outcome) → record_fits p m ≡ true → (g ≡ 0 → LeavesFit done) → LeavesFit (gated g p m done)
gated_fits g p m done fit h =
    ⊎_elim
    (λ (zero : g ≡ 0). subst LeavesFit (sym (grants g p m done zero)) (h zero))
    (λ (some : g ≡ 0 → ⊥). subst LeavesFit (sym (refuses g p m done some)) fit)
    (eq_or_not g 0)

module _ (p m : List ℕ) (fit : record_fits p m ≡ true) (room : HasMemory p m) where
  arrived_fits : (s charge tag : ℕ) → arrive_refusal p s charge ≡ 0 → LeavesFit (arrive_step p m s charge tag)
  arrived_fits s charge tag e = let a = arrive_allowed p s charge e in arrive_fits p m s charge tag room fit a.stream a.reserved a.charge_fits_lem

  joined_fits : (charge tag : ℕ) → best_effort_refusal p charge ≡ 0 → LeavesFit (best_effort_step p m charge tag)
  joined_fits charge tag e = let a = best_effort_allowed p charge e in best_effort_fits p m charge tag room fit a.charge_fits_lem a.free

  -- a frame, as the call that it becomes
  became_fits : (charge tag : ℕ) (found : Option ℕ) → LeavesFit (becomes p m charge tag found)
  became_fits charge tag (Some s) = gated_fits (arrive_refusal p s charge) p m (arrive_step p m s charge tag) fit (arrived_fits s charge tag)
  became_fits charge tag None = gated_fits (best_effort_refusal p charge) p m (best_effort_step p m charge tag) fit (joined_fits charge tag)

  -- the step of every call that its own refusals let through
  step_fits : (c : Call) → refusal_of c p ≡ 0 → LeavesFit (step_of c p m)
  unfolding tick_step
  step_fits (opening t) e = let a = open_allowed p t e in open_fits_lem p m t (fit_record p m fit).long a.link_fits_lem a.delay_fits_lem
  step_fits (reserving s permitted) e =
      let a = reserve_allowed p s permitted e in
      reserve_fits p m s permitted fit a.opened a.stream a.free a.permitted_fits_lem a.share
  step_fits (withdrawing s) e = withdraw_fits p m s fit (withdraw_allowed p s e).reserved
  step_fits (arriving s charge tag) e = arrived_fits s charge tag e
  step_fits ticking e = tick_fits p m fit
  step_fits transmitting e = transmit_fits p m fit
  step_fits (joining_best_effort charge tag) e = joined_fits charge tag e
  step_fits (binding s address vid) e =
      let a = bind_allowed p s address vid e in
      bind_fits p m s address vid fit a.stream a.reserved a.vid_fits_lem a.free
  step_fits (framing octets tag) e = became_fits (charge_of octets) tag (frame_lookup p octets)

-- every call
pub stays_fit : (c : Call) (p m : List ℕ) → record_fits p m ≡ true → LeavesFit (called c p m)
stays_fit c p m fit =
    gated_fits (lent_refusal p m) p m (performed (refusal_of c) (step_of c) p m) fit
    (λ lent. gated_fits (refusal_of c p) p m (step_of c p m) fit (step_fits p m fit (lent_fit p m lent).0 c))

-- a granted quick Open leaves a fit record, whatever it was given
pub granted_open_fits : (p m : List ℕ) (t : Terms) → (quickly_called (opening t) p m).reply.refusal ≡ 0 → LeavesFit (quickly_called (opening t) p m)
granted_open_fits p m t e =
    let done = open_step p m t in
    let opens = gated (open_refusal p t) p m done in
    let lent = let_through (length_refusal p m) p m opens e in
    let asked = grants (length_refusal p m) p m opens lent in
    let allowed = let_through (open_refusal p t) p m done (sym (ap (λ (o : Outcome). o.reply.refusal) asked) ∙ e) in
    let a = open_allowed p t allowed in
    subst LeavesFit (sym (asked ∙ grants (open_refusal p t) p m done allowed))
    (open_fits_lem p m t (long_enough p m lent).whole a.link_fits_lem a.delay_fits_lem)

-- every list of calls: the quick calls reply as the calls do
pub quick_replies : (cs : List Call) (p m : List ℕ) → record_fits p m ≡ true → replies quickly_called cs p m ≡ replies called cs p m
quick_replies [] p m fit = refl
quick_replies (c ∷ cs) p m fit =
    let o = called c p m in
    subst (λ (q : Outcome). q.reply ∷ replies quickly_called cs q.port q.memory ≡ o.reply ∷ replies called cs o.port o.memory) (sym (quick_call c p m fit))
    (ap₂ ◌∷◌ refl (quick_replies cs o.port o.memory (stays_fit c p m fit)))
