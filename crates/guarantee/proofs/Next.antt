-- What is to be shown of each call on a port that holds a view, and the calls that are refused. Assumes nothing.
use Prim.Native.Nat.{ℕ, ◌≤◌, ◌<◌}
use mathlib.Core.Bool.{true, false}
use mathlib.Core.Path.{◌≡◌, refl, sym, subst, ◌∙◌}
use mathlib.Core.Logic.{⊎_elim}
use mathlib.Core.List.{List, []}
use Rattle.lists.proofs.EachLaws.{differ}
use Rattle.lists.proofs.Order.{eq_or_not}
use Rattle.stream.specs.declared.Reply.{Reply}
use Rattle.stream.specs.Replies.{refused_by}
use Rattle.queue.specs.Waiting.{waiting}
use Rattle.record.specs.Queues.{queues_at, last_place_at, best_effort_at}
use Rattle.record.specs.Head.{open_at, link_at, queue_at}
use Rattle.record.proofs.KeepLaws.{Keeps}
use Rattle.ranges.specs.Ranges.{share_of}
use Rattle.fitness.specs.Fit.{lent_refusal}
use Rattle.fitness.proofs.FitLaws.{fit_lent}
use Rattle.steps.specs.Outcome.{Outcome, outcome, refused, gated}
use Rattle.steps.proofs.OutcomeLaws.{grants, refuses}
use Rattle.steps.specs.Call.{Call}
use Rattle.port_laws.specs.Counting.{action_of}
use Rattle.port_laws.proofs.GateNumbers.{Own}
use Rattle.guarantee.specs.Events.{Marked, Sent, reserved_sent, best_effort_sent, none, is_transmit, sent_by}
use Rattle.guarantee.specs.Claims.{reply_of_sent}
use Rattle.guarantee.proofs.Run.{View, Quiet, Effect, quiet}
use Rattle.guarantee.proofs.CallLaws.{quiet_no_transmit, sends_none}
use Rattle.guarantee.proofs.Tied.{Tied}
use Rattle.guarantee.proofs.Held.{seen_at, in_role, Holds}

-- record q is of an open port where p is, with the same L and as many queues
abbrev pub SameLink : List ℕ → List ℕ → Type 0
SameLink p q = (open_at q ≡ open_at p) × ((link_at q ≡ link_at p) × (queues_at q ≡ queues_at p))

pub link_both : (j k l : List ℕ) → SameLink j k → SameLink k l → SameLink j l
link_both j k l a b = (b.0 ∙ a.0, (b.1.0 ∙ a.1.0, b.1.1 ∙ a.1.1))

pub link_kept : (p q : List ℕ) → Keeps p q → SameLink p q
link_kept p q keeps = (keeps.opened, (keeps.link, keeps.queues))

-- record q, memory m and the memory k of the marked calls hold view w and best effort's frames, of a port that was p before
pub record Moved (all : List Call) (p q m k : List ℕ) (w : View) (best : List Marked) : Type 0 where
  pub keeps : SameLink p q
  pub streams : (s : ℕ) → w.stream s ≡ seen_at q s
  pub queues : (role : ℕ) → role < queues_at p → Tied all reserved_sent (in_role q m role) (in_role q k role) (w.queue role)
  pub above : (role : ℕ) → queues_at p ≤ role → w.queue role ≡ []
  pub waits : Tied all best_effort_sent (waiting m (best_effort_at p) (queue_at q (best_effort_at p))) (waiting k (best_effort_at p) (queue_at q (best_effort_at p))) best

-- a transmit and the marked one say what is sent
abbrev pub Says : Reply → Reply → Sent → Type 0
Says reply shown sent = (reply ≡ reply_of_sent (λ f. f.tag) sent) × (shown ≡ reply_of_sent (λ f. f.number) sent)

-- what call number n leaves: o its outcome, u that of the marked call; `earlier` are the calls before it, `all` those by which frames are known
-- afterwards
pub record Next (earlier all : List Call) (n link : ℕ) (p m k : List ℕ) (v : View) (c : Call) (o u : Outcome) : Type 0 where
  pub view : View
  pub best : List Marked
  pub effect : Effect (last_place_at p) (share_of link) n v view o.reply (sent_by earlier c u.reply) (action_of c)
  pub same : u.port ≡ o.port
  pub moved : Moved all p o.port o.memory u.memory view best
  pub says : is_transmit (action_of c) ≡ true → Says o.reply u.reply (sent_by earlier c u.reply)
  pub marks : is_transmit (action_of c) ≡ false → u.reply ≡ o.reply
  pub not_lent : Own o.reply.refusal

module _ (all : List Call) (n link : ℕ) (p m k : List ℕ) (v : View) (best : List Marked) (h : Holds all link p m k v best) where
  -- a call that leaves record and memory as they were, refused or granted
  pub unmoved : Moved all p p m k v best
  unmoved = record { keeps = (refl, (refl, refl)); streams = h.streams; queues = h.queues; above = h.above; waits = h.waits }

  pub next_unchanged : (r : Reply) (c : Call) → Own r.refusal → is_transmit (action_of c) ≡ false → Effect (last_place_at p) (share_of link) n v v r none (action_of c)
      → Next all all n link p m k v c (outcome r p m) (outcome r p k)
  next_unchanged r c own other effect =
      record {
        view = v;
        best = best;
        effect = subst (λ (t : Sent). Effect (last_place_at p) (share_of link) n v v r t (action_of c)) (sym (sends_none all c r other)) effect;
        same = refl;
        moved = unmoved;
        says = λ e. differ (sym e ∙ other);
        marks = λ e. refl;
        not_lent = own;
      }

  -- by a call's own refusals, since the port is fit in both memories
  pub by_gate : (g : ℕ) (c : Call) (o u : Outcome)
      → ((g ≡ 0 → ⊥) → Next all all n link p m k v c (refused g p m) (refused g p k))
      → (g ≡ 0 → Next all all n link p m k v c o u)
      → Next all all n link p m k v c (gated (lent_refusal p m) p m (gated g p m o)) (gated (lent_refusal p k) p k (gated g p k u))
  by_gate g c o u no-pass pass =
      rw (grants (lent_refusal p m) p m (gated g p m o) (fit_lent p m h.long h.fit), grants (lent_refusal p k) p k (gated g p k u) (fit_lent p k h.long_marked h.fit_marked))
      (⊎_elim
      (λ (e : g ≡ 0). rw (grants g p m o e, grants g p k u e) (pass e))
      (λ (z : g ≡ 0 → ⊥). rw (refuses g p m o z, refuses g p k u z) (no-pass z))
      (eq_or_not g 0))

  -- the same for a call that touches neither queues nor streams
  pub by_quiet_gate : (g : ℕ) (c : Call) (o u : Outcome) → Own g → Quiet (action_of c) → (g ≡ 0 → Next all all n link p m k v c o u)
      → Next all all n link p m k v c (gated (lent_refusal p m) p m (gated g p m o)) (gated (lent_refusal p k) p k (gated g p k u))
  by_quiet_gate g c o u own q pass =
      by_gate g c o u (λ z. next_unchanged (refused_by g) c own (quiet_no_transmit (action_of c) q) (quiet q refl (λ j. refl) (λ j. refl))) pass
