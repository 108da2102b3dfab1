-- A binding keeps a record fit. Assumes nothing.
use Prim.Native.Nat.{ℕ, ◌<◌}
use mathlib.Core.Path.{◌≡◌, refl, sym, ap, ap₂, ◌∙◌}
use mathlib.Core.Bool.{Bool, true, false, not, ◌&&◌, cond}
use mathlib.Core.Logic.{⊎_elim}
use mathlib.Core.List.{List}
use native.Mathlib.Omega.{arith}
use Rattle.lists.specs.Window.{get}
use Rattle.lists.proofs.Order.{eq_or_not}
use Rattle.lists.proofs.TurnLaws.{both, all_to_at, all_to_all}
use Rattle.record.specs.Layout.{stream_count, address_length}
use Rattle.record.specs.Queues.{best_effort_at}
use Rattle.record.specs.Entry.{stream_at, bound_at, vid_at, address_at, same_pair, with_binding}
use Rattle.record.proofs.QueueLaws.{queues_most, queues_binding}
use Rattle.record.proofs.BindingPairs.{length_binding, open_binding, prior_binding, delay_binding, link_binding, waits_binding, queue_binding, stream_binding, bound_binding, vid_binding, address_binding, other_bound_binding, other_vid_binding, other_address_binding}
use Rattle.record.proofs.DrainPairs.{drain_binding}
use Rattle.record.proofs.PairLaws.{pair_back}
use Rattle.ranges.specs.Ranges.{vid_fits}
use Rattle.fitness.specs.Clauses.{binding_fits, unlike_earlier}
use Rattle.fitness.specs.Fit.{record_fits}
use Rattle.fitness.proofs.FitLaws.{Fit, fit_record, record_fit}
use Rattle.binding.specs.Finding.{lookup, is_bound}
use Rattle.binding.proofs.FindingLaws.{free_pair}
use Rattle.port_laws.proofs.WriteFit.{plan_stays, same_stream}

-- a stream that is not bound to a pair is unbound, or bound to another
another : (bound same : Bool) → (bound && same) ≡ false → cond bound (not same) true ≡ true
another true same e = ap not e
another false same e = refl

-- a binding is fit where its stream is not bound, and where it is and fits
pub if_bound : (bound reserved vid unlike : Bool) → (bound ≡ true → (reserved && vid && unlike) ≡ true) → cond bound (reserved && vid && unlike) true ≡ true
if_bound true reserved vid unlike h = h refl
if_bound false reserved vid unlike h = refl

module _ (p m : List ℕ) (fit : Fit p m) (s : ℕ) (address : List ℕ) (vid : ℕ) (below : s < stream_count) (free : is_bound (lookup p address vid).found ≡ false) where
  abbrev after : List ℕ
  after = with_binding p s address vid

  -- the new binding's pair is another than that of each before it
  new_unlike : unlike_earlier after s ≡ true
  new_unlike =
      all_to_all (λ t. cond (bound_at after t) (not (same_pair (vid_at after t) (address_at after t) (vid_at after s) (address_at after s))) true) s
      (λ t b.
      let o : t ≡ s → ⊥ = λ e. omega arith in
      rw (other_bound_binding p s address vid t o, other_vid_binding p s address vid t o, other_address_binding p s address vid t o, vid_binding p s address vid fit.long below, address_binding p s address vid fit.long below)
      (another (bound_at p t) (same_pair (vid_at p t) (address_at p t) vid (get address 0 address_length)) (free_pair p address vid free t (omega arith))))

  -- and that of each other binding is another than the new one's, and than those that it was before
  other_unlike : (t : ℕ) → t < stream_count → (t ≡ s → ⊥) → bound_at p t ≡ true → unlike_earlier p t ≡ true → unlike_earlier after t ≡ true
  other_unlike t b other bound unlike =
      all_to_all (λ u. cond (bound_at after u) (not (same_pair (vid_at after u) (address_at after u) (vid_at after t) (address_at after t))) true) t
      (λ u c.
      rw (other_vid_binding p s address vid t other, other_address_binding p s address vid t other)
      (⊎_elim
      (λ (e : u ≡ s).
      let differ : same_pair (vid_at p t) (address_at p t) vid (get address 0 address_length) ≡ false =
      sym (ap (λ (x : Bool). x && same_pair (vid_at p t) (address_at p t) vid (get address 0 address_length)) bound) ∙ free_pair p address vid free t b in
      rw (e, bound_binding p s address vid fit.long below, vid_binding p s address vid fit.long below, address_binding p s address vid fit.long below)
      (ap not (pair_back vid (get address 0 address_length) (vid_at p t) (address_at p t) ∙ differ)))
      (λ (o : u ≡ s → ⊥).
      rw (other_bound_binding p s address vid u o, other_vid_binding p s address vid u o, other_address_binding p s address vid u o)
      (all_to_at (λ i. cond (bound_at p i) (not (same_pair (vid_at p i) (address_at p i) (vid_at p t) (address_at p t))) true) t u c unlike))
      (eq_or_not u s)))

  new_fits : (stream_at p s).reserved ≡ true → vid_fits vid ≡ true → binding_fits after s (unlike_earlier after s) ≡ true
  new_fits reserved range =
      let still : (stream_at after s).reserved ≡ true = rw (stream_binding p s address vid s) reserved in
      let good : vid_fits (vid_at after s) ≡ true = ap vid_fits (vid_binding p s address vid fit.long below) ∙ range in
      if_bound (bound_at after s) (stream_at after s).reserved (vid_fits (vid_at after s)) (unlike_earlier after s) (λ e. ap₂ ◌&&◌ (ap₂ ◌&&◌ still good) new_unlike)

  other_fits : (t : ℕ) → t < stream_count → (t ≡ s → ⊥) → binding_fits after t (unlike_earlier after t) ≡ true
  other_fits t b other =
      if_bound (bound_at after t) (stream_at after t).reserved (vid_fits (vid_at after t)) (unlike_earlier after t)
      (λ e.
      let bound : bound_at p t ≡ true = sym (other_bound_binding p s address vid t other) ∙ e in
      let was : ((stream_at p t).reserved && vid_fits (vid_at p t) && unlike_earlier p t) ≡ true = rw bound at (fit.bindings t b) in
      let front = both ((stream_at p t).reserved && vid_fits (vid_at p t)) (unlike_earlier p t) was in
      let still : ((stream_at after t).reserved && vid_fits (vid_at after t)) ≡ true = rw (stream_binding p s address vid t, other_vid_binding p s address vid t other) front.0 in
      ap₂ ◌&&◌ still (other_unlike t b other bound front.1))

  bindings_fit_lem : (stream_at p s).reserved ≡ true → vid_fits vid ≡ true → (t : ℕ) → t < stream_count → binding_fits after t (unlike_earlier after t) ≡ true
  bindings_fit_lem reserved range t b =
      ⊎_elim
      (λ (e : t ≡ s). rw e (new_fits reserved range))
      (λ (o : t ≡ s → ⊥). other_fits t b o)
      (eq_or_not t s)

-- a reserved stream, a VID in its range, and a pair to which no stream is bound
pub bind_fits : (p m : List ℕ) (s : ℕ) (address : List ℕ) (vid : ℕ) → record_fits p m ≡ true → s < stream_count → (stream_at p s).reserved ≡ true → vid_fits vid ≡ true
    → is_bound (lookup p address vid).found ≡ false
    → record_fits (with_binding p s address vid) m ≡ true
bind_fits p m s address vid h below reserved range free =
    let fit = fit_record p m h in
    let k = with_binding p s address vid in
    let same = queues_binding p s address vid in
    record_fit k m
    (record {
      long = omega (arith, length_binding p s address vid, fit.long);
      prior = omega (arith, prior_binding p s address vid, same, fit.prior);
      queues = λ q c. rw (queue_binding p s address vid q (omega (arith, queues_most k))) (fit.queues q (omega (arith, same)));
      streams = λ t c. rw (same, stream_binding p s address vid t, drain_binding p s t address vid) (fit.streams t c);
      bindings = bindings_fit_lem p m fit s address vid below free reserved range;
      frames = λ q c. rw (same, queue_binding p s address vid q (omega (arith, queues_most k))) (fit.frames q (omega (arith, same)));
      waits = rw (same, waits_binding p s address vid, queue_binding p s address vid (best_effort_at p) (omega (arith, queues_most p))) fit.waits;
      plan =
          plan_stays p k (λ t c. same_stream _ _ (stream_binding p s address vid t)) (open_binding p s address vid) (link_binding p s address vid) (delay_binding p s address vid)
          fit.plan;
    })
