-- A stream that offers no more than P between ticks has each frame accepted as current, from its grant to its withdrawal; where no tick purges, it is
-- sent before the second tick after it. Assumes nothing.
use Prim.Native.Nat.{ℕ, suc, ◌+◌, ◌≤◌, ◌<◌}
use mathlib.Core.Bool.{Bool, true, false, and-false}
use mathlib.Core.Path.{◌≡◌, refl, sym, ap, subst, ◌∙◌}
use mathlib.Core.Logic.{◌⊎◌, inl, inr, ⊎_elim}
use mathlib.Core.List.{List, [], ◌∷◌, ◌++◌, append_assoc}
use native.Mathlib.Omega.{arith}
use borrow.Author.Tests.{eq-eqb, ne_eqb, lt-leb}
use lib.ListN.{length}
use lib.Dec.{eqb}
use Rattle.lists.specs.Each.{All}
use Rattle.lists.proofs.Order.{eq_or_not}
use Rattle.stream.specs.declared.Reply.{Reply}
use Rattle.stream.specs.declared.Stream.{Stream}
use Rattle.stream.specs.declared.Arrival.{Arrival}
use Rattle.stream.specs.declared.Arrival.TheVariants.{Joined, Discarded}
use Rattle.stream.specs.State.{current_place, reserve_of}
use Rattle.stream.specs.Steps.{arrive_of, tick_of}
use Rattle.stream.specs.Replies.{reply_of, stream_of}
use Rattle.stream.proofs.ArriveLaws.{joins_here, joined_cases}
use Rattle.stream.proofs.TickLaws.{tick_cases}
use Rattle.record.specs.Layout.{stream_count}
use Rattle.ranges.specs.Ranges.{least_charge, greatest_charge, charge_fits}
use Rattle.ranges.proofs.RangeLaws.{within_bounds}
use Rattle.port_laws.specs.Counting.{Action, action_of, to_arrive, to_reserve, to_withdraw, to_best_effort, to_frame, neither, to_tick, to_transmit}
use Rattle.guarantee.specs.Events.{Sent, Event, action}
use Rattle.guarantee.specs.Claims.{is_tick, NoTick, PurgesNothing, offer, offers, OffersWithin, is_withdraw_of, Stays, Prompt, ConformingPrompt}
use Rattle.lists.proofs.EachLaws.{differ, all_rest}
use Rattle.guarantee.proofs.Reservation.{Reservation, keeping, ticked, arrival_refusal, drains_not, ticked_keeping}
use Rattle.guarantee.proofs.Run.{View, Quiet, Arrives, Reserves, Withdraws, RefusesArrival, Effect, quiet, refuses_reservation, reserves, refuses_withdrawal, withdraws, refuses_arrival, arrives, ticks, sends, idles, Run}
use Rattle.guarantee.proofs.Room.{Sound, stays_sound}
use Rattle.guarantee.proofs.Purge.{tick_effect}
use Rattle.guarantee.proofs.Delay.{Rest, run_rest, waits_sent, accepted}

-- a stream that has offered so many octets since the last tick, all at current: what is left there, or P at next after an exact fit
abbrev Conforms : ℕ → Stream → ℕ → Type 0
Conforms permitted x offered =
    ((x.reserved ≡ true) × (x.permitted ≡ permitted))
    × (((x.place ≡ current_place) × (offered + x.left ≡ permitted)) ⊎ ((x.place ≡ current_place + 1) × ((x.left ≡ permitted) × (permitted ≤ offered))))

-- and that does not drain
abbrev ConformsYet : ℕ → Reservation → ℕ → Type 0
ConformsYet permitted x offered = Conforms permitted x.stream offered × (x.drain ≡ 0)

-- such a stream's next frame joins current
abbrev JoinsCurrent : ℕ → ℕ → Arrival → Type 0
JoinsCurrent permitted offered (Joined place y) = (place ≡ current_place) × Conforms permitted y offered
JoinsCurrent permitted offered (Discarded y) = ⊥

joins_current_lem : (last permitted offered : ℕ) (x : Stream) (a : ℕ) → current_place < last → Conforms permitted x offered → 0 < a → offered + a ≤ permitted
    → JoinsCurrent permitted (offered + a) (arrive_of last x a)
joins_current_lem last permitted offered x a more (same, inl (place, left)) some most =
    subst (JoinsCurrent permitted (offered + a)) (sym (joins_here last x a (omega arith)))
    (joined_cases last x a (JoinsCurrent permitted (offered + a)) (omega arith)
    (λ l. (place, (same, inl (place, omega arith))))
    (λ e p. (place, (same, inr (omega arith, (same.1, omega arith)))))
    (λ e p. absurd (omega arith)))
joins_current_lem last permitted offered x a more (same, inr (place, all)) some most = absurd (omega (arith, all.1))

-- a tick gives it all of P at current
conforms_tick : (permitted offered : ℕ) (x : Stream) → Conforms permitted x offered → Conforms permitted (tick_of x) 0
conforms_tick permitted offered x (same, at) =
    tick_cases x (λ y. Conforms permitted y 0)
    (λ h. (same, inl (refl, omega (arith, same.1))))
    (λ h.
    ⊎_elim
    (λ (c : (x.place ≡ current_place) × (offered + x.left ≡ permitted)). absurd (omega (arith, c.0)))
    (λ (d : (x.place ≡ current_place + 1) × ((x.left ≡ permitted) × (permitted ≤ offered))). (same, inl (omega (arith, d.0), omega (arith, d.1.0))))
    at)

ticked_conforms : (permitted offered : ℕ) (x : Reservation) → ConformsYet permitted x offered → ConformsYet permitted (ticked x) 0
ticked_conforms permitted offered x (h, keeps) = rw (ticked_keeping x keeps) (conforms_tick permitted offered x.stream h, refl)

-- the offers of one call
offer_else : (s r a tag : ℕ) → (r ≡ s → ⊥) → offer s (to_arrive r a tag) ≡ 0
offer_else s r a tag o = rw (ne_eqb r s o)

offer_own : (s r a tag : ℕ) → r ≡ s → charge_fits a ≡ true → offer s (to_arrive r a tag) ≡ a
offer_own s r a tag e fits = rw (eq-eqb r s e, fits)

offer_unfit : (s r a tag : ℕ) → charge_fits a ≡ false → offer s (to_arrive r a tag) ≡ 0
offer_unfit s r a tag unfit = rw (unfit, and-false (eqb r s))

quiet_offers : (s : ℕ) (c : Action) → Quiet c → offer s c ≡ 0
quiet_offers s (to_best_effort charge tag) q = refl
quiet_offers s (to_frame octets tag) q = refl
quiet_offers s neither q = refl
quiet_offers s to_tick q = elim q [ ]
quiet_offers s to_transmit q = elim q [ ]
quiet_offers s (to_reserve _ _) q = elim q [ ]
quiet_offers s (to_withdraw _) q = elim q [ ]
quiet_offers s (to_arrive _ _ _) q = elim q [ ]

-- no arrival of a fit charge on a reserved stream that does not drain is refused before its rule
pub allowed : (s : ℕ) (x : Reservation) (a : ℕ) → s < stream_count → x.drain ≡ 0 → x.stream.reserved ≡ true → charge_fits a ≡ true → arrival_refusal s x a ≡ 0
allowed s x a below keeps is fits = rw (lt-leb stream_count s below, drains_not x keeps, is, fits)

-- no second grant: a Reserve that is granted is of another stream
pub others_grant : (share : ℕ) (v w : View) (r : Reply) (s i p : ℕ) → (v.stream s).stream.reserved ≡ true → Reserves share v w r i p → w.stream s ≡ v.stream s
others_grant share v w r s i p is d =
    ⊎_elim
    (λ (e : s ≡ i). differ (sym is ∙ ap (λ (j : ℕ). (v.stream j).stream.reserved) e ∙ ap (λ (x : Reservation). x.stream.reserved) d.was_free))
    (λ (o : s ≡ i → ⊥). d.streams.1 s o)
    (eq_or_not s i)

-- and a Withdraw that is granted is of another stream, where this one stays
pub others_withdrawn : (last : ℕ) (v w : View) (r : Reply) (s i : ℕ) → (is_withdraw_of s (to_withdraw i) ≡ true → r.refusal ≡ 0 → ⊥) → Withdraws last v w r i
    → w.stream s ≡ v.stream s
others_withdrawn last v w r s i stays d =
    ⊎_elim
    (λ (e : s ≡ i). absurd (stays (eq-eqb i s (sym e)) d.accepted))
    (λ (o : s ≡ i → ⊥). d.streams.1 s o)
    (eq_or_not s i)

-- a stream as it was
conforms_kept : (permitted offered more : ℕ) (x y : Reservation) → y ≡ x → more ≡ 0 → ConformsYet permitted x offered → ConformsYet permitted y (offered + more)
conforms_kept permitted offered more x y same none h =
    let as_many : offered + more ≡ offered = omega arith in rw (as_many, same) h

module _ (last share n : ℕ) (v w : View) (r : Reply) (t : Sent) (s permitted offered : ℕ) (more : current_place < last) (below : s < stream_count)
    (h : ConformsYet permitted (v.stream s) offered) where
  -- its own arrival
  module _ (a tag : ℕ) (fits : charge_fits a ≡ true) (most : offered + a ≤ permitted) where
    own_joins : JoinsCurrent permitted (offered + a) (arrive_of last (v.stream s).stream a)
    own_joins = joins_current_lem last permitted offered (v.stream s).stream a more h.0 (omega (arith, (within_bounds least_charge greatest_charge a fits).0)) most

    -- the reply says current
    joined_reply : (z : Arrival) → JoinsCurrent permitted (offered + a) z → r ≡ reply_of z → (r.refusal ≡ 0) × (r.first ≡ current_place)
    joined_reply (Joined place y) j e = (ap (λ (x : Reply). x.refusal) e, ap (λ (x : Reply). x.first) e ∙ j.0)
    joined_reply (Discarded y) j e = absurd j

    joined_stream : (z : Arrival) → JoinsCurrent permitted (offered + a) z → Conforms permitted (stream_of z) (offered + a)
    joined_stream (Joined place y) j = j.1
    joined_stream (Discarded y) j = absurd j

    not_refused : {A : Type 0} → RefusesArrival v w r s a → A
    not_refused d = absurd (d.refused (allowed s (v.stream s) a below h.1 h.0.0.0 fits))

    pub own_reply_lem : Effect last share n v w r t (to_arrive s a tag) → (r.refusal ≡ 0) × (r.first ≡ current_place)
    own_reply_lem (quiet q e queues streams) = absurd q
    own_reply_lem (refuses_arrival e d) = not_refused d
    own_reply_lem (arrives e d) = joined_reply (arrive_of last (v.stream s).stream a) own_joins d.reply

  -- any call but a tick
  refused_conforms : (i a tag : ℕ) → RefusesArrival v w r i a → offered + offer s (to_arrive i a tag) ≤ permitted
      → ConformsYet permitted (w.stream s) (offered + offer s (to_arrive i a tag))
  refused_conforms i a tag d most =
      ⊎_elim
      (λ (e : i ≡ s). told (charge_fits a) refl e)
      (λ (o : i ≡ s → ⊥). conforms_kept permitted offered _ (v.stream s) (w.stream s) (d.streams s) (offer_else s i a tag o) h)
      (eq_or_not i s)
    where
      told : (b : Bool) → charge_fits a ≡ b → i ≡ s → ConformsYet permitted (w.stream s) (offered + offer s (to_arrive i a tag))
      told true fits e = absurd (d.refused (allowed i (v.stream i) a (omega arith) (ap (λ (j : ℕ). (v.stream j).drain) e ∙ h.1) (ap (λ (j : ℕ). (v.stream j).stream.reserved) e ∙ h.0.0.0) fits))
      told false unfit e = conforms_kept permitted offered _ (v.stream s) (w.stream s) (d.streams s) (offer_unfit s i a tag unfit) h

  arrived_conforms : (i a tag : ℕ) → Arrives last v w r (record { stream = i; charge = a; tag = tag; number = n }) → offered + offer s (to_arrive i a tag) ≤ permitted
      → ConformsYet permitted (w.stream s) (offered + offer s (to_arrive i a tag))
  arrived_conforms i a tag d most =
      ⊎_elim
      (λ (e : i ≡ s).
      let own = offer_own s i a tag e d.fits in
      rw (own, ← e, d.streams.0)
      (rw (← e) at (joined_stream a tag d.fits (omega (arith, own)) (arrive_of last (v.stream s).stream a) (own_joins a tag d.fits (omega (arith, own)))), refl))
      (λ (o : i ≡ s → ⊥). conforms_kept permitted offered _ (v.stream s) (w.stream s) (d.streams.1 s (λ e. o (sym e))) (offer_else s i a tag o) h)
      (eq_or_not i s)

conforms_after : (last share n : ℕ) (v w : View) (r : Reply) (t : Sent) (c : Action) (s permitted offered : ℕ) → current_place < last → s < stream_count
    → ConformsYet permitted (v.stream s) offered → Effect last share n v w r t c → is_tick c ≡ false → (is_withdraw_of s c ≡ true → r.refusal ≡ 0 → ⊥) → offered + offer s c ≤ permitted
    → ConformsYet permitted (w.stream s) (offered + offer s c)
conforms_after last share n v w r t c s permitted offered more below h (quiet q e queues streams) no_tick stays most =
    conforms_kept permitted offered (offer s c) (v.stream s) (w.stream s) (streams s) (quiet_offers s c q) h
conforms_after last share n v w r t c s permitted offered more below h (refuses_reservation e d) no_tick stays most =
    conforms_kept permitted offered 0 (v.stream s) (w.stream s) (d.streams s) refl h
conforms_after last share n v w r t c s permitted offered more below h (reserves {s = i} {permitted = p} e d) no_tick stays most =
    conforms_kept permitted offered 0 (v.stream s) (w.stream s) (others_grant share v w r s i p h.0.0.0 d) refl h
conforms_after last share n v w r t c s permitted offered more below h (refuses_withdrawal e d) no_tick stays most =
    conforms_kept permitted offered 0 (v.stream s) (w.stream s) (d.streams s) refl h
conforms_after last share n v w r t c s permitted offered more below h (withdraws {s = i} e d) no_tick stays most =
    conforms_kept permitted offered 0 (v.stream s) (w.stream s) (others_withdrawn last v w r s i stays d) refl h
conforms_after last share n v w r t c s permitted offered more below h (refuses_arrival {s = i} {charge = a} {tag = tag} e d) no_tick stays most =
    refused_conforms last share n v w r t s permitted offered more below h i a tag d most
conforms_after last share n v w r t c s permitted offered more below h (arrives {s = i} {charge = a} {tag = tag} e d) no_tick stays most =
    arrived_conforms last share n v w r t s permitted offered more below h i a tag d most
conforms_after last share n v w r t c s permitted offered more below h (ticks e d) no_tick stays most = differ no_tick
conforms_after last share n v w r t c s permitted offered more below h (sends k f fs d) no_tick stays most =
    conforms_kept permitted offered 0 (v.stream s) (w.stream s) (d.streams s) refl h
conforms_after last share n v w r t c s permitted offered more below h (idles e i queues streams) no_tick stays most =
    conforms_kept permitted offered 0 (v.stream s) (w.stream s) (streams s) refl h

-- what the stream may still offer before the next tick
abbrev MayOffer : ℕ → ℕ → ℕ → List Event → Type 0
MayOffer s permitted offered es = (between after : List Event) → es ≡ between ++ after → All NoTick between → offered + offers s between ≤ permitted

may_offer_on : (s permitted offered : ℕ) (e : Event) (es : List Event) → NoTick e → MayOffer s permitted offered (e ∷ es)
    → MayOffer s permitted (offered + offer s (action e)) es
may_offer_on s permitted offered e es no_tick may between after split no-ticks =
    omega (arith, may (e ∷ between) after (ap (λ (zs : List Event). e ∷ zs) split) (no_tick, no-ticks))

may_offer_anew : (s permitted : ℕ) (e : Event) (es : List Event) → OffersWithin s permitted (e ∷ es) → MayOffer s permitted 0 es
may_offer_anew s permitted e es within between after split no-ticks =
    omega (arith, within (e ∷ []) between after (ap (λ (zs : List Event). e ∷ zs) split) no-ticks)

within_on : (s permitted : ℕ) (e : Event) (es : List Event) → OffersWithin s permitted (e ∷ es) → OffersWithin s permitted es
within_on s permitted e es within before between after split = within (e ∷ before) between after (ap (λ (zs : List Event). e ∷ zs) split)

module _ (last share s permitted : ℕ) (more : current_place < last) (below : s < stream_count) (e : Event) (later tail : List Event) where
  -- the run where the stream's frame arrives, some events after its grant
  record AtArrival (n : ℕ) (earlier : List Event) : Type 0 where
    rest : Rest last share n earlier (e ∷ tail)
    offered : ℕ
    conforms : ConformsYet permitted (rest.view.stream s) offered
    may : MayOffer s permitted offered (e ∷ later)

  abbrev Arriving : List Event → Type 0
  Arriving earlier =
      (n : ℕ) (v : View) (offered : ℕ) → Run last share n v (earlier ++ (e ∷ tail)) → Sound last share v → ConformsYet permitted (v.stream s) offered
      → MayOffer s permitted offered (earlier ++ (e ∷ later)) → OffersWithin s permitted (earlier ++ (e ∷ later))
      → All (Stays s) (earlier ++ (e ∷ later)) → AtArrival n earlier

  one_later : (n : ℕ) (d : Event) (earlier : List Event) → AtArrival (suc n) earlier → AtArrival n (d ∷ earlier)
  one_later n d earlier a =
      record {
        rest =
            record {
              number = a.rest.number;
              view = a.rest.view;
              counted = omega (arith, a.rest.counted);
              run = a.rest.run;
              sound = a.rest.sound;
            };
        offered = a.offered;
        conforms = a.conforms;
        may = a.may;
      }

  arriving_step : (d : Event) (earlier : List Event) → Arriving earlier → Arriving (d ∷ earlier)
  arriving_step d earlier rest n v offered (w, effect, run) h conforms may within (stays, later-stays) = one_later n d earlier (told (is_tick (action d)) refl)
    where
      sound : Sound last share w
      sound = stays_sound last share n v w d.reply d.sent (action d) (omega arith) effect h

      told : (b : Bool) → is_tick (action d) ≡ b → AtArrival (suc n) earlier
      told true is =
          let ticks = tick_effect last share n v w d.reply d.sent (action d) effect is in
          rest (suc n) w 0 run sound (rw (ticks.streams s) (ticked_conforms permitted offered (v.stream s) conforms))
          (may_offer_anew s permitted d (earlier ++ (e ∷ later)) within)
          (within_on s permitted d (earlier ++ (e ∷ later)) within)
          later-stays
      told false is =
          rest (suc n) w (offered + offer s (action d)) run sound
          (conforms_after last share n v w d.reply d.sent (action d) s permitted offered more below conforms effect is stays
          (omega (arith, may (d ∷ []) (earlier ++ (e ∷ later)) refl (is, tt))))
          (may_offer_on s permitted offered d (earlier ++ (e ∷ later)) is may)
          (within_on s permitted d (earlier ++ (e ∷ later)) within)
          later-stays

  arriving_at : (earlier : List Event) → Arriving earlier
  arriving_at [] = λ n v offered run h conforms may within stays.
      record { rest = record { number = n; view = v; counted = omega arith; run = run; sound = h }; offered = offered; conforms = conforms; may = may }
  arriving_at (d ∷ earlier) = arriving_step d earlier (arriving_at earlier)

-- a Reserve without refusal
pub granted_reserve : (last share n : ℕ) (v w : View) (r : Reply) (t : Sent) (s permitted : ℕ) → Effect last share n v w r t (to_reserve s permitted) → r.refusal ≡ 0
    → Reserves share v w r s permitted
granted_reserve last share n v w r t s permitted (quiet q e queues streams) is = absurd q
granted_reserve last share n v w r t s permitted (refuses_reservation e d) is =
    absurd (d.refused (sym (ap (λ (x : Reply). x.refusal) d.reply) ∙ is))
granted_reserve last share n v w r t s permitted (reserves e d) is = d

-- the stream as its grant leaves it
conforms_granted : (permitted : ℕ) → ConformsYet permitted (keeping (reserve_of permitted)) 0
conforms_granted permitted = (((refl, refl), inl (refl, omega arith)), refl)

module _ (last share s permitted : ℕ) (more : current_place < last) (below : s < stream_count) (e : Event) (charge tag : ℕ) (call : action e ≡ to_arrive s charge tag)
    (fits : charge_fits charge ≡ true) where
  -- the frame where it arrives
  prompt_there : (n : ℕ) (earlier later tail : List Event) → AtArrival last share s permitted more below e later tail n earlier → All PurgesNothing tail
      → Prompt (record { stream = s; charge = charge; tag = tag; number = n + length earlier }) e tail
  prompt_there n earlier later tail a purges =
      let run = a.rest.run in
      let v = a.rest.view in
      let number = a.rest.number in
      let effect = subst (Effect last share number v run.0 e.reply e.sent) call run.1 in
      let no_tick : is_tick (action e) ≡ false = ap is_tick call in
      let own : offer s (action e) ≡ charge = ap (offer s) call ∙ offer_own s s charge tag refl fits in
      let most : a.offered + charge ≤ permitted = omega (arith, own, a.may (e ∷ []) later refl (no_tick, tt)) in
      let reply = own_reply_lem last share number v run.0 e.reply e.sent s permitted a.offered more below a.conforms charge tag fits most effect in
      let joined = accepted last share number v run.0 e.reply e.sent s charge tag effect a.rest.sound reply.0 in (
        reply.0,
        (
          reply.1,
          rw (← a.rest.counted)
              (waits_sent last share (omega arith) _ (suc number) e.reply.first run.0 _ tail run.2 purges joined.waits (omega (arith, reply.1))),
        ),
      )

pub prompt : (last share : ℕ) (v : View) (es : List Event) → current_place < last → Run last share 0 v es → Sound last share v → All PurgesNothing es
    → ConformingPrompt es
prompt last share v es more run h purges s permitted before while tail g split call is within stays earlier later e charge tag place arrival fits =
    let here = run_rest last share (omega arith) before (g ∷ (while ++ tail)) 0 v (subst (Run last share 0 v) split run) h in
    let w = here.run.0 in
    let effect = subst (Effect last share here.number here.view w g.reply g.sent) (ap action_of call) here.run.1 in
    let d = granted_reserve last share here.number here.view w g.reply g.sent s permitted effect is in
    let sound = stays_sound last share here.number here.view w g.reply g.sent (action g) (omega arith) here.run.1 here.sound in
    let apart : while ++ tail ≡ earlier ++ (e ∷ (later ++ tail)) = ap (λ (zs : List Event). zs ++ tail) place ∙ append_assoc earlier (e ∷ later) tail in
    let within-there = subst (OffersWithin s permitted) place within in
    let a = arriving_at last share s permitted more d.below e later (later ++ tail) earlier (suc here.number) w 0
    (subst (Run last share (suc here.number) w) apart here.run.2) sound
    (rw d.streams.0 (conforms_granted permitted))
    (λ between after f n. omega (arith, within-there [] between after f n))
    within-there (subst (All (Stays s)) place stays) in
    let later-purges = (all_rest PurgesNothing before (g ∷ (while ++ tail)) (subst (All PurgesNothing) split purges)).1 in
    subst (λ (i : ℕ). Prompt (record { stream = s; charge = charge; tag = tag; number = i }) e (later ++ tail)) (omega (arith, here.counted))
    (prompt_there last share s permitted more d.below e charge tag (ap action_of arrival) fits (suc here.number) earlier later (later ++ tail) a
    (all_rest PurgesNothing earlier (e ∷ (later ++ tail)) (subst (All PurgesNothing) apart later-purges)).1)
