-- Which actions are no tick, are no transmit, are no stream's own and send nothing, and what is no reserved frame. Assumes nothing.
use Prim.Native.Nat.{ℕ}
use mathlib.Core.Bool.{Bool, false, ◌||◌, cond}
use mathlib.Core.Path.{◌≡◌, refl, ap}
use mathlib.Core.List.{List}
use native.Mathlib.Omega.{arith}
use lib.ListN.{get_or}
use Rattle.stream.specs.declared.Reply.{Reply}
use Rattle.steps.specs.Call.{Call, ticking}
use Rattle.port_laws.specs.Counting.{Action, action_of, to_best_effort, to_frame, neither, to_tick, to_transmit, to_reserve, to_withdraw, to_arrive}
use Rattle.guarantee.specs.Events.{Marked, reserved_sent, best_effort_sent, none, brought_by, is_transmit, sent_by}
use Rattle.guarantee.specs.Claims.{is_tick, is_reserve_of, is_withdraw_of, is_arrive_of}
use Rattle.guarantee.proofs.Run.{Quiet}

-- a quiet action is no tick, no transmit and no stream's own
pub quiet_no_tick : (c : Action) → Quiet c → is_tick c ≡ false
quiet_no_tick (to_best_effort charge tag) q = refl
quiet_no_tick (to_frame octets tag) q = refl
quiet_no_tick neither q = refl
quiet_no_tick to_tick q = elim q [ ]
quiet_no_tick to_transmit q = elim q [ ]
quiet_no_tick (to_reserve _ _) q = elim q [ ]
quiet_no_tick (to_withdraw _) q = elim q [ ]
quiet_no_tick (to_arrive _ _ _) q = elim q [ ]

pub quiet_no_transmit : (c : Action) → Quiet c → is_transmit c ≡ false
quiet_no_transmit (to_best_effort charge tag) q = refl
quiet_no_transmit (to_frame octets tag) q = refl
quiet_no_transmit neither q = refl
quiet_no_transmit to_tick q = elim q [ ]
quiet_no_transmit to_transmit q = elim q [ ]
quiet_no_transmit (to_reserve _ _) q = elim q [ ]
quiet_no_transmit (to_withdraw _) q = elim q [ ]
quiet_no_transmit (to_arrive _ _ _) q = elim q [ ]

pub quiet_no_reserve : (s : ℕ) (c : Action) → Quiet c → is_reserve_of s c ≡ false
quiet_no_reserve s (to_best_effort charge tag) q = refl
quiet_no_reserve s (to_frame octets tag) q = refl
quiet_no_reserve s neither q = refl
quiet_no_reserve s to_tick q = elim q [ ]
quiet_no_reserve s to_transmit q = elim q [ ]
quiet_no_reserve s (to_reserve _ _) q = elim q [ ]
quiet_no_reserve s (to_withdraw _) q = elim q [ ]
quiet_no_reserve s (to_arrive _ _ _) q = elim q [ ]

pub quiet_neither : (s : ℕ) (c : Action) → Quiet c → (is_withdraw_of s c || is_arrive_of s c) ≡ false
quiet_neither s (to_best_effort charge tag) q = refl
quiet_neither s (to_frame octets tag) q = refl
quiet_neither s neither q = refl
quiet_neither s to_tick q = elim q [ ]
quiet_neither s to_transmit q = elim q [ ]
quiet_neither s (to_reserve _ _) q = elim q [ ]
quiet_neither s (to_withdraw _) q = elim q [ ]
quiet_neither s (to_arrive _ _ _) q = elim q [ ]

-- a call that is no transmit sends nothing
pub sends_none : (earlier : List Call) (c : Call) (shown : Reply) → is_transmit (action_of c) ≡ false → sent_by earlier c shown ≡ none
sends_none earlier c shown h = ap (λ (b : Bool). cond b (brought_by shown.second (action_of (get_or earlier shown.second ticking))) none) h

-- a frame of best effort is no reserved frame, nor is none
pub not_reserved : (f g : Marked) → best_effort_sent f ≡ reserved_sent g → ⊥
not_reserved f g e = let z : ◌≡◌ {A = ℕ} 0 1 = cc in omega arith

pub none_reserved : (g : Marked) → none ≡ reserved_sent g → ⊥
none_reserved g e = let z : ◌≡◌ {A = ℕ} 0 1 = cc in omega arith
