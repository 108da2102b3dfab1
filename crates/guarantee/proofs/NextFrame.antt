-- A Frame that is refused with 17 on a port that holds a view. Assumes nothing.
use Prim.Native.Nat.{ℕ}
use mathlib.Core.Bool.{false}
use mathlib.Core.Path.{◌≡◌}
use mathlib.Core.List.{List}
use native.Mathlib.Omega.{arith}
use Rattle.header.specs.Header.{length_fits}
use Rattle.gates.specs.FrameRefusals.{frame_refusal}
use Rattle.gates.specs.Becoming.{frame_step}
use Rattle.steps.specs.Call.{Call, framing}
use Rattle.port.specs.Calls.{called}
use Rattle.port_laws.proofs.FrameLaws.{frame_refused}
use Rattle.port_laws.proofs.GateNumbers.{refusal_own}
use Rattle.guarantee.specs.Events.{Marked, marked}
use Rattle.guarantee.proofs.Run.{View}
use Rattle.guarantee.proofs.Held.{Holds}
use Rattle.guarantee.proofs.Next.{Next, by_quiet_gate}

pub next_refused_frame : (all : List Call) (n link : ℕ) (p m k : List ℕ) (v : View) (best : List Marked) → Holds all link p m k v best
    → (octets : List ℕ) (tag : ℕ) → length_fits octets ≡ false
    → Next all all n link p m k v (framing octets tag) (called (framing octets tag) p m) (called (marked n (framing octets tag)) p k)
next_refused_frame all n link p m k v best h octets tag short =
    let seventeen = frame_refused p octets h.opened short in
    by_quiet_gate all n link p m k v best h (frame_refusal p octets) (framing octets tag) (frame_step p m octets tag) (frame_step p k octets n)
    (refusal_own (framing octets tag) p) tt (λ z. absurd (omega (arith, seventeen)))
