-- A call with its arguments as one value: whatever is said of every call is said of this.
use Rattle.std.specs.Prelude.{ℕ, List}

-- what an Open asks for: L, the link octets in an epoch, and K, the best-effort delay bound in epochs
pub record Terms : Type 0 where
  pub link : ℕ
  pub delay : ℕ

-- Open's arguments as one value
abbrev pub terms : ℕ → ℕ → Terms
terms link delay = record { link = link; delay = delay }

-- Open(L, K), Reserve(s, P), Withdraw(s), Arrive(s, a, tag), Tick, Transmit, Best effort(a, tag), Bind(s, address, VID), Frame(octets, tag)
pub data Call : Type 0 where
  opening : Terms → Call
  reserving : ℕ → ℕ → Call
  withdrawing : ℕ → Call
  arriving : ℕ → ℕ → ℕ → Call
  ticking : Call
  transmitting : Call
  joining_best_effort : ℕ → ℕ → Call
  binding : ℕ → List ℕ → ℕ → Call
  framing : List ℕ → ℕ → Call
