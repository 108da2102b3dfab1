-- What a call's reply does to the register block: flags and counts follow every call on the port, not only control writes.
use Rattle.std.specs.Prelude.{ℕ, cond, List, eqb}
use Rattle.stream.specs.declared.Reply.{Reply}
use Rattle.steps.specs.Call.{Call, opening, reserving, withdrawing, arriving, ticking, transmitting, joining_best_effort, binding, framing}
use Rattle.sending.specs.Sending.{nothing}
use Rattle.register_block.specs.Events.{accepted, discarded, withdrawn, purged, sent, sent_nothing, zeroed}

-- a granted Open: "from 0 at opening, as flags and mask do"; a refused one does nothing, and Open's emptying is no purge
unfoldable pub open_noted : ℕ → List ℕ → List ℕ
open_noted refusal b = cond (eqb refusal 0) (zeroed b) b

-- a granted Withdraw of stream s: its counts are of replies "since the latest opening or granted withdrawal"
unfoldable pub withdraw_noted : ℕ → ℕ → List ℕ → List ℕ
withdraw_noted s refusal b = cond (eqb refusal 0) (withdrawn s b) b

-- a frame of stream s that is accepted, or one that is discarded (14): "Of refusals only 14 sets a flag or count"
unfoldable pub arrival_noted : ℕ → ℕ → List ℕ → List ℕ
arrival_noted s refusal b = cond (eqb refusal 0) (accepted s b) (cond (eqb refusal 14) (discarded s b) b)

-- a granted Tick, by the number of frames purged: "purge of at least one frame"
unfoldable pub tick_noted : ℕ → ℕ → List ℕ → List ℕ
tick_noted refusal frames b = cond (eqb refusal 0) (cond (eqb frames 0) b (purged b)) b

-- a granted Transmit, by the stream that it replies: "nothing to send", or a frame of either sort sent
unfoldable pub transmit_noted : ℕ → ℕ → List ℕ → List ℕ
transmit_noted refusal stream b = cond (eqb refusal 0) (cond (eqb stream nothing) (sent_nothing b) (sent b)) b

-- the block after a call, by that which the call counts as and its reply: a Frame of a stream's pair counts as the arrival that it is, "frames bound to it
-- too"; frames of best effort are counted nowhere; a Frame that counts as itself was refused
abbrev pub noted : Call → Reply → List ℕ → List ℕ
noted (opening t) r b = open_noted r.refusal b
noted (reserving s permitted) r b = b
noted (withdrawing s) r b = withdraw_noted s r.refusal b
noted (arriving s charge tag) r b = arrival_noted s r.refusal b
noted ticking r b = tick_noted r.refusal r.first b
noted transmitting r b = transmit_noted r.refusal r.first b
noted (joining_best_effort charge tag) r b = b
noted (binding s address vid) r b = b
noted (framing octets tag) r b = b
