-- What happens to the block: the flags and counts of what calls reply, and the zeros of a granted Open.
use Rattle.std.specs.Prelude.{ℕ, ◌+◌, ◌%◌, ◌^◌, cond, List, [], ◌∷◌, nat_lt}
use Rattle.lists.specs.Window.{put}
use Rattle.lists.specs.Turns.{iterate}
use Rattle.record.specs.Layout.{stream_count}
use Rattle.register_block.specs.Layout.{block_length, discard_flag, purge_flag, nothing_flag, sent_octet, accepted_octet, discarded_octet}
use Rattle.register_block.specs.Fields.{with_flag, word_at, with_word}

-- "The counter registers wrap from 4,294,967,295 to 0": the counter at this octet raised by one
unfoldable pub raised : List ℕ → ℕ → List ℕ
raised b octet = with_word b octet ((word_at b octet + 1) % 2 ^ 32)

-- "held for each stream": a change for stream s, 0 to 63; for any other number there is none
abbrev pub for_stream : ℕ → (List ℕ → List ℕ) → List ℕ → List ℕ
for_stream s change b = cond (nat_lt s stream_count) (change b) b

-- a frame of stream s was accepted
unfoldable pub accepted : ℕ → List ℕ → List ℕ
accepted s = for_stream s (λ b. raised b (accepted_octet s))

-- a frame of stream s was discarded: a count, and a flag, which is the port's
unfoldable pub discarded : ℕ → List ℕ → List ℕ
discarded s b = with_flag (for_stream s (λ l. raised l (discarded_octet s)) b) discard_flag

-- stream s was withdrawn: its counts are of replies "since the latest opening or granted withdrawal", so both begin anew
unfoldable pub withdrawn : ℕ → List ℕ → List ℕ
withdrawn s = for_stream s (λ b. with_word (with_word b (accepted_octet s) 0) (discarded_octet s) 0)

-- a tick has purged at least one frame
abbrev pub purged : List ℕ → List ℕ
purged b = with_flag b purge_flag

-- a frame of either sort was sent
abbrev pub sent : List ℕ → List ℕ
sent b = raised b sent_octet

-- a transmit had nothing to send
abbrev pub sent_nothing : List ℕ → List ℕ
sent_nothing b = with_flag b nothing_flag

-- "from 0 at opening, as flags and mask do": all octets of the block are 0
unfoldable pub zeroed : List ℕ → List ℕ
zeroed = iterate (λ octet b. put b octet (0 ∷ [])) block_length
