-- What `replay` prints of a file of any octets, and what it leaves of the memory for the text.
use Rattle.std.specs.Prelude.{ℕ, zero, suc, ◌-◌, ◌*◌, ◌/◌, cond, List, [], ◌∷◌, ◌++◌, length, eqb, ltb}
use Rattle.lists.specs.Window.{put}
use Rattle.stream.specs.declared.Reply.{Reply}
use Rattle.stream.specs.Replies.{granted, refused_by}
use Rattle.text.specs.Lines.{space, line_of}
use Rattle.capture_file.specs.File.{port_count, record_octets}
use Rattle.capture_file.specs.Checks.{FileRefusal, most_octets, file_refusal}
use Rattle.capture.specs.Events.{port_text}

-- "port after port": the lines of the ports below n
unfoldable pub ports_text : List ℕ → ℕ → List ℕ
ports_text f zero = []
ports_text f (suc n) = ports_text f n ++ port_text f n

-- "a bad file prints only `refused N I`", in ASCII, the word with the space after it
abbrev pub refused_word : List ℕ
refused_word = 114 ∷ 101 ∷ 102 ∷ 117 ∷ 115 ∷ 101 ∷ 100 ∷ space ∷ []

abbrev pub refusal_text : FileRefusal → List ℕ
refusal_text r = refused_word ++ line_of (r.number ∷ r.index ∷ [])

-- the whole output: "All checks of the file come before any event"
unfoldable pub output : List ℕ → List ℕ
output f = cond (eqb (file_refusal f).number 0) (ports_text f port_count) (refusal_text (file_refusal f))

-- no line has more octets than this: a port and a kind of one digit, an event's number of four, a refusal of three, two numbers of ten, and six octets
-- between and after them
abbrev pub line_bound : ℕ
line_bound = 35

-- no text of a port has more: a line for each record after the header of the longest file
abbrev pub port_text_bound : ℕ
port_text_bound = (most_octets / record_octets - 1) * line_bound

-- the octets that the memory for the text must have
abbrev pub text_length : ℕ
text_length = port_count * port_text_bound

-- the reply and the memory for the text
pub record Replayed : Type 0 where
  pub reply : Reply
  pub text : List ℕ

abbrev pub replayed : Reply → List ℕ → Replayed
replayed reply text = record { reply = reply; text = text }

-- 18 where the memory for the text is too short, which then stays as it is; else the output from its front on, and the reply is the output's
-- length and 0
unfoldable pub replay_of : List ℕ → List ℕ → Replayed
replay_of f t = cond (ltb (length t) text_length) (replayed (refused_by 18) t) (replayed (granted (length (output f)) 0) (put t 0 (output f)))
