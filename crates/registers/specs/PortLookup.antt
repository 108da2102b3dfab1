-- The lookup on what is lent for a port, for those who measure: it writes nothing and asks for no memory, and takes the record as it is, fit or not.
use Rattle.std.specs.Prelude.{ℕ, cond, List, length, ltb}
use Rattle.stream.specs.declared.Reply.{Reply}
use Rattle.stream.specs.Replies.{refused_by}
use Rattle.binding.specs.Finding.{lookup, lookup_reply}
use Rattle.registers.specs.Lent.{port_length, record_part}

-- the reply of a lookup of an address and a VID; 19 of a slice that is too short is the only refusal
unfoldable pub port_lookup : List ℕ → ℕ → List ℕ → Reply
port_lookup address vid p = cond (ltb (length p) port_length) (refused_by 19) (lookup_reply (lookup (record_part p) address vid))
