-- The lookup: the stream that is bound to a pair of address and VID, with the number of address octets compared on the way, and so the stream of a frame
-- by its header.
use Rattle.std.specs.Prelude.{ℕ, zero, suc, ◌+◌, Bool, true, false, ◌&&◌, cond, List, get_or, eqb, Option, Some, None}
use Rattle.stream.specs.declared.Reply.{Reply}
use Rattle.stream.specs.Replies.{granted}
use Rattle.queue.specs.Place.{best_effort_stream}
use Rattle.record.specs.Layout.{stream_count, address_length}
use Rattle.record.specs.Entry.{bound_at, vid_at, address_at}
use Rattle.header.specs.Header.{tagged_frame, vid_of}
use Rattle.binding.specs.declared.Comparison.{Comparison}
use Rattle.binding.specs.declared.Answer.{Answer}

-- the first n octets of two addresses compared, where so many octets were compared before: "the address from its last octet back, up to the first octet
-- that differs", which has been compared and counts
unfoldable pub compared_back : List ℕ → List ℕ → ℕ → ℕ → Comparison
compared_back a b zero compared = record { equal = true; compared = compared }
compared_back a b (suc n) compared =
    cond (eqb (get_or a n 0) (get_or b n 0)) (compared_back a b n (compared + 1)) (record { equal = false; compared = compared + 1 })

-- a pair, whose address is the first six of these octets, compared with the binding of stream s, if it has one: "comparing the VID and, only where that
-- is equal, the address"
unfoldable pub compared_at : List ℕ → List ℕ → ℕ → ℕ → ℕ → Comparison
compared_at p address vid s compared =
    cond (bound_at p s && eqb (vid_at p s) vid) (compared_back (address_at p s) address address_length compared)
    (record { equal = false; compared = compared })

-- the n streams from s on: "go through the bindings by rising stream up to the one that matches"
unfoldable pub lookup_from : List ℕ → List ℕ → ℕ → ℕ → ℕ → ℕ → Answer
lookup_from p address vid s zero compared = record { found = None; compared = compared }
lookup_from p address vid s (suc n) compared =
    let here = compared_at p address vid s compared in
    cond here.equal (record { found = Some s; compared = here.compared }) (lookup_from p address vid (s + 1) n here.compared)

-- the lookup of an address and a VID: what it finds, and "beside the stream [..] exactly the number of address octets so compared"
unfoldable pub lookup : List ℕ → List ℕ → ℕ → Answer
lookup p address vid = lookup_from p address vid 0 stream_count 0

-- whether a stream is found
abbrev pub is_bound : Option ℕ → Bool
is_bound (Some s) = true
is_bound None = false

-- the answer as a reply: the stream, or best effort's where none is bound to the pair, and the number of octets compared
abbrev pub stream_found : Option ℕ → ℕ
stream_found (Some s) = s
stream_found None = best_effort_stream

abbrev pub lookup_reply : Answer → Reply
lookup_reply answer = granted (stream_found answer.found) answer.compared

-- the stream of a frame: "octets 0 to 5 are the destination. If octets 12 and 13 are 81 00 (hexadecimal), the VID is [..]"; without a VID there is
-- no pair
unfoldable pub frame_lookup : List ℕ → List ℕ → Option ℕ
frame_lookup p f = cond (tagged_frame f) (lookup p f (vid_of f)).found None
