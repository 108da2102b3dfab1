-- The counts of a stream on what is lent for a port, for support: they are read without a choice, so that of the controller stands. It writes nothing and asks
-- for no memory, and takes the port as it is, open or closed, fit or not.
use Rattle.std.specs.Prelude.{ℕ, cond, List, length, leb, ltb}
use Rattle.stream.specs.declared.Reply.{Reply}
use Rattle.stream.specs.Replies.{granted, refused_by}
use Rattle.record.specs.Layout.{stream_count}
use Rattle.register_block.specs.Layout.{accepted_octet, discarded_octet}
use Rattle.register_block.specs.Fields.{word_at}
use Rattle.registers.specs.Lent.{port_length, block_part}

-- the accepted frames and the discards of stream s; 19 of a slice that is too short, and then 5, are the only refusals
unfoldable pub port_counts : ℕ → List ℕ → Reply
port_counts s p =
    cond (ltb (length p) port_length) (refused_by 19)
    (cond (leb stream_count s) (refused_by 5)
    (granted (word_at (block_part p) (accepted_octet s)) (word_at (block_part p) (discarded_octet s))))
