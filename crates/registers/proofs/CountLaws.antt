-- The counts of a stream, as code asks for them. Assumes nothing.
use Prim.Native.Nat.{ℕ, ◌-◌, ◌≤◌, ◌<◌}
use mathlib.Core.Path.{◌≡◌, sym, ap, ap₂, ◌∙◌}
use mathlib.Core.Bool.{Bool, true, false, cond}
use mathlib.Core.List.{List}
use lib.ListN.{length}
use lib.Dec.{leb, ltb}
use borrow.Author.Tests.{lt-ltb, le-ltb, le-leb, lt-leb}
use borrow.Rule.Slice.PartMut.{mid_of}
use Rattle.stream.specs.declared.Reply.{Reply}
use Rattle.stream.specs.Replies.{granted, refused_by}
use Rattle.record.specs.Layout.{record_length, stream_count}
use Rattle.register_block.specs.Layout.{accepted_octet, discarded_octet}
use Rattle.register_block.specs.Fields.{word_at}
use Rattle.registers.specs.Lent.{port_length, WholePort, block_part}
use Rattle.registers.specs.StreamCounts.{port_counts}
use Rattle.registers.proofs.PartLaws.{block_mid}

module _ (s : ℕ) (p : List ℕ) where
  -- by two tests
  abbrev told_by : Bool → Bool → Reply
  told_by short none =
      cond short (refused_by 19) (cond none (refused_by 5) (granted (word_at (block_part p) (accepted_octet s)) (word_at (block_part p) (discarded_octet s))))

  by_tests : (short none : Bool) (r : Reply) → ltb (length p) port_length ≡ short → leb stream_count s ≡ none → r ≡ told_by short none → r ≡ port_counts s p
  unfolding port_counts
  by_tests short none r long above told = told ∙ sym (ap₂ told_by long above)

  -- a slice that is too short
  pub counts_short : (r : Reply) → r ≡ refused_by 19 → length p < port_length → r ≡ port_counts s p
  unfolding port_counts
  counts_short r told short = told ∙ sym (ap (λ (b : Bool). told_by b (leb stream_count s)) (lt-ltb (length p) port_length short))

  -- a number that is no stream's
  pub counts_none : (r : Reply) → r ≡ refused_by 5 → WholePort p → stream_count ≤ s → r ≡ port_counts s p
  counts_none r told whole above = by_tests false true r (le-ltb (length p) port_length whole) (le-leb stream_count s above) told

  -- and a stream
  pub counts_stream_of : (r : Reply) → WholePort p → s < stream_count → r ≡ granted (word_at (block_part p) (accepted_octet s)) (word_at (block_part p) (discarded_octet s))
      → r ≡ port_counts s p
  counts_stream_of r whole below told = by_tests false false r (le-ltb (length p) port_length whole) (lt-leb stream_count s below) told

  -- whose counts code reads in the block's part
  pub counts_stream : (accepted discarded : ℕ) (r : Reply) → WholePort p → s < stream_count
      → accepted ≡ word_at (mid_of record_length (length p - record_length) p) (accepted_octet s)
      → discarded ≡ word_at (mid_of record_length (length p - record_length) p) (discarded_octet s) → r ≡ granted accepted discarded → r ≡ port_counts s p
  counts_stream accepted discarded r whole below first second told =
      counts_stream_of r whole below
      (told
      ∙ ap₂ granted (first ∙ ap (λ (b : List ℕ). word_at b (accepted_octet s)) (block_mid p)) (second ∙ ap (λ (b : List ℕ). word_at b (discarded_octet s)) (block_mid p)))
