-- `stream::Stream::arrive` meets its contract. Each return is one of the ways of `ArriveLaws`. Assumes nothing.
use mathlib.Core.Path.{◌∙◌, sym}
use Rattle.stream.proofs.ArriveLaws.{joins_here, joins_next_lem, discards_over, discards_at_last}
use Rattle.stream.proofs.Stream.arrive.Goals as goal

pub returns-then-charge-self : goal.returns-then-charge-self
returns-then-charge-self c = c.joined.ensures ∙ sym (joins_here _ _ _ c.if-charge-self.true)

pub returns-then-self-charge : goal.returns-then-self-charge
returns-then-self-charge c = c.discarded.ensures ∙ sym (discards_over _ _ _ c.if-charge-self.false c.if-self-charge.true)

pub returns-then-self-last : goal.returns-then-self-last
returns-then-self-last c = c.joined_next.ensures ∙ sym (joins_next_lem _ _ _ c.if-charge-self.false c.if-self-last.true c.if-self-charge.false)

pub returns : goal.returns
returns c = c.discarded-2.ensures ∙ sym (discards_at_last _ _ _ c.if-charge-self.false c.if-self-last.false)
