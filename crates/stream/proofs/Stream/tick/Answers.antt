-- `stream::Stream::tick` meets its contract. Each return is one of the two ways of `TickLaws`. Assumes nothing.
use mathlib.Core.Path.{◌∙◌, sym}
use Rattle.stream.proofs.TickLaws.{stays_current, comes_nearer}
use Rattle.stream.proofs.Stream.tick.Goals as goal

pub returns-then-self-le-CURRENT : goal.returns-then-self-le-CURRENT
returns-then-self-le-CURRENT c = c.at.ensures ∙ sym (stays_current _ c.if-self-le-CURRENT.true)

pub returns : goal.returns
returns c = c.at-2.ensures ∙ sym (comes_nearer _ c.if-self-le-CURRENT.false)
