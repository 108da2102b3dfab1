-- `stream::Stream::discarded` meets its contract. The callee's result. Assumes nothing.
use mathlib.Core.Path.{ap}
use Rattle.stream.specs.declared.Arrival.TheVariants.{Discarded}
use Rattle.stream.proofs.Stream.discarded.Goals as goal

pub returns : goal.returns
returns c = ap Discarded c.at.ensures
