-- `capture::events::Played::put_chain` meets its contract. What is written with the lines still to come is the lines of the chain. Assumes nothing.
use mathlib.Core.Path.{◌∙◌}
use Rattle.capture.proofs.PlayLaws.{goes_on}
use Rattle.capture.proofs.events.Played.put_chain.Goals as goal

pub loop-event-preserved : goal.loop-event-preserved
loop-event-preserved c =
    let l = c.loop-event in
    let w = c.put_event.ensures in
    record {
      file = c.new-event.ensures.of_file ∙ l.invariant.file;
      number = w.same_number ∙ l.invariant.number;
      lent = w.written.1 ∙ l.invariant.lent;
      came = rw (c.new-event.ensures.at_index, c.next.ensures, l.invariant.file)
          (goes_on _ _ _ _ _ _ _ _ _ _ _ _ _ c.loop-event-test.true l.invariant.came _ _ _ _ (rw (l.invariant.file, l.invariant.number) at w.written.0) (rw l.invariant.file at w.record_after) (rw l.invariant.file at w.memory_after) w.bound);
    }
