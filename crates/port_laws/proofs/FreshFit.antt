-- A port that was never opened, and its memory, are fit. Assumes nothing.
use mathlib.Core.Path.{◌≡◌, refl}
use mathlib.Core.Bool.{true}
use Rattle.port_laws.specs.Lists.{fresh_record, fresh_memory}
use Rattle.lists.specs.Turns.{all_to, sum_to, list_to}
use Rattle.octets.specs.Numbers.{two_of, four_of}
use Rattle.queue.specs.Waiting.{waiting}
use Rattle.record.specs.Queues.{queues_at}
use Rattle.record.specs.Head.{open_at, prior_at, delay_at, link_at, waits_at, queue_at}
use Rattle.record.specs.Entry.{stream_at, drain_at, bound_at, vid_at}
use Rattle.fitness.specs.Fit.{record_fits}

pub fresh_fits : record_fits fresh_record fresh_memory ≡ true
unfolding all_to sum_to list_to two_of four_of waiting open_at prior_at delay_at link_at waits_at queue_at queues_at stream_at drain_at bound_at vid_at record_fits
fresh_fits = refl
