-- What closes the needs of code that asks a gate and then makes a step: the functions of this crate that differ in names alone cite this set.
use borrow.Author.Rules.{rules}
use Rattle.steps.proofs.OutcomeLaws.{refused_on, went_on, went_on_record}
use Rattle.gates.proofs.GateLaws.{open_link, open_delay, reserve_stream, stream_below, withdraw_stream, arrive_stream, arrive_charge, best_effort_charge, best_effort_free}
use Rattle.gates.proofs.FrameGateLaws.{bind_stream, bind_vid, frame_length, frame_header, became_arrival, became_best_effort}

pub ruleset gates = (refused_on, went_on, went_on_record, open_link, open_delay, reserve_stream, stream_below, withdraw_stream, arrive_stream, arrive_charge, best_effort_charge, best_effort_free, bind_stream, bind_vid, frame_length, frame_header, became_arrival, became_best_effort, rules)
