-- What small files print, by the definitions: two ports on one chain, and two refused files; and the call of kind 7. Assumes nothing.
use Prim.Native.Nat.{ℕ}
use mathlib.Core.Path.{◌≡◌, refl}
use mathlib.Core.List.{List, [], ◌∷◌, ◌++◌}
use Rattle.text.specs.Lines.{number_then, line_of}
use Rattle.text.specs.Digits.{digits, digits_within}
use Rattle.lists.specs.Equal.{octets_equal}
use Rattle.lists.specs.Turns.{all_to, sum_to, list_to, iterate}
use Rattle.octets.specs.Numbers.{two_of, four_of, four_octets}
use Rattle.queue.specs.Waiting.{waiting}
use Rattle.record.specs.Queues.{queues_at}
use Rattle.record.specs.Head.{open_at, with_open, prior_at, with_prior, delay_at, with_delay, link_at, with_link, waits_at, with_waits, queue_at, with_queue}
use Rattle.record.specs.Entry.{stream_at, with_stream, drain_at, drains_at, bound_at, vid_at, dropped}
use Rattle.fitness.specs.Fit.{record_fits, lent_refusal}
use Rattle.opening.specs.Opening.{opened_record}
use Rattle.gates.specs.Refusals.{open_refusal, reserve_refusal, withdraw_refusal, closed_refusal}
use Rattle.gates.specs.Table.{refusal_of}
use Rattle.port_laws.specs.Cases.{case_link}
use Rattle.capture_file.specs.File.{letters, letters_of, first_of, kind_of, stream_octet_of, next_of, number_a, number_b, end_of, chain_within}
use Rattle.capture_file.specs.Checks.{header_good, first_good, next_good, record_good, record_refusal, chain_refusal, port_refusal, ports_refusal, file_refusal}
use Rattle.capture.specs.Events.{call_of, call_at, event_line, lines_of}
use Rattle.capture.specs.Output.{ports_text, refused_word, output}

-- a header with these first indices for ports 0 and 1
abbrev header : ℕ → ℕ → List ℕ
header first second = letters ++ (0 ∷ first ∷ 0 ∷ second ∷ 0 ∷ 0 ∷ 0 ∷ 0 ∷ 0 ∷ 0 ∷ 0 ∷ 0 ∷ [])

-- the records of the opening of the cases, and then of reserve 5 200 with this next index
abbrev events : ℕ → List ℕ
events next =
    (1 ∷ 0 ∷ 0 ∷ 2 ∷ four_octets case_link) ++ (0 ∷ 0 ∷ 0 ∷ 1 ∷ 0 ∷ 0 ∷ 0 ∷ 0
    ∷ 2 ∷ 5 ∷ 0 ∷ next ∷ 0 ∷ 0 ∷ 0 ∷ 200 ∷ 0 ∷ 0 ∷ 0 ∷ 0 ∷ 0 ∷ 0 ∷ 0 ∷ 0 ∷ [])

-- two ports that share both records print the same lines, each from event 1 on a port of its own
pub two_ports : output (header 1 1 ++ events 0)
    ≡ line_of (0 ∷ 1 ∷ 1 ∷ 0 ∷ 600 ∷ 0 ∷ [])
    ++ line_of (0 ∷ 2 ∷ 2 ∷ 0 ∷ 400 ∷ 0 ∷ [])
    ++ line_of (1 ∷ 1 ∷ 1 ∷ 0 ∷ 600 ∷ 0 ∷ [])
    ++ line_of (1 ∷ 2 ∷ 2 ∷ 0 ∷ 400 ∷ 0 ∷ [])
unfolding number_then digits digits_within octets_equal all_to sum_to list_to iterate two_of four_of waiting open_at with_open prior_at with_prior delay_at with_delay link_at with_link waits_at with_waits queue_at queues_at with_queue stream_at with_stream drain_at drains_at bound_at vid_at dropped record_fits lent_refusal opened_record open_refusal reserve_refusal letters_of first_of kind_of stream_octet_of next_of number_a number_b end_of chain_within header_good first_good next_good record_good record_refusal chain_refusal port_refusal ports_refusal file_refusal call_at event_line lines_of ports_text output
two_ports = refl

-- a next index that is its record's own
pub refused_record : output (header 0 1 ++ events 2) ≡ refused_word ++ line_of (23 ∷ 2 ∷ [])
unfolding octets_equal all_to two_of four_of letters_of first_of kind_of stream_octet_of next_of number_a number_b end_of header_good first_good next_good record_good record_refusal chain_refusal port_refusal ports_refusal file_refusal output
refused_record = refl

-- a first index that is the record count
pub refused_first : output (header 0 3 ++ events 0) ≡ refused_word ++ line_of (23 ∷ 0 ∷ [])
unfolding octets_equal all_to two_of four_of letters_of first_of kind_of stream_octet_of next_of number_a number_b end_of header_good first_good next_good record_good record_refusal chain_refusal port_refusal ports_refusal file_refusal output
refused_first = refl

-- kind 7 is a withdrawal of its stream octet: an open port refuses one above 63
pub kind_7_withdraws : refusal_of (call_of 7 64 0 0) (1 ∷ []) ≡ 5
unfolding open_at withdraw_refusal closed_refusal
kind_7_withdraws = refl
