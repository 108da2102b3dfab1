-- `registers::frame` meets its contract. The call that the frame becomes, on the record, and its note in the block; one of a length outside its
-- range on the record alone. Assumes nothing.
use Prim.Native.Nat.{ℕ}
use mathlib.Core.Path.{◌≡◌, refl, sym, ap, ◌∙◌}
use mathlib.Core.List.{List}
use borrow.Author.Rules.{rules}
use borrow.Author.Tests.{not-true, not-false}
use Rattle.stream.specs.Replies.{answered, refused_by, number_of}
use Rattle.stream.proofs.AnswerLaws.{answered_number}
use Rattle.header.proofs.HeaderLaws.{header_whole}
use Rattle.binding.specs.Finding.{frame_lookup}
use Rattle.port.specs.Calls.{called_by}
use Rattle.port_laws.proofs.FrameLaws.{frame_becomes_by}
use Rattle.registers.specs.Notes.{arrival_noted}
use Rattle.registers.proofs.PartLaws.{record_within, block_whole, front_whole, refused_short, made_noted}
use Rattle.registers.proofs.FrameLaws.{frame_arrives, frame_joins, frame_outside}
use Rattle.registers.proofs.frame.Goals as goal

pub returns-in_err-lengths : goal.returns-in_err-lengths
returns-in_err-lengths g c =
    let told : answered c.from_residual.result ≡ refused_by (number_of c.in_err-lengths.field-0.0) = search rules in
    refused_short (called_by g.L.Look.lent) _ _ _ _ _ told c.in_err-lengths.ensures

pub split_at_mut-record-requires : goal.split_at_mut-record-requires
split_at_mut-record-requires g c = record_within _ _ c.in_ok-lengths.ensures

pub returns-then-not-length_fits : goal.returns-then-not-length_fits
returns-then-not-length_fits g c =
    let s = c.split_at_mut-record.ensures in
    frame_outside (called_by g.L.Look.lent) _ _ _ _ _ _ _ _ _ _ c.in_ok-lengths.ensures s.front s.back c.length_fits.ensures (not-true _ c.if-not-length_fits.true-raw) c.frame.ensures

pub charge-charge-requires : goal.charge-charge-requires
charge-charge-requires g c = sym c.length_fits.ensures ∙ not-false _ c.if-not-length_fits.false-raw

pub of_frame-requires : goal.of_frame-requires
of_frame-requires g c = (front_whole _ c.split_at_mut-record.ensures.front_len, header_whole _ (sym c.length_fits.ensures ∙ not-false _ c.if-not-length_fits.false-raw))

pub arrive-requires : goal.arrive-requires
arrive-requires g c = block_whole _ _ _ c.in_ok-lengths.ensures c.split_at_mut-record.ensures.back_len

pub returns-in-Some : goal.returns-in-Some
returns-in-Some g c =
    let s = c.split_at_mut-record.ensures in
    frame_arrives (called_by g.L.Look.lent) (frame_becomes_by g.L.Look.lent) _ _ _ _ _ _ _ _ _ c.length_fits.ensures (not-false _ c.if-not-length_fits.false-raw)
    (c.of_frame.ensures ∙ ap (λ (l : List ℕ). frame_lookup l c.args.octets.now) s.front) c.in-Some.is c.charge-charge.ensures
    (made_noted (called_by g.L.Look.lent) _ _ _ _ _ c.in_ok-lengths.ensures s.front s.back _ _ _ _ c.arrive-answer.ensures
    (c.arrive.ensures ∙ ap (λ (n : ℕ). arrival_noted c.in-Some.stream n c.split_at_mut-record.result.1.now) (answered_number c.arrive-answer.result)))

pub returns-in-None : goal.returns-in-None
returns-in-None g c =
    let s = c.split_at_mut-record.ensures in
    frame_joins (called_by g.L.Look.lent) (frame_becomes_by g.L.Look.lent) _ _ _ _ _ _ _ _ c.length_fits.ensures (not-false _ c.if-not-length_fits.false-raw)
    (c.of_frame.ensures ∙ ap (λ (l : List ℕ). frame_lookup l c.args.octets.now) s.front) c.in-None.is c.charge-charge.ensures
    (made_noted (called_by g.L.Look.lent) _ _ _ _ _ c.in_ok-lengths.ensures s.front s.back _ _ _ _ c.best_effort.ensures refl)
