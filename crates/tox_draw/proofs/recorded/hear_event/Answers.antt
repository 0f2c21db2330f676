-- Each event is heard.
use Rattle.std.proofs.Common.{refl, sym, ap, subst}
use Rattle.tox_link.specs.declared.notes.LinkEvent.TheVariants.{Piece, SourceEnd, Wrote}
use Rattle.tox_draw.specs.declared.link_end.LinkEnd.TheVariants.{Missing}
use Rattle.tox_draw.specs.declared.recorded.Hearing.{Hearing}
use Rattle.tox_draw.specs.Hearings.{HearsEvent}
use Rattle.tox_draw.proofs.HeardEvents.{hears-piece, hears-source_end, hears-wrote}
use Rattle.tox_draw.proofs.recorded.hear_event.Goals as goal

pub returns-in-Piece-clause-hears : goal.returns-in-Piece-clause-hears
returns-in-Piece-clause-hears c =
    let frame = c.args.frame.now in
    let old = c.args.hearing.now in
    let before = c.args.runner.now in
    let after = c.take_piece.new.runner in
    let len = c.in-Piece.len in
    let t = c.in-Piece.instant in
    let new : Hearing = record old { strands = c.take_piece.new.self; latest = t; end = Missing t } in
    let heard : HearsEvent frame old before (Piece len t) new after = hears-piece frame old new before after len t c.take_piece.ensures.arrived
    c.take_piece.ensures.due c.take_piece.ensures.kept.0 refl refl refl in
    subst (λ event. HearsEvent frame old before event c.read_at.new.hearing after) (sym c.in-Piece.is)
    (subst (λ hearing. HearsEvent frame old before (Piece len t) hearing after) (sym c.read_at.ensures) heard)

pub returns-in-SourceEnd-clause-hears : goal.returns-in-SourceEnd-clause-hears
returns-in-SourceEnd-clause-hears c =
    let frame = c.args.frame.now in
    let old = c.args.hearing.now in
    let before = c.args.runner.now in
    let after = c.take_end.new.runner in
    let t = c.in-SourceEnd.instant in
    let ended = c.take_end.ensures.ended in
    let new : Hearing = record old { strands = c.take_end.new.self; latest = t; end = Missing t } in
    let heard : HearsEvent frame old before (SourceEnd t) new after = hears-source_end frame old new before after t (ap (λ strands. strands.arrived) ended)
    (ap (λ strands. strands.planned) ended) (c.take_end.ensures.due frame) (ap (λ strands. strands.source_end) ended) refl refl refl in
    subst (λ event. HearsEvent frame old before event c.read_at-in-SourceEnd.new.hearing after) (sym c.in-SourceEnd.is)
    (subst (λ hearing. HearsEvent frame old before (SourceEnd t) hearing after) (sym c.read_at-in-SourceEnd.ensures) heard)

pub returns-in-Wrote-clause-hears : goal.returns-in-Wrote-clause-hears
returns-in-Wrote-clause-hears c =
    let frame = c.args.frame.now in
    let old = c.args.hearing.now in
    let runner = c.args.runner.now in
    let slice = c.in-Wrote.slice in
    let reading = c.in-Wrote.reading in
    let new : Hearing = record old { written = c.add.new.self; latest = reading; end = Missing reading } in
    let heard : HearsEvent frame old runner (Wrote slice reading) new runner =
    hears-wrote frame old new runner slice reading c.saturating_sub-len.result refl c.saturating_sub-len.ensures c.add.ensures refl refl in
    subst (λ event. HearsEvent frame old runner event c.read_at-in-Wrote.new.hearing runner) (sym c.in-Wrote.is)
    (subst (λ hearing. HearsEvent frame old runner (Wrote slice reading) hearing runner) (sym c.read_at-in-Wrote.ensures) heard)
