-- The header, and then the lines behind it.
use Rattle.std.proofs.Common.{ℕ, ◌+◌, [], length, refl, sym, subst}
use Rattle.tox_log.specs.Left.{IsHeardTo}
use Rattle.tox_log.proofs.Faults.{failed-so, same-deep, same-fault}
use Rattle.tox_time.specs.streams.StreamPosition.{first_position}
use Rattle.tox_log.specs.Hearing.{SaysOf, SaysSo}
use Rattle.tox_log.specs.Reading.{to_hand}
use Rattle.tox_log.proofs.Keeping.{meaning-of, no-refusal}
use Rattle.tox_log.proofs.Hearing.{faithful-text, refused-text, unfinished-text}
use Rattle.tox_log.proofs.replay.judge_log.Goals as goal

pub returns-clause-faithful : goal.returns-clause-faithful
returns-clause-faithful g c = λ ending faithful.
    faithful-text (g.R.Source.remaining c.args.reader.now) (g.R.Source.remaining c.new.new.reader) c.in_ok-log.log c.hear_lines.new.log c.in_ok-hearing.hearing
    c.hear_lines.new.hearing _
    c.in_ok-log.ensures.opens c.in_ok-hearing.ensures.begins c.in_ok-hear_lines.ensures.says
    (record { verdict = refl; broken = refl; heard = refl; said = refl; source_end = refl; reset = refl; writes = refl; late = c.percentiles-late.ensures })
    c.into_parts-heading.ensures.0 c.into_parts-heading.ensures.1 c.in_ok-log.ensures.numbered ending faithful

pub returns-clause-refused : goal.returns-clause-refused
returns-clause-refused g c = λ number unfaithful.
    refused-text (g.R.Source.remaining c.args.reader.now) (g.R.Source.remaining c.new.new.reader) c.in_ok-log.log c.hear_lines.new.log c.in_ok-hearing.hearing
    c.hear_lines.new.hearing _
    c.in_ok-log.ensures.opens c.in_ok-hearing.ensures.begins c.in_ok-hear_lines.ensures.says
    (record { verdict = refl; broken = refl; heard = refl; said = refl; source_end = refl; reset = refl; writes = refl; late = c.percentiles-late.ensures })
    c.into_parts-heading.ensures.0 c.into_parts-heading.ensures.1 c.in_ok-log.ensures.numbered number unfaithful

pub returns-clause-unfinished : goal.returns-clause-unfinished
returns-clause-unfinished g c = λ unfinished.
    unfinished-text (g.R.Source.remaining c.args.reader.now) (g.R.Source.remaining c.new.new.reader) c.in_ok-log.log c.hear_lines.new.log
    c.in_ok-hearing.hearing c.hear_lines.new.hearing _
    c.in_ok-log.ensures.opens c.in_ok-hearing.ensures.begins c.in_ok-hear_lines.ensures.says
    (record { verdict = refl; broken = refl; heard = refl; said = refl; source_end = refl; reset = refl; writes = refl; late = c.percentiles-late.ensures })
    c.into_parts-heading.ensures.0 c.into_parts-heading.ensures.1 c.in_ok-log.ensures.numbered unfinished

pub returns-in_err-log-clause-reads : goal.returns-in_err-log-clause-reads
returns-in_err-log-clause-reads g c = λ written text. failed-so c.from_residual.result _ _ _ c.from_residual.ensures.1
    (λ fault is. same-fault fault c.in_err-log.field-0.0 is (c.in_err-log.ensures.reads written text).0)

pub returns-in_err-hear_lines-clause-reads : goal.returns-in_err-hear_lines-clause-reads
returns-in_err-hear_lines-clause-reads g c = λ written text.
    let opened = c.in_ok-log.ensures.reads written text in
    failed-so c.from_residual-in_err-hear_lines.result _ _ _ c.from_residual-in_err-hear_lines.ensures.1
    (λ fault is. same-fault fault c.in_err-hear_lines.field-0.0 is
    (c.in_err-hear_lines.ensures.reads written.lines opened.left (subst (IsHeardTo c.in_ok-hearing.hearing.judge) (sym c.in_ok-log.ensures.opens.start)
    c.in_ok-hearing.ensures.start)))

pub returns-clause-keeps : goal.returns-clause-keeps
returns-clause-keeps g c = λ written given link number unfaithful.
    let heard = c.in_ok-hear_lines.ensures.says in
    let opened = c.in_ok-log.ensures.reads written given in
    let begun = c.in_ok-hearing.ensures.begins in
    let start : ℕ = 4 + length c.in_ok-log.log.chain.entries in
    let says : SaysOf start begun.means [] c.in_ok-log.log.over c.in_ok-hearing.hearing =
    subst (λ over. SaysOf start begun.means [] over c.in_ok-hearing.hearing) (sym c.in_ok-log.ensures.opens.going) (begun.says start) in
    let refusal = (subst (SaysSo start begun.means heard.text c.hear_lines.new.log.over c.hear_lines.new.hearing) unfaithful
    (heard.says start begun.means c.in_ok-log.ensures.numbered says)).1 in
    no-refusal begun.means link.reported written.lines first_position given.writable.lines
    (link.lines begun.means (meaning-of c.in_ok-log.log written begun.means opened.heading opened.chain begun.meaning))
    start number heard.text opened.left.torn (to_hand c.in_ok-log.log (g.R.Source.remaining c.new.new.reader)) heard.left opened.left.bytes heard.given
    opened.left.unended refusal

pub returns-in_err-log-clause-finds_room : goal.returns-in_err-log-clause-finds_room
returns-in_err-log-clause-finds_room g c = λ written text shallow. failed-so c.from_residual.result _ _ _ c.from_residual.ensures.1
    (λ fault is. same-deep fault c.in_err-log.field-0.0 is (c.in_err-log.ensures.reads written text).1)

pub returns-in_err-hear_lines-clause-finds_room : goal.returns-in_err-hear_lines-clause-finds_room
returns-in_err-hear_lines-clause-finds_room g c = λ written text shallow.
    let opened = c.in_ok-log.ensures.reads written text in
    let begun = c.in_ok-hearing.ensures.judged in
    failed-so c.from_residual-in_err-hear_lines.result _ _ _ c.from_residual-in_err-hear_lines.ensures.1
    (λ fault is. same-deep fault c.in_err-hear_lines.field-0.0 is
    (c.in_err-hear_lines.ensures.finds_room begun.0 [] written.lines begun.1 opened.left shallow))
