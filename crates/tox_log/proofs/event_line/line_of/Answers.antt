-- A line is cut at its first space.
use Rattle.std.proofs.Common.{sym, ◌∙◌}
use Rattle.std.specs.Cmp.Lexicographic.{other_text}
use Rattle.tox_log.proofs.NoLines.{no_reading, no_space, reads-same, unread}
use Rattle.tox_log.proofs.event_line.line_of.Goals as goal

pub returns-in_err-first : goal.returns-in_err-first
returns-in_err-first c = unread _ _ c.from_residual.ensures (no_space c.args.text.now c.in_err-first.ensures.cut)

pub returns-in_err-reading : goal.returns-in_err-reading
returns-in_err-reading c = reads-same _ _ _ c.in_ok-first.ensures.cut.1 (unread _ _ c.from_residual-in_err-reading.ensures
    (no_reading c.in_ok-first.first.now c.in_ok-first.rest.now c.in_ok-first.ensures.cut.0 (λ is. other_text _ _ c.if-eq.ensures (is ∙ sym c.as_slice.ensures))
    c.in_err-reading.ensures))
