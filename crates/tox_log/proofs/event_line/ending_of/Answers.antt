-- The name and the instant are as they are printed, or it is no line.
use Rattle.std.proofs.Common.{rules, sym, ◌∙◌, codes, decimal, append_assoc}
use Rattle.std.specs.Cmp.Lexicographic.{other_text}
use Rattle.tox_log.proofs.LineParts.{ending-parts}
use Rattle.tox_log.proofs.NoLines.{no_ending, reads-same, unread}
use Rattle.tox_log.proofs.event_line.ending_of.Goals as goal

pub returns-then-eq : goal.returns-then-eq
returns-then-eq c = (
  ending-parts (decimal c.args.reading.now) c.args.name.now c.args.instant.now (codes "closed") (decimal c.in_ok-instant.instant) (search rules)
      c.in_ok-instant.ensures.1,
  (c.requires.reading, c.in_ok-instant.ensures.0),
)

pub returns-then-eq-2 : goal.returns-then-eq-2
returns-then-eq-2 c = (
  ending-parts (decimal c.args.reading.now) c.args.name.now c.args.instant.now (codes "reset") (decimal c.in_ok-instant.instant) (search rules)
      c.in_ok-instant.ensures.1,
  (c.requires.reading, c.in_ok-instant.ensures.0),
)

pub returns-in_err-instant : goal.returns-in_err-instant
returns-in_err-instant c = reads-same _ _ _ (simp append_assoc) (unread _ _ c.from_residual.ensures
    (no_ending c.args.reading.now c.args.name.now c.args.instant.now c.requires.reading c.requires.one_word c.requires.no_event.0 c.requires.no_event.1
    c.requires.no_event.2
    (λ is. c.in_err-instant.ensures) (λ is. c.in_err-instant.ensures)))

pub returns : goal.returns
returns c = λ line writable same. no_ending c.args.reading.now c.args.name.now c.args.instant.now c.requires.reading c.requires.one_word c.requires.no_event.0
    c.requires.no_event.1 c.requires.no_event.2
    (λ is. absurd (other_text _ _ c.if-eq.ensures (is ∙ sym c.as_slice.ensures)))
    (λ is. absurd (other_text _ _ c.if-eq-2.ensures (is ∙ sym c.as_slice-2.ensures)))
    line writable (sym (simp append_assoc) ∙ same)
