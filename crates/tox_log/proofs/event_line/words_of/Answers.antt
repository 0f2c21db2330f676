-- The words behind a reading.
use Rattle.std.proofs.Common.{rules, sym, ◌∙◌, codes, decimal}
use Rattle.std.specs.Cmp.Lexicographic.{other_text}
use Rattle.tox_log.proofs.LineParts.{open-parts, words-parts}
use Rattle.tox_log.proofs.NoLines.{no_single, reads-same, unread}
use Rattle.tox_log.proofs.event_line.words_of.Goals as goal

pub returns-then-eq-3 : goal.returns-then-eq-3
returns-then-eq-3 c = reads-same _ _ _ (words-parts (decimal c.args.reading.now) c.args.words.now _ _ (codes "wrote") c.in_ok-word.ensures.cut.1 (search rules))
    c.wrote_of.ensures

pub returns-then-eq-5 : goal.returns-then-eq-5
returns-then-eq-5 c = reads-same _ _ _ (words-parts (decimal c.args.reading.now) c.args.words.now _ _ (codes "piece") c.in_ok-word.ensures.cut.1 (search rules))
    c.piece_of.ensures

pub returns-then-eq-2 : goal.returns-then-eq-2
returns-then-eq-2 c = (open-parts (decimal c.args.reading.now) c.args.words.now (codes "open") (search rules), (c.requires, tt))

pub returns-then-eq-4 : goal.returns-then-eq-4
returns-then-eq-4 c = reads-same _ _ _ (words-parts (decimal c.args.reading.now) c.args.words.now _ _ (codes "end") c.in_ok-word.ensures.cut.1 (search rules))
    c.end_of.ensures

pub returns-in_err-word : goal.returns-in_err-word
returns-in_err-word c = unread _ _ c.from_residual.ensures (no_single c.args.reading.now c.args.words.now c.requires c.in_err-word.ensures.cut
    (λ is. other_text _ _ c.if-eq.ensures (is ∙ sym c.as_slice.ensures)) (λ is. other_text _ _ c.if-eq-2.ensures (is ∙ sym c.as_slice-2.ensures)))
