-- The range and the instant are as they are printed, or it is no line.
use Rattle.std.proofs.Common.{ap, ◌++◌, sym, ◌∙◌, subst, codes, decimal, append_assoc}
use Rattle.tox_log.specs.Numbers.{Lacks}
use Rattle.tox_log.proofs.Cuts.{cut-once, stands}
use Rattle.tox_log.proofs.LineParts.{wrote-parts}
use Rattle.tox_log.proofs.NoLines.{no_wrote, range-lacks, reads-same, unread}
use Rattle.tox_log.proofs.event_line.wrote_of.Goals as goal

pub returns : goal.returns
returns c =
    let span = c.in_ok-span.span in (
      ap (λ words. decimal c.args.reading.now ++ codes " wrote " ++ words) c.in_ok-range.ensures.cut.1
          ∙ wrote-parts (decimal c.args.reading.now ++ codes " wrote ") c.in_ok-range.range.now c.in_ok-range.due.now (decimal span.start) (decimal span.stop)
          (decimal c.in_ok-instant.instant) c.in_ok-span.ensures.0 c.in_ok-instant.ensures.1,
      (c.requires, c.in_ok-span.ensures.1, c.in_ok-instant.ensures.0),
    )

pub returns-in_err-range : goal.returns-in_err-range
returns-in_err-range c = reads-same _ _ _ (simp append_assoc) (unread _ _ c.from_residual.ensures (no_wrote c.args.reading.now c.args.words.now c.requires
    (λ slice span_fits fits is. stands 32 (decimal slice.span.start ++ codes ".." ++ decimal slice.span.stop) (decimal slice.instant)
    (subst (Lacks 32) is c.in_err-range.ensures.cut))))

pub returns-in_err-span : goal.returns-in_err-span
returns-in_err-span c = reads-same _ _ _ (simp append_assoc) (unread _ _ c.from_residual-in_err-span.ensures
    (no_wrote c.args.reading.now c.args.words.now c.requires
    (λ slice span_fits fits is. c.in_err-span.ensures slice.span span_fits
    (cut-once 32 c.in_ok-range.range.now c.in_ok-range.due.now (decimal slice.span.start ++ codes ".." ++ decimal slice.span.stop) (decimal slice.instant)
    c.in_ok-range.ensures.cut.0 (range-lacks slice.span span_fits) (sym c.in_ok-range.ensures.cut.1 ∙ is)).0)))

pub returns-in_err-instant : goal.returns-in_err-instant
returns-in_err-instant c = reads-same _ _ _ (simp append_assoc) (unread _ _ c.from_residual-in_err-instant.ensures
    (no_wrote c.args.reading.now c.args.words.now c.requires
    (λ slice span_fits fits is. c.in_err-instant.ensures slice.instant fits
    (cut-once 32 c.in_ok-range.range.now c.in_ok-range.due.now (decimal slice.span.start ++ codes ".." ++ decimal slice.span.stop) (decimal slice.instant)
    c.in_ok-range.ensures.cut.0 (range-lacks slice.span span_fits) (sym c.in_ok-range.ensures.cut.1 ∙ is)).1)))
