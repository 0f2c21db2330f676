-- Behind `broken` come a cause and a number, or it is no line.
use Rattle.std.proofs.Common.{sym, ◌∙◌, subst, decimal}
use Rattle.tox_log.specs.LastText.{cause_name}
use Rattle.tox_log.specs.Numbers.{Lacks}
use Rattle.tox_log.proofs.Cuts.{stands}
use Rattle.tox_log.proofs.NoLines.{cause-cut, no_broken, unread}
use Rattle.tox_log.proofs.event_line.broken_of.Goals as goal

pub returns-in_err-name : goal.returns-in_err-name
returns-in_err-name c = unread _ _ c.from_residual.ensures (no_broken c.args.words.now
    (λ cause bytes fits is. stands 32 (cause_name cause) (decimal bytes) (subst (Lacks 32) is c.in_err-name.ensures.cut)))

pub returns-in_err-cause : goal.returns-in_err-cause
returns-in_err-cause c = unread _ _ c.from_residual-in_err-cause.ensures (no_broken c.args.words.now
    (λ cause bytes fits is. c.in_err-cause.ensures cause (cause-cut c.in_ok-name.name.now c.in_ok-name.bytes.now cause bytes c.in_ok-name.ensures.cut.0
    (sym c.in_ok-name.ensures.cut.1 ∙ is)).0))

pub returns-in_err-bytes : goal.returns-in_err-bytes
returns-in_err-bytes c = unread _ _ c.from_residual-in_err-bytes.ensures (no_broken c.args.words.now
    (λ cause bytes fits is. c.in_err-bytes.ensures bytes fits (cause-cut c.in_ok-name.name.now c.in_ok-name.bytes.now cause bytes c.in_ok-name.ensures.cut.0
    (sym c.in_ok-name.ensures.cut.1 ∙ is)).1))
