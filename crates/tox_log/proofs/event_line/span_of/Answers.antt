-- A range has two numbers and two points between them, or it is none.
use Rattle.std.proofs.Common.{[], take, drop, ap, ◌∷◌, sym, ◌∙◌, subst, decimal, append_assoc}
use Rattle.std.specs.Cmp.Lexicographic.{other_text}
use Rattle.tox_log.specs.Numbers.{Lacks}
use Rattle.tox_log.proofs.Cuts.{stands}
use Rattle.tox_log.proofs.NoLines.{none-read, span-cut}
use Rattle.tox_log.proofs.event_line.span_of.Goals as goal

pub returns-in_err-start : goal.returns-in_err-start
returns-in_err-start c = none-read _ _ _ c.from_residual.ensures
    (λ span writable is. stands 46 (decimal span.start) (46 ∷ decimal span.stop) (subst (Lacks 46) (is ∙ simp append_assoc) c.in_err-start.ensures.cut))

pub returns-in_err-stop : goal.returns-in_err-stop
returns-in_err-stop c = none-read _ _ _ c.from_residual-in_err-stop.ensures
    (λ span writable is. other_text (take 1 c.in_ok-start.rest.now) (46 ∷ []) (sym c.in_err-stop.ensures.cases)
    (ap (take 1) (span-cut c.in_ok-start.start.now c.in_ok-start.rest.now span writable c.in_ok-start.ensures.cut.0 (sym c.in_ok-start.ensures.cut.1 ∙ is)).1))

pub returns-in_err-start-2 : goal.returns-in_err-start-2
returns-in_err-start-2 c = none-read _ _ _ c.from_residual-in_err-start-2.ensures
    (λ span writable is. c.in_err-start-2.ensures span.start writable.0
    (span-cut c.in_ok-start.start.now c.in_ok-start.rest.now span writable c.in_ok-start.ensures.cut.0 (sym c.in_ok-start.ensures.cut.1 ∙ is)).0)

pub returns-in_err-stop-2 : goal.returns-in_err-stop-2
returns-in_err-stop-2 c = none-read _ _ _ c.from_residual-in_err-stop-2.ensures
    (λ span writable is.
    let rest = (span-cut c.in_ok-start.start.now c.in_ok-start.rest.now span writable c.in_ok-start.ensures.cut.0 (sym c.in_ok-start.ensures.cut.1 ∙ is)).1 in
    c.in_err-stop-2.ensures span.stop writable.1 (c.in_ok-stop.ensures.cases.1 ∙ ap (drop 1) rest))
