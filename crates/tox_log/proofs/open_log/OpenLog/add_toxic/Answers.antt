-- A toxic's line is taken, and another one is not.
use Rattle.std.proofs.Common.{◌≡◌, true, sym, subst, ◌∙◌, rules}
use Rattle.tox_log.specs.HeaderLines.{BeginsToxic}
use Rattle.tox_log.proofs.HeadingLines.{begins-toxic}
use Rattle.tox_log.proofs.LineBytes.{no-toxic}
use Rattle.tox_log.proofs.open_log.OpenLog.add_toxic.Goals as goal

pub returns-then-not-is_toxic-clause-takes : goal.returns-then-not-is_toxic-clause-takes
returns-then-not-is_toxic-clause-takes c = λ named next.
    let toxic : c.is_toxic.result ≡ true = c.is_toxic.ensures.1 (subst BeginsToxic (sym next.read.0 ∙ c.in-Some.ensures.0)
    (begins-toxic next.line named next.printed)) in
    let other = c.if-not-is_toxic.true in absurd (cc)

pub returns-in_default-2-clause-skips : goal.returns-in_default-2-clause-skips
returns-in_default-2-clause-skips c = λ line read writable. absurd (no-toxic line writable
    (subst BeginsToxic (sym c.in-Some.ensures.0 ∙ read.0) (c.is_toxic.ensures.0 (search rules))))

pub returns-then-is_err-clause-skips : goal.returns-then-is_err-clause-skips
returns-then-is_err-clause-skips c = λ line read writable. absurd (no-toxic line writable
    (subst BeginsToxic (sym c.in-Some.ensures.0 ∙ read.0) (c.is_toxic.ensures.0 (search rules))))

pub returns-clause-skips : goal.returns-clause-skips
returns-clause-skips c = λ line read writable. absurd (no-toxic line writable
    (subst BeginsToxic (sym c.in-Some.ensures.0 ∙ read.0) (c.is_toxic.ensures.0 (search rules))))
