-- A call that failed, and called no line bad or too deep.
use Rattle.std.proofs.Common.{◌≡◌, Ok, Err, Result, sym, ◌∙◌}
use Rattle.std.specs.Prelude.{MatchResult, IsErrAnd}
use Rattle.tox_log.specs.declared.fault.LogFault.{LogFault}
use Rattle.tox_log.specs.Left.{BlamesNoLine, IsNoBadLine, IsNotTooDeep}

pub failed-so : {T E : Type 0} (result : Result T E) (P : T → Type 0) (Q R : E → Type 0) → IsErrAnd result R → ((fault : E) → R fault → Q fault)
    → MatchResult result P Q
failed-so (Ok x) P Q R errs implies = absurd errs
failed-so (Err fault) P Q R errs implies = implies fault errs

pub same-fault : (fault other : LogFault) → fault ≡ other → IsNoBadLine other → IsNoBadLine fault
same-fault fault other is none number same = none number (sym is ∙ same)

pub same-deep : (fault other : LogFault) → fault ≡ other → IsNotTooDeep other → IsNotTooDeep fault
same-deep fault other is none number same = none number (sym is ∙ same)

pub same-blame : (fault other : LogFault) → fault ≡ other → BlamesNoLine other → BlamesNoLine fault
same-blame fault other is none = (same-fault fault other is none.0, same-deep fault other is none.1)
