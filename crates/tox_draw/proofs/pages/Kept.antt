-- What a fault leaves of a report.
use Rattle.std.proofs.Common.{◌≡◌, ℕ, List, Result, Ok, Err, IfErr, OnErr, inl, inr, refl, sym, subst}
use Rattle.tox_draw.specs.declared.pages.report.Report.{Report}
use Rattle.tox_log.specs.declared.fault.ReplayFault.{ReplayFault}
use Rattle.tox_log.specs.declared.fault.ReplayFault.TheVariants.{OutOfMemory, WriteFault, Unreadable, BadLog, LogTooDeep, NotFaithful}
use Rattle.std.specs.Prelude.{◌⊎◌}
use Rattle.std.specs.Borrow.{Bor}
use Rattle.tox_log.specs.declared.fault.LogFault.TheVariants as cause
use Rattle.tox_log.specs.FaultText.{IsFaultIn}
use Rattle.tox_draw.specs.pages.Reports.{KeepsFault, KeepsOn, RefusesLog}

-- a fault other than out of memory
pub RefusesLog-bad : (name : List ℕ) (old new : Report) (fault : ReplayFault) → (fault ≡ OutOfMemory → ⊥) → KeepsFault name fault old new
    → RefusesLog name old new fault
RefusesLog-bad name old new OutOfMemory other kept = absurd (other refl)
RefusesLog-bad name old new WriteFault other kept = kept
RefusesLog-bad name old new (Unreadable reported) other kept = kept
RefusesLog-bad name old new (BadLog reported line) other kept = kept
RefusesLog-bad name old new (LogTooDeep reported line) other kept = kept
RefusesLog-bad name old new (NotFaithful count) other kept = kept

-- the fault of a log, or out of memory
pub fault-named : {A : Type 0} (result : Result A ReplayFault) (name : Bor (List ℕ)) (fault : ReplayFault) → (result ≡ Err fault) ⊎ (result ≡ Err OutOfMemory)
    → IsFaultIn name fault
    → IfErr result (IsFaultIn name)
fault-named result name fault (inl is) named = subst (λ result. IfErr result (IsFaultIn name)) (sym is) named
fault-named result name fault (inr is) named = subst (λ result. IfErr result (IsFaultIn name)) (sym is) (cause.OutOfMemory, refl)

-- out of memory alone
pub memory-named : {A : Type 0} (result : Result A ReplayFault) (name : Bor (List ℕ)) → IfErr result (λ fault. fault ≡ OutOfMemory)
    → IfErr result (IsFaultIn name)
memory-named (Ok done) name memory = tt
memory-named (Err fault) name memory = (cause.OutOfMemory, memory)

-- out of memory alone
pub RefusesLog-memory : {A : Type 0} (result : Result A ReplayFault) (name : List ℕ) (old new : Report) → IfErr result (λ fault. fault ≡ OutOfMemory)
    → OnErr result (KeepsOn old new)
    → IfErr result (RefusesLog name old new)
RefusesLog-memory (Ok done) name old new memory kept = tt
RefusesLog-memory (Err fault) name old new memory kept = subst (RefusesLog name old new) (sym memory) kept
