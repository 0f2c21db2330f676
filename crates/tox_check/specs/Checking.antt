-- The text of a check, and the answer of a check request over files.
use Rattle.std.specs.Prelude.{◌≡◌, ◌≢◌, ◌↔◌, ℕ, ◌≤◌, ◌+◌, ◌-◌, ◌^◌, Bool, IsTrue, true, false, List, [], ◌++◌, codes, decimal, flat_map, length, min, sum_by}
use Rattle.std.specs.Prelude.{Option, None, Some, option_map, slice_get}
use Rattle.std.specs.Io.KnownBytes.{append_known}
use Rattle.std.specs.List.{find, list_any}
use Rattle.tox_config.specs.Populate.{is_named}
use Rattle.tox_config.specs.Proxy.{Proxy}
use Rattle.tox_config.specs.Remarks.{Noted}
use Rattle.tox_script.specs.Rule.{Rule, Rules}
use Rattle.tox_script.specs.index.Numbered.{covering_number}
use Rattle.tox_text.specs.Writing.{AppendsFront}
use Rattle.tox_text.specs.declared.pick_text.PrintPickFault.{PrintPickFault}
use Rattle.tox_text.specs.declared.pick_text.PrintPickFault.TheVariants.{OutOfMemory, WriteFault}
use Rattle.tox_runs.specs.files.Files.{KnownFile}
use Rattle.tox_runs.specs.files.Setup.{HasSetupCause, IsSetUp, Notes}
use Rattle.tox_check.specs.Lines.{check_lines, rule_warnings}
use Rattle.tox_check.specs.Runs.{IsRuns}
use Rattle.tox_check.specs.Sentences.{tells_never}
use Rattle.tox_check.specs.declared.fault.CheckFault.{CheckFault}
use Rattle.tox_check.specs.declared.fault.CheckFault.TheVariants as fault
use Rattle.tox_check.specs.declared.request.CheckRequest.{CheckRequest}
use Rattle.tox_check.specs.declared.run.Run.{Run}

-- the number, from 1, of the rule that a connection of a proxy meets
abbrev pub met : List ℕ → Rules → ℕ → Option ℕ
met proxy script conn = option_map (λ rule. rule + 1) (covering_number proxy conn script)

-- the runs of each proxy by its name
abbrev pub AreRuns : List Proxy → Rules → (List ℕ → List Run) → Type 0
AreRuns proxies script runs =
    (name : List ℕ) → find (is_named name) proxies ≢ None → IsRuns (met name script) 1 (runs name)

-- no connection of a proxy of the file meets the rule of a number from 0
abbrev pub NeverApplies : List Proxy → Rules → ℕ → Type 0
NeverApplies proxies script rule =
    (name : List ℕ) (conn : ℕ) → find (is_named name) proxies ≢ None → 1 ≤ conn → conn ≤ 1_000_000
    → covering_number name conn script ≢ Some rule

-- a rule is said never to apply exactly where no connection meets it
abbrev pub TellsNever : List Proxy → Rules → (List ℕ → List Run) → Type 0
TellsNever proxies script runs =
    (number : ℕ) (rule : Rule) → slice_get script.rules number ≡ Some rule
    → IsTrue (list_any tells_never (rule_warnings proxies runs (number + 1) rule))
    ↔ NeverApplies proxies script number

-- a number, or the greatest of 64 bits
abbrev pub held : ℕ → ℕ
held count = min count (2 ^ 64 - 1)

-- how many toxics a script has
abbrev pub toxic_count : Rules → ℕ
toxic_count script = held (sum_by (λ (rule : Rule). length rule.order) script.rules)

-- the last line, with the numbers of proxies, rules and toxics
abbrev pub counts_line : List Proxy → Rules → List ℕ
counts_line proxies script =
    decimal (length proxies) ++ codes " proxies, " ++ decimal (length script.rules) ++ codes " rules, "
    ++ decimal (toxic_count script) ++ codes " toxics\n"

-- the last line, if it is asked for
abbrev pub end_text : Bool → List Proxy → Rules → List ℕ
end_text true proxies script = counts_line proxies script
end_text false proxies script = []

-- this text tells what of a setup has no effect, in so many lines and, if it is asked for, a last one
pub record Checks (noted : Noted) (proxies : List Proxy) (script : Rules) (verbose : Bool) (text : List ℕ)
    (warned : ℕ) : Type 0 where
  pub runs : List ℕ → List Run
  pub are_runs : AreRuns proxies script runs
  pub spelled : text
      ≡ flat_map (λ line. line) (check_lines noted proxies script runs) ++ end_text verbose proxies script
  pub counted : warned ≡ held (length (check_lines noted proxies script runs))
  pub never : TellsNever proxies script runs

-- a check was printed
pub record PrintsCheck (noted : Noted) (proxies : List Proxy) (script : Rules) (verbose : Bool)
    (old new : Option (List ℕ)) (warned : ℕ) : Type 0 where
  pub text : List ℕ
  pub checks : Checks noted proxies script verbose text warned
  pub written : new ≡ append_known old text

-- whether the writer has failed
abbrev pub has_failed : PrintPickFault → Bool
has_failed OutOfMemory = false
has_failed WriteFault = true

-- a prefix of a check was written, and the writer has failed where a write did
pub record StopsCheck (noted : Noted) (proxies : List Proxy) (script : Rules) (verbose : Bool)
    (old new : Option (List ℕ)) (failed : Bool) (fault : PrintPickFault) : Type 0 where
  pub text : List ℕ
  pub warned : ℕ
  pub checks : Checks noted proxies script verbose text warned
  pub left : AppendsFront old new text
  pub warning_text : failed ≡ has_failed fault

-- both files were read, and so many warnings were printed
pub record AnswersCheck (known : List ℕ → KnownFile) (request : CheckRequest)
    (old new : Option (List ℕ)) (warned : ℕ) : Type 0 where
  pub proxies : List Proxy
  pub script : Rules
  pub noted : Noted
  pub set_up : IsSetUp (known request.config.now) (known request.script.now) proxies script
  pub notes : Notes (known request.config.now) proxies noted
  pub prints : PrintsCheck noted proxies script request.verbose old new warned

-- both files were read, and the answer was not printed for this cause
pub record Stops (known : List ℕ → KnownFile) (request : CheckRequest) (old new : Option (List ℕ))
    (failed : Bool) (fault : PrintPickFault) : Type 0 where
  pub proxies : List Proxy
  pub script : Rules
  pub noted : Noted
  pub set_up : IsSetUp (known request.config.now) (known request.script.now) proxies script
  pub notes : Notes (known request.config.now) proxies noted
  pub stops : StopsCheck noted proxies script request.verbose old new failed fault

-- the answer was printed, and had no warning if one is a fault
pub record AnswersWell (known : List ℕ → KnownFile) (request : CheckRequest)
    (old new : Option (List ℕ)) : Type 0 where
  pub warned : ℕ
  pub answers : AnswersCheck known request old new warned
  pub strict : request.strict ≡ true → warned ≡ 0

-- why a check request failed, and what was written
abbrev pub HasCheckCause : (List ℕ → KnownFile) → CheckRequest → Option (List ℕ) → Option (List ℕ)
    → Bool → CheckFault → Type 0
HasCheckCause known request old new failed (fault.Setup cause) =
    HasSetupCause known request.config.now request.script.now cause × (new ≡ old)
HasCheckCause known request old new failed fault.OutOfMemory =
    Stops known request old new failed OutOfMemory
HasCheckCause known request old new failed fault.WriteFault =
    Stops known request old new failed WriteFault
HasCheckCause known request old new failed (fault.Warned warned) =
    (request.strict ≡ true) × ((warned ≢ 0) × AnswersCheck known request old new warned)
