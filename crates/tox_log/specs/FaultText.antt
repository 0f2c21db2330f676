-- Why a log can't be judged, and the line that says so.
use Rattle.std.specs.Prelude.{◌≡◌, ℕ, Bool, true, false, List, ◌++◌, codes, decimal}
use Rattle.std.specs.Borrow.{Bor}
use Rattle.tox_text.specs.Names.{visible_name}
use Rattle.tox_log.specs.declared.fault.LogFault.{LogFault}
use Rattle.tox_log.specs.declared.fault.LogFault.TheVariants as log
use Rattle.tox_log.specs.declared.fault.ReplayFault.{ReplayFault}
use Rattle.tox_log.specs.declared.fault.ReplayFault.TheVariants.{OutOfMemory, WriteFault, Unreadable, BadLog, LogTooDeep, NotFaithful}

-- the fault of the log in the file of this name
abbrev pub fault_in : Bor (List ℕ) → LogFault → ReplayFault
fault_in name log.OutOfMemory = OutOfMemory
fault_in name log.ReadFault = Unreadable name
fault_in name (log.BadLine line) = BadLog name line
fault_in name (log.TooDeep line) = LogTooDeep name line

-- a fault is that of the log in the file of this name
abbrev pub IsFaultIn : Bor (List ℕ) → ReplayFault → Type 0
IsFaultIn name fault = (cause : LogFault) × (fault ≡ fault_in name cause)

-- a fault at a line of a file
abbrev pub line_fault_text : List ℕ → List ℕ → ℕ → List ℕ
line_fault_text fault name line = fault ++ (visible_name name ++ (codes " " ++ decimal line))

-- a fault, as it is printed
abbrev pub replay_fault_text : ReplayFault → List ℕ
replay_fault_text OutOfMemory = codes "L0 OutOfMemory"
replay_fault_text WriteFault = codes "L4 WriteFault"
replay_fault_text (Unreadable name) = codes "P1 FileFault " ++ visible_name name.now
replay_fault_text (BadLog name line) = line_fault_text (codes "G1 BadLog ") name.now line
replay_fault_text (LogTooDeep name line) = line_fault_text (codes "G2 LogTooDeep ") name.now line
replay_fault_text (NotFaithful count) = codes "G3 NotFaithful " ++ decimal count

-- whether a fault ends a replay of several logs
abbrev pub ends_replay : ReplayFault → Bool
ends_replay OutOfMemory = true
ends_replay WriteFault = true
ends_replay (Unreadable name) = false
ends_replay (BadLog name line) = false
ends_replay (LogTooDeep name line) = false
ends_replay (NotFaithful count) = false
