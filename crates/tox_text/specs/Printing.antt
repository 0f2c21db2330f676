-- What a printer prints: what its writer got, and what waits.
use Rattle.std.specs.Prelude.{◌≡◌, ℕ, ◌++◌, Bool, true, false, List, Result, Ok, Err}
use Rattle.std.specs.Io.KnownBytes.{append_known}
use Rattle.tox_time.specs.declared.ends.EndFault.{EndFault}
use Rattle.tox_time.specs.declared.ends.Sink.{Ghosts}
use Rattle.tox_text.specs.declared.printer.SizedPrinter.{SizedPrinter}

module _ {W : Type 0} (sink : Ghosts W) where
  -- the writer hasn't failed
  abbrev pub IsWorking : {R : ℕ} → SizedPrinter W R → Type 0
  IsWorking printer = sink.failed printer.writer.now ≡ false

  -- the writer is the same one, and hasn't failed
  abbrev pub KeepsWorking : {R : ℕ} → SizedPrinter W R → SizedPrinter W R → Type 0
  KeepsWorking old new = IsWorking new × (new.writer.ghost_name ≡ old.writer.ghost_name)

  module _ {E : Type 0} (is_writers : E → Bool) where
    -- the rest waits and the writer hasn't failed, or it has where the fault is the writer's
    abbrev pub Leaves : {A : Type 0} {R : ℕ} → Result A E → SizedPrinter W R → List ℕ → Type 0
    Leaves (Ok value) printer rest = (printer.bytes.items ≡ rest) × IsWorking printer
    Leaves (Err fault) printer rest = sink.failed printer.writer.now ≡ is_writers fault

    -- bytes came behind those that waited, and a prefix of them all was written: after an `Ok` the rest waits
    pub record PrintsUnless {A : Type 0} {R : ℕ} (result : Result A E) (old new : SizedPrinter W R)
        (bytes : List ℕ) : Type 0 where
      pub sent : List ℕ
      pub rest : List ℕ
      pub whole : sent ++ rest ≡ old.bytes.items ++ bytes
      pub written : sink.written new.writer.now ≡ append_known (sink.written old.writer.now) sent
      pub leaves : Leaves result new rest
      pub same_writer : new.writer.ghost_name ≡ old.writer.ghost_name

  -- bytes were printed, or the writer has failed
  abbrev pub Prints : {R : ℕ} → Result (Unit {0}) EndFault → SizedPrinter W R → SizedPrinter W R → List ℕ → Type 0
  Prints result old new bytes = PrintsUnless (λ fault. true) result old new bytes
