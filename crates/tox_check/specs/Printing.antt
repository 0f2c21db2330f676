-- Lines that are printed and counted.
use Rattle.std.specs.Prelude.{◌≡◌, ℕ, List, flat_map, length, Result, IfOk}
use Rattle.tox_time.specs.declared.ends.Sink.{Ghosts}
use Rattle.tox_text.specs.Printing.{PrintsUnless}
use Rattle.tox_text.specs.declared.pick_text.PrintPickFault.{PrintPickFault}
use Rattle.tox_text.specs.declared.printer.SizedPrinter.{SizedPrinter}
use Rattle.tox_check.specs.Checking.{has_failed, held}

-- lines, one behind the other
abbrev pub joined_lines : List (List ℕ) → List ℕ
joined_lines lines = flat_map (λ line. line) lines

module _ {W : Type 0} (sink : Ghosts W) where
  -- lines were printed and counted, or the writer has failed where a write did
  abbrev pub PrintsLines : {R : ℕ} → Result ℕ PrintPickFault → SizedPrinter W R → SizedPrinter W R
      → List (List ℕ) → Type 0
  PrintsLines result old new lines =
      PrintsUnless sink has_failed result old new (joined_lines lines)
      × IfOk result (λ count. count ≡ held (length lines))
