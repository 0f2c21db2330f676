-- A check that was printed, or broke off.
use Rattle.std.proofs.Common.{◌≡◌, ℕ, Bool, true, false, List, [], ◌++◌, length, Option, Result, Ok, Err, is_err, refl}
use Rattle.tox_time.specs.declared.ends.EndFault.{EndFault}
use Rattle.tox_time.specs.declared.ends.Sink.{Ghosts}
use Rattle.tox_config.specs.Proxy.{Proxy}
use Rattle.tox_config.specs.Remarks.{Noted}
use Rattle.tox_script.specs.Rule.{Rules}
use Rattle.tox_text.specs.Printing.{Prints, PrintsUnless}
use Rattle.tox_text.specs.Writing.{Writes}
use Rattle.tox_text.specs.declared.pick_text.PrintPickFault.{PrintPickFault}
use Rattle.tox_text.specs.declared.printer.SizedPrinter.{SizedPrinter}
use Rattle.tox_text.specs.declared.pick_text.PrintPickFault.TheVariants.{OutOfMemory, WriteFault}
use Rattle.tox_check.specs.Checking.{AreRuns, Checks, PrintsCheck, StopsCheck, end_text, has_failed, held, met}
use Rattle.tox_check.specs.Lines.{check_lines}
use Rattle.tox_check.specs.Printing.{joined_lines}
use Rattle.tox_check.specs.declared.run.Run.{Run}
use Rattle.tox_check.proofs.AllRuns.{all_runs}
use Rattle.tox_check.proofs.NeverWarned.{TellsNever-runs}
use Rattle.tox_text.proofs.Printings.{AppendsFront-broken, Prints-then, Prints-within, Writes-finished}
use Rattle.tox_text.proofs.Writes.{append_known-nil}

module _ (noted : Noted) (proxies : List Proxy) (script : Rules) (verbose : Bool) where
  -- the lines by these runs, and the last one
  checks : (runs : List ℕ → List Run) → AreRuns proxies script runs → (warned : ℕ) → warned ≡ held (length (check_lines noted proxies script runs))
      → Checks noted proxies script verbose (joined_lines (check_lines noted proxies script runs) ++ end_text verbose proxies script) warned
  checks runs are warned counted = record {
    runs = runs;
    are_runs = are;
    spelled = refl;
    counted = counted;
    never = TellsNever-runs proxies script runs are;
  }

  -- nothing was written
  pub StopsCheck-none : (old : Option (List ℕ)) (failed : Bool) → failed ≡ false → StopsCheck noted proxies script verbose old old failed OutOfMemory
  StopsCheck-none old failed works = record {
    text = _;
    warned = _;
    checks = checks (λ name. (all_runs (met name script)).runs) (λ name there. (all_runs (met name script)).are) _ refl;
    left = record { sent = []; unsent = _; whole = refl; written = append_known-nil old };
    warning_text = works;
  }

  abbrev lines : (List ℕ → List Run) → List ℕ
  lines runs = joined_lines (check_lines noted proxies script runs)

  module _ {W : Type 0} {sink : Ghosts W} {R : ℕ} (runs : List ℕ → List Run) (are : AreRuns proxies script runs) where
    -- the lines broke off
    pub StopsCheck-lines : {fault : PrintPickFault} {old new : SizedPrinter W R} → old.bytes.items ≡ []
        → PrintsUnless sink has_failed {A = ℕ} (Err fault) old new (lines runs)
        → StopsCheck noted proxies script verbose (sink.written old.writer.now) (sink.written new.writer.now) (sink.failed new.writer.now) fault
    StopsCheck-lines empty front = record {
      text = _;
      warned = _;
      checks = checks runs are _ refl;
      left = AppendsFront-broken empty (Prints-within (end_text verbose proxies script) front);
      warning_text = front.leaves;
    }

    -- the last line broke off
    pub StopsCheck-last : {warned : ℕ} (ended : Result (Unit {0}) EndFault) {first old new : SizedPrinter W R} → is_err ended ≡ true → first.bytes.items ≡ []
        → PrintsUnless sink has_failed (Ok warned) first old (lines runs) → Prints sink ended old new (end_text verbose proxies script)
        → StopsCheck noted proxies script verbose (sink.written first.writer.now) (sink.written new.writer.now) (sink.failed new.writer.now) WriteFault
    StopsCheck-last (Ok done) failed empty printed front = cc
    StopsCheck-last (Err fault) failed empty printed front =
        record {
          text = _;
          warned = _;
          checks = checks runs are _ refl;
          left = AppendsFront-broken empty (Prints-then printed front);
          warning_text =
              front.leaves;
        }

    -- the lines and the last one
    printed-ended : {warned : ℕ} (ended : Result (Unit {0}) EndFault) {first old new : SizedPrinter W R} → is_err ended ≡ false
        → PrintsUnless sink has_failed (Ok warned) first old (lines runs) → Prints sink ended old new (end_text verbose proxies script)
        → Prints sink (Ok tt) first new (lines runs ++ end_text verbose proxies script)
    printed-ended (Ok done) worked printed last = Prints-then printed last
    printed-ended (Err fault) worked printed last = cc

    -- what waited was not written
    pub StopsCheck-end : {warned : ℕ} (ended : Result (Unit {0}) EndFault) (fault : EndFault) {first old new : SizedPrinter W R} (last : W)
        → is_err ended ≡ false → first.bytes.items ≡ []
        → PrintsUnless sink has_failed (Ok warned) first old (lines runs) → Prints sink ended old new (end_text verbose proxies script)
        → Writes (Err fault) (sink.written new.writer.now) (sink.written last) (sink.failed last) new.bytes.items
        → StopsCheck noted proxies script verbose (sink.written first.writer.now) (sink.written last) (sink.failed last) WriteFault
    StopsCheck-end ended fault last worked empty printed last_line wrote =
        let front = Writes-finished (Err fault) last empty (printed-ended ended worked printed last_line) wrote in
        record { text = _; warned = _; checks = checks runs are _ refl; left = front.0; warning_text = front.1 }

    -- all was written
    pub PrintsCheck-end : {warned : ℕ} (ended : Result (Unit {0}) EndFault) {first old new : SizedPrinter W R} (last : W) → is_err ended ≡ false
        → first.bytes.items ≡ [] → warned ≡ held (length (check_lines noted proxies script runs))
        → PrintsUnless sink has_failed (Ok warned) first old (lines runs) → Prints sink ended old new (end_text verbose proxies script)
        → Writes {E = EndFault} (Ok tt) (sink.written new.writer.now) (sink.written last) (sink.failed last) new.bytes.items
        → PrintsCheck noted proxies script verbose (sink.written first.writer.now) (sink.written last) warned
    PrintsCheck-end {warned = warned} ended last worked empty counted printed last_line wrote =
        let whole = Writes-finished (Ok tt) last empty (printed-ended ended worked printed last_line) wrote in
        record { text = _; checks = checks runs are warned counted; written = whole.0 }
