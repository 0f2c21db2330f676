-- A text that is printed part by part.
use Rattle.std.proofs.Common.{◌≡◌, ℕ, List, [], ◌++◌, Result, Ok, Err, refl, ap, ◌∙◌, append_assoc, append-nil, subst, false, true}
use Rattle.std.specs.Result.{IsErrAnd}
use Rattle.std.proofs.lemmas.Result.{err_from_is_err_and}
use Rattle.tox_time.specs.declared.ends.EndFault.{EndFault}
use Rattle.tox_time.specs.declared.ends.Sink.{Ghosts}
use Rattle.tox_text.specs.Printing.{PrintsUnless}
use Rattle.tox_text.specs.declared.printer.SizedPrinter.{SizedPrinter}
use Rattle.tox_text.proofs.Printings.{Prints-as, Prints-none, Prints-passed, Prints-then, Prints-fault, Prints-within}
use Rattle.tox_runs.specs.runs.SecondPass.{PrintsDownTo}

module _ {W : Type 0} {sink : Ghosts W} {R : ℕ} where
  -- nothing was printed yet
  pub PrintsDownTo-none : {printer : SizedPrinter W R} {text : List ℕ} → sink.failed printer.writer.now ≡ false
      → PrintsDownTo sink (Ok (tt {0})) printer printer text text
  PrintsDownTo-none working = record { printed = []; prints = Prints-none working; whole = refl }

  -- a part more was printed
  pub PrintsDownTo-then : {A₁ A₂ : Type 0} {value₁ : A₁} {value₂ : A₂} {first old new : SizedPrinter W R} {text middle line : List ℕ} (left : List ℕ)
      → PrintsDownTo sink (Ok value₁) first old text middle → line ++ left ≡ middle → PrintsUnless sink (λ (fault : EndFault). true) (Ok value₂) old new line
      → PrintsDownTo sink (Ok value₂) first new text left
  PrintsDownTo-then {line = line} left before parts printed = record {
    printed = before.printed ++ line;
    prints = Prints-then before.prints printed;
    whole = append_assoc before.printed line left ∙ ap (λ rest. before.printed ++ rest) parts ∙ before.whole;
  }

  -- a `?` passes the fault on
  pub PrintsDownTo-failed : {A₁ A₂ : Type 0} {result : Result A₂ EndFault} {fault : EndFault} {old new : SizedPrinter W R} {text left other : List ℕ}
      → IsErrAnd result (λ same. same ≡ fault) → PrintsDownTo sink {A = A₁} (Err fault) old new text left → PrintsDownTo sink result old new text other
  PrintsDownTo-failed {result = result} exit broken =
      rw (err_from_is_err_and result exit).1 (record { printed = broken.printed; prints = Prints-fault refl refl broken.prints; whole = broken.whole })

  -- the same text, otherwise put together
  pub PrintsDownTo-as : {A : Type 0} {result : Result A EndFault} {old new : SizedPrinter W R} {text other left : List ℕ} → text ≡ other
      → PrintsDownTo sink result old new text left → PrintsDownTo sink result old new other left
  PrintsDownTo-as {result = result} {old = old} {new = new} {left = left} same = subst (λ whole. PrintsDownTo sink result old new whole left) same

  -- what was printed, for who goes on
  pub PrintsDownTo-passed : {A₁ A₂ : Type 0} {value₁ : A₁} {value₂ : A₂} {old new : SizedPrinter W R} {text left : List ℕ}
      → PrintsDownTo sink (Ok value₁) old new text left → PrintsDownTo sink (Ok value₂) old new text left
  PrintsDownTo-passed passed = record { printed = passed.printed; prints = Prints-passed passed.prints; whole = passed.whole }

  -- a part broke off
  pub PrintsDownTo-broken : {A₁ A₂ A₃ : Type 0} {value : A₁} {result : Result A₃ EndFault} {fault : EndFault} {first old new : SizedPrinter W R}
      {text middle line other : List ℕ} (left : List ℕ)
      → IsErrAnd result (λ same. same ≡ fault) → PrintsDownTo sink (Ok value) first old text middle → line ++ left ≡ middle
      → PrintsUnless sink (λ (f : EndFault). true) {A = A₂} (Err fault) old new line
      → PrintsDownTo sink result first new text other
  PrintsDownTo-broken {result = result} {text = text} left exit before parts front =
      rw (err_from_is_err_and result exit).1
      (record {
        printed = text;
        prints = Prints-as before.whole (Prints-then before.prints
            (Prints-as parts (Prints-within left (Prints-fault refl refl front))));
        whole = refl;
      })

  -- two parts were printed
  pub PrintsDownTo-both : {A₁ A₂ : Type 0} {value₁ : A₁} {value₂ : A₂} {first old new : SizedPrinter W R} {text middle left : List ℕ}
      → PrintsDownTo sink (Ok value₁) first old text middle → PrintsDownTo sink (Ok value₂) old new middle left
      → PrintsDownTo sink (Ok value₂) first new text left
  PrintsDownTo-both {left = left} before after = PrintsDownTo-then left before after.whole after.prints

  -- the second part broke off
  pub PrintsDownTo-stopped : {A₁ A₂ A₃ : Type 0} {value : A₁} {result : Result A₃ EndFault} {fault : EndFault} {first old new : SizedPrinter W R}
      {text middle left other : List ℕ}
      → IsErrAnd result (λ same. same ≡ fault) → PrintsDownTo sink (Ok value) first old text middle → PrintsDownTo sink {A = A₂} (Err fault) old new middle left
      → PrintsDownTo sink result first new text other
  PrintsDownTo-stopped {middle = middle} exit before broken = PrintsDownTo-broken [] exit before (append-nil broken.printed ∙ broken.whole) broken.prints
