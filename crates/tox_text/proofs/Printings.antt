-- Texts that are printed part by part.
use Rattle.std.proofs.Common.{◌≡◌, ℕ, ◌+◌, ◌≤◌, Bool, false, List, [], ◌++◌, length, take, drop, flat_map, Result, Ok, Err, refl, ap, sym, ◌∙◌, append_assoc}
use Rattle.std.proofs.Common.{append-nil, subst, MutBor}
use Rattle.std.specs.Result.{IsErrAnd}
use Rattle.std.proofs.lemmas.List.{take_all}
use Rattle.std.proofs.lemmas.Result.{err_from_is_err_and}
use Rattle.tox_time.specs.declared.ends.EndFault.{EndFault}
use Rattle.tox_time.specs.declared.ends.Sink.{Ghosts}
use Rattle.tox_text.specs.Printing.{Prints, PrintsUnless}
use Rattle.tox_text.specs.Writing.{AppendsFront, Writes}
use Rattle.tox_text.specs.declared.printer.SizedPrinter.{SizedPrinter}
use Rattle.tox_text.proofs.Listed.{IsAt, flat_map-more, flat_map-parts}
use Rattle.tox_text.proofs.Writes.{Writes-behind, append_known-nil, append_known-then}

module _ {W : Type 0} {sink : Ghosts W} {R : ℕ} where
  -- nothing was printed
  pub Prints-none : {E : Type 0} {is_writers : E → Bool} {A : Type 0} {value : A} {printer : SizedPrinter W R} → sink.failed printer.writer.now ≡ false
      → PrintsUnless sink is_writers (Ok value) printer printer []
  Prints-none {printer = printer} working = record {
    sent = [];
    rest = printer.bytes.items;
    whole = sym (append-nil printer.bytes.items);
    written = append_known-nil (sink.written printer.writer.now);
    leaves = (refl, working);
    same_writer = refl;
  }

  -- all that was printed waits
  pub Prints-kept : {old new : SizedPrinter W R} {bytes : List ℕ} → sink.failed old.writer.now ≡ false → new.writer ≡ old.writer
      → new.bytes.items ≡ old.bytes.items ++ bytes
      → Prints sink (Ok tt) old new bytes
  Prints-kept {old = old} {new = new} working same kept = record {
    sent = [];
    rest = new.bytes.items;
    whole = kept;
    written = ap (λ (writer : MutBor W). sink.written writer.now) same ∙ append_known-nil (sink.written old.writer.now);
    leaves = (refl, ap (λ (writer : MutBor W). sink.failed writer.now) same ∙ working);
    same_writer = ap (λ (writer : MutBor W). writer.ghost_name) same;
  }

  -- bytes behind which nothing waits were written
  pub Prints-written : (result : Result (Unit {0}) EndFault) {old new : SizedPrinter W R} {bytes : List ℕ} → old.bytes.items ≡ [] → new.bytes.items ≡ []
      → new.writer.ghost_name ≡ old.writer.ghost_name
      → Writes result (sink.written old.writer.now) (sink.written new.writer.now) (sink.failed new.writer.now) bytes → Prints sink result old new bytes
  Prints-written (Ok done) {old = old} {new = new} {bytes = bytes} empty left same wrote =
      record {
        sent = bytes;
        rest = [];
        whole = append-nil bytes ∙ ap (λ xs. xs ++ bytes) (sym empty);
        written = wrote.0;
        leaves = (left, wrote.1);
        same_writer = same;
      }
  Prints-written (Err fault) {old = old} {new = new} {bytes = bytes} empty left same wrote =
      record {
        sent = wrote.0.sent;
        rest = wrote.0.unsent;
        whole = wrote.0.whole
            ∙ ap (λ xs. xs ++ bytes) (sym empty);
        written = wrote.0.written;
        leaves = wrote.1;
        same_writer = same;
      }

  -- one part behind the other
  pub Prints-then : {E₁ E₂ A₁ A₂ : Type 0} {is_writers₁ : E₁ → Bool} {is_writers₂ : E₂ → Bool} {value : A₁} {result : Result A₂ E₂}
      {first old new : SizedPrinter W R} {a b : List ℕ}
      → PrintsUnless sink is_writers₁ (Ok value) first old a → PrintsUnless sink is_writers₂ result old new b
      → PrintsUnless sink is_writers₂ result first new (a ++ b)
  Prints-then {first = first} {old = old} {new = new} {a = a} {b = b} before after = record {
    sent = before.sent ++ after.sent;
    rest = after.rest;
    whole = append_assoc before.sent after.sent after.rest
        ∙ ap (λ xs. before.sent ++ xs) (after.whole ∙ ap (λ xs. xs ++ b) before.leaves.0)
        ∙ sym (append_assoc before.sent before.rest b)
        ∙ ap (λ xs. xs ++ b) before.whole
        ∙ append_assoc first.bytes.items a b;
    written = append_known-then (sink.written first.writer.now) (sink.written old.writer.now) (sink.written new.writer.now) before.sent after.sent
        before.written after.written;
    leaves = after.leaves;
    same_writer = after.same_writer ∙ before.same_writer;
  }

  -- what was printed, for who goes on
  pub Prints-passed : {E₁ E₂ A₁ A₂ : Type 0} {is_writers₁ : E₁ → Bool} {is_writers₂ : E₂ → Bool} {value₁ : A₁} {value₂ : A₂} {old new : SizedPrinter W R}
      {bytes : List ℕ}
      → PrintsUnless sink is_writers₁ (Ok value₁) old new bytes → PrintsUnless sink is_writers₂ (Ok value₂) old new bytes
  Prints-passed printed =
      record {
        sent = printed.sent;
        rest = printed.rest;
        whole = printed.whole;
        written = printed.written;
        leaves = printed.leaves;
        same_writer =
            printed.same_writer;
      }

  -- what broke off, for who passes the fault on
  pub Prints-fault : {E₁ E₂ A₁ A₂ : Type 0} {is_writers₁ : E₁ → Bool} {is_writers₂ : E₂ → Bool} {result : Result A₂ E₂} {fault₁ : E₁} {fault₂ : E₂}
      {old new : SizedPrinter W R} {bytes : List ℕ}
      → result ≡ Err fault₂ → is_writers₂ fault₂ ≡ is_writers₁ fault₁ → PrintsUnless sink is_writers₁ {A = A₁} (Err fault₁) old new bytes
      → PrintsUnless sink is_writers₂ result old new bytes
  Prints-fault is reported front =
      rw is (record {
        sent = front.sent;
        rest = front.rest;
        whole = front.whole;
        written = front.written;
        leaves = front.leaves
            ∙ sym reported;
        same_writer = front.same_writer;
      })

  -- what broke off within a part broke off within the whole
  pub Prints-within : {E A : Type 0} {is_writers : E → Bool} {fault : E} {old new : SizedPrinter W R} {a : List ℕ} (b : List ℕ)
      → PrintsUnless sink is_writers {A = A} (Err fault) old new a → PrintsUnless sink is_writers {A = A} (Err fault) old new (a ++ b)
  Prints-within {old = old} {a = a} b front = record {
    sent = front.sent;
    rest = front.rest ++ b;
    whole = sym (append_assoc front.sent front.rest b) ∙ ap (λ xs. xs ++ b) front.whole ∙ append_assoc old.bytes.items a b;
    written = front.written;
    leaves = front.leaves;
    same_writer = front.same_writer;
  }

  -- a `?` passes the fault on
  pub Prints-exited : {E A₁ A₂ : Type 0} {is_writers : E → Bool} {result : Result A₂ E} {fault : E} {old new : SizedPrinter W R} {bytes : List ℕ}
      → IsErrAnd result (λ same. same ≡ fault) → PrintsUnless sink is_writers {A = A₁} (Err fault) old new bytes
      → PrintsUnless sink is_writers result old new bytes
  Prints-exited {is_writers = is_writers} {result = result} exit front =
      let found = err_from_is_err_and result exit in
      Prints-fault found.1 (ap is_writers found.2) front

  -- and that of a part is that of the whole
  pub Prints-failed : {E A₁ A₂ : Type 0} {is_writers : E → Bool} {result : Result A₂ E} {fault : E} {old new : SizedPrinter W R} {a : List ℕ} (b : List ℕ)
      → IsErrAnd result (λ same. same ≡ fault) → PrintsUnless sink is_writers {A = A₁} (Err fault) old new a
      → PrintsUnless sink is_writers result old new (a ++ b)
  Prints-failed b exit front = Prints-exited exit (Prints-within b front)

  -- the same text, otherwise put together
  pub Prints-as : {E A : Type 0} {is_writers : E → Bool} {result : Result A E} {old new : SizedPrinter W R} {a b : List ℕ} → a ≡ b
      → PrintsUnless sink is_writers result old new a → PrintsUnless sink is_writers result old new b
  Prints-as {is_writers = is_writers} {result = result} {old = old} {new = new} same = subst (PrintsUnless sink is_writers result old new) same

  -- the first elements of a list were printed, and one more
  pub Prints-more : {E₁ E₂ A₁ A₂ : Type 0} {is_writers₁ : E₁ → Bool} {is_writers₂ : E₂ → Bool} {value : A₁} {result : Result A₂ E₂} {X : Type 0}
      (f : X → List ℕ) {xs : List X} {i : ℕ} {x : X} {first old new : SizedPrinter W R} → IsAt xs i x
      → PrintsUnless sink is_writers₁ (Ok value) first old (flat_map f (take i xs)) → PrintsUnless sink is_writers₂ result old new (f x)
      → PrintsUnless sink is_writers₂ result first new (flat_map f (take (i + 1) xs))
  Prints-more f {xs = xs} {i = i} {x = x} here before printed = Prints-as (flat_map-more f xs i x here) (Prints-then before printed)

  -- the first elements were printed, and the next broke off
  pub Prints-stopped : {E₁ E₂ A₁ A₂ A₃ : Type 0} {is_writers₁ : E₁ → Bool} {is_writers₂ : E₂ → Bool} {value : A₁} {result : Result A₃ E₂} {fault : E₂}
      {X : Type 0} (f : X → List ℕ) {xs : List X} {i : ℕ} {x : X} {first old new : SizedPrinter W R} → IsAt xs i x
      → IsErrAnd result (λ same. same ≡ fault) → PrintsUnless sink is_writers₁ (Ok value) first old (flat_map f (take i xs))
      → PrintsUnless sink is_writers₂ {A = A₂} (Err fault) old new (f x)
      → PrintsUnless sink is_writers₂ result first new (flat_map f xs)
  Prints-stopped f {xs = xs} {i = i} {x = x} here exit before front =
      Prints-as (flat_map-parts f xs i x here) (Prints-then before (Prints-failed (flat_map f (drop (i + 1) xs)) exit front))

  -- all elements were printed
  pub Prints-all : {E A : Type 0} {is_writers : E → Bool} {result : Result A E} {X : Type 0} (f : X → List ℕ) (xs : List X) (i : ℕ)
      {first new : SizedPrinter W R} → length xs ≤ i
      → PrintsUnless sink is_writers result first new (flat_map f (take i xs)) → PrintsUnless sink is_writers result first new (flat_map f xs)
  Prints-all f xs i past printed = Prints-as (ap (flat_map f) (take_all i xs past)) printed

  -- a text broke off behind nothing
  pub AppendsFront-broken : {E A : Type 0} {is_writers : E → Bool} {fault : E} {old new : SizedPrinter W R} {text : List ℕ} → old.bytes.items ≡ []
      → PrintsUnless sink is_writers {A = A} (Err fault) old new text → AppendsFront (sink.written old.writer.now) (sink.written new.writer.now) text
  AppendsFront-broken {text = text} empty front =
      record { sent = front.sent; unsent = front.rest; whole = front.whole ∙ ap (λ xs. xs ++ text) empty; written = front.written }

  -- a text was printed behind nothing, and what then waits was written
  pub Writes-finished : {E A : Type 0} {is_writers : E → Bool} {value : A} (result : Result (Unit {0}) EndFault) {old new : SizedPrinter W R} {text : List ℕ}
      (last : W) → old.bytes.items ≡ []
      → PrintsUnless sink is_writers (Ok value) old new text → Writes result (sink.written new.writer.now) (sink.written last) (sink.failed last)
      new.bytes.items
      → Writes result (sink.written old.writer.now) (sink.written last) (sink.failed last) text
  Writes-finished result {old = old} {new = new} {text = text} last empty printed wrote =
      let whole : printed.sent ++ new.bytes.items ≡ text = ap (λ xs. printed.sent ++ xs) printed.leaves.0 ∙ printed.whole ∙ ap (λ xs. xs ++ text) empty in
      Writes-behind result _ _ _ _ printed.sent _ _ whole printed.written wrote
