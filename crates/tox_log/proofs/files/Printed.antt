-- What is kept of a text that was printed behind the lines that wait.
use Rattle.std.proofs.Common.{◌≡◌, ℕ, ◌==◌, ◌+◌, ◌-◌, ◌≤◌, Bool, true, List, ◌++◌, Some, Result, Ok, Err, length, take, drop, refl, ap, ap₂, ◌∙◌, subst}
use Rattle.std.proofs.Common.{take-add, arith, inl, if◌then◌else◌}
use Rattle.std.specs.Result.{is_ok}
use Rattle.std.proofs.lemmas.List.{drop_at, length-append, length-take-le, take_all, take_at}
use Rattle.tox_time.specs.declared.ends.EndFault.{EndFault}
use Rattle.tox_text.specs.Writing.{Writes}
use Rattle.tox_log.specs.declared.files.log_state.LogState.{LogState}
use Rattle.tox_log.specs.declared.files.log_state.LogState.TheVariants.{Done}
use Rattle.tox_log.specs.files.LogSteps.{Adds}
use Rattle.tox_log.specs.files.WholeLines.{IsLinesWithin}

-- what waited before stands in front of what was printed
pub printed-front : (result : Result (Unit {0}) EndFault) (old new text : List ℕ) (failed : Bool) → Writes result (Some old) (Some new) failed text
    → take (length old) new ≡ old
printed-front (Ok done) old new text failed wrote =
    let same : new ≡ old ++ text = cc (wrote.0) in
    ap (take (length old)) same ∙ take_at old text (length old) refl
printed-front (Err fault) old new text failed wrote =
    let sent : List ℕ = wrote.0.sent in
    let same : new ≡ old ++ sent = cc (wrote.0.written) in
    ap (take (length old)) same ∙ take_at old sent (length old) refl

-- a text that was printed whole
pub printed-whole : (result : Result (Unit {0}) EndFault) (old new text : List ℕ) (failed : Bool) → Writes result (Some old) (Some new) failed text
    → is_ok result ≡ true → new ≡ old ++ text
printed-whole (Ok done) old new text failed wrote ok = cc (wrote.0)
printed-whole (Err fault) old new text failed wrote ok = (cc)

take-behind : (old text : List ℕ) (count : ℕ) → take (length old + count) (old ++ text) ≡ old ++ take count text
take-behind old text count = take-add (length old) count (old ++ text)
    ∙ ap₂ (λ (front rest : List ℕ). front ++ take count rest) (take_at old text (length old) refl) (drop_at old text (length old) refl)

-- the whole lines that have room are kept
pub keeps-cut : (room count : ℕ) (old text mid part new : List ℕ) (next state : LogState) → mid ≡ old ++ text
    → part ≡ take (length mid - length old) (drop (length old) mid) → IsLinesWithin room part count
    → new ≡ take (length old + count) mid → length old + count ≤ 1048576
    → state ≡ (if count == length part then next else Done) → Adds room old text new next state
keeps-cut room count old text mid part new next state printed slice lines cut few goes =
    let rest : drop (length old) mid ≡ text = ap (drop (length old)) printed ∙ drop_at old text (length old) refl in
    let len : length mid ≡ length old + length text = ap length printed ∙ length-append old text in
    let all : part ≡ text = slice ∙ take_all (length mid - length old) (drop (length old) mid) (omega (arith, len, ap length rest)) ∙ rest in
    let kept : new ≡ old ++ take count text = cut ∙ ap (take (length old + count)) printed ∙ take-behind old text count in
    let P : List ℕ → Type 0 = λ some. IsLinesWithin room some count in
    let here : IsLinesWithin room text count = subst P all lines in
    inl (record {
      count = count;
      lines = here;
      kept = kept;
      few = omega (arith, few, ap length kept, length-append old (take count text), length-take-le count text here.within);
      goes = goes ∙ ap (λ some. if count == length some then next else Done) all;
    })
