-- What an entry makes of the log so far.
use Rattle.std.proofs.Common.{◌≡◌, ℕ, ◌==◌, ◌+◌, ◌-◌, Bool, true, false, List, ◌++◌, length, take, drop, refl, ap, sym, ◌∙◌, subst, append_assoc, arith, ⊎_elim}
use Rattle.std.proofs.Common.{inl, inr, if◌then◌else◌}
use Rattle.std.specs.Prelude.{◌≢◌, ◌⊎◌}
use Rattle.std.proofs.lemmas.Bool.{eqb-true}
use Rattle.std.proofs.lemmas.List.{length-append, length-take-le, take-append-drop, take_all}
use Rattle.tox_log.specs.declared.files.log_state.LogState.{LogState}
use Rattle.tox_log.specs.declared.files.log_state.LogState.TheVariants.{Goes, Done, Cut, Reported}
use Rattle.tox_log.specs.files.LogSteps.{Adds, IsLogOf, Keeps}
use Rattle.tox_log.specs.files.WholeLines.{AreLines}
use Rattle.tox_log.proofs.files.Lines.{lines-append}

-- nothing more is kept of what is given
pub log-same : (most : ℕ) (logged text bytes : List ℕ) (old state : LogState) → state ≢ Goes → IsLogOf most logged bytes old
    → IsLogOf most (logged ++ text) bytes state
log-same most logged text bytes old state ended log = record {
  rest = log.rest ++ text;
  front = sym (append_assoc bytes log.rest text) ∙ ap (λ front. front ++ text) log.front;
  lines = log.lines;
  few = log.few;
  whole = λ goes. absurd (ended goes);
}

-- the lines that have room come behind the log of a text that is logged whole
log-keeps : (most : ℕ) (logged text taken old new : List ℕ) (next state : LogState) → IsLogOf most logged (taken ++ old) Goes
    → Keeps (most - (length taken + length old)) old text new next state → IsLogOf most (logged ++ text) (taken ++ new) state
log-keeps most logged text taken old new next state log keeps =
    let count : ℕ = keeps.count in
    let front : List ℕ = taken ++ old in
    let kept : taken ++ new ≡ front ++ take count text = ap (λ bytes. taken ++ bytes) keeps.kept ∙ sym (append_assoc taken old (take count text)) in
    let whole : front ≡ logged = log.whole refl in
    let len : length (take count text) ≡ count = length-take-le count text keeps.lines.within in
    let all : (taken ++ new) ++ drop count text ≡ logged ++ text =
    ap (λ bytes. bytes ++ drop count text) kept ∙ append_assoc front (take count text) (drop count text)
    ∙ ap (λ bytes. front ++ bytes) (take-append-drop count text) ∙ ap (λ bytes. bytes ++ text) whole in
    let P : List ℕ → Type 0 = AreLines in
    record {
      rest = drop count text;
      front = all;
      lines = subst P (sym kept) (lines-append front (take count text) log.lines keeps.lines.lines);
      few = omega (arith, ap length kept, length-append front (take count text), length-append taken old, len, log.few, keeps.lines.few);
      whole = by_test (count == length text) refl;
    }
  where
    by_test : (b : Bool) → (keeps.count == length text) ≡ b → state ≡ Goes → taken ++ new ≡ logged ++ text
    by_test true same goes =
        let all : take keeps.count text ≡ text = take_all keeps.count text (omega (arith, eqb-true keeps.count (length text) same)) in
        ap (λ bytes. taken ++ bytes) (keeps.kept ∙ ap (λ bytes. old ++ bytes) all) ∙ sym (append_assoc taken old text)
        ∙ ap (λ bytes. bytes ++ text) (log.whole refl)
    by_test false apart goes =
        let done : state ≡ Done = keeps.goes ∙ ap (λ test. if test then next else Done) apart in
        let no : Done ≡ Goes = sym done ∙ goes in
        (cc)

pub log-adds : (most : ℕ) (logged text taken old new : List ℕ) (next state : LogState) → IsLogOf most logged (taken ++ old) Goes
    → Adds (most - (length taken + length old)) old text new next state → IsLogOf most (logged ++ text) (taken ++ new) state
log-adds most logged text taken old new next state log adds =
    elim adds as (λ _. IsLogOf most (logged ++ text) (taken ++ new) state) [
      | inl keeps ↦ log-keeps most logged text taken old new next state log keeps
      | inr cut ↦ let P : List ℕ → Type 0 = (λ bytes. IsLogOf most (logged ++ text) (taken ++ bytes) state) in
          subst P (sym cut.0) (log-same most logged text (taken ++ old) Goes state (λ goes. let no : Cut ≡ Goes = sym cut.1 ∙ goes in (cc)) log)
    ]

-- the log of the same
pub log-of : (most limit : ℕ) (logged bytes others : List ℕ) (state other : LogState) → limit ≡ most → others ≡ bytes → other ≡ state
    → IsLogOf most logged bytes state → IsLogOf limit logged others other
log-of most limit logged bytes others state other limits same states log = record {
  rest = log.rest;
  front = ap (λ front. front ++ log.rest) same ∙ log.front;
  lines = let P : List ℕ → Type 0 = AreLines in subst P (sym same) log.lines;
  few = omega (arith, limits, ap length same, log.few);
  whole = λ goes. same ∙ log.whole (sym states ∙ goes);
}

-- a log goes, or it doesn't
is_going : (state : LogState) → (state ≡ Goes) ⊎ (state ≢ Goes)
is_going Goes = inl refl
is_going Done = inr (λ same. (cc))
is_going Cut = inr (λ same. (cc))
is_going Reported = inr (λ same. (cc))

-- an entry comes behind the log so far, whether it goes or has ended
pub log-entry : (most count : ℕ) (logged text taken old new : List ℕ) (before next after : LogState) → length taken ≡ count
    → (before ≡ Goes → Adds (most - (count + length old)) old text new next after)
    → (before ≢ Goes → (new ≡ old) × (after ≡ before))
    → IsLogOf most logged (taken ++ old) before → IsLogOf most (logged ++ text) (taken ++ new) after
log-entry most count logged text taken old new before next after len adds ended log =
    ⊎_elim going past (is_going before)
  where
    going : before ≡ Goes → IsLogOf most (logged ++ text) (taken ++ new) after
    going goes =
        let here : IsLogOf most logged (taken ++ old) Goes = subst (IsLogOf most logged (taken ++ old)) goes log in
        let P : ℕ → Type 0 = λ n. Adds (most - (n + length old)) old text new next after in
        log-adds most logged text taken old new next after here (subst P (sym len) (adds goes))

    past : before ≢ Goes → IsLogOf most (logged ++ text) (taken ++ new) after
    past over =
        let same = ended over in
        let P : List ℕ → Type 0 = λ bytes. IsLogOf most (logged ++ text) (taken ++ bytes) after in
        subst P (sym same.0) (log-same most logged text (taken ++ old) before after (λ goes. over (sym same.1 ∙ goes)) log)
