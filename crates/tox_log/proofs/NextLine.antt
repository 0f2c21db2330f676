-- The line that is read next is the one that stands there.
use Rattle.std.proofs.Common.{◌≡◌, ℕ, ◌≤◌, false, List, [], ◌∷◌, ◌++◌, length, Option, Some, None, ap, sym, subst, ◌∙◌, append_assoc, append-nil}
use Rattle.std.specs.Io.KnownBytes.{IsAtEnd, prepend_known}
use Rattle.tox_log.specs.declared.line_reader.LineReader.{LineReader}
use Rattle.tox_log.specs.Left.{HasLineNext}
use Rattle.tox_log.specs.Numbers.{Lacks}
use Rattle.tox_log.specs.Reading.{IsLineRead, TakesLine, TakesRest, to_take}
use Rattle.tox_log.proofs.Cuts.{cut-once, stands}

-- a line in bytes that are known
pub line-of : (given left : Option (List ℕ)) (line text more : List ℕ) → given ≡ Some ((line ++ 10 ∷ []) ++ more) → given ≡ prepend_known (text ++ 10 ∷ []) left
    → Lacks 10 line → Lacks 10 text → (text ≡ line) × (left ≡ Some more)
line-of given None line text more is taken lacks_line lacks_text = absurd (no-bytes (sym is ∙ taken))
  where
    no-bytes : Some ((line ++ 10 ∷ []) ++ more) ≡ None → ⊥
    no-bytes same = cc
line-of given (Some rest) line text more is taken lacks_line lacks_text =
    let same : (line ++ 10 ∷ []) ++ more ≡ (text ++ 10 ∷ []) ++ rest = bytes-of (sym is ∙ taken) in
    let parts = cut-once 10 line more text rest lacks_line lacks_text (sym (append_assoc line (10 ∷ []) more) ∙ same ∙ append_assoc text (10 ∷ []) rest) in
    (sym parts.0, ap Some (sym parts.1))
  where
    bytes-of : Some ((line ++ 10 ∷ []) ++ more) ≡ Some ((text ++ 10 ∷ []) ++ rest) → (line ++ 10 ∷ []) ++ more ≡ (text ++ 10 ∷ []) ++ rest
    bytes-of same = cc

-- bytes without a line feed have no line
pub no-line : (given left : Option (List ℕ)) (torn text : List ℕ) → given ≡ Some torn → given ≡ prepend_known (text ++ 10 ∷ []) left → Lacks 10 torn → ⊥
no-line given None torn text is taken lacks = no-bytes (sym is ∙ taken)
  where
    no-bytes : Some torn ≡ None → ⊥
    no-bytes same = cc
no-line given (Some rest) torn text is taken lacks =
    let same : torn ≡ (text ++ 10 ∷ []) ++ rest = bytes-of (sym is ∙ taken) in
    stands 10 text rest (subst (Lacks 10) (same ∙ append_assoc text (10 ∷ []) rest) lacks)
  where
    bytes-of : Some torn ≡ Some ((text ++ 10 ∷ []) ++ rest) → torn ≡ (text ++ 10 ∷ []) ++ rest
    bytes-of same = cc

-- a line is no torn rest
pub no-torn : (given left : Option (List ℕ)) (line more torn : List ℕ) → given ≡ Some ((line ++ 10 ∷ []) ++ more) → given ≡ prepend_known torn left
    → Lacks 10 torn → IsAtEnd left → ⊥
no-torn given None line more torn is taken lacks ended = no-bytes (sym is ∙ taken)
  where
    no-bytes : Some ((line ++ 10 ∷ []) ++ more) ≡ None → ⊥
    no-bytes same = cc
no-torn given (Some rest) line more torn is taken lacks ended =
    let same : (line ++ 10 ∷ []) ++ more ≡ torn ++ rest = bytes-of (sym is ∙ taken) in
    let whole : torn ≡ line ++ 10 ∷ more = sym (append-nil torn) ∙ ap (λ rest. torn ++ rest) (sym ended) ∙ sym same ∙ append_assoc line (10 ∷ []) more in
    stands 10 line more (subst (Lacks 10) whole lacks)
  where
    bytes-of : Some ((line ++ 10 ∷ []) ++ more) ≡ Some (torn ++ rest) → (line ++ 10 ∷ []) ++ more ≡ torn ++ rest
    bytes-of same = cc

-- behind a torn rest nothing is left
pub torn-taken : (given left : Option (List ℕ)) (torn text : List ℕ) → given ≡ Some torn → given ≡ prepend_known text left → IsAtEnd left → left ≡ Some []
torn-taken given None torn text is taken ended = absurd (no-bytes (sym is ∙ taken))
  where
    no-bytes : Some torn ≡ None → ⊥
    no-bytes same = cc
torn-taken given (Some rest) torn text is taken ended = ap Some ended

-- the next line was read
pub next-line : (old new : LineReader) (before after : Option (List ℕ)) (line more : List ℕ) → HasLineNext (to_take old before) line more
    → TakesLine old new before after
    → (IsLineRead new line) × (to_take new after ≡ Some more)
next-line old new before after line more next (text, takes, lacks) =
    let parts = line-of (to_take old before) (to_take new after) line text more next.bytes takes.given next.unended lacks in
    let short : new.long ≡ false = takes.line.1 (subst (λ t. length t ≤ 4_096) (sym parts.0) next.short) in
    ((takes.line.0 short ∙ parts.0, short), parts.1)

-- there is a next line
pub no-rest : (old new : LineReader) (before after : Option (List ℕ)) (line more : List ℕ) → HasLineNext (to_take old before) line more
    → TakesRest old new before after → ⊥
no-rest old new before after line more next rest = no-torn (to_take old before) (to_take new after) line more rest.torn next.bytes rest.given rest.unended
    rest.ended
