-- A line is read back first_slice itself: two lines that print the same are the same.
use Rattle.std.proofs.Common.{◌≡◌, ℕ, ◌^◌, ◌≤◌, List, ◌∷◌, ◌++◌, Option, Some, None, codes, refl, ap, sym, subst, ◌∙◌, append_assoc, arith}
use Rattle.std.specs.Fmt.{decimal}
use Rattle.std.proofs.lemmas.Fmt.{decimal_injective}
use Rattle.tox_time.specs.declared.streams.slice.Slice.{Slice}
use Rattle.tox_time.specs.declared.streams.span.Span.{Span}
use Rattle.tox_time.specs.Time.{IsInstant}
use Rattle.tox_time.specs.declared.streams.ending.Ending.TheVariants.{StillOpen, Closed as ClosedAt, Reset as ResetAt}
use Rattle.tox_link.specs.declared.notes.LinkEvent.TheVariants.{Piece, SourceEnd, Wrote}
use Rattle.tox_log.specs.declared.last_line.BreakCause.{BreakCause}
use Rattle.tox_log.specs.declared.last_line.BreakCause.TheVariants.{Write, Memory, Thread, Upstream, Stopped}
use Rattle.tox_log.specs.declared.last_line.LastLine.TheVariants.{Ended, Broken}
use Rattle.tox_log.specs.declared.event_line.LogLine.{LogLine}
use Rattle.tox_log.specs.declared.event_line.LogLine.TheVariants.{Event, SourceReset, Last}
use Rattle.tox_log.specs.LastText.{cause_name}
use Rattle.tox_log.specs.Lines.{line_words, IsWritable, IsWritableSpan, ReadsLine}
use Rattle.tox_log.specs.Numbers.{Lacks}
use Rattle.tox_log.proofs.Cuts.{cut-once, number-lacks, stands}
use Rattle.tox_log.proofs.NoLines.{cause-cut, cause-lacks, first-lacks, first_words, lacks-by, line-cut, line-parts, no-word, other-word, range-lacks}
use Rattle.tox_log.proofs.NoLines.{rest_words, span-cut}

-- numbers up to 10^15 that print the same
same-instant : (m n : ℕ) → IsInstant m → IsInstant n → decimal m ≡ decimal n → m ≡ n
same-instant m n m_fits n_fits = decimal_injective m n (omega (arith, m_fits)) (omega (arith, n_fits))

-- numbers up to 2^40 that print the same
same-count : (m n : ℕ) → m ≤ 2 ^ 40 → n ≤ 2 ^ 40 → decimal m ≡ decimal n → m ≡ n
same-count m n m_fits n_fits = decimal_injective m n (omega (arith, m_fits)) (omega (arith, n_fits))

abbrev span-of : ℕ → ℕ → Span
span-of start stop = record { start = start; stop = stop }

abbrev slice-of : Span → ℕ → Slice
slice-of span instant = record { span = span; instant = instant }

same-span : (a b : Span) → IsWritableSpan a → IsWritableSpan b → decimal a.start ++ codes ".." ++ decimal a.stop
    ≡ decimal b.start ++ codes ".." ++ decimal b.stop → a ≡ b
same-span a b a_fits b_fits same =
    let dots : decimal a.start ++ 46 ∷ 46 ∷ decimal a.stop ≡ decimal a.start ++ codes ".." ++ decimal a.stop = simp append_assoc in
    let parts = span-cut (decimal a.start) (46 ∷ decimal a.stop) b b_fits (number-lacks 46 a.start (omega arith) (omega (arith, a_fits.0))) (dots ∙ same) in
    let start : a.start ≡ b.start = same-count a.start b.start a_fits.0 b_fits.0 parts.0 in
    let digits : decimal a.stop ≡ decimal b.stop = cc in
    let stop : a.stop ≡ b.stop = same-count a.stop b.stop a_fits.1 b_fits.1 digits in
    ap (λ t. span-of t a.stop) start ∙ ap (span-of b.start) stop

same-slice : (a b : Slice) → IsWritableSpan a.span → IsInstant a.instant → IsWritableSpan b.span → IsInstant b.instant
    → (decimal a.span.start ++ codes ".." ++ decimal a.span.stop) ++ 32 ∷ decimal a.instant
    ≡ (decimal b.span.start ++ codes ".." ++ decimal b.span.stop) ++ 32 ∷ decimal b.instant → a ≡ b
same-slice a b a_span a_fits b_span b_fits same =
    let parts = cut-once 32 (decimal a.span.start ++ codes ".." ++ decimal a.span.stop) (decimal a.instant)
    (decimal b.span.start ++ codes ".." ++ decimal b.span.stop) (decimal b.instant) (range-lacks a.span a_span) (range-lacks b.span b_span) same in
    let span : a.span ≡ b.span = same-span a.span b.span a_span b_span parts.0 in
    let instant : a.instant ≡ b.instant = same-instant a.instant b.instant a_fits b_fits parts.1 in
    ap (λ t. slice-of t a.instant) span ∙ ap (slice-of b.span) instant

same-cause : (a b : BreakCause) → cause_name a ≡ cause_name b → a ≡ b
same-cause Write Write same = refl
same-cause Write Memory same = absurd (other-word (cause_name Write) (cause_name Memory) refl same)
same-cause Write Thread same = absurd (other-word (cause_name Write) (cause_name Thread) refl same)
same-cause Write Upstream same = absurd (other-word (cause_name Write) (cause_name Upstream) refl same)
same-cause Write Stopped same = absurd (other-word (cause_name Write) (cause_name Stopped) refl same)
same-cause Memory Write same = absurd (other-word (cause_name Memory) (cause_name Write) refl same)
same-cause Memory Memory same = refl
same-cause Memory Thread same = absurd (other-word (cause_name Memory) (cause_name Thread) refl same)
same-cause Memory Upstream same = absurd (other-word (cause_name Memory) (cause_name Upstream) refl same)
same-cause Memory Stopped same = absurd (other-word (cause_name Memory) (cause_name Stopped) refl same)
same-cause Thread Write same = absurd (other-word (cause_name Thread) (cause_name Write) refl same)
same-cause Thread Memory same = absurd (other-word (cause_name Thread) (cause_name Memory) refl same)
same-cause Thread Thread same = refl
same-cause Thread Upstream same = absurd (other-word (cause_name Thread) (cause_name Upstream) refl same)
same-cause Thread Stopped same = absurd (other-word (cause_name Thread) (cause_name Stopped) refl same)
same-cause Upstream Write same = absurd (other-word (cause_name Upstream) (cause_name Write) refl same)
same-cause Upstream Memory same = absurd (other-word (cause_name Upstream) (cause_name Memory) refl same)
same-cause Upstream Thread same = absurd (other-word (cause_name Upstream) (cause_name Thread) refl same)
same-cause Upstream Upstream same = refl
same-cause Upstream Stopped same = absurd (other-word (cause_name Upstream) (cause_name Stopped) refl same)
same-cause Stopped Write same = absurd (other-word (cause_name Stopped) (cause_name Write) refl same)
same-cause Stopped Memory same = absurd (other-word (cause_name Stopped) (cause_name Memory) refl same)
same-cause Stopped Thread same = absurd (other-word (cause_name Stopped) (cause_name Thread) refl same)
same-cause Stopped Upstream same = absurd (other-word (cause_name Stopped) (cause_name Upstream) refl same)
same-cause Stopped Stopped same = refl

-- two lines of one text are one line
same-parts : (a b : LogLine) → IsWritable a → IsWritable b → first_words a ≡ first_words b → rest_words a ≡ rest_words b → a ≡ b
same-parts (Event (Piece an at)) (Event (Piece bn bt)) wa wb first rest =
    let t : at ≡ bt = same-instant at bt wa.0 wb.0 first in
    let digits : decimal an ≡ decimal bn = cc in
    let n : an ≡ bn = same-count an bn (omega (arith, wa.1)) (omega (arith, wb.1)) digits in cc
same-parts (Event (Piece an at)) (Event (SourceEnd bt)) wa wb first rest =
    absurd (other-word (rest_words (Event (Piece an at))) (rest_words (Event (SourceEnd bt))) refl rest)
same-parts (Event (Piece an at)) (Event (Wrote other_slice bt)) wa wb first rest =
    absurd (other-word (rest_words (Event (Piece an at))) (rest_words (Event (Wrote other_slice bt))) refl rest)
same-parts (Event (Piece an at)) (SourceReset bt) wa wb first rest = absurd
    (other-word (rest_words (Event (Piece an at))) (rest_words (SourceReset bt)) refl rest)
same-parts (Event (Piece an at)) (Last (Ended bt StillOpen)) wa wb first rest =
    absurd (other-word (rest_words (Event (Piece an at))) (rest_words (Last (Ended bt StillOpen))) refl rest)
same-parts (Event (Piece an at)) (Last (Ended bt (ClosedAt bu))) wa wb first rest =
    absurd (other-word (rest_words (Event (Piece an at))) (rest_words (Last (Ended bt (ClosedAt bu)))) refl rest)
same-parts (Event (Piece an at)) (Last (Ended bt (ResetAt bu))) wa wb first rest =
    absurd (other-word (rest_words (Event (Piece an at))) (rest_words (Last (Ended bt (ResetAt bu)))) refl rest)
same-parts (Event (Piece an at)) (Last (Broken bc bn)) wa wb first rest = absurd (no-word at (omega (arith, wa.0)) first)
same-parts (Event (SourceEnd at)) (Event (Piece bn bt)) wa wb first rest =
    absurd (other-word (rest_words (Event (SourceEnd at))) (rest_words (Event (Piece bn bt))) refl rest)
same-parts (Event (SourceEnd at)) (Event (SourceEnd bt)) wa wb first rest =
    let t : at ≡ bt = same-instant at bt wa wb first in cc
same-parts (Event (SourceEnd at)) (Event (Wrote other_slice bt)) wa wb first rest =
    absurd (other-word (rest_words (Event (SourceEnd at))) (rest_words (Event (Wrote other_slice bt))) refl rest)
same-parts (Event (SourceEnd at)) (SourceReset bt) wa wb first rest = absurd
    (stands 32 (codes "end") (codes "reset") (subst (Lacks 32) rest (lacks-by 32 (codes "end") refl)))
same-parts (Event (SourceEnd at)) (Last (Ended bt StillOpen)) wa wb first rest =
    absurd (other-word (rest_words (Event (SourceEnd at))) (rest_words (Last (Ended bt StillOpen))) refl rest)
same-parts (Event (SourceEnd at)) (Last (Ended bt (ClosedAt bu))) wa wb first rest =
    absurd (other-word (rest_words (Event (SourceEnd at))) (rest_words (Last (Ended bt (ClosedAt bu)))) refl rest)
same-parts (Event (SourceEnd at)) (Last (Ended bt (ResetAt bu))) wa wb first rest =
    absurd (other-word (rest_words (Event (SourceEnd at))) (rest_words (Last (Ended bt (ResetAt bu)))) refl rest)
same-parts (Event (SourceEnd at)) (Last (Broken bc bn)) wa wb first rest = absurd (no-word at (omega (arith, wa)) first)
same-parts (Event (Wrote first_slice at)) (Event (Piece bn bt)) wa wb first rest =
    absurd (other-word (rest_words (Event (Wrote first_slice at))) (rest_words (Event (Piece bn bt))) refl rest)
same-parts (Event (Wrote first_slice at)) (Event (SourceEnd bt)) wa wb first rest =
    absurd (other-word (rest_words (Event (Wrote first_slice at))) (rest_words (Event (SourceEnd bt))) refl rest)
same-parts (Event (Wrote first_slice at)) (Event (Wrote other_slice bt)) wa wb first rest =
    let t : at ≡ bt = same-instant at bt wa.0 wb.0 first in
    let slice : first_slice ≡ other_slice = same-slice first_slice other_slice wa.1 wa.2 wb.1 wb.2 cc in cc
same-parts (Event (Wrote first_slice at)) (SourceReset bt) wa wb first rest =
    absurd (other-word (rest_words (Event (Wrote first_slice at))) (rest_words (SourceReset bt)) refl rest)
same-parts (Event (Wrote first_slice at)) (Last (Ended bt StillOpen)) wa wb first rest =
    absurd (other-word (rest_words (Event (Wrote first_slice at))) (rest_words (Last (Ended bt StillOpen))) refl rest)
same-parts (Event (Wrote first_slice at)) (Last (Ended bt (ClosedAt bu))) wa wb first rest =
    absurd (other-word (rest_words (Event (Wrote first_slice at))) (rest_words (Last (Ended bt (ClosedAt bu)))) refl rest)
same-parts (Event (Wrote first_slice at)) (Last (Ended bt (ResetAt bu))) wa wb first rest =
    absurd (other-word (rest_words (Event (Wrote first_slice at))) (rest_words (Last (Ended bt (ResetAt bu)))) refl rest)
same-parts (Event (Wrote first_slice at)) (Last (Broken bc bn)) wa wb first rest = absurd (no-word at (omega (arith, wa.0)) first)
same-parts (SourceReset at) (Event (Piece bn bt)) wa wb first rest = absurd
    (other-word (rest_words (SourceReset at)) (rest_words (Event (Piece bn bt))) refl rest)
same-parts (SourceReset at) (Event (SourceEnd bt)) wa wb first rest = absurd
    (stands 32 (codes "end") (codes "reset") (subst (Lacks 32) (sym rest) (lacks-by 32 (codes "end") refl)))
same-parts (SourceReset at) (Event (Wrote other_slice bt)) wa wb first rest =
    absurd (other-word (rest_words (SourceReset at)) (rest_words (Event (Wrote other_slice bt))) refl rest)
same-parts (SourceReset at) (SourceReset bt) wa wb first rest =
    let t : at ≡ bt = same-instant at bt wa wb first in cc
same-parts (SourceReset at) (Last (Ended bt StillOpen)) wa wb first rest =
    absurd (other-word (rest_words (SourceReset at)) (rest_words (Last (Ended bt StillOpen))) refl rest)
same-parts (SourceReset at) (Last (Ended bt (ClosedAt bu))) wa wb first rest =
    absurd (other-word (rest_words (SourceReset at)) (rest_words (Last (Ended bt (ClosedAt bu)))) refl rest)
same-parts (SourceReset at) (Last (Ended bt (ResetAt bu))) wa wb first rest =
    absurd (other-word (rest_words (SourceReset at)) (rest_words (Last (Ended bt (ResetAt bu)))) refl rest)
same-parts (SourceReset at) (Last (Broken bc bn)) wa wb first rest = absurd (no-word at (omega (arith, wa)) first)
same-parts (Last (Ended at StillOpen)) (Event (Piece bn bt)) wa wb first rest =
    absurd (other-word (rest_words (Last (Ended at StillOpen))) (rest_words (Event (Piece bn bt))) refl rest)
same-parts (Last (Ended at StillOpen)) (Event (SourceEnd bt)) wa wb first rest =
    absurd (other-word (rest_words (Last (Ended at StillOpen))) (rest_words (Event (SourceEnd bt))) refl rest)
same-parts (Last (Ended at StillOpen)) (Event (Wrote other_slice bt)) wa wb first rest =
    absurd (other-word (rest_words (Last (Ended at StillOpen))) (rest_words (Event (Wrote other_slice bt))) refl rest)
same-parts (Last (Ended at StillOpen)) (SourceReset bt) wa wb first rest =
    absurd (other-word (rest_words (Last (Ended at StillOpen))) (rest_words (SourceReset bt)) refl rest)
same-parts (Last (Ended at StillOpen)) (Last (Ended bt StillOpen)) wa wb first rest =
    let t : at ≡ bt = same-instant at bt wa.0 wb.0 first in cc
same-parts (Last (Ended at StillOpen)) (Last (Ended bt (ClosedAt bu))) wa wb first rest =
    absurd (other-word (rest_words (Last (Ended at StillOpen))) (rest_words (Last (Ended bt (ClosedAt bu)))) refl rest)
same-parts (Last (Ended at StillOpen)) (Last (Ended bt (ResetAt bu))) wa wb first rest =
    absurd (other-word (rest_words (Last (Ended at StillOpen))) (rest_words (Last (Ended bt (ResetAt bu)))) refl rest)
same-parts (Last (Ended at StillOpen)) (Last (Broken bc bn)) wa wb first rest = absurd (no-word at (omega (arith, wa.0)) first)
same-parts (Last (Ended at (ClosedAt au))) (Event (Piece bn bt)) wa wb first rest =
    absurd (other-word (rest_words (Last (Ended at (ClosedAt au)))) (rest_words (Event (Piece bn bt))) refl rest)
same-parts (Last (Ended at (ClosedAt au))) (Event (SourceEnd bt)) wa wb first rest =
    absurd (other-word (rest_words (Last (Ended at (ClosedAt au)))) (rest_words (Event (SourceEnd bt))) refl rest)
same-parts (Last (Ended at (ClosedAt au))) (Event (Wrote other_slice bt)) wa wb first rest =
    absurd (other-word (rest_words (Last (Ended at (ClosedAt au)))) (rest_words (Event (Wrote other_slice bt))) refl rest)
same-parts (Last (Ended at (ClosedAt au))) (SourceReset bt) wa wb first rest =
    absurd (other-word (rest_words (Last (Ended at (ClosedAt au)))) (rest_words (SourceReset bt)) refl rest)
same-parts (Last (Ended at (ClosedAt au))) (Last (Ended bt StillOpen)) wa wb first rest =
    absurd (other-word (rest_words (Last (Ended at (ClosedAt au)))) (rest_words (Last (Ended bt StillOpen))) refl rest)
same-parts (Last (Ended at (ClosedAt au))) (Last (Ended bt (ClosedAt bu))) wa wb first rest =
    let t : at ≡ bt = same-instant at bt wa.0 wb.0 first in
    let digits : decimal au ≡ decimal bu = cc in
    let u : au ≡ bu = same-instant au bu wa.1 wb.1 digits in cc
same-parts (Last (Ended at (ClosedAt au))) (Last (Ended bt (ResetAt bu))) wa wb first rest =
    absurd (other-word (rest_words (Last (Ended at (ClosedAt au)))) (rest_words (Last (Ended bt (ResetAt bu)))) refl rest)
same-parts (Last (Ended at (ClosedAt au))) (Last (Broken bc bn)) wa wb first rest = absurd (no-word at (omega (arith, wa.0)) first)
same-parts (Last (Ended at (ResetAt au))) (Event (Piece bn bt)) wa wb first rest =
    absurd (other-word (rest_words (Last (Ended at (ResetAt au)))) (rest_words (Event (Piece bn bt))) refl rest)
same-parts (Last (Ended at (ResetAt au))) (Event (SourceEnd bt)) wa wb first rest =
    absurd (other-word (rest_words (Last (Ended at (ResetAt au)))) (rest_words (Event (SourceEnd bt))) refl rest)
same-parts (Last (Ended at (ResetAt au))) (Event (Wrote other_slice bt)) wa wb first rest =
    absurd (other-word (rest_words (Last (Ended at (ResetAt au)))) (rest_words (Event (Wrote other_slice bt))) refl rest)
same-parts (Last (Ended at (ResetAt au))) (SourceReset bt) wa wb first rest =
    absurd (other-word (rest_words (Last (Ended at (ResetAt au)))) (rest_words (SourceReset bt)) refl rest)
same-parts (Last (Ended at (ResetAt au))) (Last (Ended bt StillOpen)) wa wb first rest =
    absurd (other-word (rest_words (Last (Ended at (ResetAt au)))) (rest_words (Last (Ended bt StillOpen))) refl rest)
same-parts (Last (Ended at (ResetAt au))) (Last (Ended bt (ClosedAt bu))) wa wb first rest =
    absurd (other-word (rest_words (Last (Ended at (ResetAt au)))) (rest_words (Last (Ended bt (ClosedAt bu)))) refl rest)
same-parts (Last (Ended at (ResetAt au))) (Last (Ended bt (ResetAt bu))) wa wb first rest =
    let t : at ≡ bt = same-instant at bt wa.0 wb.0 first in
    let digits : decimal au ≡ decimal bu = cc in
    let u : au ≡ bu = same-instant au bu wa.1 wb.1 digits in cc
same-parts (Last (Ended at (ResetAt au))) (Last (Broken bc bn)) wa wb first rest = absurd (no-word at (omega (arith, wa.0)) first)
same-parts (Last (Broken ac an)) (Event (Piece bn bt)) wa wb first rest = absurd (no-word bt (omega (arith, wb.0)) (sym first))
same-parts (Last (Broken ac an)) (Event (SourceEnd bt)) wa wb first rest = absurd (no-word bt (omega (arith, wb)) (sym first))
same-parts (Last (Broken ac an)) (Event (Wrote other_slice bt)) wa wb first rest = absurd (no-word bt (omega (arith, wb.0)) (sym first))
same-parts (Last (Broken ac an)) (SourceReset bt) wa wb first rest = absurd (no-word bt (omega (arith, wb)) (sym first))
same-parts (Last (Broken ac an)) (Last (Ended bt StillOpen)) wa wb first rest = absurd (no-word bt (omega (arith, wb.0)) (sym first))
same-parts (Last (Broken ac an)) (Last (Ended bt (ClosedAt bu))) wa wb first rest = absurd (no-word bt (omega (arith, wb.0)) (sym first))
same-parts (Last (Broken ac an)) (Last (Ended bt (ResetAt bu))) wa wb first rest = absurd (no-word bt (omega (arith, wb.0)) (sym first))
same-parts (Last (Broken ac an)) (Last (Broken bc bn)) wa wb first rest =
    let parts = cause-cut (cause_name ac) (decimal an) bc bn (cause-lacks ac) rest in
    let cause : ac ≡ bc = same-cause ac bc parts.0 in
    let n : an ≡ bn = same-count an bn wa wb parts.1 in cc

pub same-line : (a b : LogLine) → IsWritable a → IsWritable b → line_words a ≡ line_words b → a ≡ b
same-line a b wa wb same =
    let parts = line-cut (first_words a) (rest_words a) (first-lacks a wa) b wb (sym (line-parts a) ∙ same) in same-parts a b wa wb parts.0 parts.1

-- what is read is the line that prints so
pub only-line : (read : Option LogLine) (text : List ℕ) → ReadsLine read text → (line : LogLine) → IsWritable line → text ≡ line_words line → read ≡ Some line
only-line None text reads line writable is = absurd (reads line writable is)
only-line (Some other) text reads line writable is = ap Some (same-line other line reads.1 writable (sym reads.0 ∙ is))
