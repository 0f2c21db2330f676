-- A text that is cut at its first space is the line that has these parts, and no other.
use Rattle.std.proofs.Common.{◌≡◌, ℕ, ◌^◌, ◌<◌, ◌≤◌, true, false, List, [], ◌∷◌, ◌++◌, Option, None, MatchOption, codes, get_or, refl, ap, sym, ◌∙◌, subst}
use Rattle.std.proofs.Common.{append_assoc, arith}
use Rattle.std.specs.Prelude.{◌≢◌, not, nat_eq}
use Rattle.std.specs.Fmt.{decimal}
use Rattle.std.specs.List.{list_all}
use Rattle.std.proofs.lemmas.Bool.{and_parts}
use Rattle.std.proofs.lemmas.Bool.Decides.{nat_tests}
use Rattle.std.specs.Char.{is_ascii_digit}
use Rattle.std.proofs.lemmas.Fmt.{digits_decimal}
use Rattle.std.proofs.lemmas.List.Elements.{All-append, All-cons, All-nil}
use Rattle.tox_time.proofs.Numbers.{ascii_digits}
use Rattle.tox_time.specs.declared.streams.slice.Slice.{Slice}
use Rattle.tox_time.specs.declared.streams.span.Span.{Span}
use Rattle.tox_time.specs.Time.{IsInstant}
use Rattle.tox_time.specs.declared.streams.ending.Ending.TheVariants.{StillOpen, Closed as ClosedAt, Reset as ResetAt}
use Rattle.tox_link.specs.declared.notes.LinkEvent.TheVariants.{Piece, SourceEnd, Wrote}
use Rattle.tox_text.specs.ResultText.{ending_words}
use Rattle.tox_log.specs.declared.last_line.BreakCause.{BreakCause}
use Rattle.tox_log.specs.declared.last_line.BreakCause.TheVariants.{Write, Memory, Thread, Upstream, Stopped}
use Rattle.tox_log.specs.declared.last_line.LastLine.TheVariants.{Ended, Broken}
use Rattle.tox_log.specs.declared.event_line.LogLine.{LogLine}
use Rattle.tox_log.specs.declared.event_line.LogLine.TheVariants.{Event, SourceReset, Last}
use Rattle.tox_log.specs.LastText.{cause_name}
use Rattle.tox_log.specs.Lines.{line_words, IsNoLine, IsWritable, IsWritableSpan, ReadsLine}
use Rattle.tox_log.specs.Numbers.{Lacks}
use Rattle.tox_log.proofs.Cuts.{cut-once, number-lacks, stands}

-- a text without such a byte, where that can be computed
pub lacks-by : (byte : ℕ) (text : List ℕ) → list_all (λ other. not (nat_eq other byte)) text ≡ true → Lacks byte text
lacks-by byte [] all = All-nil (λ other. other ≢ byte)
lacks-by byte (x ∷ xs) all =
    let parts = and_parts (not (nat_eq x byte)) (list_all (λ other. not (nat_eq other byte)) xs) all in
    All-cons (λ other. other ≢ byte) x xs (λ same. grind (arith, nat_tests)) (lacks-by byte xs parts.1)

-- texts that begin with other letters are apart
pub other-word : (text other : List ℕ) → nat_eq (get_or text 0 0) (get_or other 0 0) ≡ false → text ≡ other → ⊥
other-word text other apart same =
    let equal : nat_eq (get_or other 0 0) (get_or other 0 0) ≡ false = subst (λ t. nat_eq (get_or t 0 0) (get_or other 0 0) ≡ false) same apart in
    grind (arith, nat_tests)

-- what isn't read is refused
pub none-read : {A : Type 0} (read : Option A) (refused : Type 0) (given : A → Type 0) → read ≡ None → refused → MatchOption read refused given
none-read read refused given none is_refused = subst (λ read. MatchOption read refused given) (sym none) is_refused

-- the part of a line before its first space
abbrev pub first_words : LogLine → List ℕ
first_words (Event (Piece len instant)) = decimal instant
first_words (Event (SourceEnd instant)) = decimal instant
first_words (Event (Wrote slice reading)) = decimal reading
first_words (SourceReset instant) = decimal instant
first_words (Last (Ended reading ending)) = decimal reading
first_words (Last (Broken cause bytes)) = codes "broken"

-- the part behind it
abbrev pub rest_words : LogLine → List ℕ
rest_words (Event (Piece len instant)) = codes "piece" ++ 32 ∷ decimal len
rest_words (Event (SourceEnd instant)) = codes "end"
rest_words (Event (Wrote slice reading)) = codes "wrote" ++ 32 ∷ ((decimal slice.span.start ++ codes ".." ++ decimal slice.span.stop) ++ 32
    ∷ decimal slice.instant)
rest_words (SourceReset instant) = codes "end" ++ 32 ∷ codes "reset"
rest_words (Last (Ended reading ending)) = ending_words ending
rest_words (Last (Broken cause bytes)) = cause_name cause ++ 32 ∷ decimal bytes

pub line-parts : (line : LogLine) → line_words line ≡ first_words line ++ 32 ∷ rest_words line
line-parts (Event (Piece len instant)) = simp append_assoc
line-parts (Event (SourceEnd instant)) = refl
line-parts (Event (Wrote slice reading)) = simp append_assoc
line-parts (SourceReset instant) = refl
line-parts (Last (Ended reading ending)) = simp append_assoc
line-parts (Last (Broken cause bytes)) = simp append_assoc

pub first-lacks : (line : LogLine) → IsWritable line → Lacks 32 (first_words line)
first-lacks (Event (Piece len instant)) writable = number-lacks 32 instant (omega arith) (omega (arith, writable.0))
first-lacks (Event (SourceEnd instant)) writable = number-lacks 32 instant (omega arith) (omega (arith, writable))
first-lacks (Event (Wrote slice reading)) writable = number-lacks 32 reading (omega arith) (omega (arith, writable.0))
first-lacks (SourceReset instant) writable = number-lacks 32 instant (omega arith) (omega (arith, writable))
first-lacks (Last (Ended reading ending)) writable = number-lacks 32 reading (omega arith) (omega (arith, writable.0))
first-lacks (Last (Broken cause bytes)) writable = lacks-by 32 (codes "broken") refl

-- a text that has these parts, and is a line
pub line-cut : (first rest : List ℕ) → Lacks 32 first → (line : LogLine) → IsWritable line → first ++ 32 ∷ rest ≡ line_words line
    → (first ≡ first_words line) × (rest ≡ rest_words line)
line-cut first rest lacks line writable same = cut-once 32 first rest (first_words line) (rest_words line) lacks (first-lacks line writable)
    (same ∙ line-parts line)

-- no number is printed so
pub no-word : (n : ℕ) → n < 2 ^ 64 → decimal n ≡ codes "broken" → ⊥
no-word n fits same =
    let digits : false ≡ true = ap (list_all is_ascii_digit) (sym same) ∙ digits_decimal ascii_digits n fits in cc

-- what a line has behind its reading
abbrev pub IsBehind : List ℕ → LogLine → Type 0
IsBehind words (Event event) = words ≡ rest_words (Event event)
IsBehind words (SourceReset instant) = words ≡ rest_words (SourceReset instant)
IsBehind words (Last (Ended reading ending)) = words ≡ ending_words ending
IsBehind words (Last (Broken cause bytes)) = ⊥

-- a text behind a reading, and is a line
pub behind : (reading : ℕ) (words : List ℕ) → IsInstant reading → (line : LogLine) → IsWritable line → decimal reading ++ 32 ∷ words ≡ line_words line
    → IsBehind words line
behind reading words fits line writable same = by line (line-cut (decimal reading) words (number-lacks 32 reading (omega arith) (omega (arith, fits))) line
    writable same)
  where
    by : (line : LogLine) → (decimal reading ≡ first_words line) × (words ≡ rest_words line) → IsBehind words line
    by (Event event) parts = parts.1
    by (SourceReset instant) parts = parts.1
    by (Last (Ended r ending)) parts = parts.1
    by (Last (Broken cause bytes)) parts = no-word reading (omega (arith, fits)) parts.0

-- the words behind `broken`, where they are a line
pub behind-broken : (words : List ℕ) (line : LogLine) → IsWritable line → codes "broken" ++ 32 ∷ words ≡ line_words line
    → (cause : BreakCause) × (bytes : ℕ) × (bytes ≤ 2 ^ 40) × (words ≡ cause_name cause ++ 32 ∷ decimal bytes)
behind-broken words line writable same = by line writable (line-cut (codes "broken") words (lacks-by 32 (codes "broken") refl) line writable same)
  where
    by : (line : LogLine) → IsWritable line → (codes "broken" ≡ first_words line) × (words ≡ rest_words line)
        → (cause : BreakCause) × (bytes : ℕ) × (bytes ≤ 2 ^ 40) × (words ≡ cause_name cause ++ 32 ∷ decimal bytes)
    by (Event (Piece len instant)) writable parts = absurd (no-word instant (omega (arith, writable.0)) (sym parts.0))
    by (Event (SourceEnd instant)) writable parts = absurd (no-word instant (omega (arith, writable)) (sym parts.0))
    by (Event (Wrote slice reading)) writable parts = absurd (no-word reading (omega (arith, writable.0)) (sym parts.0))
    by (SourceReset instant) writable parts = absurd (no-word instant (omega (arith, writable)) (sym parts.0))
    by (Last (Ended reading ending)) writable parts = absurd (no-word reading (omega (arith, writable.0)) (sym parts.0))
    by (Last (Broken cause bytes)) writable parts = (cause, bytes, writable, parts.1)

pub cause-lacks : (cause : BreakCause) → Lacks 32 (cause_name cause)
cause-lacks Write = lacks-by 32 (cause_name Write) refl
cause-lacks Memory = lacks-by 32 (cause_name Memory) refl
cause-lacks Thread = lacks-by 32 (cause_name Thread) refl
cause-lacks Upstream = lacks-by 32 (cause_name Upstream) refl
cause-lacks Stopped = lacks-by 32 (cause_name Stopped) refl

-- a text that isn't read is no line
pub unread : (read : Option LogLine) (text : List ℕ) → read ≡ None → IsNoLine text → ReadsLine read text
unread read text none no_line = subst (λ read. ReadsLine read text) (sym none) no_line

-- the same text, otherwise put together
pub reads-same : (read : Option LogLine) (text other : List ℕ) → other ≡ text → ReadsLine read text → ReadsLine read other
reads-same read text other same = subst (ReadsLine read) (sym same)

-- a text without a space is none
pub no_space : (text : List ℕ) → Lacks 32 text → IsNoLine text
no_space text lacks line writable same = stands 32 (first_words line) (rest_words line) (subst (Lacks 32) (same ∙ line-parts line) lacks)

-- nor is one whose first word is neither `broken` nor a reading
pub no_reading : (first rest : List ℕ) → Lacks 32 first → (first ≢ codes "broken") → ((n : ℕ) → n ≤ 1_000_000_000_000_000 → first ≢ decimal n)
    → IsNoLine (first ++ 32 ∷ rest)
no_reading first rest lacks no_broken none line writable same = by line writable (line-cut first rest lacks line writable same)
  where
    by : (line : LogLine) → IsWritable line → (first ≡ first_words line) × (rest ≡ rest_words line) → ⊥
    by (Event (Piece len instant)) writable parts = none instant writable.0 parts.0
    by (Event (SourceEnd instant)) writable parts = none instant writable parts.0
    by (Event (Wrote slice reading)) writable parts = none reading writable.0 parts.0
    by (SourceReset instant) writable parts = none instant writable parts.0
    by (Last (Ended reading ending)) writable parts = none reading writable.0 parts.0
    by (Last (Broken cause bytes)) writable parts = no_broken parts.0

-- words without a space, other than `end` and `open`
pub no_single : (reading : ℕ) (words : List ℕ) → IsInstant reading → Lacks 32 words → (words ≢ codes "end") → (words ≢ codes "open")
    → IsNoLine (decimal reading ++ 32 ∷ words)
no_single reading words fits lacks no_end no_open line writable same = by line (behind reading words fits line writable same)
  where
    by : (line : LogLine) → IsBehind words line → ⊥
    by (Event (Piece len instant)) is = stands 32 (codes "piece") (decimal len) (subst (Lacks 32) is lacks)
    by (Event (SourceEnd instant)) is = no_end is
    by (Event (Wrote slice at)) is = stands 32 (codes "wrote") ((decimal slice.span.start ++ codes ".." ++ decimal slice.span.stop) ++ 32
        ∷ decimal slice.instant) (subst (Lacks 32) is lacks)
    by (SourceReset instant) is = stands 32 (codes "end") (codes "reset") (subst (Lacks 32) is lacks)
    by (Last (Ended at StillOpen)) is = no_open is
    by (Last (Ended at (ClosedAt t))) is = stands 32 (codes "closed") (decimal t) (subst (Lacks 32) is lacks)
    by (Last (Ended at (ResetAt t))) is = stands 32 (codes "reset") (decimal t) (subst (Lacks 32) is lacks)
    by (Last (Broken cause bytes)) is = is

-- a piece of no number
pub no_piece : (reading : ℕ) (bytes : List ℕ) → IsInstant reading → ((n : ℕ) → n ≤ 16_384 → bytes ≢ decimal n)
    → IsNoLine (decimal reading ++ 32 ∷ (codes "piece" ++ 32 ∷ bytes))
no_piece reading bytes fits none line writable same = by line writable (behind reading (codes "piece" ++ 32 ∷ bytes) fits line writable same)
  where
    by : (line : LogLine) → IsWritable line → IsBehind (codes "piece" ++ 32 ∷ bytes) line → ⊥
    by (Event (Piece len instant)) writable is = let number : bytes ≡ decimal len = cc in none len writable.1 number
    by (Event (SourceEnd instant)) writable is = other-word (codes "piece" ++ 32 ∷ bytes) (codes "end") refl is
    by (Event (Wrote slice at)) writable is = other-word (codes "piece" ++ 32 ∷ bytes)
        (codes "wrote" ++ 32 ∷ ((decimal slice.span.start ++ codes ".." ++ decimal slice.span.stop) ++ 32 ∷ decimal slice.instant)) refl is
    by (SourceReset instant) writable is = other-word (codes "piece" ++ 32 ∷ bytes) (codes "end" ++ 32 ∷ codes "reset") refl is
    by (Last (Ended at StillOpen)) writable is = other-word (codes "piece" ++ 32 ∷ bytes) (codes "open") refl is
    by (Last (Ended at (ClosedAt t))) writable is = other-word (codes "piece" ++ 32 ∷ bytes) (codes "closed" ++ 32 ∷ decimal t) refl is
    by (Last (Ended at (ResetAt t))) writable is = other-word (codes "piece" ++ 32 ∷ bytes) (codes "reset" ++ 32 ∷ decimal t) refl is
    by (Last (Broken cause count)) writable is = is

-- `end` with another word than `reset` behind it
pub no_end : (reading : ℕ) (how : List ℕ) → IsInstant reading → (how ≢ codes "reset") → IsNoLine (decimal reading ++ 32 ∷ (codes "end" ++ 32 ∷ how))
no_end reading how fits none line writable same = by line writable (behind reading (codes "end" ++ 32 ∷ how) fits line writable same)
  where
    by : (line : LogLine) → IsWritable line → IsBehind (codes "end" ++ 32 ∷ how) line → ⊥
    by (Event (Piece len instant)) writable is = other-word (codes "end" ++ 32 ∷ how) (codes "piece" ++ 32 ∷ decimal len) refl is
    by (Event (SourceEnd instant)) writable is = stands 32 (codes "end") how (subst (Lacks 32) (sym is) (lacks-by 32 (codes "end") refl))
    by (Event (Wrote slice at)) writable is = other-word (codes "end" ++ 32 ∷ how)
        (codes "wrote" ++ 32 ∷ ((decimal slice.span.start ++ codes ".." ++ decimal slice.span.stop) ++ 32 ∷ decimal slice.instant)) refl is
    by (SourceReset instant) writable is = let word : how ≡ codes "reset" = cc in none word
    by (Last (Ended at StillOpen)) writable is = other-word (codes "end" ++ 32 ∷ how) (codes "open") refl is
    by (Last (Ended at (ClosedAt t))) writable is = other-word (codes "end" ++ 32 ∷ how) (codes "closed" ++ 32 ∷ decimal t) refl is
    by (Last (Ended at (ResetAt t))) writable is = other-word (codes "end" ++ 32 ∷ how) (codes "reset" ++ 32 ∷ decimal t) refl is
    by (Last (Broken cause count)) writable is = is

-- a slice whose words are none of a slice
pub no_wrote : (reading : ℕ) (words : List ℕ) → IsInstant reading
    → ((slice : Slice) → IsWritableSpan slice.span → IsInstant slice.instant
    → words ≢ (decimal slice.span.start ++ codes ".." ++ decimal slice.span.stop) ++ 32 ∷ decimal slice.instant)
    → IsNoLine (decimal reading ++ 32 ∷ (codes "wrote" ++ 32 ∷ words))
no_wrote reading words fits none line writable same = by line writable (behind reading (codes "wrote" ++ 32 ∷ words) fits line writable same)
  where
    by : (line : LogLine) → IsWritable line → IsBehind (codes "wrote" ++ 32 ∷ words) line → ⊥
    by (Event (Piece len instant)) writable is = other-word (codes "wrote" ++ 32 ∷ words) (codes "piece" ++ 32 ∷ decimal len) refl is
    by (Event (SourceEnd instant)) writable is = other-word (codes "wrote" ++ 32 ∷ words) (codes "end") refl is
    by (Event (Wrote slice at)) writable is =
        let range : words ≡ (decimal slice.span.start ++ codes ".." ++ decimal slice.span.stop) ++ 32 ∷ decimal slice.instant = cc in
        none slice writable.1 writable.2 range
    by (SourceReset instant) writable is = other-word (codes "wrote" ++ 32 ∷ words) (codes "end" ++ 32 ∷ codes "reset") refl is
    by (Last (Ended at StillOpen)) writable is = other-word (codes "wrote" ++ 32 ∷ words) (codes "open") refl is
    by (Last (Ended at (ClosedAt t))) writable is = other-word (codes "wrote" ++ 32 ∷ words) (codes "closed" ++ 32 ∷ decimal t) refl is
    by (Last (Ended at (ResetAt t))) writable is = other-word (codes "wrote" ++ 32 ∷ words) (codes "reset" ++ 32 ∷ decimal t) refl is
    by (Last (Broken cause count)) writable is = is

-- a range has no space
pub range-lacks : (span : Span) → IsWritableSpan span → Lacks 32 (decimal span.start ++ codes ".." ++ decimal span.stop)
range-lacks span writable =
    All-append (λ other. other ≢ 32) (decimal span.start ++ codes "..") (decimal span.stop)
    (All-append (λ other. other ≢ 32) (decimal span.start) (codes "..") (number-lacks 32 span.start (omega arith) (omega (arith, writable.0)))
    (lacks-by 32 (codes "..") refl))
    (number-lacks 32 span.stop (omega arith) (omega (arith, writable.1)))

-- a word with a number behind it, where it is no event's
pub no_ending : (reading : ℕ) (name instant : List ℕ) → IsInstant reading → Lacks 32 name → (name ≢ codes "piece") → (name ≢ codes "wrote")
    → (name ≢ codes "end")
    → (name ≡ codes "closed" → (n : ℕ) → n ≤ 1_000_000_000_000_000 → instant ≢ decimal n)
    → (name ≡ codes "reset" → (n : ℕ) → n ≤ 1_000_000_000_000_000 → instant ≢ decimal n)
    → IsNoLine (decimal reading ++ 32 ∷ (name ++ 32 ∷ instant))
no_ending reading name instant fits lacks piece wrote ended closed reset line writable same =
    by line writable (behind reading (name ++ 32 ∷ instant) fits line writable same)
  where
    cut : (word rest : List ℕ) → Lacks 32 word → name ++ 32 ∷ instant ≡ word ++ 32 ∷ rest → (name ≡ word) × (instant ≡ rest)
    cut word rest = cut-once 32 name instant word rest lacks

    single : (word : List ℕ) → Lacks 32 word → name ++ 32 ∷ instant ≡ word → ⊥
    single word word_lacks is = stands 32 name instant (subst (Lacks 32) (sym is) word_lacks)

    by : (line : LogLine) → IsWritable line → IsBehind (name ++ 32 ∷ instant) line → ⊥
    by (Event (Piece len t)) writable is = piece (cut (codes "piece") (decimal len) (lacks-by 32 (codes "piece") refl) is).0
    by (Event (SourceEnd t)) writable is = single (codes "end") (lacks-by 32 (codes "end") refl) is
    by (Event (Wrote slice at)) writable is = wrote (cut (codes "wrote")
        ((decimal slice.span.start ++ codes ".." ++ decimal slice.span.stop) ++ 32 ∷ decimal slice.instant) (lacks-by 32 (codes "wrote") refl) is).0
    by (SourceReset t) writable is = ended (cut (codes "end") (codes "reset") (lacks-by 32 (codes "end") refl) is).0
    by (Last (Ended at StillOpen)) writable is = single (codes "open") (lacks-by 32 (codes "open") refl) is
    by (Last (Ended at (ClosedAt t))) writable is = let parts = cut (codes "closed") (decimal t) (lacks-by 32 (codes "closed") refl) is in
        closed parts.0 t writable.1 parts.1
    by (Last (Ended at (ResetAt t))) writable is = let parts = cut (codes "reset") (decimal t) (lacks-by 32 (codes "reset") refl) is in
        reset parts.0 t writable.1 parts.1
    by (Last (Broken cause bytes)) writable is = is

-- `broken` and no two words
pub no_broken : (words : List ℕ) → ((cause : BreakCause) (bytes : ℕ) → bytes ≤ 2 ^ 40 → words ≢ cause_name cause ++ 32 ∷ decimal bytes)
    → IsNoLine (codes "broken" ++ 32 ∷ words)
no_broken words none line writable same = let (cause, bytes, fits, is) = behind-broken words line writable same in none cause bytes fits is

-- the name of a cause, cut off
pub cause-cut : (name rest : List ℕ) (cause : BreakCause) (bytes : ℕ) → Lacks 32 name → name ++ 32 ∷ rest ≡ cause_name cause ++ 32 ∷ decimal bytes
    → (name ≡ cause_name cause) × (rest ≡ decimal bytes)
cause-cut name rest cause bytes lacks = cut-once 32 name rest (cause_name cause) (decimal bytes) lacks (cause-lacks cause)

-- a range, cut at its first point
pub span-cut : (start rest : List ℕ) (span : Span) → IsWritableSpan span → Lacks 46 start
    → start ++ 46 ∷ rest ≡ decimal span.start ++ codes ".." ++ decimal span.stop → (start ≡ decimal span.start) × (rest ≡ 46 ∷ decimal span.stop)
span-cut start rest span writable lacks same =
    cut-once 46 start rest (decimal span.start) (46 ∷ decimal span.stop) lacks (number-lacks 46 span.start (omega arith) (omega (arith, writable.0)))
    (same ∙ simp append_assoc)
