-- The bytes of a log's lines: none has a line feed, and those that can be written are short.
use Rattle.std.proofs.Common.{◌≡◌, ℕ, ◌^◌, ◌+◌, ◌<◌, ◌≤◌, true, false, List, [], ◌∷◌, ◌++◌, length, length-append, codes, refl, ap, sym, subst, ◌∙◌}
use Rattle.std.proofs.Common.{append_assoc, arith}
use Rattle.std.specs.Prelude.{◌≢◌, All, Option, Some, nat_eq, not}
use Rattle.std.specs.Char.{is_ascii_control, is_ascii_digit}
use Rattle.std.specs.Fmt.{decimal}
use Rattle.std.specs.List.{list_all}
use Rattle.std.proofs.lemmas.Fmt.{digits_decimal, length-decimal-le}
use Rattle.std.proofs.lemmas.List.Elements.{All-append, All-cons, All-head, All-nil, All-tail}
use Rattle.tox_time.proofs.Numbers.{ascii_digits}
use Rattle.tox_time.specs.declared.streams.ending.Ending.{Ending}
use Rattle.tox_time.specs.declared.streams.ending.Ending.TheVariants.{StillOpen, Closed as ClosedAt, Reset as ResetAt}
use Rattle.tox_time.specs.declared.streams.stream.Stream.{Stream}
use Rattle.tox_time.specs.declared.streams.stream.Stream.TheVariants.{Upstream, Downstream}
use Rattle.tox_time.specs.streams.StreamName.{stream_name}
use Rattle.tox_link.specs.declared.notes.LinkEvent.TheVariants.{Piece, SourceEnd, Wrote}
use Rattle.tox_text.specs.ResultText.{ending_words}
use Rattle.tox_words.specs.declared.lanes.Lanes.{Lanes}
use Rattle.tox_words.specs.Draw.{lane_count}
use Rattle.tox_words.proofs.LaneCounts.{lane_count-most}
use Rattle.tox_defs.specs.declared.chain.Entry.{Entry}
use Rattle.tox_defs.specs.short.Printed.{printed_short}
use Rattle.tox_log.specs.declared.last_line.BreakCause.{BreakCause}
use Rattle.tox_log.specs.declared.last_line.BreakCause.TheVariants.{Write, Memory, Thread, Upstream as UpstreamCause, Stopped}
use Rattle.tox_log.specs.declared.last_line.LastLine.TheVariants.{Ended, Broken}
use Rattle.tox_log.specs.declared.event_line.LogLine.{LogLine}
use Rattle.tox_log.specs.declared.event_line.LogLine.TheVariants.{Event, SourceReset, Last}
use Rattle.tox_log.specs.HeaderText.{link_line, seed_line, toxic_line}
use Rattle.tox_log.specs.LastText.{cause_name}
use Rattle.tox_log.specs.HeaderLines.{BeginsToxic, IsWritableName, IsWritableToxic}
use Rattle.tox_log.specs.Left.{HasLineNext}
use Rattle.tox_log.specs.Lines.{IsWritable, IsWritableEnding, line_words}
use Rattle.tox_log.specs.Numbers.{Lacks}
use Rattle.tox_log.proofs.Cuts.{number-lacks}
use Rattle.tox_log.proofs.NoLines.{first_words, lacks-by, line-cut, line-parts, other-word, rest_words}
use Rattle.tox_log.proofs.ShortForms.{short-signs, signs-lack}

-- texts without such a byte, one behind the other
pub both-lack : (byte : ℕ) (xs ys : List ℕ) → Lacks byte xs → Lacks byte ys → Lacks byte (xs ++ ys)
both-lack byte xs ys first second = All-append (λ other. other ≢ byte) xs ys first second

digits-short : (n : ℕ) → n < 2 ^ 64 → length (decimal n) ≤ 20
digits-short n fits = length-decimal-le 20 n (omega arith) (omega (arith, fits)) fits

-- what is short enough for a line, and has no line feed
record IsWord (text : List ℕ) (most : ℕ) : Type 0 where
  lacks : Lacks 10 text
  short : length text ≤ most

number-word : (n : ℕ) → n < 2 ^ 64 → IsWord (decimal n) 20
number-word n fits = record { lacks = number-lacks 10 n (omega arith) fits; short = digits-short n fits }

two-words : (xs ys : List ℕ) (m n most : ℕ) → m + n ≤ most → IsWord xs m → IsWord ys n → IsWord (xs ++ ys) most
two-words xs ys m n most fits first second = record {
  lacks = both-lack 10 xs ys first.lacks second.lacks;
  short = omega (arith, length-append xs ys, fits, first.short, second.short);
}

-- a word that can be computed
word-by : (text : List ℕ) (most : ℕ) → list_all (λ other. not (nat_eq other 10)) text ≡ true → length text ≤ most → IsWord text most
word-by text most all fits = record { lacks = lacks-by 10 text all; short = fits }

cause-word : (cause : BreakCause) → IsWord (cause_name cause) 20
cause-word Write = word-by (cause_name Write) 20 refl (omega arith)
cause-word Memory = word-by (cause_name Memory) 20 refl (omega arith)
cause-word Thread = word-by (cause_name Thread) 20 refl (omega arith)
cause-word UpstreamCause = word-by (cause_name UpstreamCause) 20 refl (omega arith)
cause-word Stopped = word-by (cause_name Stopped) 20 refl (omega arith)

ending-word : (ending : Ending) → IsWritableEnding ending → IsWord (ending_words ending) 40
ending-word StillOpen writable = word-by (codes "open") 40 refl (omega arith)
ending-word (ClosedAt t) writable = two-words (codes "closed ") (decimal t) 20 20 40 (omega arith) (word-by (codes "closed ") 20 refl (omega arith))
    (number-word t (omega (arith, writable)))
ending-word (ResetAt t) writable = two-words (codes "reset ") (decimal t) 20 20 40 (omega arith) (word-by (codes "reset ") 20 refl (omega arith))
    (number-word t (omega (arith, writable)))

first-word : (line : LogLine) → IsWritable line → IsWord (first_words line) 20
first-word (Event (Piece len instant)) writable = number-word instant (omega (arith, writable.0))
first-word (Event (SourceEnd instant)) writable = number-word instant (omega (arith, writable))
first-word (Event (Wrote slice reading)) writable = number-word reading (omega (arith, writable.0))
first-word (SourceReset instant) writable = number-word instant (omega (arith, writable))
first-word (Last (Ended reading ending)) writable = number-word reading (omega (arith, writable.0))
first-word (Last (Broken cause bytes)) writable = word-by (codes "broken") 20 refl (omega arith)

rest-word : (line : LogLine) → IsWritable line → IsWord (rest_words line) 100
rest-word (Event (Piece len instant)) writable = two-words (codes "piece ") (decimal len) 20 20 100 (omega arith)
    (word-by (codes "piece ") 20 refl (omega arith)) (number-word len (omega (arith, writable.1)))
rest-word (Event (SourceEnd instant)) writable = word-by (codes "end") 100 refl (omega arith)
rest-word (Event (Wrote slice reading)) writable =
    let start = number-word slice.span.start (omega (arith, writable.1.0)) in
    let stop = number-word slice.span.stop (omega (arith, writable.1.1)) in
    let due = number-word slice.instant (omega (arith, writable.2)) in
    let points = two-words (decimal slice.span.start) (codes "..") 20 2 22 (omega arith) start (word-by (codes "..") 2 refl (omega arith)) in
    let range = two-words (decimal slice.span.start ++ codes "..") (decimal slice.span.stop) 22 20 42 (omega arith) points stop in
    let both = two-words (decimal slice.span.start ++ codes ".." ++ decimal slice.span.stop) (32 ∷ decimal slice.instant) 42 21 63 (omega arith) range
    (two-words (codes " ") (decimal slice.instant) 1 20 21 (omega arith) (word-by (codes " ") 1 refl (omega arith)) due) in
    two-words (codes "wrote ") ((decimal slice.span.start ++ codes ".." ++ decimal slice.span.stop) ++ 32 ∷ decimal slice.instant) 6 63 100 (omega arith)
    (word-by (codes "wrote ") 6 refl (omega arith)) both
rest-word (SourceReset instant) writable = word-by (codes "end reset") 100 refl (omega arith)
rest-word (Last (Ended reading ending)) writable =
    let word = ending-word ending writable.1 in record { lacks = word.lacks; short = omega (arith, word.short) }
rest-word (Last (Broken cause bytes)) writable =
    two-words (cause_name cause) (32 ∷ decimal bytes) 20 21 100 (omega arith) (cause-word cause)
    (two-words (codes " ") (decimal bytes) 1 20 21 (omega arith) (word-by (codes " ") 1 refl (omega arith)) (number-word bytes (omega (arith, writable))))

line-word : (line : LogLine) → IsWritable line → IsWord (line_words line) 200
line-word line writable =
    subst (λ text. IsWord text 200) (sym (line-parts line))
    (two-words (first_words line) (32 ∷ rest_words line) 20 101 200 (omega arith) (first-word line writable)
    (two-words (codes " ") (rest_words line) 1 100 101 (omega arith) (word-by (codes " ") 1 refl (omega arith)) (rest-word line writable)))

-- a line behind the header has no line feed
pub line-feedless : (line : LogLine) → IsWritable line → Lacks 10 (line_words line)
line-feedless line writable = (line-word line writable).lacks

-- such a line comes next
pub log-line-next : (given : Option (List ℕ)) (line : LogLine) (more : List ℕ) → IsWritable line → given ≡ Some ((line_words line ++ 10 ∷ []) ++ more)
    → HasLineNext given (line_words line) more
log-line-next given line more writable is = record {
  bytes = is;
  unended = line-feedless line writable;
  short = let word = line-word line writable in
      omega (arith, word.short);
}

-- it isn't a toxic's
pub no-toxic : (line : LogLine) → IsWritable line → BeginsToxic (line_words line) → ⊥
no-toxic line writable (rest, begins) = by line writable (line-cut (codes "toxic") rest (lacks-by 32 (codes "toxic") refl) line writable (sym begins)).0
  where
    no-number : (n : ℕ) → n < 2 ^ 64 → codes "toxic" ≡ decimal n → ⊥
    no-number n fits same =
        let digits : false ≡ true = ap (list_all is_ascii_digit) same ∙ digits_decimal ascii_digits n fits in cc

    by : (line : LogLine) → IsWritable line → codes "toxic" ≡ first_words line → ⊥
    by (Event (Piece len instant)) writable same = no-number instant (omega (arith, writable.0)) same
    by (Event (SourceEnd instant)) writable same = no-number instant (omega (arith, writable)) same
    by (Event (Wrote slice reading)) writable same = no-number reading (omega (arith, writable.0)) same
    by (SourceReset instant) writable same = no-number instant (omega (arith, writable)) same
    by (Last (Ended reading ending)) writable same = no-number reading (omega (arith, writable.0)) same
    by (Last (Broken cause bytes)) writable same = other-word (codes "toxic") (codes "broken") refl same

-- a name has no line feed
pub name-feedless : (name : List ℕ) → All (λ byte. is_ascii_control byte ≡ false) name → Lacks 10 name
name-feedless [] visible = All-nil (λ other. other ≢ 10)
name-feedless (byte ∷ name) visible =
    All-cons (λ other. other ≢ 10) byte name (no-feed byte (All-head (λ byte. is_ascii_control byte ≡ false) byte name visible))
    (name-feedless name (All-tail (λ byte. is_ascii_control byte ≡ false) byte name visible))
  where
    no-feed : (byte : ℕ) → is_ascii_control byte ≡ false → byte ≢ 10
    no-feed byte plain same =
        let feed : true ≡ false = ap is_ascii_control (sym same) ∙ plain in cc

stream-word : (direction : Stream) → IsWord (stream_name direction) 20
stream-word Upstream = word-by (codes "upstream") 20 refl (omega arith)
stream-word Downstream = word-by (codes "downstream") 20 refl (omega arith)

-- the line of a toxic, without its line feed
abbrev pub toxic_words : Entry × List ℕ → List ℕ
toxic_words named = codes "toxic " ++ printed_short named.0.toxic named.0.toxicity ++ codes " " ++ named.1

pub toxic-parts : (named : Entry × List ℕ) → toxic_words named ++ 10 ∷ [] ≡ toxic_line named.0 named.1
toxic-parts named = simp append_assoc

-- it comes next
pub toxic-line-next : (given : Option (List ℕ)) (named : Entry × List ℕ) (more : List ℕ) → IsWritableToxic named
    → given ≡ Some (toxic_line named.0 named.1 ++ more) → HasLineNext given (toxic_words named) more
toxic-line-next given named more writable is = record {
  bytes = is ∙ ap (λ line. Some (line ++ more)) (sym (toxic-parts named));
  unended =
      let short = printed_short named.0.toxic named.0.toxicity in
      both-lack 10 (codes "toxic " ++ short ++ codes " ") named.1
      (both-lack 10 (codes "toxic " ++ short) (codes " ") (both-lack 10 (codes "toxic ") short (lacks-by 10 (codes "toxic ") refl)
      (signs-lack 10 short (omega arith) (short-signs named.0.toxic named.0.toxicity writable.entry.0 writable.entry.1))) (lacks-by 10 (codes " ") refl))
      (name-feedless named.1 writable.name.visible);
  short = let whole = ap length (toxic-parts named) in omega (arith, whole, length-append (toxic_words named) (10 ∷ []), writable.short);
}

-- the second line, without its line feed
abbrev pub link_words : List ℕ → ℕ → Stream → List ℕ
link_words name number direction = codes "link " ++ ((name ++ 32 ∷ decimal number) ++ 32 ∷ stream_name direction)

pub link-parts : (name : List ℕ) (number : ℕ) (direction : Stream) → link_words name number direction ++ 10 ∷ [] ≡ link_line name number direction
link-parts name number direction = simp append_assoc

pub link-line-next : (given : Option (List ℕ)) (name : List ℕ) (number : ℕ) (direction : Stream) (more : List ℕ) → IsWritableName name → number ≤ 1_000_000
    → length (link_line name number direction) ≤ 4_097
    → given ≡ Some (link_line name number direction ++ more) → HasLineNext given (link_words name number direction) more
link-line-next given name number direction more named few short is = record {
  bytes = is ∙ ap (λ line. Some (line ++ more)) (sym (link-parts name number direction));
  unended =
      both-lack 10 (codes "link ") ((name ++ 32 ∷ decimal number) ++ 32 ∷ stream_name direction) (lacks-by 10 (codes "link ") refl)
      (both-lack 10 (name ++ 32 ∷ decimal number) (32 ∷ stream_name direction)
      (both-lack 10 name (32 ∷ decimal number) (name-feedless name named.visible)
      (both-lack 10 (codes " ") (decimal number) (lacks-by 10 (codes " ") refl) (number-lacks 10 number (omega arith) (omega (arith, few)))))
      (both-lack 10 (codes " ") (stream_name direction) (lacks-by 10 (codes " ") refl) (stream-word direction).lacks));
  short = let whole = ap length (link-parts name number direction) in omega (arith, whole, length-append (link_words name number direction) (10 ∷ []), short);
}

-- the third line, without its line feed
abbrev pub seed_words : Lanes → ℕ → List ℕ
seed_words lanes seed = codes "lanes " ++ (decimal (lane_count lanes) ++ 32 ∷ (codes "seed " ++ decimal seed))

pub seed-parts : (lanes : Lanes) (seed : ℕ) → seed_words lanes seed ++ 10 ∷ [] ≡ seed_line lanes seed
seed-parts lanes seed = simp append_assoc

seed-word : (lanes : Lanes) (seed : ℕ) → lane_count lanes < 2 ^ 64 → seed < 2 ^ 64 → IsWord (seed_words lanes seed) 100
seed-word lanes seed lanes_fit seed_fits =
    two-words (codes "lanes ") (decimal (lane_count lanes) ++ 32 ∷ (codes "seed " ++ decimal seed)) 6 60 100 (omega arith)
    (word-by (codes "lanes ") 6 refl (omega arith))
    (two-words (decimal (lane_count lanes)) (codes " seed " ++ decimal seed) 20 40 60 (omega arith) (number-word (lane_count lanes) lanes_fit)
    (two-words (codes " seed ") (decimal seed) 20 20 40 (omega arith) (word-by (codes " seed ") 20 refl (omega arith)) (number-word seed seed_fits)))

pub seed-line-next : (given : Option (List ℕ)) (lanes : Lanes) (seed : ℕ) (more : List ℕ) → seed < 2 ^ 64 → given ≡ Some (seed_line lanes seed ++ more)
    → HasLineNext given (seed_words lanes seed) more
seed-line-next given lanes seed more fits is =
    let word = seed-word lanes seed (omega (arith, lane_count-most lanes)) fits in record {
      bytes = is ∙ ap (λ line. Some (line ++ more)) (sym (seed-parts lanes seed));
      unended = word.lacks;
      short = omega (arith, word.short);
    }
