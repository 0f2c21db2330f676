-- A line more is heard.
use Rattle.std.proofs.Common.{◌≡◌, ℕ, All, Bool, true, false, List, [], ◌∷◌, ◌++◌, ◌+◌, ◌-◌, ◌<◌, ◌≤◌, ◌^◌, is_some, length, string_bytes, Option, Some, None}
use Rattle.std.proofs.Common.{inl, inr, refl, sym, ap, ap₂, subst, ◌∙◌, append_assoc, append-nil, arith}
use Rattle.std.specs.Prelude.{◌⊎◌}
use Rattle.std.specs.Io.KnownBytes.{IsAtEnd, prepend_known}
use Rattle.std.proofs.lemmas.List.{length-append}
use Rattle.tox_link.proofs.Sent.{prepend-append}
use Rattle.tox_words.specs.Seeded.{seeded_words}
use Rattle.tox_defs.specs.chain.Chain.{Toxics}
use Rattle.tox_defs.specs.Flow.{chain_flow}
use Rattle.tox_log.specs.declared.heading.Heading.{Heading}
use Rattle.tox_log.specs.declared.open_log.OpenLog.{OpenLog}
use Rattle.tox_log.specs.declared.replay.JudgedLog.{JudgedLog}
use Rattle.tox_log.specs.HeaderLines.{AreHeaderNames}
use Rattle.tox_log.specs.HeaderText.{header_text}
use Rattle.tox_log.specs.Opening.{Opens}
use Rattle.std.proofs.lemmas.Grind.{flat_map-append}
use Rattle.std.proofs.lemmas.List.Elements.{All-append, All-cons, All-head, All-nil, All-tail}
use Rattle.tox_time.specs.declared.streams.item.Item.{Item}
use Rattle.tox_time.specs.declared.streams.slice.Slice.{Slice}
use Rattle.tox_time.specs.declared.streams.ending.Ending.{Ending}
use Rattle.tox_time.specs.declared.streams.ending.Ending.TheVariants.{StillOpen}
use Rattle.tox_log.specs.LastText.{last_line}
use Rattle.tox_link.specs.declared.notes.LinkEvent.{LinkEvent}
use Rattle.tox_link.specs.declared.notes.LinkEvent.TheVariants.{Piece, SourceEnd, Wrote}
use Rattle.tox_link.specs.log.Log.{IsGapless, has_source_end, reading_of, said}
use Rattle.tox_link.proofs.Logs.{gapless-bytes, said-append}
use Rattle.tox_link.specs.Reports.{ReportsAt}
use Rattle.tox_log.specs.declared.judge.Judge.{Judge}
use Rattle.tox_log.specs.declared.replay.Hearing.{Hearing}
use Rattle.tox_log.specs.Numbers.{Lacks}
use Rattle.tox_log.specs.Reading.{LacksLine, is_last, to_hand, IsLineNumber, next_number}
use Rattle.tox_log.specs.declared.event_line.LogLine.{LogLine}
use Rattle.tox_log.specs.declared.event_line.LogLine.TheVariants.{Event, Last}
use Rattle.tox_log.specs.declared.last_line.BreakCause.{BreakCause}
use Rattle.tox_log.specs.declared.last_line.LastLine.TheVariants.{Ended, Broken}
use Rattle.tox_log.specs.EventLines.{event_lines, logged_line, logged_text}
use Rattle.tox_log.specs.Lateness.{IsLate, KeepsLate, ending_late, lates}
use Rattle.tox_log.specs.declared.lateness.Lateness.{Lateness}
use Rattle.tox_log.specs.Lines.{IsWritable, line_words}
use Rattle.tox_log.specs.Judging.{Hears, Judged, Refuses, RefusesEnding, source_heard}
use Rattle.tox_log.specs.declared.replay.Verdict.{Verdict}
use Rattle.tox_log.specs.declared.replay.Verdict.TheVariants.{Faithful, Unfinished, Unfaithful}
use Rattle.tox_log.specs.Hearing.{AreCounts, BeginsJudging, HasHeard, HasNoEnding, HasReport, HasStopped, HearsLine, HearsToEnd, IsFaithfulText, IsRefusedText}
use Rattle.tox_log.specs.Hearing.{IsTextOf, AreReported, IsUnfinishedText, SaysOf, SaysSo, HasRefusal, source_end_of}
use Rattle.tox_log.proofs.Refusing.{timely-reported}

reported-front : (reported : ℕ → Bool) (events : List LinkEvent) (event : LinkEvent) → AreReported reported (events ++ event ∷ []) → AreReported reported events
reported-front reported [] event all = All-nil (λ event. reported (reading_of event) ≡ true)
reported-front reported (first ∷ events) event all =
    All-cons (λ event. reported (reading_of event) ≡ true) first events
    (All-head (λ event. reported (reading_of event) ≡ true) first (events ++ event ∷ []) all)
    (reported-front reported events event (All-tail (λ event. reported (reading_of event) ≡ true) first (events ++ event ∷ []) all))

reported-last : (reported : ℕ → Bool) (events : List LinkEvent) (event : LinkEvent) → AreReported reported (events ++ event ∷ [])
    → reported (reading_of event) ≡ true
reported-last reported [] event all = All-head (λ event. reported (reading_of event) ≡ true) event [] all
reported-last reported (first ∷ events) event all = reported-last reported events event
    (All-tail (λ event. reported (reading_of event) ≡ true) first (events ++ event ∷ []) all)

line-more : (reset : Bool) (text : List ℕ) (events : List LinkEvent) (event : LinkEvent) → text ≡ event_lines reset events
    → text ++ (line_words (logged_line reset event) ++ 10 ∷ []) ≡ event_lines reset (events ++ event ∷ [])
line-more reset text events event lines =
    let one : event_lines reset (event ∷ []) ≡ logged_text reset event = append-nil (logged_text reset event) in
    rw (lines, flat_map-append (logged_text reset) events (event ∷ []), one) refl

-- whether the source was reset changes no line but that of its end
lines-going : (reset other : Bool) (events : List LinkEvent) → has_source_end events ≡ false → event_lines reset events ≡ event_lines other events
lines-going reset other [] going = refl
lines-going reset other (Piece len instant ∷ events) going =
    ap₂ (λ line rest. line ++ rest) (same-piece reset other) (lines-going reset other events going)
  where
    same-piece : (reset other : Bool) → logged_text reset (Piece len instant) ≡ logged_text other (Piece len instant)
    same-piece true true = refl
    same-piece true false = refl
    same-piece false true = refl
    same-piece false false = refl
lines-going reset other (SourceEnd instant ∷ events) going = let no : true ≡ false = going in cc
lines-going reset other (Wrote slice reading ∷ events) going =
    ap₂ (λ line rest. line ++ rest) (same-write reset other) (lines-going reset other events going)
  where
    same-write : (reset other : Bool) → logged_text reset (Wrote slice reading) ≡ logged_text other (Wrote slice reading)
    same-write true true = refl
    same-write true false = refl
    same-write false true = refl
    same-write false false = refl

-- so the lines before stay, and the line of an event comes behind them
pub line-next : (old new : Bool) (text : List ℕ) (events : List LinkEvent) (event : LinkEvent) → (new ≡ old) ⊎ (has_source_end events ≡ false)
    → text ≡ event_lines old events
    → text ++ (line_words (logged_line new event) ++ 10 ∷ []) ≡ event_lines new (events ++ event ∷ [])
line-next old new text events event (inl same) lines = line-more new text events event (lines ∙ ap (λ reset. event_lines reset events) (sym same))
line-next old new text events event (inr going) lines = line-more new text events event (lines ∙ lines-going old new events going)

-- each reading is one of a clock that reports any
all-reported : (events : List LinkEvent) → AreReported (λ _. true) events
all-reported [] = All-nil (λ event. true ≡ true)
all-reported (event ∷ events) = All-cons (λ event. true ≡ true) event events refl (all-reported events)

-- the counts of what was heard
pub counts-of : (means : List Item → List Item) (text : List ℕ) (hearing : Hearing) → (heard : HasHeard means text hearing)
    → AreCounts heard.events hearing.judge.heard hearing.judge.said hearing.source_end hearing.writes
counts-of means text hearing heard =
    let judge : Judge = hearing.judge in
    let judged : Judged means (λ _. true) judge heard.events = heard.judged (λ _. true) (all-reported heard.events) in
    let bytes = gapless-bytes 0 (said heard.events) judge.said judged.gapless in record {
      took = judged.bytes;
      wrote = omega (arith, bytes);
      source = heard.source_end;
      count = heard.count;
    }

-- slices without gaps are no more than the positions that they span
few-slices : (start : ℕ) (events : List LinkEvent) (stop : ℕ) → All (λ event. IsWritable (Event event)) events → IsGapless start (said events) stop
    → start ≤ 2 ^ 40
    → (start + length (said events) ≤ stop) × (stop ≤ 2 ^ 40)
few-slices start [] stop written gapless small = (omega (arith, gapless), omega (arith, gapless, small))
few-slices start (Piece len instant ∷ events) stop written gapless small =
    few-slices start events stop (All-tail (λ event. IsWritable (Event event)) (Piece len instant) events written) gapless small
few-slices start (SourceEnd instant ∷ events) stop written gapless small =
    few-slices start events stop (All-tail (λ event. IsWritable (Event event)) (SourceEnd instant) events written) gapless small
few-slices start (Wrote slice reading ∷ events) stop written gapless small =
    let here : IsWritable (Event (Wrote slice reading)) = All-head (λ event. IsWritable (Event event)) (Wrote slice reading) events written in
    let rest = few-slices slice.span.stop events stop (All-tail (λ event. IsWritable (Event event)) (Wrote slice reading) events written) gapless.2 here.1.1 in
    (omega (arith, rest.0, gapless.1), rest.1)

-- so there are few writes
pub few-writes : (means : List Item → List Item) (text : List ℕ) (hearing : Hearing) → HasHeard means text hearing → hearing.writes ≤ 2 ^ 40
few-writes means text hearing heard =
    let judged : Judged means (λ _. true) hearing.judge heard.events = heard.judged (λ _. true) (all-reported heard.events) in
    let few = few-slices 0 heard.events hearing.judge.said heard.written judged.gapless (omega arith) in
    omega (arith, few.0, few.1, heard.count)

-- each write has a lateness
lates-count : (events : List LinkEvent) → length (lates events) ≡ length (said events)
lates-count [] = refl
lates-count (Piece len instant ∷ events) = lates-count events
lates-count (SourceEnd instant ∷ events) = lates-count events
lates-count (Wrote slice reading ∷ events) = let rest = lates-count events in omega (arith, rest)

lates-append : (events more : List LinkEvent) → lates (events ++ more) ≡ lates events ++ lates more
lates-append [] more = refl
lates-append (Piece len instant ∷ events) more = lates-append events more
lates-append (SourceEnd instant ∷ events) more = lates-append events more
lates-append (Wrote slice reading ∷ events) more = ap (λ rest. (reading - slice.instant) ∷ rest) (lates-append events more)

-- these values more are counted
abbrev pub KeepsMore : Lateness → List ℕ → Lateness → Type 0
KeepsMore old more new = (values : List ℕ) → length values < 2 ^ 63 → KeepsLate values old → KeepsLate (values ++ more) new

-- none more
pub keeps-none : (late : Lateness) → KeepsMore late [] late
keeps-none late values few kept = subst (λ values. KeepsLate values late) (sym (append-nil values)) kept

-- whether the source's end was heard
end-heard : (events : List LinkEvent) → is_some (source_end_of events) ≡ has_source_end events
end-heard [] = refl
end-heard (Piece len instant ∷ events) = end-heard events
end-heard (SourceEnd instant ∷ events) = refl
end-heard (Wrote slice reading ∷ events) = end-heard events

-- the source's end of events and one more
pub source-same : (events : List LinkEvent) (event : LinkEvent) → source_end_of (event ∷ []) ≡ None
    → source_end_of (events ++ event ∷ []) ≡ source_end_of events
source-same [] event none = none
source-same (Piece len t ∷ events) event none = source-same events event none
source-same (SourceEnd t ∷ events) event none = refl
source-same (Wrote slice now ∷ events) event none = source-same events event none

pub source-ends : (events : List LinkEvent) (t : ℕ) → has_source_end events ≡ false → source_end_of (events ++ SourceEnd t ∷ []) ≡ Some t
source-ends [] t going = refl
source-ends (Piece len u ∷ events) t going = source-ends events t going
source-ends (SourceEnd u ∷ events) t going = let no : true ≡ false = going in cc
source-ends (Wrote slice now ∷ events) t going = source-ends events t going

-- a hearing goes on with an event
pub record GoesOn (old new : Hearing) (event : LinkEvent) : Type 0 where
  pub hears : Hears old.judge event new.judge
  pub reset : (new.source_reset ≡ old.source_reset) ⊎ (old.judge.ended ≡ false)
  pub ends : (events : List LinkEvent) → source_end_of events ≡ old.source_end → has_source_end events ≡ old.judge.ended
      → source_end_of (events ++ event ∷ []) ≡ new.source_end
  pub count : new.writes ≡ old.writes + length (said (event ∷ []))
  pub late : KeepsMore old.late (lates (event ∷ [])) new.late

-- a piece and a write are reported in one way
pub piece-line : (reset : Bool) (len instant : ℕ) → logged_line reset (Piece len instant) ≡ Event (Piece len instant)
piece-line true len instant = refl
piece-line false len instant = refl

pub wrote-line : (reset : Bool) (slice : Slice) (reading : ℕ) → logged_line reset (Wrote slice reading) ≡ Event (Wrote slice reading)
wrote-line true slice reading = refl
wrote-line false slice reading = refl

-- an event can be written if its line can
event-writable : (reset : Bool) (event : LinkEvent) → IsWritable (logged_line reset event) → IsWritable (Event event)
event-writable false event writable = writable
event-writable true (Piece len instant) writable = writable
event-writable true (SourceEnd instant) writable = writable
event-writable true (Wrote slice reading) writable = writable

-- an event more
pub hears-event : (means : List Item → List Item) (text : List ℕ) (old new : Hearing) (event : LinkEvent) → IsWritable (logged_line new.source_reset event)
    → HasHeard means text old → GoesOn old new event → HasHeard means (text ++ (line_words (logged_line new.source_reset event) ++ 10 ∷ [])) new
hears-event means text old new event writable heard goes = record {
  events = heard.events ++ event ∷ [];
  written = All-append (λ event. IsWritable (Event event)) heard.events (event ∷ []) heard.written
      (All-cons (λ event. IsWritable (Event event)) event [] (event-writable new.source_reset event writable) (All-nil (λ event. IsWritable (Event event))));
  lines = line-next old.source_reset new.source_reset text heard.events event (stays-so goes.reset) heard.lines;
  source_end =
      let judged : Judged means (λ _. true) old.judge heard.events = heard.judged (λ _. true) (all-reported heard.events) in
      goes.ends heard.events heard.source_end judged.closed;
  judged = λ reported all. goes.hears means reported heard.events (reported-last reported heard.events event all)
      (heard.judged reported (reported-front reported heard.events event all));
  count =
      let both = length-append (said heard.events) (said (event ∷ [])) in
      ap length (said-append heard.events (event ∷ [])) ∙ omega (arith, both, heard.count, goes.count);
  late =
      let few = few-writes means text old heard in
      let same = lates-count heard.events in
      subst (λ values. KeepsLate values new.late) (sym (lates-append heard.events (event ∷ [])))
      (goes.late (lates heard.events) (omega (arith, few, same, heard.count)) heard.late);
}
  where
    stays-so : (new.source_reset ≡ old.source_reset) ⊎ (old.judge.ended ≡ false) → (new.source_reset ≡ old.source_reset) ⊎ (has_source_end heard.events ≡ false)
    stays-so (inl same) = inl same
    stays-so (inr going) =
        let judged : Judged means (λ _. true) old.judge heard.events = heard.judged (λ _. true) (all-reported heard.events) in
        inr (judged.closed ∙ going)

-- a verdict that stays open after the line of an event
pub says-event : (start : ℕ) (means : List Item → List Item) (text : List ℕ) (old new : Hearing) (event : LinkEvent) (line : LogLine)
    → logged_line new.source_reset event ≡ line → new.verdict ≡ Unfinished → new.broken ≡ None
    → GoesOn old new event → IsWritable line → HasHeard means text old → SaysOf start means (text ++ (line_words line ++ 10 ∷ [])) false new
says-event start means text old new event line is going whole goes writable heard =
    let lines : List ℕ = text ++ (line_words line ++ 10 ∷ []) in
    let more : HasHeard means lines new = subst (λ line. HasHeard means (text ++ (line_words line ++ 10 ∷ [])) new) is
    (hears-event means text old new event (subst IsWritable (sym is) writable) heard goes) in
    let going_on : HasNoEnding means lines false new None = inl (refl, more) in
    subst (SaysSo start means lines false new) (sym going) (subst (HasNoEnding means lines false new) (sym whole) going_on)

-- an event that no faithful log has here
pub says-refused : (start : ℕ) (means : List Item → List Item) (text : List ℕ) (old new : Hearing) (event : LinkEvent) (number : ℕ) → new.broken ≡ None
    → Refuses old.judge event
    → IsWritable (Event event) → (heard : HasHeard means text old) → IsLineNumber number (start + length heard.events)
    → SaysSo start means (text ++ (line_words (Event event) ++ 10 ∷ [])) false new (Unfaithful number)
says-refused start means text old new event number whole refuses writable heard at = (
  whole,
  record {
    written = heard.written;
    writable = writable;
    events = heard.events;
    reset = old.source_reset;
    line = Event event;
    more = [];
    lines = ap (λ lines. lines ++ (line_words (Event event) ++ 10 ∷ [])) heard.lines
        ∙ ap (λ line. event_lines old.source_reset heard.events ++ line) (sym (append-nil (line_words (Event event) ++ 10 ∷ [])));
    faithful = λ reported all. (heard.judged reported all).faithful;
    numbered = at;
    refused = λ reported faithful. refuses means reported heard.events
        (heard.judged reported (reported-front reported heard.events event (timely-reported reported 0 (heard.events ++ event ∷ []) faithful.timely))) faithful;
  },
)

-- an ending that no link with these events reports
pub says-other-end : (start : ℕ) (means : List Item → List Item) (text : List ℕ) (old new : Hearing) (reading : ℕ) (last : Ending) (number : ℕ)
    → new.broken ≡ None → RefusesEnding old.judge reading last
    → IsWritable (Last (Ended reading last)) → (heard : HasHeard means text old) → IsLineNumber number (start + length heard.events)
    → SaysSo start means (text ++ (line_words (Last (Ended reading last)) ++ 10 ∷ [])) true new (Unfaithful number)
says-other-end start means text old new reading last number whole refuses writable heard at =
    let words : List ℕ = line_words (Last (Ended reading last)) ++ 10 ∷ [] in (
      whole,
      record {
        events = heard.events;
        reset = old.source_reset;
        written = heard.written;
        writable = writable;
        line = Last (Ended reading last);
        more = [];
        lines = ap (λ lines. lines ++ words) heard.lines ∙ ap (λ line. event_lines old.source_reset heard.events ++ line) (sym (append-nil words));
        faithful = λ reported all. (heard.judged reported all).faithful;
        numbered = at;
        refused = λ reported taken written source report. refuses means reported heard.events
            (heard.judged reported (timely-reported reported 0 heard.events report.faithful.timely)) taken written source report;
      },
    )

-- what a hearing keeps of the same judge, source's end, writes and lateness
same-heard : (means : List Item → List Item) (text : List ℕ) (old new : Hearing) → new.judge ≡ old.judge → new.source_end ≡ old.source_end
    → new.source_reset ≡ old.source_reset → new.writes ≡ old.writes → new.late ≡ old.late
    → HasHeard means text old → HasHeard means text new
same-heard means text old new judge source_end reset writes late heard = record {
  events = heard.events;
  written = heard.written;
  lines = heard.lines ∙ ap (λ reset. event_lines reset heard.events) (sym reset);
  source_end = heard.source_end ∙ sym source_end;
  judged = λ reported all. rw judge (heard.judged reported all);
  count = heard.count ∙ sym writes;
  late = rw late heard.late;
}

-- the last line tells that the stream broke off
pub says-broken : (start : ℕ) (means : List Item → List Item) (text : List ℕ) (old new : Hearing) (cause : BreakCause) (bytes : ℕ) → new.verdict ≡ Unfinished
    → new.broken ≡ Some cause
    → new.judge ≡ old.judge → new.source_end ≡ old.source_end → new.source_reset ≡ old.source_reset → new.writes ≡ old.writes → new.late ≡ old.late
    → IsWritable (Last (Broken cause bytes)) → HasHeard means text old
    → SaysOf start means (text ++ (line_words (Last (Broken cause bytes)) ++ 10 ∷ [])) true new
says-broken start means text old new cause bytes going broken judge source_end reset writes late writable heard =
    let lines : List ℕ = text ++ (line_words (Last (Broken cause bytes)) ++ 10 ∷ []) in
    let stopped : HasNoEnding means lines true new (Some cause) = (
      refl,
      record {
        front = text;
        bytes = bytes;
        heard = same-heard means text old new judge source_end reset writes late heard;
        writable = writable;
        lines = refl;
      },
    ) in
    subst (SaysSo start means lines true new) (sym going) (subst (HasNoEnding means lines true new) (sym broken) stopped)

-- the last line tells of an open link, and the judge stays one after the events
pub says-open : (start : ℕ) (means : List Item → List Item) (text : List ℕ) (old : Hearing) (judge : Judge) (reading : ℕ) → old.verdict ≡ Unfinished
    → old.broken ≡ None
    → ((reported : ℕ → Bool) (log : List LinkEvent) → Judged means reported old.judge log → Judged means reported judge log)
    → IsWritable (Last (Ended reading StillOpen)) → HasHeard means text old
    → SaysOf start means (text ++ (line_words (Last (Ended reading StillOpen)) ++ 10 ∷ [])) true (record old { judge = judge })
says-open start means text old judge reading going whole stays writable heard =
    let lines : List ℕ = text ++ (line_words (Last (Ended reading StillOpen)) ++ 10 ∷ []) in
    let new : Hearing = record old { judge = judge } in
    let left : HasNoEnding means lines true new None = inr (
      refl,
      record {
        front = text;
        reading = reading;
        heard = record {
          events = heard.events;
          written = heard.written;
          lines = heard.lines;
          source_end = heard.source_end;
          judged = λ reported all. stays reported heard.events (heard.judged reported all);
          count = heard.count;
          late = heard.late;
        };
        writable = writable;
        lines = refl;
      },
    ) in
    subst (SaysSo start means lines true new) (sym going) (subst (HasNoEnding means lines true new) (sym whole) left)

-- the last line tells the ending
pub says-ended : (start : ℕ) (means : List Item → List Item) (text : List ℕ) (old new : Hearing) (reading : ℕ) (last : Ending) → new.broken ≡ None
    → new.source_end ≡ old.source_end → new.source_reset ≡ old.source_reset → new.writes ≡ old.writes
    → KeepsMore old.late (ending_late reading last) new.late → IsWritable (Last (Ended reading last)) → HasHeard means text old
    → (new.judge.heard ≡ old.judge.heard) × (new.judge.said ≡ old.judge.said) × (new.judge.ended ≡ old.judge.ended)
    → ((means : List Item → List Item) (reported : ℕ → Bool) (log : List LinkEvent) → reported reading ≡ true → Judged means reported old.judge log
    → ReportsAt means (λ t. reported t ≡ true) log old.judge.heard old.judge.said last (source_heard old.judge.ended) reading)
    → SaysSo start means (text ++ (line_words (Last (Ended reading last)) ++ 10 ∷ [])) true new (Faithful last)
says-ended start means text old new reading last whole source_end reset writes late writable heard counts reports =
    let judged : Judged means (λ _. true) old.judge heard.events = heard.judged (λ _. true) (all-reported heard.events) in
    let ended : is_some new.source_end ≡ old.judge.ended = ap is_some (source_end ∙ sym heard.source_end) ∙ end-heard heard.events ∙ judged.closed in
    let few = few-writes means text old heard in
    let same = lates-count heard.events in (
      refl,
      whole,
      lates heard.events ++ ending_late reading last,
      late (lates heard.events) (omega (arith, few, same, heard.count)) heard.late,
      record {
        events = heard.events;
        reading = reading;
        each = heard.written;
        writable = writable;
        lines = ap (λ lines. lines ++ (line_words (Last (Ended reading last)) ++ 10 ∷ []))
            (heard.lines ∙ ap (λ reset. event_lines reset heard.events) (sym reset));
        counts = rw (counts.0, counts.1, source_end, writes) (counts-of means text old heard);
        values = refl;
        report = λ reported all says. rw (counts.0, counts.1, ended) (reports means reported heard.events says (heard.judged reported all));
      },
    )

-- a line that isn't heard: the verdict says no more than before
pub says-skipped : (start : ℕ) (means : List Item → List Item) (text line : List ℕ) (over now : Bool) (hearing : Hearing) (verdict : Verdict)
    → (verdict ≡ Unfinished → ⊥) → over ≡ false
    → SaysSo start means text over hearing verdict → SaysSo start means (text ++ line) now hearing verdict
says-skipped start means text line over now hearing (Faithful ending) known going says = absurd-over (sym going ∙ says.0)
  where
    absurd-over : false ≡ true → SaysSo start means (text ++ line) now hearing (Faithful ending)
    absurd-over same = cc
says-skipped start means text line over now hearing Unfinished known going says = absurd (known refl)
says-skipped start means text line over now hearing (Unfaithful number) known going says =
    let refusal = says.1 in (
      says.0,
      record {
        events = refusal.events;
        reset = refusal.reset;
        written = refusal.written;
        writable = refusal.writable;
        line = refusal.line;
        more = refusal.more ++ line;
        lines = ap (λ text. text ++ line) refusal.lines ∙ append_assoc (event_lines refusal.reset refusal.events)
            ((line_words refusal.line ++ 10 ∷ []) ++ refusal.more) line
            ∙ ap (λ rest. event_lines refusal.reset refusal.events ++ rest) (append_assoc (line_words refusal.line ++ 10 ∷ []) refusal.more line);
        faithful = refusal.faithful;
        refused = refusal.refused;
        numbered = refusal.numbered;
      },
    )

-- a line that is heard behind events alone
says-next : (start : ℕ) (means : List Item → List Item) (text : List ℕ) (old new : Hearing) (line : LogLine) (number : ℕ) (broken : Option BreakCause)
    → old.broken ≡ broken → IsWritable line → HearsLine old line number new
    → ((heard : HasHeard means text old) → IsLineNumber number (start + length heard.events))
    → HasNoEnding means text false old broken → SaysOf start means (text ++ (line_words line ++ 10 ∷ [])) (is_last line) new
says-next start means text old new line number None whole writable hears at (inl says) = hears start means text writable whole says.1 (at says.1)
says-next start means text old new line number None whole writable hears at (inr says) = absurd (not-over says.0)
  where
    not-over : false ≡ true → ⊥
    not-over same = cc
says-next start means text old new line number (Some cause) whole writable hears at says = absurd (not-over says.0)
  where
    not-over : false ≡ true → ⊥
    not-over same = cc

-- a line that is heard
pub says-line : (start : ℕ) (means : List Item → List Item) (text : List ℕ) (over now : Bool) (old new : Hearing) (line : LogLine) (number : ℕ)
    → old.verdict ≡ Unfinished → over ≡ false → now ≡ is_last line
    → IsWritable line → HearsLine old line number new → ((heard : HasHeard means text old) → IsLineNumber number (start + length heard.events))
    → SaysOf start means text over old → SaysOf start means (text ++ (line_words line ++ 10 ∷ [])) now new
says-line start means text over now old new line number unfinished going last writable hears at says =
    let going_on : HasNoEnding means text false old old.broken =
    subst (λ over. HasNoEnding means text over old old.broken) going (subst (SaysSo start means text over old) unfinished says) in
    subst (λ now. SaysOf start means (text ++ (line_words line ++ 10 ∷ [])) now new) (sym last)
    (says-next start means text old new line number old.broken refl writable hears at going_on)

-- lines stand behind the header, and no line behind them
behind-header : (before handed : Option (List ℕ)) (header torn lines : List ℕ) (left : Option (List ℕ)) → Lacks 10 torn → LacksLine left
    → before ≡ prepend_known (header ++ torn) handed
    → (torn ≡ []) ⊎ IsAtEnd handed → handed ≡ prepend_known lines left → (rest : Option (List ℕ)) × (before ≡ prepend_known (header ++ lines) rest)
    × LacksLine rest
behind-header before handed header torn lines left lacks none given (inl empty) here = (
  left,
  given ∙ ap (λ torn. prepend_known (header ++ torn) handed) empty ∙ ap (λ header. prepend_known header handed) (append-nil header)
      ∙ ap (prepend_known header) here ∙ sym (prepend-append header lines left),
  none,
)
behind-header before None header torn lines left lacks none given (inr ended) here =
    (None, given, record { torn = torn; left = None; given = refl; unended = lacks; ended = tt })
behind-header before (Some bytes) header torn lines None lacks none given (inr ended) here = absurd (no-bytes here)
  where
    no-bytes : Some bytes ≡ None → ⊥
    no-bytes same = cc
behind-header before (Some bytes) header torn lines (Some left) lacks none given (inr ended) here =
    let empty : lines ≡ [] = no-lines lines left (sym whole ∙ ended) in (
      Some (torn ++ bytes),
      given ∙ ap Some (append_assoc header torn bytes) ∙ ap (λ header. Some (header ++ (torn ++ bytes)))
          (sym (append-nil header) ∙ ap (λ lines. header ++ lines) (sym empty)),
      record { torn = torn; left = Some bytes; given = refl; unended = lacks; ended = ended },
    )
  where
    whole : bytes ≡ lines ++ left
    whole = cc

    no-lines : (lines left : List ℕ) → lines ++ left ≡ [] → lines ≡ []
    no-lines [] left same = refl
    no-lines (first ∷ lines) left same = absurd cc

-- how far a log came that tells no ending
stopped-so : (means : List Item → List Item) (text : List ℕ) (over : Bool) (hearing : Hearing) (broken : Option BreakCause)
    → HasNoEnding means text over hearing broken
    → (late : List ℕ) × KeepsLate late hearing.late × HasStopped means text broken hearing.judge.heard hearing.judge.said hearing.source_end
    hearing.source_reset hearing.writes late
stopped-so means text over hearing None (inl says) =
    let heard = says.1 in (
      lates heard.events,
      heard.late,
      record {
        events = heard.events;
        last = [];
        each = heard.written;
        lines = heard.lines ∙ sym (append-nil (event_lines hearing.source_reset heard.events));
        tells = inl refl;
        counts = counts-of means text hearing heard;
        values = refl;
        faithful = λ reported all. (heard.judged reported all).faithful;
      },
    )
stopped-so means text over hearing None (inr says) =
    let left = says.1 in
    let heard = left.heard in (
      lates heard.events,
      heard.late,
      record {
        events = heard.events;
        last = last_line (Ended left.reading StillOpen);
        each = heard.written;
        lines = rw (sym heard.lines) left.lines;
        tells = inr (left.reading, left.writable, refl);
        counts = counts-of means left.front hearing heard;
        values = refl;
        faithful = λ reported all. (heard.judged reported all).faithful;
      },
    )
stopped-so means text over hearing (Some cause) says =
    let broken = says.1 in
    let heard = broken.heard in (
      lates heard.events,
      heard.late,
      record {
        events = heard.events;
        last = last_line (Broken cause broken.bytes);
        each = heard.written;
        lines = rw (sym heard.lines) broken.lines;
        tells = (broken.bytes, broken.writable, refl);
        counts = counts-of means broken.front hearing heard;
        values = refl;
        faithful = λ reported all. (heard.judged reported all).faithful;
      },
    )

-- the lines behind the header that was read
text-of : (before after : Option (List ℕ)) (log last : OpenLog) (hearing end : Hearing) (judged : JudgedLog) → Opens before after log
    → (begun : BeginsJudging log.heading log.chain hearing)
    → (heard : HearsToEnd log last after hearing end) → judged.heading ≡ log.heading → judged.chain ≡ log.chain → IsTextOf before judged heard.text begun.means
text-of before after log last hearing end judged opened begun heard heading chain =
    let header : Heading → Toxics → List ℕ = λ h c. header_text (string_bytes h.proxy) h.number h.stream h.seed c opened.names in
    let (rest, given, none) = behind-header before (to_hand log after) (header log.heading log.chain) opened.torn heard.text heard.left opened.unended
    heard.rest opened.given opened.rest heard.given in record {
      names = opened.names;
      left = rest;
      named = subst (λ (h : Heading). AreHeaderNames (string_bytes h.proxy) judged.chain.entries opened.names) (sym heading)
          (subst (λ (c : Toxics). AreHeaderNames (string_bytes log.heading.proxy) c.entries opened.names) (sym chain) opened.named);
      text = given ∙ ap₂ (λ h c. prepend_known (header h c ++ heard.text) rest) (sym heading) (sym chain);
      rest = none;
      meaning = λ items stream. begun.meaning items stream ∙ ap₂ (λ h c. chain_flow c (seeded_words h.seed h.number h.stream) items) (sym heading) (sym chain);
    }

-- what is kept of a hearing
pub record KeepsHearing (hearing : Hearing) (judged : JudgedLog) : Type 0 where
  pub verdict : judged.verdict ≡ hearing.verdict
  pub broken : judged.broken ≡ hearing.broken
  pub heard : judged.heard ≡ hearing.judge.heard
  pub said : judged.said ≡ hearing.judge.said
  pub source_end : judged.source_end ≡ hearing.source_end
  pub reset : judged.source_reset ≡ hearing.source_reset
  pub writes : judged.writes ≡ hearing.writes
  pub late : (values : List ℕ) → KeepsLate values hearing.late → IsLate values judged.late

kept-report : (means : List Item → List Item) (text : List ℕ) (hearing : Hearing) (judged : JudgedLog) (late : List ℕ) (ending : Ending)
    → KeepsHearing hearing judged
    → HasReport means text hearing.judge.heard hearing.judge.said hearing.source_end hearing.source_reset hearing.writes late ending
    → HasReport means text judged.heard judged.said judged.source_end judged.source_reset judged.writes late ending
kept-report means text hearing judged late ending kept report = rw (kept.heard, kept.said, kept.source_end, kept.reset, kept.writes) report

kept-stopped : (means : List Item → List Item) (text : List ℕ) (hearing : Hearing) (judged : JudgedLog) (late : List ℕ) → KeepsHearing hearing judged
    → HasStopped means text hearing.broken hearing.judge.heard hearing.judge.said hearing.source_end hearing.source_reset hearing.writes late
    → HasStopped means text judged.broken judged.heard judged.said judged.source_end judged.source_reset judged.writes late
kept-stopped means text hearing judged late kept stopped = rw (kept.broken, kept.heard, kept.said, kept.source_end, kept.reset, kept.writes) stopped

module _ (before after : Option (List ℕ)) (log last : OpenLog) (hearing end : Hearing) (judged : JudgedLog) (opened : Opens before after log)
    (begun : BeginsJudging log.heading log.chain hearing)
    (heard : HearsToEnd log last after hearing end) (kept : KeepsHearing end judged) (heading : judged.heading ≡ last.heading)
    (chain : judged.chain ≡ last.chain)
    (numbered : IsLineNumber (next_number log) (4 + length log.chain.entries)) where
  abbrev start : ℕ
  start = 4 + length log.chain.entries

  says : SaysSo start begun.means heard.text last.over end judged.verdict
  says = subst (SaysSo start begun.means heard.text last.over end) (sym kept.verdict)
      (heard.says start begun.means numbered (subst (λ over. SaysOf start begun.means [] over hearing) (sym opened.going) (begun.says start)))

  text : IsTextOf before judged heard.text begun.means
  text = text-of before after log last hearing end judged opened begun heard (heading ∙ heard.heading) (chain ∙ heard.chain)

  -- a faithful verdict
  pub faithful-text : (last : Ending) → judged.verdict ≡ Faithful last → IsFaithfulText before judged last
  faithful-text ending faithful =
      let (over, whole, late, keeps, report) = subst (SaysSo start begun.means heard.text last.over end) faithful says in record {
        lines = heard.text;
        means = begun.means;
        text = text;
        late = late;
        report = kept-report begun.means heard.text end judged late ending kept report;
        percentiles = kept.late late keeps;
        whole = kept.broken ∙ whole;
      }

  -- an unfaithful one
  pub refused-text : (number : ℕ) → judged.verdict ≡ Unfaithful number → IsRefusedText before judged number
  refused-text number unfaithful =
      let (whole, refusal) = subst (SaysSo start begun.means heard.text last.over end) unfaithful says in record {
        lines = heard.text;
        means = begun.means;
        text = text;
        refusal = subst (λ (chain : Toxics). HasRefusal begun.means heard.text (4 + length chain.entries) number) (sym (chain ∙ heard.chain)) refusal;
        whole = kept.broken ∙ whole;
      }

  -- and an unfinished one
  pub unfinished-text : judged.verdict ≡ Unfinished → IsUnfinishedText before judged
  unfinished-text unfinished =
      let (late, keeps, stopped) = stopped-so begun.means heard.text last.over end end.broken
      (subst (SaysSo start begun.means heard.text last.over end) unfinished says) in record {
        lines = heard.text;
        means = begun.means;
        text = text;
        late = late;
        stopped = kept-stopped begun.means heard.text end judged late kept stopped;
        percentiles = kept.late late keeps;
      }
