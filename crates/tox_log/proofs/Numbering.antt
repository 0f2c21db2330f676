-- The numbers of lines.
use Rattle.std.proofs.Common.{◌≡◌, ◌≢◌, ℕ, ◌+◌, ◌<◌, ◌^◌, ◌-◌, Bool, true, false, List, [], ◌∷◌, ◌++◌, length, length-append, refl, ap, ◌∙◌, arith}
use Rattle.std.specs.Prelude.{All, ◌==◌, if◌then◌else◌}
use Rattle.std.proofs.lemmas.List.Elements.{All-head, All-tail}
use Rattle.tox_time.specs.declared.streams.item.Item.{Item}
use Rattle.tox_link.specs.declared.notes.LinkEvent.{LinkEvent}
use Rattle.tox_defs.specs.chain.Chain.{Toxics}
use Rattle.tox_log.specs.declared.event_line.LogLine.{LogLine}
use Rattle.tox_log.specs.declared.event_line.LogLine.TheVariants.{Event}
use Rattle.tox_log.specs.declared.open_log.OpenLog.{OpenLog}
use Rattle.tox_log.specs.declared.replay.Hearing.{Hearing}
use Rattle.tox_log.specs.Opening.{AddsToxic}
use Rattle.tox_log.specs.EventLines.{event_lines, logged_line}
use Rattle.tox_log.specs.Hearing.{HasHeard}
use Rattle.tox_log.specs.Lines.{IsWritable, line_words}
use Rattle.tox_log.specs.Numbers.{Lacks}
use Rattle.tox_log.specs.Reading.{CountsOn, IsLineNumber, next_number}
use Rattle.tox_log.proofs.Keeping.{logged-writable}
use Rattle.tox_log.proofs.LineBytes.{line-feedless}

-- the number of the line behind a text that begins with line `start`
abbrev pub number_behind : ℕ → List ℕ → ℕ
number_behind start [] = start
number_behind start (byte ∷ text) = number_behind (if byte == 10 then start + 1 else start) text

behind-append : (start : ℕ) (text more : List ℕ) → number_behind start (text ++ more) ≡ number_behind (number_behind start text) more
behind-append start [] more = refl
behind-append start (byte ∷ text) more = behind-append (if byte == 10 then start + 1 else start) text more

behind-lacks : (start : ℕ) (text : List ℕ) → Lacks 10 text → number_behind start text ≡ start
behind-lacks start [] lacks = refl
behind-lacks start (byte ∷ text) lacks =
    let other : byte ≢ 10 = All-head (λ byte. byte ≢ 10) byte text lacks in
    let none : (byte == 10) ≡ false = grind (arith, other) in
    ap (λ (feeds : Bool). number_behind (if feeds then start + 1 else start) text) none ∙ behind-lacks start text (All-tail (λ byte. byte ≢ 10) byte text lacks)

behind-one : (start : ℕ) (line : LogLine) → IsWritable line → number_behind start (line_words line ++ 10 ∷ []) ≡ start + 1
behind-one start line writable =
    behind-append start (line_words line) (10 ∷ []) ∙ ap (λ start. number_behind start (10 ∷ []))
    (behind-lacks start (line_words line) (line-feedless line writable))

-- a line more
pub behind-line : (start : ℕ) (text : List ℕ) (line : LogLine) → IsWritable line
    → number_behind start (text ++ (line_words line ++ 10 ∷ [])) ≡ number_behind start text + 1
behind-line start text line writable = behind-append start text (line_words line ++ 10 ∷ []) ∙ behind-one (number_behind start text) line writable

behind-events : (reset : Bool) (start : ℕ) (events : List LinkEvent) → All (λ event. IsWritable (Event event)) events
    → number_behind start (event_lines reset events) ≡ start + length events
behind-events reset start [] written = omega arith
behind-events reset start (event ∷ events) written =
    let rest = behind-events reset (start + 1) events (All-tail (λ event. IsWritable (Event event)) event events written) in
    let line : LogLine = logged_line reset event in
    behind-append start (line_words line ++ 10 ∷ []) (event_lines reset events)
    ∙ ap (λ start. number_behind start (event_lines reset events)) (behind-one start line
    (logged-writable reset event (All-head (λ event. IsWritable (Event event)) event events written)))
    ∙ omega (arith, rest)

-- the lines of events
pub behind-heard : (start : ℕ) (means : List Item → List Item) (text : List ℕ) (hearing : Hearing) (heard : HasHeard means text hearing)
    → number_behind start text ≡ start + length heard.events
behind-heard start means text hearing heard = ap (number_behind start) heard.lines ∙ behind-events hearing.source_reset start heard.events heard.written

-- The lines of the header

-- a toxic's line was read and added
pub numbers-toxic : (old middle new : OpenLog) → CountsOn old.number middle.number → middle.chain ≡ old.chain → new.number ≡ middle.number
    → AddsToxic middle new
    → IsLineNumber old.number (3 + length old.chain.entries) → IsLineNumber new.number (3 + length new.chain.entries)
numbers-toxic old middle new counts chain number added is =
    let more : length new.chain.entries ≡ length middle.chain.entries + 1 = ap length added.chain ∙ length-append middle.chain.entries (added.entry ∷ []) in
    let same : length middle.chain.entries ≡ length old.chain.entries = ap (λ (chain : Toxics). length chain.entries) chain in
    λ fits. let here = counts (3 + length old.chain.entries) is (omega (arith, fits, more, same)) in omega (arith, here, number, more, same)

-- no line is left behind them
pub numbers-end : (old new : OpenLog) → new.waits ≡ false → new.number ≡ old.number → new.chain ≡ old.chain
    → IsLineNumber old.number (3 + length old.chain.entries) → IsLineNumber (next_number new) (4 + length new.chain.entries)
numbers-end old new waits number chain is =
    let same : length new.chain.entries ≡ length old.chain.entries = ap (λ (chain : Toxics). length chain.entries) chain in
    let next : next_number new ≡ new.number + 1 = ap (λ waits. if waits then new.number else new.number + 1) waits in
    λ fits. let here = is (omega (arith, fits, same)) in omega (arith, here, number, same, next)

-- or one that waits
pub numbers-other : (old middle new : OpenLog) → CountsOn old.number middle.number → middle.chain ≡ old.chain → new.number ≡ middle.number
    → new.chain ≡ middle.chain
    → IsLineNumber old.number (3 + length old.chain.entries) → IsLineNumber new.number (4 + length new.chain.entries)
numbers-other old middle new counts chain number kept is =
    let same : length new.chain.entries ≡ length old.chain.entries = ap (λ (chain : Toxics). length chain.entries) (kept ∙ chain) in
    λ fits. let here = counts (3 + length old.chain.entries) is (omega (arith, fits, same)) in omega (arith, here, number, same)

-- The lines behind it

-- the one that waited is handed out
pub numbers-waited : (old new : OpenLog) → old.waits ≡ true → new.waits ≡ false → new.number ≡ old.number → (line : ℕ) → IsLineNumber (next_number old) line
    → IsLineNumber new.number line × IsLineNumber (next_number new) (line + 1)
numbers-waited old new waited waits number line is =
    let before : next_number old ≡ old.number = ap (λ waits. if waits then old.number else old.number + 1) waited in
    let next : next_number new ≡ new.number + 1 = ap (λ waits. if waits then new.number else new.number + 1) waits in (
      λ fits. let here = is fits in omega (arith, here, before, number),
      λ fits. let here = is (omega (arith, fits)) in omega (arith, here, before, number, next),
    )

-- or the next one
pub numbers-read : (old new : OpenLog) → old.waits ≡ false → new.waits ≡ false → CountsOn old.number new.number → (line : ℕ)
    → IsLineNumber (next_number old) line
    → IsLineNumber new.number line × IsLineNumber (next_number new) (line + 1)
numbers-read old new waited waits counts line is =
    let before : next_number old ≡ old.number + 1 = ap (λ waits. if waits then old.number else old.number + 1) waited in
    let next : next_number new ≡ new.number + 1 = ap (λ waits. if waits then new.number else new.number + 1) waits in
    let counted : (fits : line < 2 ^ 64) → new.number ≡ line = (λ fits.
    let here = is fits in
    let at : IsLineNumber old.number (line - 1) = (λ _. omega (arith, here, before)) in
    let now = counts (line - 1) at (omega (arith, fits, here, before)) in
    omega (arith, now, here, before)) in (
      counted,
      λ fits. let here = counted (omega (arith, fits)) in omega (arith, here, next),
    )
