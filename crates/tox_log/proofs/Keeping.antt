-- No line of a link's log is refused.
use Rattle.std.proofs.Common.{◌≡◌, ℕ, Bool, true, false, List, [], ◌∷◌, ◌++◌, map, Option, Some, None, refl, ap, ap₂, sym, subst, ◌∙◌}
use Rattle.std.proofs.Common.{append_assoc, append-nil}
use Rattle.std.specs.Io.KnownBytes.{prepend_known}
use Rattle.std.specs.Prelude.{All, Contains}
use Rattle.std.proofs.lemmas.List.Elements.{All-head, All-tail, Contains-push}
use Rattle.tox_time.specs.declared.streams.item.Item.{Item}
use Rattle.tox_time.specs.declared.streams.position.StreamPosition.{StreamPosition}
use Rattle.tox_link.specs.declared.notes.LinkEvent.{LinkEvent}
use Rattle.tox_link.specs.declared.notes.LinkEvent.TheVariants.{Piece, SourceEnd, Wrote}
use Rattle.tox_link.specs.log.Log.{IsFaithful}
use Rattle.tox_log.specs.declared.event_line.LogLine.{LogLine}
use Rattle.tox_log.specs.declared.event_line.LogLine.TheVariants.{Event, SourceReset, Last}
use Rattle.tox_log.specs.declared.last_line.LastLine.TheVariants.{Ended, Broken}
use Rattle.tox_log.specs.EventLines.{event_lines, logged_line}
use Rattle.tox_log.specs.declared.open_log.OpenLog.{OpenLog}
use Rattle.tox_words.specs.Seeded.{seeded_words}
use Rattle.tox_defs.specs.Flow.{chain_flow}
use Rattle.tox_log.specs.Hearing.{HasRefusal, IsMeaningOf, IsRefused}
use Rattle.tox_log.specs.Left.{IsHeadingOf}
use Rattle.tox_log.specs.Lines.{IsWritable, line_words}
use Rattle.tox_log.specs.LinkLog.{AreLinkLines, IsReported, events_in}
use Rattle.tox_log.specs.Numbers.{Lacks}
use Rattle.tox_log.specs.Order.{heard_with}
use Rattle.tox_log.specs.Reading.{is_last}
use Rattle.tox_log.specs.WrittenLog.{AreInOrder, WrittenLog, log_lines}
use Rattle.tox_link.proofs.Logs.{faithful-front}
use Rattle.tox_log.proofs.Cuts.{cut-once, stands}
use Rattle.tox_log.proofs.LineBytes.{line-feedless}
use Rattle.tox_log.proofs.ReadsBack.{same-line}

-- The lines of a text

lines-cut : (first : LogLine) (lines : List LogLine) (torn : List ℕ) → log_lines (first ∷ lines) ++ torn ≡ line_words first ++ 10 ∷ (log_lines lines ++ torn)
lines-cut first lines torn = append_assoc (line_words first ++ 10 ∷ []) (log_lines lines) torn
    ∙ append_assoc (line_words first) (10 ∷ []) (log_lines lines ++ torn)

events-cut : (reset : Bool) (event : LinkEvent) (events : List LinkEvent) (rest : List ℕ)
    → event_lines reset (event ∷ events) ++ rest ≡ line_words (logged_line reset event) ++ 10 ∷ (event_lines reset events ++ rest)
events-cut reset event events rest =
    let words : List ℕ = line_words (logged_line reset event) in
    append_assoc (words ++ 10 ∷ []) (event_lines reset events) rest ∙ append_assoc words (10 ∷ []) (event_lines reset events ++ rest)

-- an event's line can be written if the event can
pub logged-writable : (reset : Bool) (event : LinkEvent) → IsWritable (Event event) → IsWritable (logged_line reset event)
logged-writable false event writable = writable
logged-writable true (Piece len instant) writable = writable
logged-writable true (SourceEnd instant) writable = writable
logged-writable true (Wrote slice reading) writable = writable

-- and it is no last line
pub logged-goes : (reset : Bool) (event : LinkEvent) → is_last (logged_line reset event) ≡ false
logged-goes false event = refl
logged-goes true (Piece len instant) = refl
logged-goes true (SourceEnd instant) = refl
logged-goes true (Wrote slice reading) = refl

-- a text has one list of lines
pub same-lines : (reset : Bool) (events : List LinkEvent) (line : LogLine) (more torn : List ℕ) (lines : List LogLine) (heard : StreamPosition)
    → All (λ event. IsWritable (Event event)) events → IsWritable line
    → AreInOrder heard lines → Lacks 10 torn → event_lines reset events ++ ((line_words line ++ 10 ∷ []) ++ more) ≡ log_lines lines ++ torn
    → (rest : List LogLine) × (lines ≡ map (logged_line reset) events ++ line ∷ rest)
same-lines reset [] line more torn [] heard written writable order lacks same =
    absurd (stands 10 (line_words line) more (subst (Lacks 10) (sym same ∙ append_assoc (line_words line) (10 ∷ []) more) lacks))
same-lines reset [] line more torn (first ∷ lines) heard written writable order lacks same =
    let parts = cut-once 10 (line_words line) more (line_words first) (log_lines lines ++ torn) (line-feedless line writable) (line-feedless first order.0)
    (sym (append_assoc (line_words line) (10 ∷ []) more) ∙ same ∙ lines-cut first lines torn) in
    (lines, ap (λ line. line ∷ lines) (sym (same-line line first writable order.0 parts.0)))
same-lines reset (event ∷ events) line more torn [] heard written writable order lacks same =
    let rest = (line_words line ++ 10 ∷ []) ++ more in
    absurd (stands 10 (line_words (logged_line reset event)) (event_lines reset events ++ rest)
    (subst (Lacks 10) (sym same ∙ events-cut reset event events rest) lacks))
same-lines reset (event ∷ events) line more torn (first ∷ lines) heard written writable order lacks same =
    let rest = (line_words line ++ 10 ∷ []) ++ more in
    let here = logged-writable reset event (All-head (λ event. IsWritable (Event event)) event events written) in
    let parts = cut-once 10 (line_words (logged_line reset event)) (event_lines reset events ++ rest) (line_words first) (log_lines lines ++ torn)
    (line-feedless (logged_line reset event) here) (line-feedless first order.0)
    (sym (events-cut reset event events rest) ∙ same ∙ lines-cut first lines torn) in
    let is = same-line (logged_line reset event) first here order.0 parts.0 in
    let (left, others) = same-lines reset events line more torn lines (heard_with heard first)
    (All-tail (λ event. IsWritable (Event event)) event events written) writable order.3 lacks parts.1 in
    (left, ap₂ (λ line lines. line ∷ lines) (sym is) others)

logged-event : (reset : Bool) (event : LinkEvent) (lines : List LogLine) → events_in (logged_line reset event ∷ lines) ≡ event ∷ events_in lines
logged-event false event lines = refl
logged-event true (Piece len instant) lines = refl
logged-event true (SourceEnd instant) lines = refl
logged-event true (Wrote slice reading) lines = refl

pub events-of : (reset : Bool) (events : List LinkEvent) (lines : List LogLine)
    → events_in (map (logged_line reset) events ++ lines) ≡ events ++ events_in lines
events-of reset [] lines = refl
events-of reset (event ∷ events) lines =
    logged-event reset event (map (logged_line reset) events ++ lines) ∙ ap (λ rest. event ∷ rest) (events-of reset events lines)

-- behind a last line stands none
none-behind : (reset : Bool) (events : List LinkEvent) (line : LogLine) (rest : List LogLine) (heard : StreamPosition)
    → AreInOrder heard (map (logged_line reset) events ++ line ∷ rest) → is_last line ≡ true → rest ≡ []
none-behind reset [] line rest heard order last = order.2 last
none-behind reset (event ∷ events) line rest heard order last = none-behind reset events line rest (heard_with heard (logged_line reset event)) order.3 last

-- so no line of a link is refused
module _ (means : List Item → List Item) (reported : ℕ → Bool) (lines : List LogLine) (heard : StreamPosition) (order : AreInOrder heard lines)
    (kept : AreLinkLines means reported lines) where
  refused-event : (reset : Bool) (events : List LinkEvent) (event : LinkEvent) (line : LogLine) (rest : List LogLine)
      → events_in (line ∷ rest) ≡ event ∷ events_in rest → lines ≡ map (logged_line reset) events ++ line ∷ rest
      → IsRefused means events (Event event) → ⊥
  refused-event reset events event line rest tells is refused =
      let whole : events_in lines ≡ (events ++ event ∷ []) ++ events_in rest = ap events_in is ∙ events-of reset events (line ∷ rest)
      ∙ ap (λ more. events ++ more) tells ∙ sym (append_assoc events (event ∷ []) (events_in rest)) in
      refused reported (faithful-front means (λ t. reported t ≡ true) (events ++ event ∷ []) (events_in rest)
      (subst (IsFaithful means (λ t. reported t ≡ true)) whole kept.faithful))

  none-refused : (reset : Bool) (events : List LinkEvent) (line : LogLine) (rest : List LogLine) → lines ≡ map (logged_line reset) events ++ line ∷ rest
      → IsRefused means events line → ⊥
  none-refused reset events (Event event) rest is refused = refused-event reset events event (Event event) rest refl is refused
  none-refused reset events (SourceReset instant) rest is refused = refused-event reset events (SourceEnd instant) (SourceReset instant) rest refl is refused
  none-refused reset events (Last (Ended reading last)) rest is refused =
      let line : LogLine = Last (Ended reading last) in
      let none : rest ≡ [] = none-behind reset events line rest heard (subst (AreInOrder heard) is order) refl in
      let whole : events_in lines ≡ events = ap events_in is ∙ events-of reset events (line ∷ rest) ∙ ap (λ rest. events ++ events_in rest) none
      ∙ append-nil events in
      let report : IsReported means reported events reading last = subst (λ events. IsReported means reported events reading last) whole
      (kept.reported reading last (subst (λ lines. Contains lines line) (sym (is ∙ ap (λ rest. map (logged_line reset) events ++ line ∷ rest) none))
      (Contains-push (map (logged_line reset) events) line))) in
      refused reported report.taken report.written report.source report.report
  none-refused reset events (Last (Broken cause bytes)) rest is refused = refused

  -- nor has its text a refusal
  pub no-refusal : (start number : ℕ) (text torn : List ℕ) (handed left : Option (List ℕ)) → handed ≡ Some (log_lines lines ++ torn)
      → handed ≡ prepend_known text left → Lacks 10 torn → HasRefusal means text start number → ⊥
  no-refusal start number text torn handed None bytes given lacks refusal = no-bytes (sym bytes ∙ given)
    where
      no-bytes : Some (log_lines lines ++ torn) ≡ None → ⊥
      no-bytes same = cc
  no-refusal start number text torn handed (Some left) bytes given lacks refusal =
      let line = line_words refusal.line ++ 10 ∷ [] in
      let whole : log_lines lines ++ torn ≡ text ++ left = bytes-of (sym bytes ∙ given) in
      let front : List ℕ = event_lines refusal.reset refusal.events in
      let read : front ++ (line ++ (refusal.more ++ left)) ≡ log_lines lines ++ torn =
      sym (whole ∙ ap (λ text. text ++ left) refusal.lines ∙ append_assoc front (line ++ refusal.more) left
      ∙ ap (λ rest. front ++ rest) (append_assoc line refusal.more left)) in
      let (rest, is) = same-lines refusal.reset refusal.events refusal.line (refusal.more ++ left) torn lines heard refusal.written refusal.writable order lacks
      read in
      none-refused refusal.reset refusal.events refusal.line rest is refusal.refused
    where
      bytes-of : Some (log_lines lines ++ torn) ≡ Some (text ++ left) → log_lines lines ++ torn ≡ text ++ left
      bytes-of same = cc

-- the meaning of the chain that was read
pub meaning-of : (log : OpenLog) (written : WrittenLog) (means : List Item → List Item) → IsHeadingOf log.heading written → log.chain ≡ written.chain
    → IsMeaningOf means log.chain (seeded_words log.heading.seed log.heading.number log.heading.stream)
    → IsMeaningOf means written.chain (seeded_words written.seed written.number written.stream)
meaning-of log written means heading chain meaning = λ items stream.
    meaning items stream
    ∙ ap (λ chain. chain_flow chain (seeded_words log.heading.seed log.heading.number log.heading.stream) items) chain
    ∙ ap (λ seed. chain_flow written.chain (seeded_words seed log.heading.number log.heading.stream) items) heading.seed
    ∙ ap (λ number. chain_flow written.chain (seeded_words written.seed number log.heading.stream) items) heading.number
    ∙ ap (λ stream. chain_flow written.chain (seeded_words written.seed written.number stream) items) heading.stream
