-- The lines of a log, heard one by one.
use Rattle.std.proofs.Common.{◌≡◌, ℕ, true, false, List, [], ◌∷◌, ◌++◌, Option, Some, None, inl, inr, refl, ap, sym, subst, ◌∙◌, append-nil, arith}
use Rattle.std.proofs.Common.{string_bytes, Result, Ok, Err, IfOk}
use Rattle.std.specs.Prelude.{◌⊎◌, ◌≢◌, IfNone, is_some}
use Rattle.std.specs.Io.KnownBytes.{IsAtEnd, prepend_known}
use Rattle.std.proofs.lemmas.List.Elements.{All-nil}
use Rattle.std.specs.declared.string.String.{String}
use Rattle.std.specs.declared.alloc.Global.{Global}
use Rattle.std.specs.declared.alloc.AllocError.{AllocError}
use Rattle.tox_time.specs.declared.streams.ending.Ending.{Ending}
use Rattle.tox_time.specs.declared.streams.item.Item.{Item}
use Rattle.tox_time.specs.declared.streams.item.Item.TheVariants.{Quiet}
use Rattle.tox_time.specs.declared.streams.position.StreamPosition.{StreamPosition}
use Rattle.tox_time.specs.streams.Stream.{IsStream}
use Rattle.tox_time.specs.streams.StreamPosition.{first_position}
use Rattle.tox_time.specs.streams.Table.{ending, final_of, table}
use Rattle.tox_link.specs.declared.notes.LinkEvent.{LinkEvent}
use Rattle.tox_link.specs.declared.notes.LinkEvent.TheVariants.{Piece, SourceEnd, Wrote}
use Rattle.tox_link.specs.log.Log.{IsGapless, has_source_end, heard, heard_from, said}
use Rattle.tox_link.proofs.Sent.{prepend-append, prepend_more}
use Rattle.tox_log.specs.declared.event_line.LogLine.{LogLine}
use Rattle.tox_log.specs.declared.event_line.LogLine.TheVariants.{Event, SourceReset, Last}
use Rattle.tox_log.specs.declared.last_line.LastLine.{LastLine}
use Rattle.tox_log.specs.declared.open_log.OpenLog.{OpenLog}
use Rattle.tox_log.specs.EventLines.{event_lines, logged_line}
use Rattle.tox_log.specs.HeaderText.{header_text}
use Rattle.tox_log.specs.Lines.{IsWritable, line_words}
use Rattle.tox_log.specs.Numbers.{Lacks}
use Rattle.tox_log.specs.Opening.{Opens}
use Rattle.tox_log.specs.Order.{ComesNext, GoesOnWith, heard_with}
use Rattle.tox_log.specs.Reading.{Hands, LacksLine, is_last, to_hand}
use Rattle.tox_log.proofs.Hearing.{line-next, piece-line, wrote-line}
use Rattle.tox_plan.specs.RunnerView.{RunnerView, no_piece, to_come}
use Rattle.tox_draw.specs.declared.curve.Curve.{Curve}
use Rattle.tox_draw.specs.declared.frame.Frame.{Frame}
use Rattle.tox_draw.specs.declared.link_end.LinkEnd.TheVariants.{Missing}
use Rattle.tox_draw.specs.declared.picture.Picture.{Picture}
use Rattle.tox_draw.specs.declared.recorded.Hearing.{Hearing}
use Rattle.tox_draw.specs.declared.recorded.Record.{Record}
use Rattle.tox_draw.specs.declared.setting.Setting.{Setting}
use Rattle.tox_draw.specs.Drawn.{IsPictureOn}
use Rattle.tox_draw.specs.Frames.{IsFrame}
use Rattle.tox_draw.specs.Hearings.{BeginsHearing, HearsAll, HearsEvent, HearsEvents, HearsLines, HearsLogLine, HearsSoFar, KeepsRecord, LeadsTo, RecordsLog}
use Rattle.tox_draw.specs.LinkEnds.{end_of}
use Rattle.tox_draw.specs.Lines.{IsCurve, IsStrand}
use Rattle.tox_draw.specs.Pictures.{picture_text}
use Rattle.tox_draw.specs.Recorded.{IsPictureOf, LogText, SaysLog, due_items, last_lines, link_end, written_table}
use Rattle.tox_draw.proofs.HeardEvents.{leads-start, leads-stream}
use Rattle.tox_draw.proofs.Planned.{plan-whole}

-- no last line came yet
none_yet : (last : Option LastLine) → is_some last ≡ false → last ≡ None
none_yet None none = refl
none_yet (Some last) none = let other : true ≡ false = none in cc

module _ (frame : Frame) (means : List Item → List Item) where
  -- nothing was read yet
  pub so-far-none : (log : OpenLog) (given : Option (List ℕ)) (hearing : Hearing) (runner : RunnerView) → given ≡ prepend_known [] given → log.over ≡ false
      → HearsLines frame means [] None log.heard hearing runner → HearsSoFar frame means given given log hearing runner
  so-far-none log given hearing runner none going heard = record {
    events = [];
    last = None;
    position = log.heard;
    text = none;
    over = going;
    at = λ _. refl;
    heard = heard;
  }

  -- the line of an event more
  so-far-event : (given before after : Option (List ℕ)) (old new : OpenLog) (hearing next : Hearing) (runner later : RunnerView) (event : LinkEvent)
      (line : LogLine)
      → logged_line next.strands.source_reset event ≡ line → (next.strands.source_reset ≡ hearing.strands.source_reset) ⊎ (old.heard.ended ≡ false)
      → Hands old new before after line → is_last line ≡ false → ComesNext old.heard (Event event) → new.heard ≡ heard_with old.heard (Event event)
      → IsWritable (Event event) → HearsEvent frame hearing runner event next later
      → HearsSoFar frame means given (to_hand old before) old hearing runner → HearsSoFar frame means given (to_hand new after) new next later
  so-far-event given before after old new hearing next runner later event line is kept hands going comes heard writable hears so_far =
      let was = hearing.strands.source_reset in
      let now = next.strands.source_reset in
      let none : so_far.last ≡ None = none_yet so_far.last (sym so_far.over ∙ hands.going) in
      let at : so_far.position ≡ old.heard = so_far.at hands.going in
      let lines : event_lines was so_far.events ++ last_lines so_far.last ≡ event_lines was so_far.events =
      ap (λ last. event_lines was so_far.events ++ last_lines last) none ∙ append-nil (event_lines was so_far.events) in
      let more : (event_lines was so_far.events ++ last_lines so_far.last) ++ (line_words line ++ 10 ∷ [])
      ≡ event_lines now (so_far.events ++ event ∷ []) ++ [] =
      ap (λ line. (event_lines was so_far.events ++ last_lines so_far.last) ++ (line_words line ++ 10 ∷ [])) (sym is)
      ∙ line-next was now (event_lines was so_far.events ++ last_lines so_far.last) so_far.events event (stays-so at kept) lines
      ∙ sym (append-nil (event_lines now (so_far.events ++ event ∷ []))) in record {
        events = so_far.events ++ event ∷ [];
        last = None;
        position = heard_with so_far.position (Event event);
        text = prepend_more (event_lines was so_far.events ++ last_lines so_far.last) (line_words line ++ 10 ∷ []) given (to_hand old before)
            (to_hand new after) so_far.text hands.given
            ∙ ap (λ lines. prepend_known lines (to_hand new after)) more;
        over = hands.over ∙ going;
        at = λ _. ap (λ position. heard_with position (Event event)) at ∙ sym heard;
        heard = hears means so_far.events so_far.position (subst (λ position. ComesNext position (Event event)) (sym at) comes) writable so_far.heard.heard;
      }
    where
      stays-so : so_far.position ≡ old.heard → (next.strands.source_reset ≡ hearing.strands.source_reset) ⊎ (old.heard.ended ≡ false)
          → (next.strands.source_reset ≡ hearing.strands.source_reset) ⊎ (has_source_end so_far.events ≡ false)
      stays-so at (inl same) = inl same
      stays-so at (inr going) = inr (so_far.heard.heard.order.ended ∙ ap (λ position. position.ended) at ∙ going)

  -- a line more
  pub so-far-line : (given before after : Option (List ℕ)) (old new : OpenLog) (hearing next : Hearing) (runner later : RunnerView) (line : LogLine)
      → Hands old new before after line → GoesOnWith old.heard line new.heard → HearsLogLine frame hearing runner line next later
      → HearsSoFar frame means given (to_hand old before) old hearing runner → HearsSoFar frame means given (to_hand new after) new next later
  so-far-line given before after old new hearing next runner later (Event (Piece len t)) hands goes hears so_far =
      so-far-event given before after old new hearing next runner later (Piece len t) (Event (Piece len t)) (piece-line next.strands.source_reset len t)
      (inl hears.1)
      hands refl goes.next goes.heard hands.writable hears.0 so_far
  so-far-line given before after old new hearing next runner later (Event (SourceEnd t)) hands goes hears so_far =
      so-far-event given before after old new hearing next runner later (SourceEnd t) (Event (SourceEnd t))
      (ap (λ reset. logged_line reset (SourceEnd t)) hears.1) (inr goes.next.2)
      hands refl goes.next goes.heard hands.writable hears.0 so_far
  so-far-line given before after old new hearing next runner later (Event (Wrote slice reading)) hands goes hears so_far =
      so-far-event given before after old new hearing next runner later (Wrote slice reading) (Event (Wrote slice reading))
      (wrote-line next.strands.source_reset slice reading) (inl hears.1)
      hands refl goes.next goes.heard hands.writable hears.0 so_far
  so-far-line given before after old new hearing next runner later (SourceReset t) hands goes hears so_far =
      so-far-event given before after old new hearing next runner later (SourceEnd t) (SourceReset t) (ap (λ reset. logged_line reset (SourceEnd t)) hears.1)
      (inr goes.next.2)
      hands refl goes.next goes.heard hands.writable hears.0 so_far
  so-far-line given before after old new hearing next runner later (Last last) hands goes hears so_far =
      let none : so_far.last ≡ None = none_yet so_far.last (sym so_far.over ∙ hands.going) in
      let was = hearing.strands.source_reset in
      let lines : event_lines was so_far.events ++ last_lines so_far.last ≡ event_lines was so_far.events =
      ap (λ last. event_lines was so_far.events ++ last_lines last) none ∙ append-nil (event_lines was so_far.events) in
      let heard = so_far.heard.heard in
      let same_next = hears.0 in
      let same_later = hears.1 in
      let ends : Hearing = record hearing { end = link_end (Some last) hearing.latest } in
      let kept : HearsEvents frame means so_far.events so_far.position ends runner = record {
        order = heard.order;
        waits = heard.waits;
        due = heard.due;
        arrived = heard.arrived;
        source_end = heard.source_end;
        written = heard.written;
        latest = heard.latest;
      } in record {
        events = so_far.events;
        last = Some last;
        position = so_far.position;
        text = prepend_more (event_lines was so_far.events ++ last_lines so_far.last) (line_words (Last last) ++ 10 ∷ []) given (to_hand old before)
            (to_hand new after) so_far.text hands.given
            ∙ ap (λ lines. prepend_known (lines ++ last_lines (Some last)) (to_hand new after)) lines
            ∙ ap (λ next. prepend_known (event_lines next.strands.source_reset so_far.events ++ last_lines (Some last)) (to_hand new after)) (sym same_next);
        over = hands.over;
        at = λ going. let no : true ≡ false = sym hands.over ∙ going in cc;
        heard = record {
          heard = subst (λ next. HearsEvents frame means so_far.events so_far.position next later) (sym same_next)
              (subst (λ later. HearsEvents frame means so_far.events so_far.position ends later) (sym same_later) kept);
          end = ap (λ next. next.end) same_next ∙ ap (link_end (Some last)) heard.latest;
        };
      }

  -- no line is left
  pub all-lines : (given before : Option (List ℕ)) (log : OpenLog) (hearing : Hearing) (runner : RunnerView) → LacksLine before
      → HearsSoFar frame means given before log hearing runner → HearsAll frame means given hearing runner
  all-lines given before log hearing runner lacks so_far = record {
    events = so_far.events;
    last = so_far.last;
    position = so_far.position;
    torn = lacks.torn;
    left = lacks.left;
    text = prepend_more (event_lines hearing.strands.source_reset so_far.events ++ last_lines so_far.last) lacks.torn given before lacks.left so_far.text
        lacks.given;
    unended = lacks.unended;
    ended = lacks.ended;
    heard = so_far.heard;
  }

-- what holds where no line came
pub no-line : (handed : Option LogLine) (bytes : Option (List ℕ)) → ((line : LogLine) → handed ≡ Some line → ⊥) → IfNone handed (LacksLine bytes)
    → LacksLine bytes
no-line None bytes other lacks = lacks
no-line (Some line) bytes other lacks = absurd (other line refl)

-- nothing is left of an empty list
no-front : (lines rest : List ℕ) → lines ++ rest ≡ [] → lines ≡ []
no-front [] rest none = refl
no-front (x ∷ lines) rest none = let no : x ∷ (lines ++ rest) ≡ [] = none in cc

-- lines stand behind the header, and perhaps a part of one behind them
lines-behind : (before handed : Option (List ℕ)) (header torn lines rest : List ℕ) (left : Option (List ℕ)) → before ≡ prepend_known (header ++ torn) handed
    → (torn ≡ []) ⊎ IsAtEnd handed → Lacks 10 torn → handed ≡ prepend_known (lines ++ rest) left → Lacks 10 rest → IsAtEnd left
    → (last : List ℕ) × (end : Option (List ℕ)) × (before ≡ prepend_known (header ++ (lines ++ last)) end) × Lacks 10 last × IsAtEnd end
lines-behind before handed header torn lines rest left given (inl none) whole here last ended = (
  rest,
  left,
  given ∙ ap (λ torn. prepend_known (header ++ torn) handed) none ∙ ap (λ header. prepend_known header handed) (append-nil header)
      ∙ ap (prepend_known header) here ∙ sym (prepend-append header (lines ++ rest) left),
  last,
  ended,
)
lines-behind before None header torn lines rest left given (inr over) whole here last ended = ([], None, given, All-nil (λ other. other ≢ 10), tt)
lines-behind before (Some bytes) header torn lines rest None given (inr over) whole here last ended = let no : Some bytes ≡ None = here in cc
lines-behind before (Some bytes) header torn lines rest (Some left) given (inr over) whole here last ended =
    let all : bytes ≡ (lines ++ rest) ++ left = cc in
    let none : lines ≡ [] = no-front lines rest (no-front (lines ++ rest) left (sym all ∙ over)) in (
      torn,
      Some bytes,
      given ∙ ap (λ lines. prepend_known (header ++ (lines ++ torn)) (Some bytes)) (sym none),
      whole,
      over,
    )

-- the log that was read
pub says-log : (frame : Frame) (means : List Item → List Item) (before after : Option (List ℕ)) (log : OpenLog) (hearing : Hearing) (runner : RunnerView)
    → Opens before after log → (all : HearsAll frame means (to_hand log after) hearing runner)
    → SaysLog before (record { heading = log.heading; chain = log.chain; events = all.events; source_reset = hearing.strands.source_reset; last = all.last })
says-log frame means before after log hearing runner opens all =
    let (last, end, text, unended, ended) = lines-behind before (to_hand log after)
    (header_text (string_bytes log.heading.proxy) log.heading.number log.heading.stream log.heading.seed log.chain opens.names) opens.torn
    (event_lines hearing.strands.source_reset all.events ++ last_lines all.last) all.torn all.left opens.given opens.rest opens.unended all.text all.unended
    all.ended in record {
      names = opens.names;
      torn = last;
      left = end;
      named = opens.named;
      text = text;
      unended = unended;
      ended = ended;
      ordered = leads-stream all.events all.position all.heard.heard.order;
    }

-- what is kept of it
pub records-log : (frame : Frame) (means : List Item → List Item) (log : LogText) (position : StreamPosition) (hearing : Hearing) (runner : RunnerView)
    (last : Ending) (kept : Record)
    → HearsLines frame means log.events log.last position hearing runner → means (heard log.events) ≡ due_items log
    → to_come runner (Quiet ∷ []) ≡ final_of last ∷ []
    → log.source_reset ≡ hearing.strands.source_reset → kept.strands ≡ hearing.strands → kept.due_end ≡ last → kept.written ≡ hearing.written
    → kept.end ≡ hearing.end → RecordsLog frame log kept
records-log frame means log position hearing runner last kept lines meaning only reset strands due_end written end =
    let heard = lines.heard in
    let whole = plan-whole frame means (heard_from 0 log.events) hearing.strands.planned runner (Quiet ∷ []) last (leads-stream log.events position heard.order)
    only heard.due in record {
      arrived = subst (λ strands. IsStrand frame (table (heard_from 0 log.events (Quiet ∷ []))) strands.arrived) (sym strands) heard.arrived;
      source_end = ap (λ strands. strands.source_end) strands ∙ heard.source_end;
      source_reset = ap (λ strands. strands.source_reset) strands ∙ sym reset;
      due = subst (λ strands. IsStrand frame (table (due_items log)) strands.planned) (sym strands)
          (subst (λ items. IsStrand frame (table items) hearing.strands.planned) meaning whole.0);
      due_end = due_end ∙ whole.1 ∙ ap ending meaning;
      written = subst (λ strand. (stop : ℕ) → IsGapless 0 (said log.events) stop → IsStrand frame (written_table log.events) strand) (sym written)
          heard.written;
      end = end ∙ lines.end;
    }

-- nothing was heard yet
pub begins-hearing : (frame : Frame) (means : List Item → List Item) (log : OpenLog) (hearing : Hearing) (runner : RunnerView) → log.over ≡ false
    → log.heard ≡ first_position
    → ((items : List Item) → IsStream items → to_come runner items ≡ means items)
    → runner.idle ≡ true → runner.position ≡ 0 → runner.piece ≡ no_piece → runner.latest ≡ 0
    → IsStrand frame [] hearing.strands.arrived → IsStrand frame [] hearing.strands.planned → IsStrand frame [] hearing.written
    → hearing.strands.source_end ≡ None → hearing.latest ≡ 0 → hearing.end ≡ Missing 0 → BeginsHearing frame means log hearing runner
begins-hearing frame means log hearing runner going start output idle at piece first arrived planned written source_end latest end = (
  going,
  record {
    heard = record {
      order = subst (LeadsTo []) (sym start) leads-start;
      waits = record {
        idle = idle;
        few = omega (arith, ap (λ piece. piece.span.stop) piece);
        stop = λ _. ap (λ piece. piece.span.stop) piece ∙ ap (λ position. position.position) (sym start);
        latest = omega (arith, first);
      };
      due = record {
        due = [];
        drawn = planned;
        counted = sym at;
        tables = λ items stream. ap table (output items stream);
        endings = λ items stream. ap ending (output items stream);
      };
      arrived = arrived;
      source_end = source_end;
      written = λ _ _. written;
      latest = latest;
    };
    end = end;
  },
)

-- the picture of what is kept of a log
pub picture-shown : (result : Result (String Global) AllocError) (setting : Setting) (frame : Frame) (kept : Record) (picture : Picture) (curve : Curve)
    → picture.setting ≡ setting → picture.frame ≡ frame → IsFrame frame
    → ((table : List ℕ) → IsStrand frame table kept.strands.arrived → IsCurve frame table picture.arrived)
    → ((table : List ℕ) → IsStrand frame table kept.strands.planned → IsCurve frame table picture.planned)
    → ((table : List ℕ) → IsStrand frame table kept.written → IsCurve frame table curve) → picture.written ≡ Some curve
    → picture.source_end ≡ kept.strands.source_end → picture.source_reset ≡ kept.strands.source_reset → picture.planned_end ≡ end_of kept.due_end
    → picture.end ≡ kept.end
    → IfOk result (λ text. string_bytes text ≡ picture_text picture)
    → IfOk result (λ text. (given : Option (List ℕ)) → KeepsRecord frame given kept → IsPictureOn frame.time given setting (string_bytes text))
picture-shown (Ok text) setting frame kept picture curve stands same is_frame arrived planned written has source_end source_reset planned_end end is =
    λ (given : Option (List ℕ)) (keeps : KeepsRecord frame given kept).
    let records = keeps.records in
    let shown : IsPictureOf given setting (string_bytes text) = record {
      log = keeps.log;
      says = keeps.says;
      picture = picture;
      stands = stands;
      frame = subst IsFrame (sym same) is_frame;
      shows = record {
        arrived = subst (λ frame. IsCurve frame (table (heard keeps.log.events)) picture.arrived) (sym same)
            (arrived (table (heard keeps.log.events)) records.arrived);
        source_end = source_end ∙ records.source_end;
        source_reset = source_reset ∙ records.source_reset;
        due = subst (λ frame. IsCurve frame (table (due_items keeps.log)) picture.planned) (sym same) (planned (table (due_items keeps.log)) records.due);
        due_end = planned_end ∙ ap end_of records.due_end;
        written = λ stop gapless. (
          curve,
          has,
          subst (λ frame. IsCurve frame (written_table keeps.log.events) curve) (sym same)
              (written (written_table keeps.log.events) (records.written stop gapless)),
        );
        end = end ∙ records.end;
      };
      is = is;
    } in
    record { shown = shown; axis = ap (λ (frame : Frame). frame.time) same }
picture-shown (Err error) setting frame kept picture curve stands same is_frame arrived planned written has source_end source_reset planned_end end is = is
