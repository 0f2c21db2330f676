-- An event more of a log is heard.
use Rattle.std.proofs.Common.{◌≡◌, ℕ, ◌+◌, ◌-◌, ◌<◌, ◌≤◌, Bool, true, false, List, [], ◌∷◌, ◌++◌, fold, length, replicate, Some, refl, ap, sym, subst, ◌∙◌}
use Rattle.std.proofs.Common.{append_assoc, append-nil, length-append, arith}
use Rattle.std.specs.Prelude.{◌||◌}
use Rattle.std.proofs.lemmas.List.{length-replicate}
use Rattle.tox_time.specs.declared.streams.item.Item.{Item}
use Rattle.tox_time.specs.declared.streams.item.Item.TheVariants.{Chunk, Closed, Quiet}
use Rattle.tox_time.specs.declared.streams.position.StreamPosition.{StreamPosition}
use Rattle.tox_time.specs.declared.streams.slice.Slice.{Slice}
use Rattle.tox_time.specs.streams.Stream.{IsStream, IsStreamFrom, span_len}
use Rattle.tox_time.specs.streams.StreamPosition.{first_position}
use Rattle.tox_time.specs.streams.Table.{slices_table, table}
use Rattle.tox_link.specs.declared.notes.LinkEvent.{LinkEvent}
use Rattle.tox_link.specs.declared.notes.LinkEvent.TheVariants.{Piece, SourceEnd, Wrote}
use Rattle.tox_link.specs.log.Log.{IsGapless, has_source_end, heard, heard_bytes, heard_from, reading_of, said}
use Rattle.tox_link.proofs.Logs.{end-same, gapless-bytes, has_source_end-append, heard-end, heard-piece, heard-wrote, heard_bytes-append, said-append}
use Rattle.tox_link.proofs.Logs.{stream-earlier}
use Rattle.tox_log.specs.declared.event_line.LogLine.TheVariants.{Event}
use Rattle.tox_log.specs.Order.{ComesNext, heard_with}
use Rattle.tox_plan.specs.RunnerView.{RunnerView}
use Rattle.tox_draw.specs.declared.frame.Frame.{Frame}
use Rattle.tox_draw.specs.declared.link_end.LinkEnd.TheVariants.{Missing}
use Rattle.tox_draw.specs.declared.recorded.Hearing.{Hearing}
use Rattle.tox_draw.specs.declared.strand.Strand.{Strand}
use Rattle.tox_draw.specs.Hearings.{HearsEvent, LeadsTo}
use Rattle.tox_draw.specs.Lines.{IsStrand, PassesBytes}
use Rattle.tox_draw.specs.Planning.{DrawsPiece, DrawsPlan, DrawsSourceEnd, piece_behind}
use Rattle.tox_draw.specs.Recorded.{latest_reading, written_table}
use Rattle.tox_log.proofs.Hearing.{source-ends, source-same}
use Rattle.tox_draw.proofs.Planned.{plan-behind}

-- an event behind others
fold-last : (before : ℕ) (events : List LinkEvent) (event : LinkEvent) → fold (λ before event. reading_of event) before (events ++ event ∷ [])
    ≡ reading_of event
fold-last before [] event = refl
fold-last before (first ∷ events) event = fold-last (reading_of first) events event

pub latest-more : (events : List LinkEvent) (event : LinkEvent) → latest_reading (events ++ event ∷ []) ≡ reading_of event
latest-more events event = fold-last 0 events event

written-append : (events more : List LinkEvent) → written_table (events ++ more) ≡ written_table events ++ written_table more
written-append [] more = refl
written-append (Piece len t ∷ events) more = written-append events more
written-append (SourceEnd t ∷ events) more = written-append events more
written-append (Wrote slice now ∷ events) more =
    ap (λ ts. replicate (span_len slice.span) now ++ ts) (written-append events more)
    ∙ sym (append_assoc (replicate (span_len slice.span) now) (written_table events) (written_table more))

pub written-same : (events : List LinkEvent) (event : LinkEvent) → written_table (event ∷ []) ≡ [] → written_table (events ++ event ∷ []) ≡ written_table events
written-same events event none = written-append events (event ∷ []) ∙ ap (λ ts. written_table events ++ ts) none ∙ append-nil (written_table events)

pub written-more : (events : List LinkEvent) (slice : Slice) (now : ℕ) → written_table (events ++ Wrote slice now ∷ [])
    ≡ written_table events ++ replicate (span_len slice.span) now
written-more events slice now = written-append events (Wrote slice now ∷ [])
    ∙ ap (λ ts. written_table events ++ ts) (append-nil (replicate (span_len slice.span) now))

-- what was written has as many bytes as its slices
written-length : (events : List LinkEvent) → length (written_table events) ≡ length (slices_table (said events))
written-length [] = refl
written-length (Piece len t ∷ events) = written-length events
written-length (SourceEnd t ∷ events) = written-length events
written-length (Wrote slice now ∷ events) =
    let rest = written-length events in
    let a = length-append (replicate (span_len slice.span) now) (written_table events) in
    let b = length-append (replicate (span_len slice.span) slice.instant) (slices_table (said events)) in
    omega (arith, rest, a, b, length-replicate (span_len slice.span) now, length-replicate (span_len slice.span) slice.instant)

-- the items behind what was heard add their bytes, unless the source has ended
table-behind : (start : ℕ) (events : List LinkEvent) (items : List Item) → has_source_end events ≡ false
    → table (heard_from start events items) ≡ table (heard_from start events []) ++ table items
table-behind start [] items going = refl
table-behind start (Piece len t ∷ events) items going =
    let span = start + len - start in
    ap (λ ts. replicate span t ++ ts) (table-behind (start + len) events items going)
    ∙ sym (append_assoc (replicate span t) (table (heard_from (start + len) events [])) (table items))
table-behind start (SourceEnd t ∷ events) items going = let no : true ≡ false = going in cc
table-behind start (Wrote slice now ∷ events) items going = table-behind start events items going

-- how many bytes were heard
heard-length : (start : ℕ) (events : List LinkEvent) → has_source_end events ≡ false
    → length (table (heard_from start events (Quiet ∷ []))) ≡ heard_bytes events
heard-length start [] going = refl
heard-length start (Piece len t ∷ events) going =
    let rest = heard-length (start + len) events going in
    let both = length-append (replicate (start + len - start) t) (table (heard_from (start + len) events (Quiet ∷ []))) in
    omega (arith, rest, both, length-replicate (start + len - start) t)
heard-length start (SourceEnd t ∷ events) going = let no : true ≡ false = going in cc
heard-length start (Wrote slice now ∷ events) going = heard-length start events going

-- no slice is in an event that isn't a write
said-same : (events : List LinkEvent) (event : LinkEvent) → said (event ∷ []) ≡ [] → said (events ++ event ∷ []) ≡ said events
said-same events event none = said-append events (event ∷ []) ∙ ap (λ slices. said events ++ slices) none ∙ append-nil (said events)

gapless-front : (start : ℕ) (slices : List Slice) (slice : Slice) (stop : ℕ) → IsGapless start (slices ++ slice ∷ []) stop
    → IsGapless start slices slice.span.start × (slice.span.start < slice.span.stop) × (slice.span.stop ≡ stop)
gapless-front start [] slice stop gapless = (sym gapless.0, omega (arith, gapless.0, gapless.1), gapless.2)
gapless-front start (first ∷ slices) slice stop gapless =
    let rest = gapless-front first.span.stop slices slice stop gapless.2 in ((gapless.0, gapless.1, rest.0), rest.1, rest.2)

-- nothing was heard yet
pub leads-start : LeadsTo [] first_position
leads-start = record { bytes = refl; ended = refl; going = λ _ items stream. stream; over = λ no. cc }

-- a stream goes on from what was heard
pub leads-stream : (events : List LinkEvent) (position : StreamPosition) → LeadsTo events position → IsStream (heard events)
leads-stream events position leads = by position.ended refl
  where
    by : (ended : Bool) → position.ended ≡ ended → IsStream (heard events)
    by true is = leads.over is
    by false is = leads.going is (Quiet ∷ []) refl

leads-piece : (events : List LinkEvent) (position : StreamPosition) (len t : ℕ) → ComesNext position (Event (Piece len t)) → LeadsTo events position
    → LeadsTo (events ++ Piece len t ∷ []) (heard_with position (Event (Piece len t)))
leads-piece events position len t next leads = record {
  bytes = omega (arith, heard_bytes-append events (Piece len t ∷ []), leads.bytes);
  ended = end-same events (Piece len t ∷ []) refl ∙ leads.ended;
  going = λ going items stream. subst IsStream (sym (heard-piece 0 events len t items))
      (leads.going going (Chunk (record { start = 0 + heard_bytes events; stop = 0 + heard_bytes events + len }) t ∷ items)
      (omega (arith, leads.bytes), omega (arith, next.2), next.0, next.1, subst (λ at. IsStreamFrom at t items) (omega (arith, leads.bytes)) stream));
  over = λ over. let no : true ≡ false = sym over ∙ next.4 in cc;
}

leads-end : (events : List LinkEvent) (position : StreamPosition) (t : ℕ) → ComesNext position (Event (SourceEnd t)) → LeadsTo events position
    → LeadsTo (events ++ SourceEnd t ∷ []) (heard_with position (Event (SourceEnd t)))
leads-end events position t next leads = record {
  bytes = omega (arith, heard_bytes-append events (SourceEnd t ∷ []), leads.bytes);
  ended = has_source_end-append events (SourceEnd t ∷ []) ∙ ap (λ ended. ended || true) (leads.ended ∙ next.2);
  going = λ going. let no : true ≡ false = going in cc;
  over = λ over. subst IsStream (sym (heard-end 0 events t (Quiet ∷ []))) (leads.going next.2 (Closed t ∷ []) (next.0, next.1, refl));
}

leads-wrote : (events : List LinkEvent) (position : StreamPosition) (slice : Slice) (now : ℕ) → ComesNext position (Event (Wrote slice now))
    → LeadsTo events position
    → LeadsTo (events ++ Wrote slice now ∷ []) (heard_with position (Event (Wrote slice now)))
leads-wrote events position slice now next leads = record {
  bytes = omega (arith, heard_bytes-append events (Wrote slice now ∷ []), leads.bytes);
  ended = end-same events (Wrote slice now ∷ []) refl ∙ leads.ended;
  going = λ going items stream. subst IsStream (sym (heard-wrote 0 events slice now items))
      (leads.going going items (stream-earlier position.position position.latest now items next stream));
  over = λ over. subst IsStream (sym (heard-wrote 0 events slice now (Quiet ∷ []))) (leads.over over);
}

-- what was written stays
written-stays : (frame : Frame) (events : List LinkEvent) (event : LinkEvent) (written : Strand) → said (event ∷ []) ≡ [] → written_table (event ∷ []) ≡ []
    → ((stop : ℕ) → IsGapless 0 (said events) stop → IsStrand frame (written_table events) written)
    → (stop : ℕ) → IsGapless 0 (said (events ++ event ∷ [])) stop → IsStrand frame (written_table (events ++ event ∷ [])) written
written-stays frame events event written unsaid none before stop gapless =
    subst (λ ts. IsStrand frame ts written) (sym (written-same events event none))
    (before stop (subst (λ slices. IsGapless 0 slices stop) (said-same events event unsaid) gapless))

-- a piece is heard
pub hears-piece : (frame : Frame) (old new : Hearing) (before after : RunnerView) (len t : ℕ)
    → PassesBytes frame len t old.strands.arrived new.strands.arrived
    → DrawsPiece frame old.strands.planned before len t new.strands.planned after → new.strands.source_end ≡ old.strands.source_end → new.written ≡ old.written
    → new.latest ≡ t → new.end ≡ Missing t → HearsEvent frame old before (Piece len t) new after
hears-piece frame old new before after len t adds draws source written latest end means events position next writable heard =
    let drawn = draws means (heard_from 0 events) position next heard.waits heard.due in
    let going : has_source_end events ≡ false = heard.order.ended ∙ next.4 in
    let at : 0 + heard_bytes events ≡ position.position = omega (arith, heard.order.bytes) in
    let behind : (items : List Item) → heard_from 0 (events ++ Piece len t ∷ []) items ≡ heard_from 0 events (piece_behind position len t ∷ items) =
    λ (items : List Item). heard-piece 0 events len t items ∙ ap (λ start. heard_from 0 events (Chunk (record { start = start; stop = start + len }) t ∷ items))
    at in
    let span : position.position + len - position.position ≡ len = omega arith in
    let grown : table (heard_from 0 (events ++ Piece len t ∷ []) (Quiet ∷ [])) ≡ table (heard_from 0 events (Quiet ∷ [])) ++ replicate len t =
    ap table (behind (Quiet ∷ [])) ∙ table-behind 0 events (piece_behind position len t ∷ Quiet ∷ []) going
    ∙ ap (λ ts. table (heard_from 0 events []) ++ ts) (append-nil (replicate (position.position + len - position.position) t) ∙ ap (λ n. replicate n t) span)
    ∙ ap (λ ts. ts ++ replicate len t) (sym (table-behind 0 events (Quiet ∷ []) going ∙ append-nil (table (heard_from 0 events [])))) in
    let few : length (table (heard_from 0 events (Quiet ∷ []))) + len ≤ 1099511627776 = omega (arith, heard-length 0 events going, heard.order.bytes, next.3) in
    record {
      heard = record {
        order = leads-piece events position len t next heard.order;
        waits = drawn.0;
        due = plan-behind frame means (λ items. heard_from 0 events (piece_behind position len t ∷ items)) (heard_from 0 (events ++ Piece len t ∷ []))
            new.strands.planned after behind drawn.1;
        arrived = subst (λ ts. IsStrand frame ts new.strands.arrived) (sym grown) (adds (table (heard_from 0 events (Quiet ∷ []))) heard.arrived next.2 few);
        source_end = source ∙ heard.source_end ∙ sym (source-same events (Piece len t) refl);
        written = subst (λ strand. (stop : ℕ) → IsGapless 0 (said (events ++ Piece len t ∷ [])) stop
            → IsStrand frame (written_table (events ++ Piece len t ∷ [])) strand) (sym written)
            (written-stays frame events (Piece len t) old.written refl refl heard.written);
        latest = latest ∙ sym (latest-more events (Piece len t));
      };
      end = end ∙ ap Missing (sym (latest-more events (Piece len t)));
    }

-- the source's end is heard
pub hears-source_end : (frame : Frame) (old new : Hearing) (before after : RunnerView) (t : ℕ) → new.strands.arrived ≡ old.strands.arrived
    → new.strands.planned ≡ old.strands.planned
    → DrawsSourceEnd frame old.strands.planned before t after → new.strands.source_end ≡ Some t → new.written ≡ old.written
    → new.latest ≡ t → new.end ≡ Missing t → HearsEvent frame old before (SourceEnd t) new after
hears-source_end frame old new before after t arrived planned draws source written latest end means events position next writable heard =
    let drawn = draws means (heard_from 0 events) position next heard.waits heard.due in
    let going : has_source_end events ≡ false = heard.order.ended ∙ next.2 in
    let same : table (heard_from 0 (events ++ SourceEnd t ∷ []) (Quiet ∷ [])) ≡ table (heard_from 0 events (Quiet ∷ [])) =
    ap table (heard-end 0 events t (Quiet ∷ [])) ∙ table-behind 0 events (Closed t ∷ []) going ∙ sym (table-behind 0 events (Quiet ∷ []) going) in record {
      heard = record {
        order = leads-end events position t next heard.order;
        waits = drawn.0;
        due = plan-behind frame means (λ items. heard_from 0 events (Closed t ∷ [])) (heard_from 0 (events ++ SourceEnd t ∷ [])) new.strands.planned after
            (heard-end 0 events t)
            (subst (λ strand. DrawsPlan frame means (λ items. heard_from 0 events (Closed t ∷ [])) strand after) (sym planned) drawn.1);
        arrived = subst (λ ts. IsStrand frame ts new.strands.arrived) (sym same)
            (subst (IsStrand frame (table (heard_from 0 events (Quiet ∷ [])))) (sym arrived) heard.arrived);
        source_end = source ∙ sym (source-ends events t going);
        written = subst (λ strand. (stop : ℕ) → IsGapless 0 (said (events ++ SourceEnd t ∷ [])) stop
            → IsStrand frame (written_table (events ++ SourceEnd t ∷ [])) strand) (sym written)
            (written-stays frame events (SourceEnd t) old.written refl refl heard.written);
        latest = latest ∙ sym (latest-more events (SourceEnd t));
      };
      end = end ∙ ap Missing (sym (latest-more events (SourceEnd t)));
    }

-- a write is heard
pub hears-wrote : (frame : Frame) (old new : Hearing) (runner : RunnerView) (slice : Slice) (now len : ℕ) → new.strands ≡ old.strands
    → len ≡ slice.span.stop - slice.span.start
    → PassesBytes frame len now old.written new.written
    → new.latest ≡ now → new.end ≡ Missing now → HearsEvent frame old runner (Wrote slice now) new runner
hears-wrote frame old new runner slice now len strands is adds latest end means events position next writable heard =
    let unchanged : table (heard_from 0 (events ++ Wrote slice now ∷ []) (Quiet ∷ [])) ≡ table (heard_from 0 events (Quiet ∷ [])) =
    ap table (heard-wrote 0 events slice now (Quiet ∷ [])) in
    let waits = heard.waits in record {
      heard = record {
        order = leads-wrote events position slice now next heard.order;
        waits = record { idle = waits.idle; few = waits.few; stop = waits.stop; latest = omega (arith, waits.latest, next) };
        due = plan-behind frame means (heard_from 0 events) (heard_from 0 (events ++ Wrote slice now ∷ [])) new.strands.planned runner
            (heard-wrote 0 events slice now)
            (subst (λ strands. DrawsPlan frame means (heard_from 0 events) strands.planned runner) (sym strands) heard.due);
        arrived = subst (λ ts. IsStrand frame ts new.strands.arrived) (sym unchanged)
            (subst (λ strands. IsStrand frame (table (heard_from 0 events (Quiet ∷ []))) strands.arrived) (sym strands) heard.arrived);
        source_end = ap (λ strands. strands.source_end) strands ∙ heard.source_end ∙ sym (source-same events (Wrote slice now) refl);
        written = λ stop gapless.
            let front = gapless-front 0 (said events) slice stop (subst (λ slices. IsGapless 0 slices stop) (said-append events (Wrote slice now ∷ [])) gapless)
            in
            let long = gapless-bytes 0 (said events) slice.span.start front.0 in
            let few : length (written_table events) + len ≤ 1099511627776 = omega (arith, long, written-length events, front.1, is, writable.1.1) in
            subst (λ ts. IsStrand frame ts new.written) (ap (λ n. written_table events ++ replicate n now) is ∙ sym (written-more events slice now))
            (adds (written_table events) (heard.written slice.span.start front.0) (omega (arith, front.1, is)) few);
        latest = latest ∙ sym (latest-more events (Wrote slice now));
      };
      end = end ∙ ap Missing (sym (latest-more events (Wrote slice now)));
    }
