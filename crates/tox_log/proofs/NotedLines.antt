-- A link's notes and its report are the lines of a log.
use Rattle.std.proofs.Common.{◌≡◌, ℕ, ◌+◌, ◌<◌, ◌≤◌, ◌^◌, ◌⊎◌, inl, inr, Bool, true, false, List, [], ◌∷◌, ◌++◌, length, map, take, drop, refl, ap, sym, subst}
use Rattle.std.proofs.Common.{◌∙◌, add-zero, zero-add, append-nil, arith}
use Rattle.std.specs.Prelude.{All, Contains, Option}
use Rattle.std.proofs.lemmas.List.{take-append-drop, take_all}
use Rattle.std.proofs.lemmas.List.Elements.{All-cons, All-head, All-nil, All-tail, All-contains, Contains-append_cases, Contains-append_left}
use Rattle.std.proofs.lemmas.List.Elements.{Contains-push_cases}
use Rattle.tox_time.specs.declared.streams.ending.Ending.{Ending}
use Rattle.tox_time.specs.declared.streams.ending.Ending.TheVariants.{StillOpen, Closed as ClosedAt, Reset as ResetAt}
use Rattle.tox_time.specs.declared.streams.item.Item.{Item}
use Rattle.tox_time.specs.declared.streams.item.Item.TheVariants.{Quiet}
use Rattle.tox_time.specs.declared.streams.position.StreamPosition.{StreamPosition}
use Rattle.tox_time.specs.declared.streams.slice.Slice.{Slice}
use Rattle.tox_time.specs.streams.Stream.{IsPrefix, IsStream, IsStreamFrom}
use Rattle.tox_time.specs.streams.StreamPosition.{first_position}
use Rattle.tox_time.specs.streams.Table.{ending, slices_table, table}
use Rattle.tox_time.specs.Time.{IsInstant, horizon}
use Rattle.tox_link.specs.declared.notes.LinkEvent.{LinkEvent}
use Rattle.tox_link.specs.declared.notes.LinkEvent.TheVariants.{Piece, SourceEnd, Wrote}
use Rattle.tox_link.specs.declared.ring.message.ReadEnd.{ReadEnd}
use Rattle.tox_link.specs.log.Carried.{IsBy}
use Rattle.tox_link.specs.log.Log.{HasSmallPieces, HearsNothing, IsFaithful, IsGapless, IsHeardInOrder, IsShallowBehind, IsTimely, SaysHeard, heard}
use Rattle.tox_link.specs.log.Log.{heard_bytes, heard_from, heard_lens, reading_of, said}
use Rattle.tox_link.specs.log.Logged.{IsCutOff, IsReached}
use Rattle.tox_link.specs.Reports.{ReportsAt}
use Rattle.tox_link.proofs.Depths.{shallow-front}
use Rattle.tox_link.proofs.Logs.{gapless-bytes, stream-earlier}
use Rattle.tox_log.specs.declared.event_line.LogLine.{LogLine}
use Rattle.tox_log.specs.declared.event_line.LogLine.TheVariants.{Event, SourceReset, Last}
use Rattle.tox_log.specs.declared.last_line.BreakCause.{BreakCause}
use Rattle.tox_log.specs.declared.last_line.LastLine.TheVariants.{Ended, Broken}
use Rattle.tox_log.specs.EventLines.{logged_line}
use Rattle.tox_log.specs.Lines.{IsWritableEnding}
use Rattle.tox_log.specs.LinkLog.{IsReported, events_in}
use Rattle.tox_log.specs.NotedLines.{AreNoted, broken_lines, ended_lines}
use Rattle.tox_log.specs.Order.{heard_with}
use Rattle.tox_log.specs.Reading.{is_last}
use Rattle.tox_log.specs.WrittenLog.{AreInOrder}
use Rattle.tox_link.proofs.Logs.{faithful-front}
use Rattle.tox_log.proofs.Keeping.{events-of, logged-goes}

-- What may still be heard, where the source has ended or not
abbrev HearsOn : Bool → List LinkEvent → Type 0
HearsOn true events = HearsNothing events
HearsOn false events = IsHeardInOrder events

hears-piece : (ended : Bool) (len instant : ℕ) (events : List LinkEvent) → HearsOn ended (Piece len instant ∷ events)
    → (ended ≡ false) × (0 < len) × HearsOn ended events
hears-piece true len instant events order = absurd order
hears-piece false len instant events order = (refl, order.0, order.1)

hears-end : (ended : Bool) (instant : ℕ) (events : List LinkEvent) → HearsOn ended (SourceEnd instant ∷ events) → (ended ≡ false) × HearsNothing events
hears-end true instant events order = absurd order
hears-end false instant events order = (refl, order)

hears-wrote : (ended : Bool) (slice : Slice) (reading : ℕ) (events : List LinkEvent) → HearsOn ended (Wrote slice reading ∷ events) → HearsOn ended events
hears-wrote true slice reading events order = order
hears-wrote false slice reading events order = order

gapless-within : (start stop : ℕ) (slices : List Slice) → IsGapless start slices stop → start ≤ stop
gapless-within start stop [] gapless = omega (arith, gapless)
gapless-within start stop (slice ∷ slices) gapless = let rest = gapless-within slice.span.stop stop slices gapless.2 in omega (arith, gapless.1, rest)

writable-ending : (reading : ℕ) (last : Ending) → IsInstant reading → IsReached reading last → IsWritableEnding last
writable-ending reading StillOpen bound reached = tt
writable-ending reading (ClosedAt t) bound reached = omega (arith, bound, reached)
writable-ending reading (ResetAt t) bound reached = omega (arith, bound, reached)

-- Readings that are instants
module _ (reported : ℕ → Type 0) (instants : (t : ℕ) → reported t → IsInstant t) where
  by-horizon : (since : ℕ) (events : List LinkEvent) → IsTimely reported since events → IsBy horizon events
  by-horizon since [] timely = tt
  by-horizon since (event ∷ events) timely = (instants (reading_of event) timely.0, by-horizon (reading_of event) events timely.3)

  -- each event may come next, and so may the lines behind them
  in-order : (most stop : ℕ) (tail : List LogLine) → ((heard : StreamPosition) → heard.latest ≤ most → AreInOrder heard tail) → stop ≤ 2 ^ 40
      → (heard : StreamPosition) (start : ℕ) (events : List LinkEvent) → IsTimely reported heard.latest events → HasSmallPieces events
      → HearsOn heard.ended events → heard.position + heard_bytes events ≤ 2 ^ 40
      → IsGapless start (said events) stop → IsBy most events → heard.latest ≤ most → AreInOrder heard (map Event events ++ tail)
  in-order most stop tail behind few heard start [] timely small order fits gapless by late = behind heard late
  in-order most stop tail behind few heard start (Piece len t ∷ events) timely small order fits gapless by late =
      let on = hears-piece heard.ended len t events order in
      let bound = instants t timely.0 in (
        (bound, All-head (λ len. len ≤ 16_384) len (heard_lens events) small),
        (timely.1, bound, on.1, omega (arith, fits), on.0),
        (λ last. cc),
        in-order most stop tail behind few (heard_with heard (Event (Piece len t))) start events timely.3
            (All-tail (λ len. len ≤ 16_384) len (heard_lens events) small) on.2 (omega (arith, fits)) gapless by.1 by.0,
      )
  in-order most stop tail behind few heard start (SourceEnd t ∷ events) timely small order fits gapless by late =
      let on = hears-end heard.ended t events order in
      let bound = instants t timely.0 in (
        bound,
        (timely.1, bound, on.0),
        (λ last. cc),
        in-order most stop tail behind few (heard_with heard (Event (SourceEnd t))) start events timely.3 small on.1 fits gapless by.1 by.0,
      )
  in-order most stop tail behind few heard start (Wrote slice t ∷ events) timely small order fits gapless by late =
      let bound = instants t timely.0 in
      let within = gapless-within slice.span.stop stop (said events) gapless.2 in (
        (bound, (omega (arith, gapless.0, gapless.1, within, few), omega (arith, within, few)), omega (arith, timely.2, bound)),
        timely.1,
        (λ last. cc),
        in-order most stop tail behind few (heard_with heard (Event (Wrote slice t))) slice.span.stop events timely.3 small
            (hears-wrote heard.ended slice t events order) fits gapless.2 by.1 by.0,
      )

  -- what is heard of them is a stream
  heard-stream : (now start since : ℕ) (events : List LinkEvent) (rest : List Item) → since ≤ now → IsTimely reported since events → IsHeardInOrder events
      → IsBy now events → IsStreamFrom (start + heard_bytes events) now rest
      → IsStreamFrom start since (heard_from start events rest)
  heard-stream now start since [] rest before timely order by stream = stream-earlier start since now rest before
      (subst (λ at. IsStreamFrom at now rest) (add-zero start) stream)
  heard-stream now start since (Piece len t ∷ events) rest before timely order by stream =
      let at : start + (len + heard_bytes events) ≡ (start + len) + heard_bytes events = omega arith in (
        refl,
        omega (arith, order.0),
        timely.1,
        instants t timely.0,
        heard-stream now (start + len) t events rest by.0 timely.3 order.1 by.1
            (subst (λ at. IsStreamFrom at now rest) at stream),
      )
  heard-stream now start since (SourceEnd t ∷ events) rest before timely order by stream = (timely.1, instants t timely.0, refl)
  heard-stream now start since (Wrote slice t ∷ events) rest before timely order by stream =
      stream-earlier start since t (heard_from start events rest) timely.1 (heard-stream now start t events rest by.0 timely.3 order by.1 stream)

  -- Another function that does the same with a stream
  module _ (means other : List Item → List Item) (same : (items : List Item) → IsStream items → other items ≡ means items) where
    heard-same : (events : List LinkEvent) → IsFaithful means reported events → other (heard events) ≡ means (heard events)
    heard-same events faithful = same (heard events) (heard-stream horizon 0 0 events (Quiet ∷ []) (omega arith) faithful.timely faithful.ordered
        (by-horizon 0 events faithful.timely) refl)

    timely-any : (since : ℕ) (events : List LinkEvent) → IsTimely reported since events → IsTimely (λ t. true ≡ true) since events
    timely-any since [] timely = tt
    timely-any since (event ∷ events) timely = (refl, timely.1, timely.2, timely-any (reading_of event) events timely.3)

    faithful-other : (events : List LinkEvent) → IsFaithful means reported events → IsFaithful other (λ t. true ≡ true) events
    faithful-other events faithful = record {
      agrees = λ n.
          let front = faithful-front means reported (take n events) (drop n events)
          (subst (IsFaithful means reported) (sym (take-append-drop n events)) faithful) in
          record {
            gapless = (faithful.agrees n).gapless;
            prefix = subst (λ items. IsPrefix (slices_table (said (take n events))) (table items)) (sym (heard-same (take n events) front))
                (faithful.agrees n).prefix;
          };
      timely = timely-any 0 events faithful.timely;
      ordered = faithful.ordered;
    }

    reports-other : (events : List LinkEvent) (taken written reading : ℕ) (last : Ending) (source : Option ReadEnd)
        → ReportsAt means reported events taken written last source reading
        → ReportsAt other (λ t. true ≡ true) events taken written last source reading
    reports-other events taken written reading last source report =
        let here = heard-same events report.faithful in
        let on = λ (rest : List Item) (stream : IsStreamFrom (heard_bytes events) reading rest).
        same (heard_from 0 events rest) (heard-stream reading 0 0 events rest (omega arith) report.faithful.timely report.faithful.ordered report.by
        (subst (λ at. IsStreamFrom at reading rest) (sym (zero-add (heard_bytes events))) stream)) in
        record {
          faithful = faithful-other events report.faithful;
          whole = report.whole ∙ ap table (sym here);
          ends = ap ending here ∙ report.ends;
          took = report.took;
          wrote = report.wrote;
          says = refl;
          by = report.by;
          reached = report.reached;
          settled = λ rest stream.
              let settled = report.settled rest stream in
              record {
                tables = ap table (on rest stream) ∙ settled.tables ∙ ap table (sym here);
                endings = ap ending (on rest stream) ∙ settled.endings ∙ ap ending (sym here);
              };
          hears = report.hears;
        }

-- The lines of events, where a source's end may be reported as a reset

order-logged : (reset : Bool) (heard : StreamPosition) (events : List LinkEvent) (tail : List LogLine) → AreInOrder heard (map Event events ++ tail)
    → AreInOrder heard (map (logged_line reset) events ++ tail)
order-logged reset heard [] tail order = order
order-logged false heard (event ∷ events) tail order = (order.0, order.1, (λ last. cc), order-logged false (heard_with heard (Event event)) events tail order.3)
order-logged true heard (Piece len t ∷ events) tail order = (
  order.0,
  order.1,
  (λ last. cc),
  order-logged true (heard_with heard (Event (Piece len t))) events tail order.3,
)
order-logged true heard (SourceEnd t ∷ events) tail order = (
  order.0,
  order.1,
  (λ last. cc),
  order-logged true (heard_with heard (SourceReset t)) events tail order.3,
)
order-logged true heard (Wrote slice t ∷ events) tail order = (
  order.0,
  order.1,
  (λ last. cc),
  order-logged true (heard_with heard (Event (Wrote slice t))) events tail order.3,
)

-- no event's line is a last line
all-events : (reset : Bool) (events : List LinkEvent) → (line : LogLine) → Contains (map (logged_line reset) events) line → is_last line ≡ false
all-events reset events line = All-contains (λ line. is_last line ≡ false) (map (logged_line reset) events) line (each events)
  where
    each : (events : List LinkEvent) → All (λ line. is_last line ≡ false) (map (logged_line reset) events)
    each [] = All-nil (λ line. is_last line ≡ false)
    each (event ∷ events) = All-cons (λ line. is_last line ≡ false) (logged_line reset event) (map (logged_line reset) events) (logged-goes reset event)
        (each events)

events-behind : (reset : Bool) (events : List LinkEvent) (tail : List LogLine) → events_in tail ≡ []
    → events_in (map (logged_line reset) events ++ tail) ≡ events
events-behind reset events tail none = events-of reset events tail ∙ ap (λ rest. events ++ rest) none ∙ append-nil events

said-stop : (means : List Item → List Item) (reported : ℕ → Type 0) (events : List LinkEvent) → IsFaithful means reported events → SaysHeard events
    → (stop : ℕ) × IsGapless 0 (said events) stop × (stop ≤ 2 ^ 40)
said-stop means reported events faithful of_heard =
    let all : take (length events) events ≡ events = take_all (length events) events (omega arith) in
    let gapless = subst (λ events. (stop : ℕ) × IsGapless 0 (said events) stop) all (faithful.agrees (length events)).gapless in
    let long = gapless-bytes 0 (said events) gapless.0 gapless.1 in
    (gapless.0, gapless.1, omega (arith, long, of_heard.heard, of_heard.few))

-- the lines of a link that ended
pub noted-ended : (reported : ℕ → Type 0) → ((t : ℕ) → reported t → IsInstant t)
    → (means : List Item → List Item) (reset : Bool) (events : List LinkEvent) (taken written reading : ℕ) (last : Ending) (source : Option ReadEnd)
    → ReportsAt means reported events taken written last source reading → SaysHeard events → AreNoted means (ended_lines reset events reading last)
noted-ended reported instants means reset events taken written reading last source report of_heard =
    let bound = instants reading report.says in
    let (stop, gapless, few) = said-stop means reported events report.faithful of_heard in
    let line : LogLine = Last (Ended reading last) in
    record {
      in_order = order-logged reset first_position events (line ∷ [])
          (in-order reported instants reading stop (line ∷ []) (λ heard late.
          ((bound, writable-ending reading last bound report.reached), late, (λ over. refl), tt)) few first_position 0 events report.faithful.timely
          of_heard.small report.faithful.ordered
          (omega (arith, of_heard.few)) gapless report.by (omega arith));
      linked = λ other same.
          let here : events_in (map (logged_line reset) events ++ line ∷ []) ≡ events = events-behind reset events (line ∷ []) refl in
          let ending_is : IsReported other (λ reading. true) events reading last
          = record {
            taken = taken;
            written = written;
            source = source;
            report =
                reports-other reported instants means other same events taken written reading last source report;
          } in
          record {
            faithful = subst (IsFaithful other (λ t. true ≡ true)) (sym here) (faithful-other reported instants means other same events report.faithful);
            reported = λ at end has. subst (λ events. IsReported other (λ reading. true) events at end) (sym here)
                (is-last (IsReported other (λ reading. true) events) at end ending_is
                (Contains-push_cases (map (logged_line reset) events) line (Last (Ended at end)) has));
          };
      shallow = subst (IsShallowBehind []) (sym (events-behind reset events (line ∷ []) refl)) of_heard.shallow;
    }
  where
    is-last : (P : ℕ → Ending → Type 0) (at : ℕ) (end : Ending) → P reading last
        → Contains (map (logged_line reset) events) (Last (Ended at end)) ⊎ (Last (Ended reading last) ≡ Last (Ended at end)) → P at end
    is-last P at end here (inl among) = let event = all-events reset events (Last (Ended at end)) among in cc
    is-last P at end here (inr same) =
        let at_is : reading ≡ at = cc in
        let end_is : last ≡ end = cc in
        subst (λ at. P at end) at_is (subst (P reading) end_is here)

-- the lines of a link that broke off
pub noted-broken : (reported : ℕ → Type 0) → ((t : ℕ) → reported t → IsInstant t)
    → (means : List Item → List Item) (reset : Bool) (events : List LinkEvent) (written : ℕ) (cause : BreakCause) → IsCutOff means reported written events
    → AreNoted means (broken_lines reset events cause written)
noted-broken reported instants means reset events written cause cut =
    let (stop, gapless, few) = said-stop means reported events cut.faithful cut.of_heard in
    let line : LogLine = Last (Broken cause written) in
    record {
      in_order = order-logged reset first_position events (line ∷ [])
          (in-order reported instants horizon stop (line ∷ []) (λ heard late. (omega (arith, cut.within, cut.of_heard.few), tt, (λ over. refl), tt)) few
          first_position 0 events cut.faithful.timely cut.of_heard.small cut.faithful.ordered
          (omega (arith, cut.of_heard.few)) gapless (by-horizon reported instants 0 events cut.faithful.timely) (omega arith));
      linked = λ other same.
          let here : events_in (map (logged_line reset) events ++ line ∷ []) ≡ events = events-behind reset events (line ∷ []) refl in
          record {
            faithful = subst (IsFaithful other (λ t. true ≡ true)) (sym here) (faithful-other reported instants means other same events cut.faithful);
            reported = λ at end has. absurd (no-last at end (Contains-push_cases (map (logged_line reset) events) line (Last (Ended at end)) has));
          };
      shallow = subst (IsShallowBehind []) (sym (events-behind reset events (line ∷ []) refl)) cut.of_heard.shallow;
    }
  where
    no-last : (at : ℕ) (end : Ending) → Contains (map (logged_line reset) events) (Last (Ended at end)) ⊎ (Last (Broken cause written) ≡ Last (Ended at end))
        → ⊥
    no-last at end (inl among) = let event = all-events reset events (Last (Ended at end)) among in cc
    no-last at end (inr same) = cc

-- The front of a log

front-nil : (front back : List LogLine) → front ++ back ≡ [] → (front ≡ []) × (back ≡ [])
front-nil [] back none = (refl, none)
front-nil (line ∷ front) back none = absurd (cc)

order-front : (heard : StreamPosition) (front back : List LogLine) → AreInOrder heard (front ++ back) → AreInOrder heard front
order-front heard [] back order = tt
order-front heard (line ∷ front) back order = (
  order.0,
  order.1,
  (λ last. (front-nil front back (order.2 last)).0),
  order-front (heard_with heard line) front back order.3,
)

-- nothing stands behind a last line
last-behind : (heard : StreamPosition) (front back : List LogLine) (line : LogLine) → AreInOrder heard (front ++ back) → Contains front line
    → is_last line ≡ true → back ≡ []
last-behind heard [] back line order has last = absurd (let less = has.1 in omega (arith, less))
last-behind heard (first ∷ front) back line order has last = by (λ among. last-behind (heard_with heard first) front back line order.3 among last)
    (Contains-append_cases (first ∷ []) front line has)
  where
    here : Contains [] line ⊎ (first ≡ line) → back ≡ []
    here (inl none) = absurd (let less = none.1 in omega (arith, less))
    here (inr same) = (front-nil front back (order.2 (ap is_last same ∙ last))).1

    by : (Contains front line → back ≡ []) → Contains (first ∷ []) line ⊎ Contains front line → back ≡ []
    by later (inl one) = here (Contains-push_cases [] first line one)
    by later (inr among) = later among

events-front : (front back : List LogLine) → events_in (front ++ back) ≡ events_in front ++ events_in back
events-front [] back = refl
events-front (Event event ∷ front) back = ap (λ rest. event ∷ rest) (events-front front back)
events-front (SourceReset instant ∷ front) back = ap (λ rest. SourceEnd instant ∷ rest) (events-front front back)
events-front (Last last ∷ front) back = events-front front back

pub noted-front : (means : List Item → List Item) (front back : List LogLine) → AreNoted means (front ++ back) → AreNoted means front
noted-front means front back noted = record {
  in_order = order-front first_position front back noted.in_order;
  linked = λ other same.
      let kept = noted.linked other same in
      record {
        faithful = faithful-front other (λ t. true ≡ true) (events_in front) (events_in back)
            (subst (IsFaithful other (λ t. true ≡ true)) (events-front front back) kept.faithful);
        reported = λ at end has.
            let none : back ≡ [] = last-behind first_position front back (Last (Ended at end)) noted.in_order has refl in
            let here : events_in (front ++ back) ≡ events_in front = ap (λ back. events_in (front ++ back)) none ∙ ap events_in (append-nil front) in
            subst (λ events. IsReported other (λ reading. true) events at end) here
            (kept.reported at end (Contains-append_left front back (Last (Ended at end)) has));
      };
  shallow = shallow-front [] (events_in front) (events_in back) (subst (IsShallowBehind []) (events-front front back) noted.shallow);
}
