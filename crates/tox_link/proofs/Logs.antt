-- A log that grows by one event.
use Rattle.std.proofs.Common.{◌≡◌, ℕ, ◌+◌, ◌<◌, ◌≤◌, ◌⊎◌, inl, inr, Bool, true, false, List, [], ◌∷◌, ◌++◌, length, take, Option, Some, None, replicate, refl}
use Rattle.std.proofs.Common.{drop, sym, subst, append_assoc, ap, ◌∙◌, take-append-drop}
use Rattle.std.proofs.Common.{ap, sym, ◌∙◌, subst, append_assoc, append-nil, add_assoc, add-zero, length-append, arith}
use Rattle.std.specs.Prelude.{◌||◌}
use Rattle.std.proofs.lemmas.List.{take-append-le, take_all, length-replicate}
use Rattle.std.proofs.lemmas.Bool.{cases_lt}
use Rattle.std.proofs.Math.Seq.{take-append_seam}
use Rattle.tox_time.specs.declared.streams.slice.Slice.{Slice}
use Rattle.tox_time.specs.declared.streams.item.Item.{Item}
use Rattle.tox_time.specs.declared.streams.item.Item.TheVariants.{Chunk, Closed, Reset, Quiet}
use Rattle.tox_time.specs.streams.Stream.{IsStreamFrom, span_len}
use Rattle.tox_time.specs.streams.Table.{slices_table}
use Rattle.tox_link.specs.declared.notes.LinkEvent.{LinkEvent}
use Rattle.tox_link.specs.declared.notes.LinkEvent.TheVariants.{Piece, SourceEnd, Wrote}
use Rattle.tox_link.specs.log.Events.{with_events}
use Rattle.tox_link.specs.log.Log.{heard_from, said, heard_bytes, has_source_end, reading_of, IsDue, IsTimely, IsGapless, IsFaithful, HearsNothing}
use Rattle.tox_link.specs.log.Log.{IsHeardInOrder, Agrees}
use Rattle.tox_link.specs.log.Carried.{IsBy}

-- a stream from an instant is one from an earlier instant
pub stream-earlier : (position earlier since : ℕ) (items : List Item) → earlier ≤ since → IsStreamFrom position since items
    → IsStreamFrom position earlier items
stream-earlier position earlier since [] before stream = absurd stream
stream-earlier position earlier since (Chunk span t ∷ items) before stream = (stream.0, stream.1, omega (arith, before, stream.2), stream.3, stream.4)
stream-earlier position earlier since (Closed t ∷ items) before stream = (omega (arith, before, stream.0), stream.1, stream.2)
stream-earlier position earlier since (Reset t ∷ items) before stream = (omega (arith, before, stream.0), stream.1, stream.2)
stream-earlier position earlier since (Quiet ∷ items) before stream = stream

-- what an event adds to what was heard
pub heard-piece : (start : ℕ) (log : List LinkEvent) (len instant : ℕ) (rest : List Item)
    → heard_from start (log ++ Piece len instant ∷ []) rest ≡ heard_from start log
    (Chunk (record { start = start + heard_bytes log; stop = start + heard_bytes log + len }) instant ∷ rest)
heard-piece start [] len instant rest = rw (add-zero start) refl
heard-piece start (Piece n t ∷ log) len instant rest =
    ap (λ items. Chunk (record { start = start; stop = start + n }) t ∷ items)
    (rw (sym (add_assoc start n (heard_bytes log))) (heard-piece (start + n) log len instant rest))
heard-piece start (SourceEnd t ∷ log) len instant rest = refl
heard-piece start (Wrote slice now ∷ log) len instant rest = heard-piece start log len instant rest

pub heard-end : (start : ℕ) (log : List LinkEvent) (instant : ℕ) (rest : List Item)
    → heard_from start (log ++ SourceEnd instant ∷ []) rest ≡ heard_from start log (Closed instant ∷ [])
heard-end start [] instant rest = refl
heard-end start (Piece n t ∷ log) instant rest = ap (λ items. Chunk (record { start = start; stop = start + n }) t ∷ items)
    (heard-end (start + n) log instant rest)
heard-end start (SourceEnd t ∷ log) instant rest = refl
heard-end start (Wrote slice now ∷ log) instant rest = heard-end start log instant rest

pub heard-wrote : (start : ℕ) (log : List LinkEvent) (slice : Slice) (now : ℕ) (rest : List Item)
    → heard_from start (log ++ Wrote slice now ∷ []) rest ≡ heard_from start log rest
heard-wrote start [] slice now rest = refl
heard-wrote start (Piece n t ∷ log) slice now rest = ap (λ items. Chunk (record { start = start; stop = start + n }) t ∷ items)
    (heard-wrote (start + n) log slice now rest)
heard-wrote start (SourceEnd t ∷ log) slice now rest = refl
heard-wrote start (Wrote other then ∷ log) slice now rest = heard-wrote start log slice now rest

pub said-append : (log more : List LinkEvent) → said (log ++ more) ≡ said log ++ said more
said-append [] more = refl
said-append (Piece n t ∷ log) more = said-append log more
said-append (SourceEnd t ∷ log) more = said-append log more
said-append (Wrote slice now ∷ log) more = ap (λ slices. slice ∷ slices) (said-append log more)

pub heard_bytes-append : (log more : List LinkEvent) → heard_bytes (log ++ more) ≡ heard_bytes log + heard_bytes more
heard_bytes-append [] more = omega arith
heard_bytes-append (Piece n t ∷ log) more = let rest = heard_bytes-append log more in omega (arith, rest)
heard_bytes-append (SourceEnd t ∷ log) more = heard_bytes-append log more
heard_bytes-append (Wrote slice now ∷ log) more = heard_bytes-append log more

pub gapless-append : (start : ℕ) (slices : List Slice) (stop : ℕ) (slice : Slice) → IsGapless start slices stop → slice.span.start ≡ stop
    → slice.span.start < slice.span.stop
    → IsGapless start (slices ++ slice ∷ []) slice.span.stop
gapless-append start [] stop slice gapless at some = (at ∙ sym gapless, omega (arith, gapless, at, some), refl)
gapless-append start (first ∷ slices) stop slice gapless at some = (gapless.0, gapless.1, gapless-append first.span.stop slices stop slice gapless.2 at some)

pub by-later : (latest later : ℕ) (log : List LinkEvent) → latest ≤ later → IsBy latest log → IsBy later log
by-later latest later [] below is = tt
by-later latest later (event ∷ log) below is = (omega (arith, below, is.0), by-later latest later log below is.1)

pub by-append : (latest : ℕ) (log : List LinkEvent) (event : LinkEvent) → IsBy latest log → reading_of event ≤ latest → IsBy latest (log ++ event ∷ [])
by-append latest [] event is last = (last, tt)
by-append latest (first ∷ log) event is last = (is.0, by-append latest log event is.1 last)

timely-append : (reported : ℕ → Type 0) (since : ℕ) (log : List LinkEvent) (event : LinkEvent) → IsTimely reported since log → IsBy (reading_of event) log
    → since ≤ reading_of event → reported (reading_of event) → IsDue event
    → IsTimely reported since (log ++ event ∷ [])
timely-append reported since [] event timely by later says due = (says, later, due, tt)
timely-append reported since (first ∷ log) event timely by later says due =
    (timely.0, timely.1, timely.2, timely-append reported (reading_of first) log event timely.3 by.1 by.0 says due)

prefixes : (means : List Item → List Item) (log : List LinkEvent) (event : LinkEvent) → ((n : ℕ) → Agrees means (take n log)) → Agrees means (log ++ event ∷ [])
    → (n : ℕ) → (length log < n) ⊎ (n ≤ length log)
    → Agrees means (take n (log ++ event ∷ []))
prefixes means log event before now n (inr within) = subst (Agrees means) (sym (take-append-le n log (event ∷ []) within)) (before n)
prefixes means log event before now n (inl past) = subst (Agrees means)
    (sym (take_all n (log ++ event ∷ []) (let more = length-append log (event ∷ []) in omega (arith, more, past)))) now

pub has_source_end-append : (log more : List LinkEvent) → has_source_end (log ++ more) ≡ (has_source_end log || has_source_end more)
has_source_end-append [] more = refl
has_source_end-append (Piece len instant ∷ log) more = has_source_end-append log more
has_source_end-append (SourceEnd instant ∷ log) more = refl
has_source_end-append (Wrote slice now ∷ log) more = has_source_end-append log more

pub or-false : (b c : Bool) → c ≡ false → (b || c) ≡ b
or-false true c none = refl
or-false false c none = none

-- events without the source's end
pub end-same : (log more : List LinkEvent) → has_source_end more ≡ false → has_source_end (log ++ more) ≡ has_source_end log
end-same log more none = has_source_end-append log more ∙ or-false (has_source_end log) (has_source_end more) none

-- a log with the source's end is that of a core that has taken it
pub open-log : (has ended : Bool) → (has ≡ true → ended ≡ true) → ended ≡ false → has ≡ false
open-log true ended closed going = let is = closed refl in cc
open-log false ended closed going = refl

-- what an event adds to what was heard in order
pub ordered-piece : (log : List LinkEvent) (len instant : ℕ) → IsHeardInOrder log → has_source_end log ≡ false → 0 < len
    → IsHeardInOrder (log ++ Piece len instant ∷ [])
ordered-piece [] len instant ordered none some = (some, tt)
ordered-piece (Piece n t ∷ log) len instant ordered none some = (ordered.0, ordered-piece log len instant ordered.1 none some)
ordered-piece (SourceEnd t ∷ log) len instant ordered none some = absurd (cc)
ordered-piece (Wrote slice now ∷ log) len instant ordered none some = ordered-piece log len instant ordered none some

pub ordered-end : (log : List LinkEvent) (instant : ℕ) → IsHeardInOrder log → has_source_end log ≡ false → IsHeardInOrder (log ++ SourceEnd instant ∷ [])
ordered-end [] instant ordered none = tt
ordered-end (Piece n t ∷ log) instant ordered none = (ordered.0, ordered-end log instant ordered.1 none)
ordered-end (SourceEnd t ∷ log) instant ordered none = absurd (cc)
ordered-end (Wrote slice now ∷ log) instant ordered none = ordered-end log instant ordered none

nothing-wrote : (log : List LinkEvent) (slice : Slice) (now : ℕ) → HearsNothing log → HearsNothing (log ++ Wrote slice now ∷ [])
nothing-wrote [] slice now nothing = tt
nothing-wrote (Piece n t ∷ log) slice now nothing = absurd nothing
nothing-wrote (SourceEnd t ∷ log) slice now nothing = absurd nothing
nothing-wrote (Wrote other then ∷ log) slice now nothing = nothing-wrote log slice now nothing

pub ordered-wrote : (log : List LinkEvent) (slice : Slice) (now : ℕ) → IsHeardInOrder log → IsHeardInOrder (log ++ Wrote slice now ∷ [])
ordered-wrote [] slice now ordered = tt
ordered-wrote (Piece n t ∷ log) slice now ordered = (ordered.0, ordered-wrote log slice now ordered.1)
ordered-wrote (SourceEnd t ∷ log) slice now ordered = nothing-wrote log slice now ordered
ordered-wrote (Wrote other then ∷ log) slice now ordered = ordered-wrote log slice now ordered

-- a faithful log stays so with an event after which it agrees
pub faithful-append : (means : List Item → List Item) (reported : ℕ → Type 0) (log : List LinkEvent) (event : LinkEvent) → IsFaithful means reported log
    → IsBy (reading_of event) log → reported (reading_of event) → IsDue event
    → IsHeardInOrder (log ++ event ∷ []) → Agrees means (log ++ event ∷ []) → IsFaithful means reported (log ++ event ∷ [])
faithful-append means reported log event faithful by says due ordered now = record {
  agrees = λ n. prefixes means log event faithful.agrees now n (cases_lt (length log) n);
  timely = timely-append reported 0 log event faithful.timely by (omega arith) says due;
  ordered = ordered;
}

timely-front : (reported : ℕ → Type 0) (since : ℕ) (front back : List LinkEvent) → IsTimely reported since (front ++ back) → IsTimely reported since front
timely-front reported since [] back timely = tt
timely-front reported since (event ∷ front) back timely = (timely.0, timely.1, timely.2, timely-front reported (reading_of event) front back timely.3)

nothing-front : (front back : List LinkEvent) → HearsNothing (front ++ back) → HearsNothing front
nothing-front [] back none = tt
nothing-front (Piece len instant ∷ front) back none = none
nothing-front (SourceEnd instant ∷ front) back none = none
nothing-front (Wrote slice reading ∷ front) back none = nothing-front front back none

ordered-front : (front back : List LinkEvent) → IsHeardInOrder (front ++ back) → IsHeardInOrder front
ordered-front [] back ordered = tt
ordered-front (Piece len instant ∷ front) back ordered = (ordered.0, ordered-front front back ordered.1)
ordered-front (SourceEnd instant ∷ front) back ordered = nothing-front front back ordered
ordered-front (Wrote slice reading ∷ front) back ordered = ordered-front front back ordered

-- the front of a faithful log is faithful
pub faithful-front : (means : List Item → List Item) (reported : ℕ → Type 0) (front back : List LinkEvent) → IsFaithful means reported (front ++ back)
    → IsFaithful means reported front
faithful-front means reported front back faithful = record {
  agrees = λ n.
      let whole : front ++ back ≡ take n front ++ (drop n front ++ back) = ap (λ events. events ++ back) (sym (take-append-drop n front))
      ∙ append_assoc (take n front) (drop n front) back in
      subst (Agrees means) (ap (take (length (take n front))) whole ∙ take-append_seam (take n front) (drop n front ++ back))
      (faithful.agrees (length (take n front)));
  timely = timely-front reported 0 front back faithful.timely;
  ordered = ordered-front front back faithful.ordered;
}

pub events-none : (events : Option (List LinkEvent)) → events ≡ with_events events []
events-none None = refl
events-none (Some log) = ap Some (sym (append-nil log))

pub events-append : (base old new : Option (List LinkEvent)) (log more : List LinkEvent) → old ≡ with_events base log → new ≡ with_events old more
    → new ≡ with_events base (log ++ more)
events-append None old new log more first second = second ∙ ap (λ events. with_events events more) first
events-append (Some before) old new log more first second = second ∙ ap (λ events. with_events events more) first ∙ ap Some (append_assoc before log more)

-- slices without gaps have as many bytes as they span
pub gapless-bytes : (start : ℕ) (slices : List Slice) (stop : ℕ) → IsGapless start slices stop → start + length (slices_table slices) ≡ stop
gapless-bytes start [] stop gapless = omega (arith, gapless)
gapless-bytes start (slice ∷ slices) stop gapless =
    let rest = gapless-bytes slice.span.stop slices stop gapless.2 in
    let both = length-append (replicate (span_len slice.span) slice.instant) (slices_table slices) in
    let part = length-replicate (span_len slice.span) slice.instant in
    omega (arith, rest, both, part, gapless.0, gapless.1)
