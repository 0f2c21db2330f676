-- The steps of a judge.
use Rattle.std.proofs.Common.{◌≡◌, ℕ, ◌+◌, ◌-◌, ◌<◌, ◌≤◌, Bool, true, false, List, [], ◌∷◌, ◌++◌, replicate, Some, None, refl, ap, sym, ◌∙◌, subst}
use Rattle.std.proofs.Common.{append_assoc, append-nil, zero-add, arith}
use Rattle.std.specs.Prelude.{nat_lt, if◌then◌else◌, IfSome, IsSome, Option, is_some}
use Rattle.std.proofs.lemmas.Bool.Decides.{nat_tests}
use Rattle.std.proofs.lemmas.List.{replicate-append-replicate}
use Rattle.tox_time.specs.declared.streams.slice.Slice.{Slice}
use Rattle.tox_time.specs.declared.streams.item.Item.{Item}
use Rattle.tox_time.specs.declared.streams.item.Item.TheVariants.{Chunk, Closed, Quiet}
use Rattle.tox_time.specs.declared.streams.ending.Ending.{Ending}
use Rattle.tox_time.specs.declared.streams.ending.Ending.TheVariants.{Closed as ClosedAt}
use Rattle.tox_time.specs.streams.Stream.{IsStream, IsStreamFrom, span_len}
use Rattle.tox_time.specs.streams.Table.{table, slices_table, ending, final_of}
use Rattle.tox_time.specs.Time.{IsInstant}
use Rattle.tox_plan.proofs.Deliveries.{slices_table-append}
use Rattle.tox_plan.proofs.Endings.{final-ending, final-table}
use Rattle.tox_link.specs.declared.link_core.act.Act.{Act}
use Rattle.tox_link.specs.declared.link_core.act.Act.TheVariants.{Write, WaitUntil, WaitForInput, End}
use Rattle.tox_link.specs.declared.notes.LinkEvent.{LinkEvent}
use Rattle.tox_link.specs.declared.notes.LinkEvent.TheVariants.{Piece, SourceEnd, Wrote}
use Rattle.tox_link.specs.link_core.Core.{CoreView, LeavesOutput, core_ending, core_position, kept_count, kept_lens, kept_start, next_instant, remaining_output}
use Rattle.tox_link.specs.link_core.Acts.{After, Answered, IsSliceAct}
use Rattle.tox_link.specs.log.Log.{heard_from, heard, heard_bytes, has_source_end, said, Agrees, IsGapless}
use Rattle.tox_link.specs.log.Carried.{KeepsLast}
use Rattle.tox_link.specs.log.Logged.{IsReached}
use Rattle.tox_link.specs.Reports.{ReportsAt, HeardSo}
use Rattle.tox_link.proofs.Logs.{stream-earlier, heard-piece, heard-end, heard-wrote, said-append, heard_bytes-append, gapless-append, gapless-bytes, by-later}
use Rattle.tox_link.proofs.Logs.{by-append, faithful-append, ordered-piece, ordered-end, ordered-wrote, end-same}
use Rattle.tox_link.proofs.Depths.{keeps-after, keeps-none, keeps-piece}
use Rattle.tox_link.proofs.Looks.{gives-none}
use Rattle.tox_link.proofs.StepLemmas.{faithful-nil}
use Rattle.tox_log.specs.declared.judge.Judge.{Judge}
use Rattle.tox_log.specs.Judging.{AddsUp, FollowsWith, IsRest, KeepsUp, Judged, Stays, part_from, rest_table, slice_in, source_heard}

-- where there is nothing
pub not-some : {A : Type 0} (option : Option A) → is_some option ≡ false → option ≡ None
not-some None none = refl
not-some (Some value) none = absurd (cc)

-- what stands now agrees with the plan
agrees-now : (means : List Item → List Item) (core : CoreView) (given : List ℕ) (heard_to latest start : ℕ) (log : List LinkEvent)
    → ((items : List Item) → IsStreamFrom heard_to latest items → table (means (heard_from 0 log items))
    ≡ slices_table (said log) ++ (given ++ table (remaining_output core items)))
    → IsGapless 0 (said log) start → Agrees means log
agrees-now means core given heard_to latest start log tables gapless = record {
  gapless = (start, gapless);
  prefix = (given ++ table (remaining_output core (Quiet ∷ [])), sym (tables (Quiet ∷ []) refl));
}

-- nothing was heard yet
pub follows-start : (means : List Item → List Item) (reported : ℕ → Bool) (core : CoreView) → (kept_lens core ≡ []) × (kept_start core ≡ 0)
    → ((items : List Item) → IsStream items → remaining_output core items ≡ means items)
    → AddsUp means reported core [] 0 0 false 0 []
follows-start means reported core none output = record {
  tables = λ items stream. ap table (sym (output items stream));
  endings = λ items stream. ap ending (sym (output items stream));
  faithful = faithful-nil means (λ t. reported t ≡ true);
  by = tt;
  gapless = refl;
  bytes = refl;
  closed = refl;
  kept = λ _ _. keeps-none core none;
}

module _ (means : List Item → List Item) (reported : ℕ → Bool) (core : CoreView) (heard_to latest : ℕ) (ended : Bool) (start : ℕ) (log : List LinkEvent) where
  -- the clock goes on
  pub follows-later : (given : List ℕ) (later : ℕ) → latest ≤ later → AddsUp means reported core given heard_to latest ended start log
      → AddsUp means reported core given heard_to later ended start log
  follows-later given later goes_on follows = record {
    tables = λ items stream. follows.tables items (stream-earlier heard_to latest later items goes_on stream);
    endings = λ items stream. follows.endings items (stream-earlier heard_to latest later items goes_on stream);
    faithful = follows.faithful;
    by = by-later latest later log goes_on follows.by;
    gapless = follows.gapless;
    bytes = follows.bytes;
    closed = follows.closed;
    kept = follows.kept;
  }

  -- a step of the core that keeps the last pieces still
  abbrev KeepsOn : CoreView → Type 0
  KeepsOn new = (ended ≡ false → core_ending core ≡ None → KeepsLast core log) → ended ≡ false → core_ending new ≡ None → KeepsLast new log

  leaves-follows : (new : CoreView) (front : List ℕ) → KeepsOn new → LeavesOutput core new latest
      → AddsUp means reported core front heard_to latest ended start log → AddsUp means reported new (front ++ []) heard_to latest ended start log
  leaves-follows new front keeps leaves follows = record {
    tables = λ items stream. follows.tables items stream
        ∙ ap (λ ts. slices_table (said log) ++ (front ++ ts)) (sym (leaves.output heard_to latest items (omega arith) stream).tables)
        ∙ ap (λ ts. slices_table (said log) ++ (ts ++ table (remaining_output new items))) (sym (append-nil front));
    endings = λ items stream. follows.endings items stream ∙ sym (leaves.output heard_to latest items (omega arith) stream).endings;
    faithful = follows.faithful;
    by = follows.by;
    gapless = follows.gapless;
    bytes = follows.bytes;
    closed = follows.closed;
    kept = keeps follows.kept;
  }

  -- the core is asked at the last reading
  pub asked-follows : (new : CoreView) (front : List ℕ) (act : Act) → ((ended ≡ false → core_ending core ≡ None → KeepsLast core log) → ended ≡ false
      → core_ending new ≡ None → KeepsLast new log) → After core latest act new → AddsUp means reported core front heard_to latest ended start log
      → AddsUp means reported new (front ++ rest_table (slice_in act)) heard_to latest ended start log
  asked-follows new front (Write slice) keeps (due, takes) follows = record {
    tables = λ items stream. follows.tables items stream
        ∙ ap (λ ts. slices_table (said log) ++ (front ++ ts)) (takes.tables items)
        ∙ ap (λ ts. slices_table (said log) ++ ts) (sym (append_assoc front (replicate (span_len slice.span) slice.instant)
        (table (remaining_output new items))));
    endings = λ items stream. follows.endings items stream ∙ takes.endings items;
    faithful = follows.faithful;
    by = follows.by;
    gapless = follows.gapless;
    bytes = follows.bytes;
    closed = follows.closed;
    kept = keeps follows.kept;
  }
  asked-follows new front (WaitUntil t) keeps (before, leaves) follows = leaves-follows new front keeps leaves follows
  asked-follows new front WaitForInput keeps leaves follows = leaves-follows new front keeps leaves follows
  asked-follows new front (End last) keeps leaves follows = leaves-follows new front keeps leaves follows

  -- a piece is heard
  module _ (new : CoreView) (given : List ℕ) (len instant : ℕ) (later : latest ≤ instant) (fits : IsInstant instant) (says : reported instant ≡ true)
      (some : 0 < len) (going : ended ≡ false)
      (keeps : (ended ≡ false → core_ending core ≡ None → KeepsLast core log) → ended ≡ false → core_ending new ≡ None
      → KeepsLast new (log ++ Piece len instant ∷ []))
      (tables : (items : List Item) → table (remaining_output new items)
      ≡ table (remaining_output core (Chunk (record { start = heard_to; stop = heard_to + len }) instant ∷ items)))
      (endings : (items : List Item) → ending (remaining_output new items)
      ≡ ending (remaining_output core (Chunk (record { start = heard_to; stop = heard_to + len }) instant ∷ items)))
      (follows : AddsUp means reported core given heard_to latest ended start log) where
    piece : Item
    piece = Chunk (record { start = heard_to; stop = heard_to + len }) instant

    said_is : said (log ++ Piece len instant ∷ []) ≡ said log
    said_is = said-append log (Piece len instant ∷ []) ∙ append-nil (said log)

    heard_is : (items : List Item) → heard_from 0 (log ++ Piece len instant ∷ []) items
        ≡ heard_from 0 log (Chunk (record { start = heard_to; stop = heard_to + len }) instant ∷ items)
    heard_is items = heard-piece 0 log len instant items ∙ ap (λ at. heard_from 0 log (Chunk (record { start = at; stop = at + len }) instant ∷ items))
        (zero-add (heard_bytes log) ∙ follows.bytes)

    goes_on : (items : List Item) → IsStreamFrom (heard_to + len) instant items
        → IsStreamFrom heard_to latest (Chunk (record { start = heard_to; stop = heard_to + len }) instant ∷ items)
    goes_on items stream = (refl, omega (arith, some), later, fits, stream)

    new_tables : (items : List Item) → IsStreamFrom (heard_to + len) instant items
        → table (means (heard_from 0 (log ++ Piece len instant ∷ []) items))
        ≡ slices_table (said (log ++ Piece len instant ∷ [])) ++ (given ++ table (remaining_output new items))
    new_tables items stream =
        ap (λ items. table (means items)) (heard_is items) ∙ follows.tables (Chunk (record { start = heard_to; stop = heard_to + len }) instant ∷ items)
        (goes_on items stream)
        ∙ ap (λ ts. slices_table (said log) ++ (given ++ ts)) (sym (tables items))
        ∙ ap (λ slices. slices_table slices ++ (given ++ table (remaining_output new items))) (sym said_is)

    new_gapless : IsGapless 0 (said (log ++ Piece len instant ∷ [])) start
    new_gapless = subst (λ slices. IsGapless 0 slices start) (sym said_is) follows.gapless

    pub piece-follows : AddsUp means reported new given (heard_to + len) instant ended start (log ++ Piece len instant ∷ [])
    piece-follows = record {
      tables = new_tables;
      endings = λ items stream. ap (λ items. ending (means items)) (heard_is items)
          ∙ follows.endings (Chunk (record { start = heard_to; stop = heard_to + len }) instant ∷ items) (goes_on items stream) ∙ sym (endings items);
      faithful = faithful-append means (λ t. reported t ≡ true) log (Piece len instant) follows.faithful (by-later latest instant log later follows.by) says tt
          (ordered-piece log len instant follows.faithful.ordered (follows.closed ∙ going) some)
          (agrees-now means new given (heard_to + len) instant start _ new_tables new_gapless);
      by = by-append instant log (Piece len instant) (by-later latest instant log later follows.by) (omega arith);
      gapless = new_gapless;
      bytes = let more = heard_bytes-append log (Piece len instant ∷ []) in omega (arith, more, follows.bytes);
      closed = end-same log (Piece len instant ∷ []) refl ∙ follows.closed;
      kept = keeps follows.kept;
    }

  -- the source's end is heard
  module _ (new : CoreView) (given : List ℕ) (instant : ℕ) (later : latest ≤ instant) (fits : IsInstant instant) (says : reported instant ≡ true)
      (going : ended ≡ false)
      (output : (items : List Item) → remaining_output new items ≡ remaining_output core (Closed instant ∷ []))
      (follows : AddsUp means reported core given heard_to latest ended start log) where
    said_end : said (log ++ SourceEnd instant ∷ []) ≡ said log
    said_end = said-append log (SourceEnd instant ∷ []) ∙ append-nil (said log)

    end_goes_on : IsStreamFrom heard_to latest (Closed instant ∷ [])
    end_goes_on = (later, fits, refl)

    end_tables : (items : List Item) → IsStreamFrom heard_to instant items
        → table (means (heard_from 0 (log ++ SourceEnd instant ∷ []) items))
        ≡ slices_table (said (log ++ SourceEnd instant ∷ [])) ++ (given ++ table (remaining_output new items))
    end_tables items stream =
        ap (λ items. table (means items)) (heard-end 0 log instant items) ∙ follows.tables (Closed instant ∷ []) end_goes_on
        ∙ ap (λ items. slices_table (said log) ++ (given ++ table items)) (sym (output items))
        ∙ ap (λ slices. slices_table slices ++ (given ++ table (remaining_output new items))) (sym said_end)

    end_gapless : IsGapless 0 (said (log ++ SourceEnd instant ∷ [])) start
    end_gapless = subst (λ slices. IsGapless 0 slices start) (sym said_end) follows.gapless

    end_closed : (log : List LinkEvent) → has_source_end (log ++ SourceEnd instant ∷ []) ≡ true
    end_closed [] = refl
    end_closed (Piece n t ∷ log) = end_closed log
    end_closed (SourceEnd t ∷ log) = refl
    end_closed (Wrote slice now ∷ log) = end_closed log

    pub end-follows : AddsUp means reported new given heard_to instant true start (log ++ SourceEnd instant ∷ [])
    end-follows = record {
      tables = end_tables;
      endings = λ items stream. ap (λ items. ending (means items)) (heard-end 0 log instant items) ∙ follows.endings (Closed instant ∷ []) end_goes_on
          ∙ ap ending (sym (output items));
      faithful = faithful-append means (λ t. reported t ≡ true) log (SourceEnd instant) follows.faithful (by-later latest instant log later follows.by) says tt
          (ordered-end log instant follows.faithful.ordered (follows.closed ∙ going))
          (agrees-now means new given heard_to instant start _ end_tables end_gapless);
      by = by-append instant log (SourceEnd instant) (by-later latest instant log later follows.by) (omega arith);
      gapless = end_gapless;
      bytes = let more = heard_bytes-append log (SourceEnd instant ∷ []) in omega (arith, more, follows.bytes);
      closed = end_closed log;
      kept = λ open_yet. absurd (cc);
    }

  -- a slice was said to its end
  module _ (rest : List ℕ) (slice : Slice) (says : reported latest ≡ true) (due : slice.instant ≤ latest) (starts : slice.span.start ≡ start)
      (some : slice.span.start < slice.span.stop)
      (follows : AddsUp means reported core (replicate (span_len slice.span) slice.instant ++ rest) heard_to latest ended start log) where
    said_wrote : said (log ++ Wrote slice latest ∷ []) ≡ said log ++ slice ∷ []
    said_wrote = said-append log (Wrote slice latest ∷ [])

    wrote_tables : (items : List Item) → IsStreamFrom heard_to latest items
        → table (means (heard_from 0 (log ++ Wrote slice latest ∷ []) items))
        ≡ slices_table (said (log ++ Wrote slice latest ∷ [])) ++ (rest ++ table (remaining_output core items))
    wrote_tables items stream =
        ap (λ items. table (means items)) (heard-wrote 0 log slice latest items) ∙ follows.tables items stream
        ∙ ap (λ ts. slices_table (said log) ++ ts) (append_assoc (replicate (span_len slice.span) slice.instant) rest (table (remaining_output core items)))
        ∙ sym (append_assoc (slices_table (said log)) (replicate (span_len slice.span) slice.instant) (rest ++ table (remaining_output core items)))
        ∙ ap (λ ts. (slices_table (said log) ++ ts) ++ (rest ++ table (remaining_output core items)))
        (sym (append-nil (replicate (span_len slice.span) slice.instant)))
        ∙ ap (λ ts. ts ++ (rest ++ table (remaining_output core items))) (sym (slices_table-append (said log) (slice ∷ [])))
        ∙ ap (λ slices. slices_table slices ++ (rest ++ table (remaining_output core items))) (sym said_wrote)

    wrote_gapless : IsGapless 0 (said (log ++ Wrote slice latest ∷ [])) slice.span.stop
    wrote_gapless = subst (λ slices. IsGapless 0 slices slice.span.stop) (sym said_wrote) (gapless-append 0 (said log) start slice follows.gapless starts some)

    pub wrote-follows : AddsUp means reported core rest heard_to latest ended slice.span.stop (log ++ Wrote slice latest ∷ [])
    wrote-follows = record {
      tables = wrote_tables;
      endings = λ items stream. ap (λ items. ending (means items)) (heard-wrote 0 log slice latest items) ∙ follows.endings items stream;
      faithful = faithful-append means (λ t. reported t ≡ true) log (Wrote slice latest) follows.faithful follows.by says due
          (ordered-wrote log slice latest follows.faithful.ordered) (agrees-now means core rest heard_to latest slice.span.stop _ wrote_tables wrote_gapless);
      by = by-append latest log (Wrote slice latest) follows.by (omega arith);
      gapless = wrote_gapless;
      bytes = let more = heard_bytes-append log (Wrote slice latest ∷ []) in omega (arith, more, follows.bytes);
      closed = end-same log (Wrote slice latest ∷ []) refl ∙ follows.closed;
      kept = λ open_yet unknown. keeps-after core core log (Wrote slice latest ∷ []) refl (gives-none core) (follows.kept open_yet unknown);
    }

-- how what was heard ends
heard-closed : (start : ℕ) (log : List LinkEvent) (rest : List Item) → has_source_end log ≡ true → (t : ℕ) × (ending (heard_from start log rest) ≡ ClosedAt t)
heard-closed start [] rest has = absurd (cc)
heard-closed start (Piece len instant ∷ log) rest has = heard-closed (start + len) log rest has
heard-closed start (SourceEnd instant ∷ log) rest has = (instant, refl)
heard-closed start (Wrote slice now ∷ log) rest has = heard-closed start log rest has

heard-going : (start : ℕ) (log : List LinkEvent) (rest : List Item) → has_source_end log ≡ false → ending (heard_from start log rest) ≡ ending rest
heard-going start [] rest has = refl
heard-going start (Piece len instant ∷ log) rest has = heard-going (start + len) log rest has
heard-going start (SourceEnd instant ∷ log) rest has = absurd (cc)
heard-going start (Wrote slice now ∷ log) rest has = heard-going start log rest has

heard-so : (log : List LinkEvent) (ended : Bool) → has_source_end log ≡ ended → HeardSo (source_heard ended) (ending (heard log))
heard-so log true has = heard-closed 0 log (Quiet ∷ []) has
heard-so log false has = heard-going 0 log (Quiet ∷ []) has

-- a skipped piece changes nothing where only an ending is left
pub only-table : (core : CoreView) (last : Ending) → ((items : List Item) → remaining_output core items ≡ final_of last ∷ []) → (a b : List Item)
    → table (remaining_output core a) ≡ table (remaining_output core b)
only-table core last only a b = ap table (only a ∙ sym (only b))

pub only-ending : (core : CoreView) (last : Ending) → ((items : List Item) → remaining_output core items ≡ final_of last ∷ []) → (a b : List Item)
    → ending (remaining_output core a) ≡ ending (remaining_output core b)
only-ending core last only a b = ap ending (only a ∙ sym (only b))

-- a log whose plan has only an ending left to say
pub follows-reports : (means : List Item → List Item) (reported : ℕ → Bool) (core : CoreView) (heard_to latest : ℕ) (ended : Bool) (start : ℕ)
    (log : List LinkEvent) (last : Ending)
    → AddsUp means reported core [] heard_to latest ended start log → ((items : List Item) → remaining_output core items ≡ final_of last ∷ [])
    → reported latest ≡ true → IsReached latest last
    → ReportsAt means (λ t. reported t ≡ true) log heard_to start last (source_heard ended) latest
follows-reports means reported core heard_to latest ended start log last follows only says reached = record {
  faithful = follows.faithful;
  whole = sym (follows.tables (Quiet ∷ []) refl ∙ ap (λ items. slices_table (said log) ++ table items) (only (Quiet ∷ []))
      ∙ ap (λ ts. slices_table (said log) ++ ts) (final-table last) ∙ append-nil (slices_table (said log)));
  ends = follows.endings (Quiet ∷ []) refl ∙ ap ending (only (Quiet ∷ [])) ∙ final-ending last;
  took = follows.bytes;
  wrote = let long = gapless-bytes 0 (said log) start follows.gapless in omega (arith, long);
  says = says;
  by = follows.by;
  reached = reached;
  settled = λ items stream.
      let goes_on : IsStreamFrom heard_to latest items = subst (λ at. IsStreamFrom at latest items) follows.bytes stream in
      record {
        tables = follows.tables items goes_on ∙ ap (λ other. slices_table (said log) ++ table other) (only items ∙ sym (only (Quiet ∷ [])))
            ∙ sym (follows.tables (Quiet ∷ []) refl);
        endings = follows.endings items goes_on ∙ ap ending (only items ∙ sym (only (Quiet ∷ []))) ∙ sym (follows.endings (Quiet ∷ []) refl);
      };
  hears = heard-so log ended follows.closed;
}

replicate-add : (a b x : ℕ) → replicate (a + b) x ≡ replicate a x ++ replicate b x
replicate-add a b x = sym (replicate-append-replicate a b x)

-- the front of a slice, and what is left of it
pub say-table : (part : Slice) (said_to stop count : ℕ) → part.span.start ≡ said_to → said_to < stop → stop ≤ part.span.stop → stop ≡ said_to + count
    → rest_table (Some part) ≡ replicate count part.instant ++ rest_table (part_from part stop)
say-table part said_to stop count starts some within counts = by (nat_lt stop part.span.stop) refl
  where
    by : (more : Bool) → nat_lt stop part.span.stop ≡ more
        → replicate (span_len part.span) part.instant ≡ replicate count part.instant
        ++ rest_table (if more then Some (record part { span = record part.span { start = stop } }) else None)
    by true more =
        let e : span_len part.span ≡ count + (part.span.stop - stop) = omega arith in
        ap (λ n. replicate n part.instant) e ∙ replicate-add count (part.span.stop - stop) part.instant
    by false more =
        let past : part.span.stop ≤ stop = grind (arith, nat_tests) in
        let e : span_len part.span ≡ count = omega arith in
        ap (λ n. replicate n part.instant) e ∙ sym (append-nil (replicate count part.instant))

module _ (means : List Item → List Item) (reported : ℕ → Bool) (core : CoreView) (heard_to : ℕ) (ended : Bool) (start : ℕ) (log : List LinkEvent) (due : ℕ)
    (rest : List ℕ) where
  -- nothing is said yet of a slice that starts where the last one stopped
  pub begins-saying : (latest later said_to : ℕ) → latest ≤ later → start ≡ said_to → AddsUp means reported core rest heard_to latest ended said_to log
      → AddsUp means reported core (replicate (said_to - start) due ++ rest) heard_to later ended start log
  begins-saying latest later said_to goes_on starts follows =
      let none : said_to - start ≡ 0 = omega arith in
      subst (λ n. AddsUp means reported core (replicate n due ++ rest) heard_to later ended start log) (sym none)
      (subst (λ at. AddsUp means reported core rest heard_to later ended at log) (sym starts)
      (follows-later means reported core heard_to latest ended said_to log rest later goes_on follows))

  -- more of it is said
  pub goes-saying : (latest a count b : ℕ) → b ≡ a + count → AddsUp means reported core ((replicate a due ++ replicate count due) ++ rest) heard_to latest ended
      start log
      → AddsUp means reported core (replicate b due ++ rest) heard_to latest ended start log
  goes-saying latest a count b counts follows =
      subst (λ ts. AddsUp means reported core (ts ++ rest) heard_to latest ended start log) (sym (ap (λ n. replicate n due) counts ∙ replicate-add a count due))
      follows

-- a judge that stays says as much as before
pub judged-stays : (old new : Judge) → new.said ≡ old.said → Stays old new → (means : List Item → List Item) (reported : ℕ → Bool) (log : List LinkEvent)
    → Judged means reported old log → Judged means reported new log
judged-stays old new same stays means reported log judged = subst (λ at. FollowsWith means reported new [] at log) (sym same)
    (stays means reported [] old.said log judged)

-- a judge with nothing left to say but an ending
pub ended-reports : (old new : Judge) (last : Ending) (reading : ℕ) → Stays old new → new.heard ≡ old.heard → new.latest ≡ reading → new.ended ≡ old.ended
    → new.rest ≡ None
    → ((items : List Item) → remaining_output new.core items ≡ final_of last ∷ []) → IsReached reading last
    → (means : List Item → List Item) (reported : ℕ → Bool) (log : List LinkEvent) → reported reading ≡ true → Judged means reported old log
    → ReportsAt means (λ t. reported t ≡ true) log old.heard old.said last (source_heard old.ended) reading
ended-reports old new last reading stays heard_same latest_is ended_same none only reached means reported log says judged =
    let after : AddsUp means reported new.core [] new.heard new.latest new.ended old.said log
    = subst (λ rest. AddsUp means reported new.core (rest_table rest) new.heard new.latest new.ended old.said log) none
    (stays means reported [] old.said log judged) in
    let at : AddsUp means reported new.core [] new.heard reading new.ended old.said log =
    subst (λ t. AddsUp means reported new.core [] new.heard t new.ended old.said log) latest_is after in
    let heard : AddsUp means reported new.core [] old.heard reading new.ended old.said log =
    subst (λ n. AddsUp means reported new.core [] n reading new.ended old.said log) heard_same at in
    follows-reports means reported new.core old.heard reading old.ended old.said log last
    (subst (λ b. AddsUp means reported new.core [] old.heard reading b old.said log) ended_same heard) only says reached

-- a judge is held while the clock goes on
pub begins-held : (judge : Judge) (later : ℕ) → judge.latest ≤ later → KeepsUp judge → KeepsUp (record judge { latest = later })
begins-held judge later goes_on held = record {
  ended = held.ended;
  latest = omega (arith, held.latest, goes_on);
  live = held.live;
  rest = held.rest;
  opens =
      held.opens;
  within = held.within;
}

-- all of a slice is said
pub said-all : (means : List Item → List Item) (reported : ℕ → Bool) (judge : Judge) (slice : Slice) (reading : ℕ) (log : List LinkEvent)
    → judge.latest ≡ reading → judge.said ≡ slice.span.stop
    → reported reading ≡ true → slice.instant ≤ reading → slice.span.start < slice.span.stop
    → FollowsWith means reported judge (replicate (judge.said - slice.span.start) slice.instant) slice.span.start log
    → Judged means reported judge (log ++ Wrote slice reading ∷ [])
said-all means reported judge slice reading log latest_is all says due some follows =
    let length_is : judge.said - slice.span.start ≡ span_len slice.span = omega (arith, all) in
    let front : AddsUp means reported judge.core (replicate (span_len slice.span) slice.instant ++ rest_table judge.rest) judge.heard judge.latest judge.ended
    slice.span.start log
    = subst (λ n. AddsUp means reported judge.core (replicate n slice.instant ++ rest_table judge.rest) judge.heard judge.latest judge.ended slice.span.start
    log) length_is follows in
    let now : AddsUp means reported judge.core (replicate (span_len slice.span) slice.instant ++ rest_table judge.rest) judge.heard reading judge.ended
    slice.span.start log
    = subst (λ t. AddsUp means reported judge.core (replicate (span_len slice.span) slice.instant ++ rest_table judge.rest) judge.heard t judge.ended
    slice.span.start log) latest_is front in
    let wrote = wrote-follows means reported judge.core judge.heard reading judge.ended slice.span.start log (rest_table judge.rest) slice says due refl some
    now in
    subst (λ t. AddsUp means reported judge.core (rest_table judge.rest) judge.heard t judge.ended judge.said (log ++ Wrote slice reading ∷ [])) (sym latest_is)
    (subst (λ at. AddsUp means reported judge.core (rest_table judge.rest) judge.heard reading judge.ended at (log ++ Wrote slice reading ∷ [])) (sym all)
    wrote)

-- a core that took a piece keeps it behind the others
pub keeps-taken : (core new : CoreView) (log : List LinkEvent) (len instant : ℕ)
    → new ≡ record core { waiting = core.waiting ++ record { len = len; instant = instant } ∷ []; bytes = core.bytes + len; latest = instant }
    → KeepsLast core log → KeepsLast new (log ++ Piece len instant ∷ [])
keeps-taken core new log len instant taken keeps =
    keeps-piece core new log len instant (ap (λ (core : CoreView). core.runner) taken) (ap (λ (core : CoreView). core.found) taken)
    (ap (λ (core : CoreView). core.waiting) taken) keeps

-- a slice that is given lies in the runner's piece
pub given-within : (core new : CoreView) (now : ℕ) (act : Act) → After core now act new
    → IfSome (slice_in act) (λ slice. slice.span.stop ≤ new.runner.piece.span.stop)
given-within core new now (Write slice) (due, takes) = takes.within.to
given-within core new now (WaitUntil t) after = tt
given-within core new now WaitForInput after = tt
given-within core new now (End last) after = tt

-- so it ends behind what was said
pub rest-behind : (rest : Option Slice) (said_to position stop : ℕ) → IsSome rest → IsRest rest said_to position → IfSome rest (λ slice. slice.span.stop ≤ stop)
    → said_to < stop
rest-behind None said_to position stop some is within = absurd (cc)
rest-behind (Some slice) said_to position stop some is within = omega (arith, is.1, within)

-- and so it does where the next slice isn't due yet
pub asked-behind : (core new : CoreView) (now : ℕ) (act : Act) (said_to : ℕ) → Answered core new now act → said_to ≡ core_position core → 0 < kept_count new
    → said_to < new.runner.piece.span.stop
asked-behind core new now act said_to answered at many = by (next_instant (remaining_output core (Quiet ∷ []))) refl
  where
    given : (t : ℕ) (act : Act) → (now < t → core_position new < new.runner.piece.span.stop) → After core now act new → IsSliceAct t now act
        → said_to < new.runner.piece.span.stop
    given t (Write slice) holds (due, takes) is = omega (arith, at, takes.starts, takes.within.some, takes.within.to)
    given t (WaitUntil instant) holds (before, leaves) is = let ahead = holds is.1 in omega (arith, at, leaves.position, ahead)
    given t WaitForInput holds after is = absurd is
    given t (End last) holds after is = absurd is

    by : (next : Option ℕ) → next_instant (remaining_output core (Quiet ∷ [])) ≡ next → said_to < new.runner.piece.span.stop
    by None none = absurd (let dropped = answered.dropped none in omega (arith, dropped, many))
    by (Some t) is = given t act (answered.holds t is) answered.output (answered.slice t is)
