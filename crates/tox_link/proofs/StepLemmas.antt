-- The steps of a link that is carried.
use Rattle.std.proofs.Common.{◌≡◌, ℕ, ◌+◌, ◌<◌, ◌≤◌, ◌^◌, inl, inr, true, false, List, [], ◌∷◌, ◌++◌, replicate, None, refl, ap, sym, ◌∙◌, subst, append_assoc}
use Rattle.std.proofs.Common.{append-nil, zero-add, arith}
use Rattle.std.proofs.Math.Seq.{take-nil}
use Rattle.tox_time.specs.declared.streams.slice.Slice.{Slice}
use Rattle.tox_time.specs.declared.streams.item.Item.{Item}
use Rattle.tox_time.specs.declared.streams.item.Item.TheVariants.{Chunk, Closed, Quiet}
use Rattle.tox_time.specs.streams.Stream.{IsStream, IsStreamFrom, span_len}
use Rattle.tox_time.specs.Time.{IsInstant}
use Rattle.tox_time.specs.streams.Table.{table, slices_table, ending}
use Rattle.tox_plan.proofs.Deliveries.{slices_table-append}
use Rattle.tox_link.specs.declared.link_core.act.Act.{Act}
use Rattle.tox_link.specs.declared.link_core.act.Act.TheVariants.{Write, WaitUntil, WaitForInput, End}
use Rattle.tox_link.specs.declared.notes.LinkEvent.{LinkEvent}
use Rattle.tox_link.specs.declared.notes.LinkEvent.TheVariants.{Piece, SourceEnd, Wrote}
use Rattle.tox_link.specs.link_core.Core.{CoreView, TakesSlice, LeavesOutput, remaining_output, core_ending, core_position, kept_count, kept_lens, kept_start}
use Rattle.tox_link.specs.link_core.Acts.{After}
use Rattle.tox_link.specs.log.Log.{heard_from, heard_lens, said, heard_bytes, has_source_end, Agrees, IsGapless, IsFaithful, SaysHeard}
use Rattle.tox_link.specs.log.Carried.{Carried, KeepsCarried, KeepsLast, noted_of}
use Rattle.tox_link.proofs.Depths.{few-waiting, keeps-none, keeps-piece, shallow-append}
use Rattle.tox_link.proofs.Logs.{stream-earlier, heard-piece, heard-end, heard-wrote, said-append, heard_bytes-append, gapless-append, gapless-bytes, by-later}
use Rattle.tox_link.proofs.Logs.{by-append, faithful-append, end-same, open-log, ordered-piece, ordered-end, ordered-wrote}
use Rattle.tox_link.proofs.Sizes.{small-append, small-none, small-one}

-- what stands now agrees with the plan
agrees-now : (means : List Item → List Item) (core : CoreView) (log : List LinkEvent)
    → ((rest : List Item) → IsStreamFrom core.bytes core.latest rest → table (means (heard_from 0 log rest))
    ≡ slices_table (said log) ++ table (remaining_output core rest))
    → IsGapless 0 (said log) (core_position core) → Agrees means log
agrees-now means core log tables gapless = record {
  gapless = (core_position core, gapless);
  prefix = (table (remaining_output core (Quiet ∷ [])), sym (tables (Quiet ∷ []) refl));
}

-- a piece arrives
module _ (reported : ℕ → Type 0) (old new : CoreView) (len instant : ℕ) where
  abbrev piece : Item
  piece = Chunk (record { start = old.bytes; stop = old.bytes + len }) instant

  piece-carried : kept_count old < 1_024 → core_ending old ≡ None → new.runner ≡ old.runner → new.found ≡ old.found
      → new.waiting ≡ old.waiting ++ record { len = len; instant = instant } ∷ []
      → old.latest ≤ instant → IsInstant instant → reported instant → 0 < len → len ≤ 16_384 → old.bytes + len ≤ 2 ^ 40 → old.ended ≡ false
      → new.latest ≡ instant → new.bytes ≡ old.bytes + len → core_position new ≡ core_position old
      → ((items : List Item) → remaining_output new items ≡ remaining_output old (Chunk (record { start = old.bytes; stop = old.bytes + len }) instant ∷ items))
      → KeepsCarried reported old (Piece len instant ∷ []) new
  piece-carried room unknown runner found waiting later fits says some small few going latest bytes position output means log carried = record {
    tables = tables;
    endings = λ rest stream. ap (λ items. ending (means items)) (heard_is rest) ∙ carried.endings (piece ∷ rest) (goes_on rest stream)
        ∙ ap ending (sym (output rest));
    stream = λ rest stream. subst IsStream (sym (heard_is rest)) (carried.stream (piece ∷ rest) (goes_on rest stream));
    faithful = faithful-append means reported log (Piece len instant) carried.faithful (by-later old.latest instant log later carried.by) says tt
        (ordered-piece log len instant carried.faithful.ordered unended some) (agrees-now means new _ tables gapless);
    by = by-append new.latest log (Piece len instant) (by-later old.latest new.latest log (omega (arith, latest, later)) carried.by) (omega (arith, latest));
    gapless = gapless;
    bytes = let more = heard_bytes-append log (Piece len instant ∷ []) in omega (arith, more, carried.bytes, bytes);
    closed = λ has. let none = end-same log (Piece len instant ∷ []) refl ∙ unended in absurd (cc);
    arrived = omega (arith, carried.arrived, bytes, position);
    few = omega (arith, bytes, few);
    read = inr (subst reported (sym latest) says);
    shallow = shallow-append [] log (Piece len instant ∷ []) carried.shallow
        (let waiting = few-waiting old log (carried.kept going unknown) carried.gapless in omega (arith, waiting, room), tt);
    small = small-append log (Piece len instant ∷ []) carried.small (small-one len small);
    kept = λ _ _. keeps-piece old new log len instant runner found waiting (carried.kept going unknown);
  }
    where
      unended : has_source_end log ≡ false
      unended = open-log (has_source_end log) old.ended carried.closed going

      said_is : said (log ++ Piece len instant ∷ []) ≡ said log
      said_is = said-append log (Piece len instant ∷ []) ∙ append-nil (said log)

      heard_is : (rest : List Item) → heard_from 0 (log ++ Piece len instant ∷ []) rest ≡ heard_from 0 log (piece ∷ rest)
      heard_is rest = heard-piece 0 log len instant rest ∙ ap (λ at. heard_from 0 log (Chunk (record { start = at; stop = at + len }) instant ∷ rest))
          (zero-add (heard_bytes log) ∙ carried.bytes)

      goes_on : (rest : List Item) → IsStreamFrom new.bytes new.latest rest → IsStreamFrom old.bytes old.latest (piece ∷ rest)
      goes_on rest stream = (
        refl,
        omega (arith, some),
        later,
        fits,
        subst (λ at. IsStreamFrom at instant rest) bytes
            (subst (λ since. IsStreamFrom new.bytes since rest) latest stream),
      )

      tables : (rest : List Item) → IsStreamFrom new.bytes new.latest rest
          → table (means (heard_from 0 (log ++ Piece len instant ∷ []) rest))
          ≡ slices_table (said (log ++ Piece len instant ∷ [])) ++ table (remaining_output new rest)
      tables rest stream =
          ap (λ items. table (means items)) (heard_is rest) ∙ carried.tables (piece ∷ rest) (goes_on rest stream)
          ∙ ap (λ items. slices_table (said log) ++ table items) (sym (output rest))
          ∙ ap (λ slices. slices_table slices ++ table (remaining_output new rest)) (sym said_is)

      gapless : IsGapless 0 (said (log ++ Piece len instant ∷ [])) (core_position new)
      gapless = subst (λ slices. IsGapless 0 slices (core_position new)) (sym said_is) (subst (IsGapless 0 (said log)) (sym position) carried.gapless)

  pub taken-carried : kept_count old < 1_024 → core_ending old ≡ None → old.latest ≤ instant → IsInstant instant → reported instant → 0 < len → len ≤ 16_384
      → old.bytes + len ≤ 2 ^ 40 → old.ended ≡ false
      → new ≡ record old { waiting = old.waiting ++ record { len = len; instant = instant } ∷ []; bytes = old.bytes + len; latest = instant }
      → ((items : List Item) → remaining_output new items ≡ remaining_output old (Chunk (record { start = old.bytes; stop = old.bytes + len }) instant ∷ items))
      → KeepsCarried reported old (Piece len instant ∷ []) new
  taken-carried room unknown later fits says some small few going taken =
      piece-carried room unknown (ap (λ (core : CoreView). core.runner) taken) (ap (λ (core : CoreView). core.found) taken)
      (ap (λ (core : CoreView). core.waiting) taken) later fits says some small few going
      (ap (λ (core : CoreView). core.latest) taken) (ap (λ (core : CoreView). core.bytes) taken) (ap core_position taken)

-- the source's end arrives
module _ (reported : ℕ → Type 0) (old new : CoreView) (instant : ℕ) where
  pub end-carried : old.latest ≤ instant → IsInstant instant → reported instant → old.ended ≡ false → new.ended ≡ true → new.latest ≡ instant
      → new.bytes ≡ old.bytes → core_position new ≡ core_position old
      → ((items : List Item) → remaining_output new items ≡ remaining_output old (Closed instant ∷ [])) → KeepsCarried reported old (SourceEnd instant ∷ []) new
  end-carried later fits says going ended latest bytes position output means log carried = record {
    tables = tables;
    endings = λ rest stream. ap (λ items. ending (means items)) (heard-end 0 log instant rest) ∙ carried.endings (Closed instant ∷ []) goes_on
        ∙ ap ending (sym (output rest));
    stream = λ rest stream. subst IsStream (sym (heard-end 0 log instant rest)) (carried.stream (Closed instant ∷ []) goes_on);
    faithful = faithful-append means reported log (SourceEnd instant) carried.faithful (by-later old.latest instant log later carried.by) says tt
        (ordered-end log instant carried.faithful.ordered (open-log (has_source_end log) old.ended carried.closed going))
        (agrees-now means new _ tables gapless);
    by = by-append new.latest log (SourceEnd instant) (by-later old.latest new.latest log (omega (arith, latest, later)) carried.by) (omega (arith, latest));
    gapless = gapless;
    bytes = let more = heard_bytes-append log (SourceEnd instant ∷ []) in omega (arith, more, carried.bytes, bytes);
    closed = λ has. ended;
    arrived = omega (arith, carried.arrived, bytes, position);
    few = omega (arith, bytes, carried.few);
    read = inr (subst reported (sym latest) says);
    shallow = shallow-append [] log (SourceEnd instant ∷ []) carried.shallow (tt, tt);
    small = small-append log (SourceEnd instant ∷ []) carried.small small-none;
    kept = λ going. absurd (let both : true ≡ false = sym ended ∙ going in cc);
  }
    where
      said_is : said (log ++ SourceEnd instant ∷ []) ≡ said log
      said_is = said-append log (SourceEnd instant ∷ []) ∙ append-nil (said log)

      goes_on : IsStreamFrom old.bytes old.latest (Closed instant ∷ [])
      goes_on = (later, fits, refl)

      tables : (rest : List Item) → IsStreamFrom new.bytes new.latest rest
          → table (means (heard_from 0 (log ++ SourceEnd instant ∷ []) rest))
          ≡ slices_table (said (log ++ SourceEnd instant ∷ [])) ++ table (remaining_output new rest)
      tables rest stream =
          ap (λ items. table (means items)) (heard-end 0 log instant rest) ∙ carried.tables (Closed instant ∷ []) goes_on
          ∙ ap (λ items. slices_table (said log) ++ table items) (sym (output rest))
          ∙ ap (λ slices. slices_table slices ++ table (remaining_output new rest)) (sym said_is)

      gapless : IsGapless 0 (said (log ++ SourceEnd instant ∷ [])) (core_position new)
      gapless = subst (λ slices. IsGapless 0 slices (core_position new)) (sym said_is) (subst (IsGapless 0 (said log)) (sym position) carried.gapless)

-- a step in which no piece is heard, after which the core keeps the last pieces still
abbrev pub KeepsKept : CoreView → CoreView → Type 0
KeepsKept old new = (log more : List LinkEvent) → heard_lens more ≡ [] → (old.ended ≡ false → core_ending old ≡ None → KeepsLast old log)
    → new.ended ≡ false → core_ending new ≡ None → KeepsLast new (log ++ more)

-- the clock is read
module _ (reported : ℕ → Type 0) (old new : CoreView) (now : ℕ) (later : old.latest ≤ now) (says : reported now) (latest : new.latest ≡ now)
    (bytes : new.bytes ≡ old.bytes)
    (stays : old.ended ≡ true → new.ended ≡ true) (keeps : KeepsKept old new) where
  -- what goes on from now goes on from before
  goes_on : (rest : List Item) → IsStreamFrom new.bytes new.latest rest → IsStreamFrom old.bytes now rest
  goes_on rest stream = subst (λ at. IsStreamFrom at now rest) bytes (subst (λ since. IsStreamFrom new.bytes since rest) latest stream)

  from_before : (rest : List Item) → IsStreamFrom new.bytes new.latest rest → IsStreamFrom old.bytes old.latest rest
  from_before rest stream = stream-earlier old.bytes old.latest now rest later (goes_on rest stream)

  pub wait-carried : LeavesOutput old new now → KeepsCarried reported old [] new
  wait-carried leaves means log carried = subst (Carried means reported new) (sym (append-nil log)) (record {
    tables = λ rest stream. carried.tables rest (from_before rest stream)
        ∙ ap (λ ts. slices_table (said log) ++ ts) (sym (leaves.output old.bytes now rest (omega arith) (goes_on rest stream)).tables);
    endings = λ rest stream. carried.endings rest (from_before rest stream)
        ∙ sym (leaves.output old.bytes now rest (omega arith) (goes_on rest stream)).endings;
    stream = λ rest stream. carried.stream rest (from_before rest stream);
    faithful = carried.faithful;
    by = by-later old.latest new.latest log (omega (arith, latest, later)) carried.by;
    gapless = subst (IsGapless 0 (said log)) (sym leaves.position) carried.gapless;
    bytes = carried.bytes ∙ sym bytes;
    closed = λ has. stays (carried.closed has);
    arrived = omega (arith, carried.arrived, bytes, leaves.position);
    few = omega (arith, bytes, carried.few);
    read = inr (subst reported (sym latest) says);
    shallow = carried.shallow;
    small = carried.small;
    kept = λ going unknown. subst (KeepsLast new) (append-nil log) (keeps log [] refl carried.kept going unknown);
  })

  pub wrote-carried : (slice : Slice) → slice.instant ≤ now → TakesSlice old new slice → KeepsCarried reported old (Wrote slice now ∷ []) new
  wrote-carried slice due takes means log carried = record {
    tables = tables;
    endings = λ rest stream. ap (λ items. ending (means items)) (heard-wrote 0 log slice now rest) ∙ carried.endings rest (from_before rest stream)
        ∙ takes.endings rest;
    stream = λ rest stream. subst IsStream (sym (heard-wrote 0 log slice now rest)) (carried.stream rest (from_before rest stream));
    faithful = faithful-append means reported log (Wrote slice now) carried.faithful (by-later old.latest now log later carried.by) says due
        (ordered-wrote log slice now carried.faithful.ordered) (agrees-now means new _ tables gapless);
    by = by-append new.latest log (Wrote slice now) (by-later old.latest new.latest log (omega (arith, latest, later)) carried.by) (omega (arith, latest));
    gapless = gapless;
    bytes = let more = heard_bytes-append log (Wrote slice now ∷ []) in omega (arith, more, carried.bytes, bytes);
    closed = λ has. stays (carried.closed (sym (end-same log (Wrote slice now ∷ []) refl) ∙ has));
    arrived = omega (arith, takes.arrived, takes.stops);
    few = omega (arith, bytes, carried.few);
    read = inr (subst reported (sym latest) says);
    shallow = shallow-append [] log (Wrote slice now ∷ []) carried.shallow (tt, tt);
    small = small-append log (Wrote slice now ∷ []) carried.small small-none;
    kept = keeps log (Wrote slice now ∷ []) refl carried.kept;
  }
    where
      said_is : said (log ++ Wrote slice now ∷ []) ≡ said log ++ slice ∷ []
      said_is = said-append log (Wrote slice now ∷ [])

      part : List ℕ
      part = replicate (span_len slice.span) slice.instant

      tables : (rest : List Item) → IsStreamFrom new.bytes new.latest rest
          → table (means (heard_from 0 (log ++ Wrote slice now ∷ []) rest))
          ≡ slices_table (said (log ++ Wrote slice now ∷ [])) ++ table (remaining_output new rest)
      tables rest stream =
          ap (λ items. table (means items)) (heard-wrote 0 log slice now rest) ∙ carried.tables rest (from_before rest stream)
          ∙ ap (λ ts. slices_table (said log) ++ ts) (takes.tables rest)
          ∙ sym (append_assoc (slices_table (said log)) (replicate (span_len slice.span) slice.instant) (table (remaining_output new rest)))
          ∙ ap (λ ts. (slices_table (said log) ++ ts) ++ table (remaining_output new rest)) (sym (append-nil (replicate (span_len slice.span) slice.instant)))
          ∙ ap (λ ts. ts ++ table (remaining_output new rest)) (sym (slices_table-append (said log) (slice ∷ [])))
          ∙ ap (λ slices. slices_table slices ++ table (remaining_output new rest)) (sym said_is)

      gapless : IsGapless 0 (said (log ++ Wrote slice now ∷ [])) (core_position new)
      gapless =
          subst (λ slices. IsGapless 0 slices (core_position new)) (sym said_is)
          (subst (IsGapless 0 (said log ++ slice ∷ [])) (sym takes.stops)
          (gapless-append 0 (said log) (core_position old) slice carried.gapless takes.starts takes.within.some))

  pub act-carried : (act : Act) → After old now act new → KeepsCarried reported old (noted_of act now) new
  act-carried (Write slice) (due, takes) = wrote-carried slice due takes
  act-carried (WaitUntil t) (before, leaves) = wait-carried leaves
  act-carried WaitForInput leaves = wait-carried leaves
  act-carried (End last) leaves = wait-carried leaves

-- what a carried link said is of bytes that it heard
pub says-heard : (means : List Item → List Item) (reported : ℕ → Type 0) (core : CoreView) (log : List LinkEvent) → Carried means reported core log
    → SaysHeard log
says-heard means reported core log carried =
    let long = gapless-bytes 0 (said log) (core_position core) carried.gapless in
    record {
      few = omega (arith, carried.bytes, carried.few);
      heard = omega (arith, long, carried.bytes, carried.arrived);
      shallow = carried.shallow;
      small =
          carried.small;
    }

-- an empty log is faithful
pub faithful-nil : (means : List Item → List Item) (reported : ℕ → Type 0) → IsFaithful means reported []
faithful-nil means reported = record {
  agrees = λ n. subst (Agrees means) (sym (take-nil n)) (record { gapless = (0, refl); prefix = (table (means (Quiet ∷ [])), refl) });
  timely = tt;
  ordered = tt;
}

-- nothing was heard yet
pub start-carried : (means : List Item → List Item) (reported : ℕ → Type 0) (core : CoreView) → core.bytes ≡ 0 → core.latest ≡ 0 → core_position core ≡ 0
    → (kept_lens core ≡ []) × (kept_start core ≡ 0) → ((items : List Item) → IsStream items → remaining_output core items ≡ means items)
    → Carried means reported core []
start-carried means reported core bytes latest position none_kept output = record {
  tables = λ rest stream. ap table (sym (output rest (from_start rest stream)));
  endings = λ rest stream. ap ending (sym (output rest (from_start rest stream)));
  stream = from_start;
  faithful = faithful-nil means reported;
  by = tt;
  gapless = sym position;
  bytes = sym bytes;
  closed = λ has. absurd (cc);
  arrived = omega (arith, position);
  few = omega (arith, bytes);
  read = inl latest;
  shallow = tt;
  small = small-none;
  kept = λ _ _. keeps-none core none_kept;
}
  where
    from_start : (rest : List Item) → IsStreamFrom core.bytes core.latest rest → IsStream rest
    from_start rest stream = subst (λ at. IsStreamFrom at 0 rest) bytes (subst (λ since. IsStreamFrom core.bytes since rest) latest stream)
