-- What a faithful log says next is what its judge expects.
use Rattle.std.proofs.Common.{◌≡◌, ℕ, ◌+◌, ◌<◌, ◌≤◌, Bool, true, List, [], ◌∷◌, ◌++◌, length, replicate, zero, suc, Some, IsSome, slice_get, rules, refl, ap}
use Rattle.std.proofs.Common.{sym, ◌∙◌, subst, append_assoc, append-nil, arith}
use Rattle.std.proofs.Math.Seq.{take-length}
use Rattle.std.proofs.lemmas.List.Elements.{All-cons, All-nil}
use Rattle.std.proofs.lemmas.List.{append_cancel_left, replicate-append-replicate}
use Rattle.tox_time.specs.declared.streams.slice.Slice.{Slice}
use Rattle.tox_time.specs.declared.streams.item.Item.{Item}
use Rattle.tox_time.specs.declared.streams.item.Item.TheVariants.{Quiet}
use Rattle.tox_time.specs.streams.Stream.{span_len}
use Rattle.tox_time.specs.streams.Table.{table, slices_table}
use Rattle.tox_plan.proofs.Deliveries.{slices_table-append}
use Rattle.tox_link.specs.declared.notes.LinkEvent.{LinkEvent}
use Rattle.tox_link.specs.declared.notes.LinkEvent.TheVariants.{Piece, SourceEnd, Wrote}
use Rattle.tox_link.specs.declared.link_core.act.Act.{Act}
use Rattle.tox_link.specs.declared.link_core.act.Act.TheVariants.{Write, WaitUntil, WaitForInput, End}
use Rattle.tox_link.specs.link_core.Acts.{After, IsSliceAct}
use Rattle.tox_link.specs.link_core.Core.{CoreView, remaining_output}
use Rattle.tox_link.specs.log.Log.{said, Agrees, reading_of, IsFaithful, IsGapless, IsTimely}
use Rattle.tox_log.specs.Hearing.{AreReported}
use Rattle.tox_link.proofs.Logs.{heard-wrote, said-append}
use Rattle.tox_log.specs.declared.judge.Judge.{Judge}
use Rattle.tox_log.specs.Judging.{Expects, Judged, next_table, rest_table, slice_in}

-- the last of slices without gaps has bytes, and starts where those before it stop
gapless-last : (start : ℕ) (slices : List Slice) (slice : Slice) (middle stop : ℕ) → IsGapless start slices middle → IsGapless start (slices ++ slice ∷ []) stop
    → (slice.span.start ≡ middle) × (slice.span.start < slice.span.stop)
gapless-last start [] slice middle stop before all = (all.0 ∙ before, omega (arith, all.0, all.1))
gapless-last start (first ∷ slices) slice middle stop before all = gapless-last first.span.stop slices slice middle stop before.2 all.2

-- a slice that was written last is due
last-due : (reported : ℕ → Type 0) (since : ℕ) (log : List LinkEvent) (slice : Slice) (reading : ℕ) → IsTimely reported since (log ++ Wrote slice reading ∷ [])
    → slice.instant ≤ reading
last-due reported since [] slice reading timely = timely.2
last-due reported since (Piece len t ∷ log) slice reading timely = last-due reported t log slice reading timely.3
last-due reported since (SourceEnd t ∷ log) slice reading timely = last-due reported t log slice reading timely.3
last-due reported since (Wrote other t ∷ log) slice reading timely = last-due reported t log slice reading timely.3

-- the clock reported the readings of a timely log
pub timely-reported : (reported : ℕ → Bool) (since : ℕ) (log : List LinkEvent) → IsTimely (λ t. reported t ≡ true) since log → AreReported reported log
timely-reported reported since [] timely = All-nil (λ event. reported (reading_of event) ≡ true)
timely-reported reported since (event ∷ log) timely =
    All-cons (λ event. reported (reading_of event) ≡ true) event log timely.0 (timely-reported reported (reading_of event) log timely.3)

-- a whole log agrees with its plan
agrees-whole : (means : List Item → List Item) (reported : ℕ → Type 0) (log : List LinkEvent) → IsFaithful means reported log → Agrees means log
agrees-whole means reported log faithful = subst (Agrees means) (take-length log) (faithful.agrees (length log))

-- the next event of a faithful log, where it is a slice
pub record IsNext (judge : Judge) (slice : Slice) (reading : ℕ) : Type 0 where
  pub starts : slice.span.start ≡ judge.said
  pub some : slice.span.start < slice.span.stop
  pub due : slice.instant ≤ reading
  pub expects : Expects judge (span_len slice.span) slice.instant

pub faithful-next : (means : List Item → List Item) (reported : ℕ → Bool) (judge : Judge) (log : List LinkEvent) (slice : Slice) (reading : ℕ)
    → Judged means reported judge log
    → IsFaithful means (λ t. reported t ≡ true) (log ++ Wrote slice reading ∷ []) → IsNext judge slice reading
faithful-next means reported judge log slice reading judged faithful =
    let agrees : Agrees means (log ++ Wrote slice reading ∷ []) = agrees-whole means (λ t. reported t ≡ true) (log ++ Wrote slice reading ∷ []) faithful in
    let said_is : said (log ++ Wrote slice reading ∷ []) ≡ said log ++ slice ∷ [] = said-append log (Wrote slice reading ∷ []) in
    let ends : IsGapless 0 (said log ++ slice ∷ []) agrees.gapless.0 = subst (λ slices. IsGapless 0 slices agrees.gapless.0) said_is agrees.gapless.1 in
    let last = gapless-last 0 (said log) slice judge.said agrees.gapless.0 judged.gapless ends in
    let more : List ℕ = agrees.prefix.0 in
    let slices_are : slices_table (said (log ++ Wrote slice reading ∷ [])) ≡ slices_table (said log) ++ replicate (span_len slice.span) slice.instant
    = ap slices_table said_is ∙ slices_table-append (said log) (slice ∷ [])
    ∙ ap (λ ts. slices_table (said log) ++ ts) (append-nil (replicate (span_len slice.span) slice.instant)) in
    let whole : slices_table (said log) ++ (replicate (span_len slice.span) slice.instant ++ more) ≡ slices_table (said log) ++ next_table judge
    = sym (append_assoc (slices_table (said log)) (replicate (span_len slice.span) slice.instant) more)
    ∙ ap (λ ts. ts ++ more) (sym slices_are) ∙ agrees.prefix.1
    ∙ ap (λ items. table (means items)) (heard-wrote 0 log slice reading (Quiet ∷ [])) ∙ judged.tables (Quiet ∷ []) refl in
    record {
      starts = last.0;
      some = last.1;
      due = last-due (λ t. reported t ≡ true) 0 log slice reading faithful.timely;
      expects = (more, append_cancel_left (slices_table (said log)) (replicate (span_len slice.span) slice.instant ++ more) (next_table judge) whole);
    }

-- an answer gives a slice or none, and what is next stays what it was
pub asked-table : (core new : CoreView) (now : ℕ) (act : Act) → After core now act new
    → rest_table (slice_in act) ++ table (remaining_output new (Quiet ∷ [])) ≡ table (remaining_output core (Quiet ∷ []))
asked-table core new now (Write slice) (due, takes) = sym (takes.tables (Quiet ∷ []))
asked-table core new now (WaitUntil t) (before, leaves) = (leaves.output 0 now (Quiet ∷ []) (omega arith) refl).tables
asked-table core new now WaitForInput leaves = (leaves.output 0 now (Quiet ∷ []) (omega arith) refl).tables
asked-table core new now (End last) leaves = (leaves.output 0 now (Quiet ∷ []) (omega arith) refl).tables

-- a slice that is due is given
pub due-is-given : (due now : ℕ) (act : Act) → IsSliceAct due now act → due ≤ now → IsSome (slice_in act)
due-is-given due now (Write slice) is before = search rules
due-is-given due now (WaitUntil t) is before = absurd (omega (arith, is.1, before))
due-is-given due now WaitForInput is before = absurd is
due-is-given due now (End last) is before = absurd is

-- the first byte that is expected
pub expects-first : (judge : Judge) (count due : ℕ) → 0 < count → Expects judge count due → slice_get (next_table judge) 0 ≡ Some due
expects-first judge zero due some expects = absurd (omega (arith, some))
expects-first judge (suc count) due some expects = ap (λ ts. slice_get ts 0) (sym expects.1)

-- what is left of a slice comes first
pub rest-first : (judge : Judge) (part : Slice) → judge.rest ≡ Some part → part.span.start < part.span.stop → slice_get (next_table judge) 0 ≡ Some part.instant
rest-first judge part rest_is some =
    let more : List ℕ = table (remaining_output judge.core (Quiet ∷ [])) in
    ap (λ rest. slice_get (rest_table rest ++ more) 0) rest_is ∙ first-of (span_len part.span) part.instant more (omega arith)
  where
    first-of : (count due : ℕ) (more : List ℕ) → 0 < count → slice_get (replicate count due ++ more) 0 ≡ Some due
    first-of zero due more some = absurd (omega (arith, some))
    first-of (suc count) due more some = refl

-- once some of them are said, the others are expected
pub expects-rest : (old new : Judge) (count said_now left due : ℕ) → count ≡ said_now + left → next_table old ≡ replicate said_now due ++ next_table new
    → Expects old count due → Expects new left due
expects-rest old new count said_now left due counts next expects =
    let more : List ℕ = expects.0 in
    let parts : replicate count due ++ more ≡ replicate said_now due ++ (replicate left due ++ more)
    = ap (λ n. replicate n due ++ more) counts ∙ ap (λ ts. ts ++ more) (sym (replicate-append-replicate said_now left due))
    ∙ append_assoc (replicate said_now due) (replicate left due) more in
    (more, append_cancel_left (replicate said_now due) (replicate left due ++ more) (next_table new) (sym parts ∙ expects.1 ∙ next))
