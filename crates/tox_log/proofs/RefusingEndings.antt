-- What a link reports at its end is what its judge knows.
use Rattle.std.proofs.Common.{◌≡◌, ℕ, ◌<◌, Bool, true, false, List, [], ◌∷◌, ◌++◌, replicate, zero, suc, Option, None, Some, refl, ap, sym, ◌∙◌, subst}
use Rattle.std.proofs.Common.{append-nil, arith}
use Rattle.std.specs.Prelude.{nat_le, if◌then◌else◌}
use Rattle.std.proofs.lemmas.List.{append_cancel_left}
use Rattle.tox_time.specs.Time.{IsInstant}
use Rattle.tox_time.specs.declared.streams.slice.Slice.{Slice}
use Rattle.tox_time.specs.declared.streams.item.Item.{Item}
use Rattle.tox_time.specs.declared.streams.item.Item.TheVariants.{Closed, Quiet}
use Rattle.tox_time.specs.declared.streams.ending.Ending.{Ending}
use Rattle.tox_time.specs.declared.streams.ending.Ending.TheVariants.{StillOpen, Closed as ClosedAt, Reset as ResetAt}
use Rattle.tox_time.specs.streams.Stream.{span_len}
use Rattle.tox_time.specs.streams.Table.{table, slices_table, ending, final_of}
use Rattle.std.specs.List.{list_any}
use Rattle.tox_defs.specs.declared.operations.op.Op.{Op}
use Rattle.tox_plan.specs.Unended.{IsOpenAt, IsUnended, leaves_open}
use Rattle.tox_plan.proofs.Endings.{final-ending}
use Rattle.tox_link.specs.declared.notes.LinkEvent.{LinkEvent}
use Rattle.tox_link.specs.declared.ring.message.ReadEnd.{ReadEnd}
use Rattle.tox_link.specs.declared.link_core.act.Act.TheVariants.{WaitUntil, End}
use Rattle.tox_link.specs.link_core.Acts.{idle_act}
use Rattle.tox_link.specs.link_core.Core.{remaining_output}
use Rattle.tox_link.specs.log.Log.{heard, said}
use Rattle.tox_link.specs.log.Logged.{IsReached}
use Rattle.tox_link.specs.Reports.{ReportsAt}
use Rattle.tox_log.specs.declared.judge.Judge.{Judge}
use Rattle.tox_log.specs.Judging.{FollowsWith, IsRest, Judged, Stays, next_table, rest_table, slice_in}

-- where nothing is next, no slice is left
pub nothing-left : (rest : Option Slice) (said_to position : ℕ) (more : List ℕ) → IsRest rest said_to position → rest_table rest ++ more ≡ [] → rest ≡ None
nothing-left None said_to position more is none = refl
nothing-left (Some slice) said_to position more is none = absurd (by (span_len slice.span) (omega (arith, is.0, is.1)) none)
  where
    by : (count : ℕ) → 0 < count → replicate count slice.instant ++ more ≡ [] → ⊥
    by zero some none = absurd (omega (arith, some))
    by (suc count) some none = absurd (cc)

-- the answer then gives none
pub idle-gives_none : (ended : Bool) (now : ℕ) (deadline : Option ℕ) (last : Option Ending) → slice_in (idle_act ended now deadline last) ≡ None
idle-gives_none ended now None None = refl
idle-gives_none ended now (Some d) None = refl
idle-gives_none true now deadline (Some StillOpen) = refl
idle-gives_none false now deadline (Some StillOpen) = refl
idle-gives_none ended now deadline (Some (ClosedAt t)) = by (nat_le t now)
  where
    by : (reached : Bool) → slice_in (if reached then End (ClosedAt t) else WaitUntil t) ≡ None
    by true = refl
    by false = refl
idle-gives_none ended now deadline (Some (ResetAt t)) = by (nat_le t now)
  where
    by : (reached : Bool) → slice_in (if reached then End (ResetAt t) else WaitUntil t) ≡ None
    by true = refl
    by false = refl

-- an ending that a reading hasn't passed, and that is reached then, is none
open-reached : (now : ℕ) (last : Ending) → IsOpenAt now last → IsReached now last → last ≡ StillOpen
open-reached now StillOpen open_yet reached = refl
open-reached now (ClosedAt t) open_yet reached = absurd (omega (arith, open_yet, reached))
open-reached now (ResetAt t) open_yet reached = absurd (omega (arith, open_yet, reached))

-- a link that reports its end has said all
pub report-whole : (means : List Item → List Item) (reported : ℕ → Bool) (judge : Judge) (log : List LinkEvent) → Judged means reported judge log
    → slices_table (said log) ≡ table (means (heard log)) → next_table judge ≡ []
report-whole means reported judge log judged whole =
    append_cancel_left (slices_table (said log)) (next_table judge) [] (sym (judged.tables (Quiet ∷ []) refl) ∙ sym whole
    ∙ sym (append-nil (slices_table (said log))))

-- a judge that asked at a reading at which a link reports this ending
module _ (means : List Item → List Item) (reported : ℕ → Bool) (old new : Judge) (log : List LinkEvent) (taken written : ℕ) (last : Ending)
    (source : Option ReadEnd) (reading : ℕ) (fits : IsInstant reading)
    (stays : Stays old new) (latest_is : new.latest ≡ reading) (judged : Judged means reported old log)
    (report : ReportsAt means (λ t. reported t ≡ true) log taken written last source reading) where
  after : FollowsWith means reported new [] old.said log
  after = stays means reported [] old.said log judged

  quiet-end : ending (remaining_output new.core (Quiet ∷ [])) ≡ last
  quiet-end = sym (after.endings (Quiet ∷ []) refl) ∙ report.ends

  closed-end : ending (remaining_output new.core (Closed reading ∷ [])) ≡ last
  closed-end = sym (after.endings (Closed reading ∷ []) (omega (arith, latest_is), fits, refl))
      ∙ (report.settled (Closed reading ∷ []) (omega arith, fits, refl)).endings ∙ report.ends

  -- tells of an open link, if its core hasn't ended
  pub report-open : (ops : List Op) → IsUnended ops (remaining_output new.core) reading → last ≡ StillOpen
  report-open ops unended = open-reached reading last (subst (IsOpenAt reading) quiet-end unended.quiet) report.reached

  -- and its plan leaves it open
  pub report-ended : (ops : List Op) → IsUnended ops (remaining_output new.core) reading → list_any leaves_open ops ≡ false → ⊥
  report-ended ops unended closes = unended.closed closes (closed-end ∙ report-open ops unended)

  -- and it is this one
  pub report-ending : (known : Ending) → ((items : List Item) → remaining_output new.core items ≡ final_of known ∷ []) → known ≡ last
  report-ending known only = sym (final-ending known) ∙ sym (ap ending (only (Quiet ∷ []))) ∙ quiet-end
