-- The log of a link that is carried, step by step.
use Rattle.std.proofs.Common.{◌≡◌, ℕ, ◌+◌, ◌≤◌, ◌⊎◌, Bool, true, false, List, [], ◌∷◌, ◌++◌, length, length-append, replicate, None, refl, ap, ◌∙◌, sym, subst}
use Rattle.std.proofs.Common.{append-nil, arith, Option, Some}
use Rattle.std.specs.Prelude.{is_some, ◌||◌, nat_le, if◌then◌else◌}
use Rattle.std.proofs.lemmas.Bool.{leb-true}
use Rattle.tox_time.specs.declared.streams.ending.Ending.{Ending}
use Rattle.tox_time.specs.declared.streams.ending.Ending.TheVariants.{StillOpen, Closed as ClosedAt, Reset as ResetAt}
use Rattle.std.proofs.lemmas.List.{length-replicate}
use Rattle.tox_time.specs.declared.streams.item.Item.{Item}
use Rattle.tox_time.specs.declared.streams.item.Item.TheVariants.{Quiet}
use Rattle.tox_time.specs.declared.streams.slice.Slice.{Slice}
use Rattle.tox_time.specs.streams.Stream.{IsStream, span_len}
use Rattle.tox_time.specs.streams.Table.{table, slices_table}
use Rattle.tox_link.specs.declared.ring.inbox.Inbox.{Inbox}
use Rattle.tox_link.specs.declared.notes.LinkEvent.{LinkEvent}
use Rattle.tox_link.specs.declared.carrying.writer_side.WriterSide.{WriterSide}
use Rattle.tox_link.specs.declared.link_core.act.Act.{Act}
use Rattle.tox_link.specs.declared.link_core.act.Act.TheVariants.{Write, WaitUntil, WaitForInput, End}
use Rattle.tox_link.specs.log.Carried.{Carried, KeepsCarried, ReadsOn, noted_of}
use Rattle.tox_link.specs.link_core.Core.{CoreView, TakesSlice, remaining_output, core_position, core_deadline, core_ending, next_instant}
use Rattle.tox_link.specs.link_core.Acts.{Answered, IsSliceAct, end_act, idle_act}
use Rattle.tox_link.specs.Hangups.{IsResetAt}
use Rattle.tox_link.specs.log.Log.{heard, said, has_source_end}
use Rattle.tox_link.specs.log.Logged.{HasEnded, IsReached, Logged, KeepsLogged, LogsFrom, CutsOff, CutsOffFrom}
use Rattle.tox_link.specs.carrying.Side.{IsFresh}
use Rattle.tox_link.specs.Sources.{read_end_of}
use Rattle.tox_link.proofs.Logs.{gapless-bytes, has_source_end-append, end-same, by-later}
use Rattle.tox_link.proofs.StepLemmas.{start-carried, says-heard}

pub or-false_left : (b c : Bool) → b ≡ false → (b || c) ≡ c
or-false_left true c none = cc
or-false_left false c none = refl

-- events without the source's end
pub logged-on : (reported : ℕ → Type 0) (old new : WriterSide) (more : List LinkEvent) → KeepsCarried reported old.core more new.core
    → has_source_end more ≡ false → new.source ≡ old.source → KeepsLogged reported old more new
logged-on reported old new more keeps none source means log logged = record {
  carried = keeps means log logged.carried;
  closed = end-same log more none ∙ logged.closed ∙ ap (λ source. is_some (read_end_of source)) (sym source);
}

-- the source's end, where it had not come
pub logged-end : (reported : ℕ → Type 0) (old new : WriterSide) (more : List LinkEvent) → KeepsCarried reported old.core more new.core
    → read_end_of old.source ≡ None
    → has_source_end more ≡ is_some (read_end_of new.source) → KeepsLogged reported old more new
logged-end reported old new more keeps none same_so means log logged = record {
  carried = keeps means log logged.carried;
  closed = has_source_end-append log more ∙ or-false_left (has_source_end log) (has_source_end more) (logged.closed ∙ ap is_some none) ∙ same_so;
}

-- nothing was noted
pub logged-same : (reported : ℕ → Type 0) (old new : WriterSide) → new.core ≡ old.core → new.source ≡ old.source → KeepsLogged reported old [] new
logged-same reported old new core source means log logged = subst (Logged means reported new) (sym (append-nil log)) (record {
  carried = subst (λ core. Carried means reported core log) (sym core) logged.carried;
  closed = logged.closed ∙ ap (λ source. is_some (read_end_of source)) (sym source);
})

-- the ring has no part in the log
pub keeps-inbox : (reported : ℕ → Type 0) (old new : WriterSide) (inbox : Inbox) (more : List LinkEvent)
    → KeepsLogged reported (record old { inbox = inbox }) more new → KeepsLogged reported old more new
keeps-inbox reported old new inbox more keeps means log logged = keeps means log (record { carried = logged.carried; closed = logged.closed })

none-noted : (act : Act) (now : ℕ) → has_source_end (noted_of act now) ≡ false
none-noted (Write slice) now = refl
none-noted (WaitUntil t) now = refl
none-noted WaitForInput now = refl
none-noted (End last) now = refl

-- the core answered so
pub logged-act : (reported : ℕ → Type 0) (old new : WriterSide) (core : CoreView) (act shape : Act) (now : ℕ)
    → KeepsCarried reported old.core (noted_of act now) core → act ≡ shape → new.core ≡ core → new.source ≡ old.source
    → KeepsLogged reported old (noted_of shape now) new
logged-act reported old new core act shape now keeps is same source =
    logged-on reported old new (noted_of shape now) (subst (λ core. KeepsCarried reported old.core (noted_of shape now) core) (sym same)
    (subst (λ act. KeepsCarried reported old.core (noted_of act now) core) is keeps)) (none-noted shape now) source

-- what is said is in what the plan means
pub said-within : (means : List Item → List Item) (reported : ℕ → Type 0) (core : CoreView) (log : List LinkEvent) → Carried means reported core log
    → length (table (means (heard log))) ≡ core_position core + length (table (remaining_output core (Quiet ∷ [])))
said-within means reported core log carried =
    let whole = ap length (carried.tables (Quiet ∷ []) refl) in
    let parts = length-append (slices_table (said log)) (table (remaining_output core (Quiet ∷ []))) in
    let said_is = gapless-bytes 0 (said log) (core_position core) carried.gapless in
    omega (arith, whole, parts, said_is)

-- the link broke off before a slice
pub cut-here : (reported : ℕ → Type 0) (old : WriterSide) (written : ℕ) → written ≡ core_position old.core → CutsOff reported old written
cut-here reported old written at means log logged =
    let within = said-within means reported old.core log logged.carried in
    record {
      faithful = logged.carried.faithful;
      few = omega (arith, within, at);
      of_heard = says-heard means reported old.core log logged.carried;
      within =
          omega (arith, at, logged.carried.arrived, logged.carried.bytes);
    }

-- it broke off in a slice
pub cut-within : (reported : ℕ → Type 0) (old : WriterSide) (core : CoreView) (slice : Slice) (written : ℕ) → TakesSlice old.core core slice
    → core.bytes ≡ old.core.bytes → written ≤ slice.span.stop → CutsOff reported old written
cut-within reported old core slice written takes same few means log logged =
    let within = said-within means reported old.core log logged.carried in
    let next = ap length (takes.tables (Quiet ∷ [])) in
    let parts = length-append (replicate (span_len slice.span) slice.instant) (table (remaining_output core (Quiet ∷ []))) in
    let part = length-replicate (span_len slice.span) slice.instant in
    record {
      faithful = logged.carried.faithful;
      few = omega (arith, within, next, parts, part, few, takes.starts, takes.within.some);
      of_heard =
          says-heard means reported old.core log logged.carried;
      within = omega (arith, few, takes.arrived, same, logged.carried.bytes);
    }

-- nothing was heard yet
pub logged-fresh : (means : List Item → List Item) (reported : ℕ → Type 0) (side : WriterSide) → IsFresh side
    → ((items : List Item) → IsStream items → remaining_output side.core items ≡ means items) → Logged means reported side []
logged-fresh means reported side fresh output = record {
  carried = start-carried means reported side.core fresh.bytes fresh.latest fresh.position fresh.none_kept output;
  closed = sym (ap (λ source. is_some (read_end_of source)) fresh.source);
}

-- the last reading is the clock's
pub logged-read : (reported : ℕ → Type 0) (old new : WriterSide) (log : List LinkEvent) → IsFresh old → LogsFrom reported old log new
    → (new.core.latest ≡ 0) ⊎ reported new.core.latest
logged-read reported old new log fresh logs = (logs (remaining_output old.core)
    (logged-fresh (remaining_output old.core) reported old fresh (λ items stream. refl))).carried.read

-- a link that broke off is reset at its last reading
pub resets-on : (reported : ℕ → Type 0) (first old : WriterSide) (log : List LinkEvent) (t : ℕ) → IsFresh first → LogsFrom reported first log old
    → ReadsOn reported old.core.latest t → IsResetAt reported log t
resets-on reported first old log t fresh logs reads =
    let logged = logs (remaining_output first.core) (logged-fresh (remaining_output first.core) reported first fresh (λ items stream. refl)) in
    record { read = reads.read; by = by-later old.core.latest t log reads.later logged.carried.by }

-- two runs of events one after the other
pub logs-on : (reported : ℕ → Type 0) (first old new : WriterSide) (log more : List LinkEvent) → LogsFrom reported first log old
    → KeepsLogged reported old more new → LogsFrom reported first (log ++ more) new
logs-on reported first old new log more logs keeps means start = keeps means log (logs means start)

pub cuts-on : (reported : ℕ → Type 0) (first old : WriterSide) (log : List LinkEvent) (written : ℕ) → LogsFrom reported first log old
    → CutsOff reported old written → CutsOffFrom reported first log written
cuts-on reported first old log written logs cuts means start = cuts means log (logs means start)

-- an end that is answered is reached, and stays open only behind the source's end
module _ (last : Ending) (now : ℕ) where
  reached-closed : (ended : Bool) (t : ℕ) (test : Bool) → nat_le t now ≡ test → End last ≡ (if test then End (ClosedAt t) else WaitUntil t)
      → IsReached now last × (last ≡ StillOpen → ended ≡ true)
  reached-closed ended t true is same = let its : last ≡ ClosedAt t = cc in (subst (IsReached now) (sym its) (leb-true t now is), λ still. absurd (cc))
  reached-closed ended t false is same = absurd (cc)

  reached-reset : (ended : Bool) (t : ℕ) (test : Bool) → nat_le t now ≡ test → End last ≡ (if test then End (ResetAt t) else WaitUntil t)
      → IsReached now last × (last ≡ StillOpen → ended ≡ true)
  reached-reset ended t true is same = let its : last ≡ ResetAt t = cc in (subst (IsReached now) (sym its) (leb-true t now is), λ still. absurd (cc))
  reached-reset ended t false is same = absurd (cc)

  reached-by : (ended : Bool) (ending : Ending) → End last ≡ end_act ended now ending → IsReached now last × (last ≡ StillOpen → ended ≡ true)
  reached-by true StillOpen same = let its : last ≡ StillOpen = cc in (subst (IsReached now) (sym its) tt, λ still. refl)
  reached-by false StillOpen same = absurd (cc)
  reached-by ended (ClosedAt t) same = reached-closed ended t (nat_le t now) refl same
  reached-by ended (ResetAt t) same = reached-reset ended t (nat_le t now) refl same

  reached-idle : (ended : Bool) (deadline : Option ℕ) (ending : Option Ending) → End last ≡ idle_act ended now deadline ending
      → IsReached now last × (last ≡ StillOpen → ended ≡ true)
  reached-idle ended None None same = absurd (cc)
  reached-idle ended (Some t) None same = absurd (cc)
  reached-idle ended deadline (Some ending) same = reached-by ended ending same

-- a core that answers an end has ended so
pub ended-so : (reported : ℕ → Type 0) (old new : CoreView) (now : ℕ) (act : Act) (last : Ending) (source_ended : Bool) → Answered old new now act
    → act ≡ End last → reported now → (source_ended ≡ false → old.ended ≡ false)
    → HasEnded reported new source_ended last
ended-so reported old new now act last source_ended answered is says going =
    let said = reached-idle last now old.ended (core_deadline old) (core_ending new)
    (sym is ∙ answered.idle (none (next_instant (remaining_output old (Quiet ∷ []))) refl)) in
    record {
      only = answered.over last is;
      says = subst reported (sym answered.latest) says;
      reached = subst (λ t. IsReached t last) (sym answered.latest) said.0;
      stays_open = λ still. closed source_ended going (said.1 still);
    }
  where
    none : (next : Option ℕ) → next_instant (remaining_output old (Quiet ∷ [])) ≡ next → next_instant (remaining_output old (Quiet ∷ [])) ≡ None
    none None found = found
    none (Some t) found = absurd (subst (IsSliceAct t now) is (answered.slice t found))

    closed : (ended : Bool) → (ended ≡ false → old.ended ≡ false) → old.ended ≡ true → ended ≡ true
    closed true going over = refl
    closed false going over = let still = going refl in absurd (cc)
