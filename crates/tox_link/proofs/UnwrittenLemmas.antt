-- Slices that are being written.
use Rattle.std.proofs.Common.{◌≡◌, ℕ, zero, suc, ◌<◌, ◌≤◌, false, List, [], ◌∷◌, ◌++◌, length, length-append, drop, Some, refl, ap, ◌∙◌, sym, subst}
use Rattle.std.proofs.Common.{append_assoc}
use Rattle.std.proofs.Common.{append-nil, arith}
use Rattle.std.specs.Prelude.{get_or, slice_get}
use Rattle.tox_time.specs.declared.streams.item.Item.TheVariants.{Quiet}
use Rattle.tox_time.specs.streams.Table.{slices_table}
use Rattle.tox_plan.proofs.Deliveries.{slices_table-append}
use Rattle.tox_link.specs.declared.direction.unwritten.Unwritten.{Unwritten}
use Rattle.tox_link.specs.declared.notes.LinkEvent.{LinkEvent}
use Rattle.tox_link.specs.declared.notes.LinkEvent.TheVariants.{Wrote}
use Rattle.tox_link.specs.direction.Follows.{AreBegun, AreJoined, IsUpTo, first_start, unsaid}
use Rattle.tox_link.specs.log.Log.{has_source_end, heard, heard_bytes, said, SaysHeard}
use Rattle.tox_link.proofs.Depths.{shallow-front}
use Rattle.tox_link.proofs.Logs.{heard-wrote, heard_bytes-append, said-append}
use Rattle.tox_link.proofs.Sizes.{small-front}

-- Where they stand

pub start-within : (position : ℕ) (slices : List Unwritten) → AreJoined position slices → first_start position slices ≤ position
start-within position [] joined = omega arith
start-within position (first ∷ more) joined = let rest = start-within position more joined.2 in omega (arith, rest, joined.0, joined.1)

-- the first of them, and those behind it
pub record Begins (position : ℕ) (slices : List Unwritten) (first : Unwritten) : Type 0 where
  pub starts : first_start position slices ≡ first.slice.span.start
  pub some : first.slice.span.start < first.slice.span.stop
  pub stops : first.slice.span.stop ≡ first_start position (drop 1 slices)
  pub joined : AreJoined position (drop 1 slices)
  pub within : first.slice.span.stop ≤ position
  pub noted : unsaid slices ≡ Wrote first.slice first.reading ∷ unsaid (drop 1 slices)

pub begins : (position : ℕ) (slices : List Unwritten) (first : Unwritten) → AreJoined position slices → slice_get slices 0 ≡ Some first
    → Begins position slices first
begins position [] first joined is = absurd (cc)
begins position (slice ∷ more) first joined is =
    let same : slice ≡ first = cc in
    let rest = start-within position more joined.2 in
    subst (Begins position (slice ∷ more)) same
    (record { starts = refl; some = joined.0; stops = joined.1; joined = joined.2; within = omega (arith, rest, joined.1); noted = refl })

-- each of them stops by the position
pub within-at : (position : ℕ) (slices : List Unwritten) (nth : ℕ) (default : Unwritten) → AreJoined position slices → nth < length slices
    → (get_or slices nth default).slice.span.stop ≤ position
within-at position [] nth default joined some = absurd (omega (arith, some))
within-at position (first ∷ more) zero default joined some = (begins position (first ∷ more) first joined refl).within
within-at position (first ∷ more) (suc nth) default joined some = within-at position more nth default joined.2 (omega (arith, some))

-- one more slice
pub joined-append : (old new : ℕ) (slices : List Unwritten) (slice : Unwritten) → AreJoined old slices → slice.slice.span.start ≡ old
    → slice.slice.span.start < slice.slice.span.stop → slice.slice.span.stop ≡ new
    → AreJoined new (slices ++ slice ∷ []) × (first_start new (slices ++ slice ∷ []) ≡ first_start old slices)
joined-append old new [] slice joined starts some stops = ((some, stops, tt), starts)
joined-append old new (first ∷ more) slice joined starts some stops =
    let rest = joined-append old new more slice joined.2 starts some stops in
    ((joined.0, joined.1 ∙ sym rest.1, rest.0), refl)

-- where there are none, what is written stops where the next slice starts
pub idle-at : (slices : List Unwritten) (written position : ℕ) → IsUpTo slices written position → slices ≡ [] → written ≡ position
idle-at slices written position up_to idle =
    let start : first_start position slices ≡ position = ap (first_start position) idle in
    omega (arith, start, up_to.from_start, up_to.to_position)

pub idle-up_to : (slices : List Unwritten) (written position : ℕ) → slices ≡ [] → written ≡ position → IsUpTo slices written position
idle-up_to slices written position idle same =
    let start : first_start position slices ≡ position = ap (first_start position) idle in
    record { joined = subst (AreJoined position) (sym idle) tt; from_start = omega (arith, start, same); to_position = omega (arith, same) }

-- The readings at which they were given

pub begun-none : (reported : ℕ → Type 0) (slices : List Unwritten) → slices ≡ [] → AreBegun reported slices
begun-none reported slices none = subst (AreBegun reported) (sym none) tt

-- that of the first
pub begun-first : (reported : ℕ → Type 0) (slices : List Unwritten) (first : Unwritten) → AreBegun reported slices → slice_get slices 0 ≡ Some first
    → reported first.reading × (first.slice.instant ≤ first.reading)
begun-first reported [] first begun is = absurd (cc)
begun-first reported (slice ∷ more) first begun is =
    let same : slice ≡ first = cc in
    subst (λ (slice : Unwritten). reported slice.reading × (slice.slice.instant ≤ slice.reading)) same (begun.0, begun.1)

-- those of the others
pub begun-behind : (reported : ℕ → Type 0) (slices : List Unwritten) → AreBegun reported slices → AreBegun reported (drop 1 slices)
begun-behind reported [] begun = tt
begun-behind reported (first ∷ more) begun = begun.2

pub begun-append : (reported : ℕ → Type 0) (slices more : List Unwritten) → AreBegun reported slices → AreBegun reported more
    → AreBegun reported (slices ++ more)
begun-append reported [] more begun rest = rest
begun-append reported (first ∷ slices) more begun rest = (begun.0, begun.1, begun-append reported slices more begun.2 rest)

-- What is still to be noted of them

pub unsaid-append : (slices more : List Unwritten) → unsaid (slices ++ more) ≡ unsaid slices ++ unsaid more
unsaid-append [] more = refl
unsaid-append (first ∷ slices) more = ap (λ events. Wrote first.slice first.reading ∷ events) (unsaid-append slices more)

-- no source's end is
pub unsaid-open : (slices : List Unwritten) → has_source_end (unsaid slices) ≡ false
unsaid-open [] = refl
unsaid-open (first ∷ more) = unsaid-open more

-- it is not heard
pub heard-unsaid : (log : List LinkEvent) (slices : List Unwritten) → heard (log ++ unsaid slices) ≡ heard log
heard-unsaid log [] = ap heard (append-nil log)
heard-unsaid log (first ∷ more) =
    let one : List LinkEvent = Wrote first.slice first.reading ∷ [] in
    ap heard (sym (append_assoc log one (unsaid more))) ∙ heard-unsaid (log ++ one) more ∙ heard-wrote 0 log first.slice first.reading (Quiet ∷ [])

bytes-unsaid : (slices : List Unwritten) → heard_bytes (unsaid slices) ≡ 0
bytes-unsaid [] = refl
bytes-unsaid (first ∷ more) = bytes-unsaid more

pub heard_bytes-unsaid : (log : List LinkEvent) (slices : List Unwritten) → heard_bytes (log ++ unsaid slices) ≡ heard_bytes log
heard_bytes-unsaid log slices =
    let more = heard_bytes-append log (unsaid slices) in
    let none = bytes-unsaid slices in
    omega (arith, more, none)

-- it is of bytes that were heard
pub said-of_heard : (log : List LinkEvent) (slices : List Unwritten) → SaysHeard (log ++ unsaid slices) → SaysHeard log
said-of_heard log slices all =
    let more = unsaid slices in
    let heard_is = heard_bytes-unsaid log slices in
    let said_is = ap (λ slices. length (slices_table slices)) (said-append log more) ∙ ap length (slices_table-append (said log) (said more))
    ∙ length-append (slices_table (said log)) (slices_table (said more)) in
    record {
      few = omega (arith, heard_is, all.few);
      heard = omega (arith, heard_is, said_is, all.heard);
      shallow = shallow-front [] log _ all.shallow;
      small = small-front log _ all.small;
    }
