-- Past a plan's deadline nothing changes: what comes later finds everything cut off.
use Rattle.std.proofs.Common.{◌≡◌, ℕ, ◌<◌, ◌≤◌, min, if◌then◌else◌, Bool, true, false, List, [], ◌∷◌, ◌++◌, Option, Some, None, refl, ap, ◌∙◌, sym, subst}
use Rattle.std.proofs.Common.{arith, ◌⊎◌, inl, inr}
use Rattle.std.specs.Prelude.{nat_lt}
use Rattle.std.proofs.lemmas.Bool.{le-ltb, ltb-true, ltb-false}
use Rattle.std.proofs.lemmas.Option.{same_Some}
use Rattle.tox_time.specs.Time.{horizon}
use Rattle.tox_time.proofs.StreamLemmas.{final_of_stream}
use Rattle.tox_time.specs.declared.streams.slice.Slice.{Slice}
use Rattle.tox_time.specs.declared.streams.item.Item.{Item}
use Rattle.tox_time.specs.declared.streams.item.Item.TheVariants.{Chunk, Closed, Reset, Quiet}
use Rattle.tox_time.specs.declared.streams.ending.Ending.{Ending}
use Rattle.tox_time.specs.declared.streams.ending.Ending.TheVariants.{StillOpen, Closed as ClosedAt, Reset as ResetAt}
use Rattle.tox_time.specs.streams.Table.{final_of}
use Rattle.tox_time.specs.streams.Stream.{has_final, IsStreamFrom}
use Rattle.tox_words.specs.Draw.{Draws, draws_of}
use Rattle.tox_defs.specs.declared.operations.op.Op.{Op}
use Rattle.tox_defs.specs.declared.operations.op.Op.TheVariants.{Delay, Pace, Slow, Mute, Cutoff, Slicing, Limit, Halt}
use Rattle.tox_defs.specs.declared.operations.op_cursor.OpCursor.{OpCursor}
use Rattle.tox_defs.specs.declared.operations.state.State.{State}
use Rattle.tox_defs.specs.stage.Reaction.{counted, flow_from, state_after}
use Rattle.tox_defs.specs.toxics.Halt.{halt_after, halt_gives, is_before, raised}
use Rattle.tox_defs.specs.toxics.ResetPeer.{cutoff_gives}
use Rattle.tox_defs.specs.operations.Op.{op_giving, op_reaction, is_mute}
use Rattle.tox_defs.specs.operations.OpCursor.{cursor_gives}
use Rattle.tox_defs.proofs.FlowLemmas.{Continues-counted, flow_from-done}
use Rattle.tox_defs.proofs.OpCursors.{rest_of-read, cursor_gives-running}
use Rattle.tox_compile.specs.Meaning.{deadline_of, earlier}
use Rattle.tox_plan.specs.OpCursors.{to_come_from, ops_of, AreNested, AreDrained}
use Rattle.tox_plan.specs.RunnerView.{RunnerView, IsRunning, reader_at, to_come}
use Rattle.tox_plan.proofs.Late.{AreLate, IsLateOp, late-stream, late-flow, final-flow}
use Rattle.tox_plan.proofs.CursorLemmas.{to_come_from-read}
use Rattle.tox_plan.proofs.RunnerOutput.{to_come-unfound, to_come-ended, idle-unfound, idle-drained}

-- so is each of these operations
abbrev pub EachOp : (Op → Type 0) → List Op → Type 0
EachOp Q [] = Unit {0}
EachOp Q (op ∷ ops) = Q op × EachOp Q ops

-- no operation cuts anything off before an instant
abbrev pub AreLateOps : ℕ → List Op → Type 0
AreLateOps d ops = EachOp (IsLateOp d) ops

-- an operation that lets nothing through from an instant on
abbrev pub IsStop : ℕ → Op → Type 0
IsStop d (Cutoff instant) = instant ≡ d
IsStop d (Halt (Some at) after end) = at ≡ d
IsStop d (Mute ending) = Unit {0}
IsStop d op = ⊥

abbrev pub HaveStop : ℕ → List Op → Type 0
HaveStop d [] = ⊥
HaveStop d (op ∷ ops) = IsStop d op ⊎ HaveStop d ops

earlier-late : (d e : ℕ) (op : Op) → d ≤ e → IsLateOp e op → IsLateOp d op
earlier-late d e (Delay fixed latency jitter lane until from) before late = tt
earlier-late d e (Pace rate until from) before late = tt
earlier-late d e (Slow millis) before late = tt
earlier-late d e (Mute ending) before late = tt
earlier-late d e (Cutoff instant) before late = omega (arith, before, late)
earlier-late d e (Slicing average variation micros lane until from) before late = tt
earlier-late d e (Limit bytes) before late = tt
earlier-late d e (Halt None after end) before late = tt
earlier-late d e (Halt (Some at) after end) before late = omega (arith, before, late)

pub earlier-late_ops : (d e : ℕ) (ops : List Op) → d ≤ e → AreLateOps e ops → AreLateOps d ops
earlier-late_ops d e [] before late = tt
earlier-late_ops d e (op ∷ ops) before late = (earlier-late d e op before late.0, earlier-late_ops d e ops before late.1)

late-start : (op : Op) → IsLateOp 0 op
late-start (Delay fixed latency jitter lane until from) = tt
late-start (Pace rate until from) = tt
late-start (Slow millis) = tt
late-start (Mute ending) = tt
late-start (Cutoff instant) = omega arith
late-start (Slicing average variation micros lane until from) = tt
late-start (Limit bytes) = tt
late-start (Halt None after end) = tt
late-start (Halt (Some at) after end) = omega arith

pub late_ops-start : (ops : List Op) → AreLateOps 0 ops
late_ops-start [] = tt
late_ops-start (op ∷ ops) = (late-start op, late_ops-start ops)

earlier-some : (instant : ℕ) (other : Option ℕ) → earlier instant other ≡ None → ⊥
earlier-some instant None none = absurd (cc)
earlier-some instant (Some e) none = absurd (cc)

-- without a deadline no operation cuts anything off
pub late_ops-none : (d : ℕ) (ops : List Op) → deadline_of ops ≡ None → AreLateOps d ops
late_ops-none d [] none = tt
late_ops-none d (Delay fixed latency jitter lane until from ∷ ops) none = (tt, late_ops-none d ops none)
late_ops-none d (Pace rate until from ∷ ops) none = (tt, late_ops-none d ops none)
late_ops-none d (Slow millis ∷ ops) none = (tt, late_ops-none d ops none)
late_ops-none d (Mute ending ∷ ops) none = absurd (cc)
late_ops-none d (Cutoff instant ∷ ops) none = absurd (earlier-some instant (deadline_of ops) none)
late_ops-none d (Slicing average variation micros lane until from ∷ ops) none = (tt, late_ops-none d ops none)
late_ops-none d (Limit bytes ∷ ops) none = (tt, late_ops-none d ops none)
late_ops-none d (Halt None after end ∷ ops) none = (tt, late_ops-none d ops none)
late_ops-none d (Halt (Some at) after end ∷ ops) none = absurd (earlier-some at (deadline_of ops) none)

-- the earliest of an operation that stops everything from an instant on and what the other operations say
module _ (d instant : ℕ) (op : Op) (ops : List Op) (late : (e : ℕ) → e ≤ instant → IsLateOp e op) (stop : instant ≡ d → IsStop d op)
    (others : (e : ℕ) → deadline_of ops ≡ Some e → AreLateOps e ops × HaveStop e ops) where
  first-stop : (other : Option ℕ) → deadline_of ops ≡ other → earlier instant other ≡ Some d → AreLateOps d (op ∷ ops) × HaveStop d (op ∷ ops)
  first-stop None is first = let same : instant ≡ d = same_Some instant d first in ((late d (omega (arith, same)), late_ops-none d ops is), inl (stop same))
  first-stop (Some e) is first = by (nat_lt e instant) refl
    where
      same : min instant e ≡ d
      same = same_Some (min instant e) d first

      later : AreLateOps d ops
      later = earlier-late_ops d e ops (omega (arith, same)) (others e is).0

      by : (b : Bool) → nat_lt e instant ≡ b → AreLateOps d (op ∷ ops) × HaveStop d (op ∷ ops)
      by true below = let less : e < instant = ltb-true e instant below in
          ((late d (omega (arith, same)), later), inr (subst (λ e. HaveStop e ops) (omega (arith, same, less)) (others e is).1))
      by false below = let not_less : instant ≤ e = ltb-false e instant below in
          ((late d (omega (arith, same)), later), inl (stop (omega (arith, same, not_less))))

-- the deadline is the first instant from which on some operation stops everything
pub stop-deadline : (d : ℕ) (ops : List Op) → deadline_of ops ≡ Some d → AreLateOps d ops × HaveStop d ops
stop-deadline d [] is = absurd (cc)
stop-deadline d (Delay fixed latency jitter lane until from ∷ ops) is = let late = stop-deadline d ops is in ((tt, late.0), inr late.1)
stop-deadline d (Pace rate until from ∷ ops) is = let late = stop-deadline d ops is in ((tt, late.0), inr late.1)
stop-deadline d (Slow millis ∷ ops) is = let late = stop-deadline d ops is in ((tt, late.0), inr late.1)
stop-deadline d (Mute ending ∷ ops) is = (subst (λ d. AreLateOps d (Mute ending ∷ ops)) (same_Some 0 d is) (late_ops-start (Mute ending ∷ ops)), inl tt)
stop-deadline d (Cutoff instant ∷ ops) is = first-stop d instant (Cutoff instant) ops (λ e before. before) (λ same. same) (λ e. stop-deadline e ops)
    (deadline_of ops) refl is
stop-deadline d (Slicing average variation micros lane until from ∷ ops) is = let late = stop-deadline d ops is in ((tt, late.0), inr late.1)
stop-deadline d (Limit bytes ∷ ops) is = let late = stop-deadline d ops is in ((tt, late.0), inr late.1)
stop-deadline d (Halt None after end ∷ ops) is = let late = stop-deadline d ops is in ((tt, late.0), inr late.1)
stop-deadline d (Halt (Some at) after end ∷ ops) is = first-stop d at (Halt (Some at) after end) ops (λ e before. before) (λ same. same)
    (λ e. stop-deadline e ops) (deadline_of ops) refl is

pub each-snoc : (Q : Op → Type 0) (ops : List Op) (op : Op) → EachOp Q (ops ++ op ∷ []) → EachOp Q ops × Q op
each-snoc Q [] op each = (tt, each.0)
each-snoc Q (first ∷ ops) op each = let others = each-snoc Q ops op each.1 in ((each.0, others.0), others.1)

stop-snoc : (d : ℕ) (ops : List Op) (op : Op) → HaveStop d (ops ++ op ∷ []) → HaveStop d ops ⊎ IsStop d op
stop-snoc d [] op (inl stop) = inr stop
stop-snoc d [] op (inr none) = absurd none
stop-snoc d (first ∷ ops) op (inl stop) = inl (inl stop)
stop-snoc d (first ∷ ops) op (inr stop) = elim (stop-snoc d ops op stop) [ inl others ↦ inl (inr others) | inr last ↦ inr last ]

-- a cursor that has nothing left gives what its operation gives
gives-drained : (draws : Draws) (start : ℕ) (cursor : OpCursor) (items : List Item) → cursor.stop ≡ start → cursor.ending ≡ None
    → cursor_gives draws start cursor items ≡ flow_from (op_reaction cursor.op draws) cursor.state items
gives-drained draws start cursor items read running =
    cursor_gives-running draws start cursor items running
    ∙ ap (λ rest. flow_from (op_reaction cursor.op draws) cursor.state (rest ++ items)) (rest_of-read start cursor.stop cursor.instant (omega (arith, read)))

-- a late list that has a final stays one through drained cursors that cut nothing off
pub record IsLater (d : ℕ) (items : List Item) : Type 0 where
  pub late : AreLate d items
  pub final : has_final items ≡ true

late-cursors : (d : ℕ) (draws : Draws) (start : ℕ) (cursors : List OpCursor) (source : Slice) (items : List Item) → d ≤ horizon → AreNested start cursors source
    → AreDrained start cursors source
    → AreLateOps d (ops_of cursors) → IsLater d items → IsLater d (to_come_from draws start cursors source items)
late-cursors d draws start [] source items fits nested drained from later =
    subst (λ items. IsLater d items) (sym (to_come_from-read draws start source items drained)) later
late-cursors d draws start (cursor ∷ cursors) source items fits nested drained from later =
    let split = each-snoc (IsLateOp d) (ops_of cursors) cursor.op from in
    let above : IsLater d (to_come_from draws cursor.stop cursors source items) =
    late-cursors d draws cursor.stop cursors source items fits nested.1 drained.2 split.0 later in
    subst (λ items. IsLater d items) (sym (gives-drained draws start cursor _ drained.0 drained.1))
    (record {
      late = late-flow d cursor.op draws fits (nested.0.heard drained.1) split.1 cursor.state _ above.late;
      final = final-flow cursor.op draws cursor.state _ (nested.0.sound.running drained.1) above.final;
    })

-- nothing of a late list comes before the instant
late-before : (d : ℕ) (item : Item) (items : List Item) → AreLate d (item ∷ items) → is_before d item ≡ false
late-before d (Chunk span t) items late = le-ltb t d late.0
late-before d (Closed t) items late = le-ltb t d late.0
late-before d (Reset t) items late = le-ltb t d late.0
late-before d Quiet items late = refl

-- what stops everything from an instant on gives one ending for every later list
stop-giving : (d : ℕ) (op : Op) (draws : Draws) → is_mute op ≡ false → IsStop d op
    → (last : Ending) × ((state : State) (item : Item) → is_before d item ≡ false → op_giving op draws state item ≡ final_of last ∷ [])
stop-giving d (Delay fixed latency jitter lane until from) draws loud stop = absurd stop
stop-giving d (Pace rate until from) draws loud stop = absurd stop
stop-giving d (Slow millis) draws loud stop = absurd stop
stop-giving d (Mute ending) draws loud stop = absurd (cc)
stop-giving d (Cutoff instant) draws loud stop =
    (ResetAt d, λ state item past. ap (λ instant. cutoff_gives instant state item) stop ∙ ap (λ early. (if early then item else Reset d) ∷ []) past)
stop-giving d (Slicing average variation micros lane until from) draws loud stop = absurd stop
stop-giving d (Limit bytes) draws loud stop = absurd stop
stop-giving d (Halt None after end) draws loud stop = absurd stop
stop-giving d (Halt (Some at) after end) draws loud stop = (
  raised end d,
  λ state item past. ap (λ at. halt_gives (Some at) after end state item) stop
      ∙ ap (λ early. if early then halt_after after end state item else (final_of (raised end d) ∷ [])) past,
)

-- it works at every instant
stop-always : (d : ℕ) (op : Op) (draws : Draws) → is_mute op ≡ false → IsStop d op → op_reaction op draws ≡ counted (op_giving op draws)
stop-always d (Delay fixed latency jitter lane until from) draws loud stop = absurd stop
stop-always d (Pace rate until from) draws loud stop = absurd stop
stop-always d (Slow millis) draws loud stop = absurd stop
stop-always d (Mute ending) draws loud stop = absurd (cc)
stop-always d (Cutoff instant) draws loud stop = refl
stop-always d (Slicing average variation micros lane until from) draws loud stop = absurd stop
stop-always d (Limit bytes) draws loud stop = absurd stop
stop-always d (Halt at after end) draws loud stop = refl

done-final : (state : State) (item : Item) (last : Ending) → (state_after state item (final_of last ∷ [])).done ≡ true
done-final state item StillOpen = refl
done-final state item (ClosedAt t) = refl
done-final state item (ResetAt t) = refl

stop-flow : (d : ℕ) (op : Op) (draws : Draws) (state : State) (items : List Item) (last : Ending) → op_reaction op draws ≡ counted (op_giving op draws)
    → ((state : State) (item : Item) → is_before d item ≡ false → op_giving op draws state item ≡ final_of last ∷ [])
    → state.done ≡ false → IsLater d items → flow_from (op_reaction op draws) state items ≡ final_of last ∷ []
stop-flow d op draws state [] last always gives running later = absurd (let none : false ≡ true = later.final in cc)
stop-flow d op draws state (item ∷ items) last always gives running later =
    ap (λ reaction. flow_from reaction state (item ∷ items)) always
    ∙ (Continues-counted (op_giving op draws) state item items (final_of last ∷ []) running (gives state item (late-before d item items later.late))).gives
    ∙ ap (λ more. final_of last ∷ more) (flow_from-done (counted (op_giving op draws)) _ items (done-final state item last))

same-later : (d : ℕ) (draws : Draws) (start : ℕ) (cursors : List OpCursor) (source : Slice) (xs ys : List Item) → d ≤ horizon → AreNested start cursors source
    → AreDrained start cursors source
    → AreLateOps d (ops_of cursors) → HaveStop d (ops_of cursors) → IsLater d xs → IsLater d ys
    → to_come_from draws start cursors source xs ≡ to_come_from draws start cursors source ys
same-later d draws start [] source xs ys fits nested drained from stop later_xs later_ys = absurd stop
same-later d draws start (cursor ∷ cursors) source xs ys fits nested drained from stop later_xs later_ys =
    elim (stop-snoc d (ops_of cursors) cursor.op stop) [
      | inl above ↦ ap (λ items. cursor_gives draws start cursor items)
          (same-later d draws cursor.stop cursors source xs ys fits nested.1 drained.2 split.0 above later_xs later_ys)
      | inr here ↦ cut here xs later_xs ∙ sym (cut here ys later_ys)
    ]
  where
    split : AreLateOps d (ops_of cursors) × IsLateOp d cursor.op
    split = each-snoc (IsLateOp d) (ops_of cursors) cursor.op from

    cut : (here : IsStop d cursor.op) (items : List Item) → IsLater d items
        → to_come_from draws start (cursor ∷ cursors) source items ≡ final_of (stop-giving d cursor.op draws (nested.0.heard drained.1) here).0 ∷ []
    cut here items later =
        let loud = nested.0.heard drained.1 in
        let gives = stop-giving d cursor.op draws loud here in
        gives-drained draws start cursor _ drained.0 drained.1
        ∙ stop-flow d cursor.op draws cursor.state _ gives.0 (stop-always d cursor.op draws loud here) gives.1 (nested.0.sound.running drained.1)
        (late-cursors d draws cursor.stop cursors source items fits nested.1 drained.2 split.0 later)

-- a stream's instants are not beyond the horizon, unless the source is quiet
begins-in-time : (d position since : ℕ) (items : List Item) → d ≤ since → IsStreamFrom position since items → (d ≤ horizon) ⊎ (items ≡ Quiet ∷ [])
begins-in-time d position since [] from stream = absurd stream
begins-in-time d position since (Chunk span t ∷ items) from stream = inl (omega (arith, from, stream.2, stream.3))
begins-in-time d position since (Closed t ∷ items) from stream = inl (omega (arith, from, stream.0, stream.1))
begins-in-time d position since (Reset t ∷ items) from stream = inl (omega (arith, from, stream.0, stream.1))
begins-in-time d position since (Quiet ∷ items) from stream = inr (ap (λ items. Quiet ∷ items) stream)

-- what comes at or after the deadline to an idle runner changes nothing
module _ (runner : RunnerView) (invariant : IsRunning runner) (idle : runner.idle ≡ true) where
  past-running : (d position since : ℕ) (items : List Item) → runner.ending ≡ None → d ≤ horizon → deadline_of (ops_of runner.cursors) ≡ Some d → d ≤ since
      → IsStreamFrom position since items
      → to_come runner items ≡ to_come runner (Quiet ∷ [])
  past-running d position since items running fits is from stream =
      let found = stop-deadline d (ops_of runner.cursors) is in
      let unfound : runner.lookahead ≡ None = idle-unfound runner invariant idle in
      let nested : AreNested runner.position runner.cursors runner.piece =
      subst (λ found. AreNested (reader_at runner.position found) runner.cursors runner.piece) unfound (invariant.nested running) in
      to_come-unfound runner items running unfound
      ∙ same-later d (draws_of runner.drawing) runner.position runner.cursors runner.piece items (Quiet ∷ []) fits nested
      (idle-drained runner invariant idle running) found.0 found.1
      (record { late = late-stream d position since items from stream; final = final_of_stream position since items stream })
      (record { late = tt; final = refl })
      ∙ sym (to_come-unfound runner (Quiet ∷ []) running unfound)

  pub past-deadline : (d position since : ℕ) (items : List Item) → deadline_of (ops_of runner.cursors) ≡ Some d → d ≤ since → IsStreamFrom position since items
      → to_come runner items ≡ to_come runner (Quiet ∷ [])
  past-deadline d position since items is from stream = by runner.ending refl
    where
      by : (ending : Option Ending) → runner.ending ≡ ending → to_come runner items ≡ to_come runner (Quiet ∷ [])
      by (Some ending) ended = to_come-ended runner ending items ended ∙ sym (to_come-ended runner ending (Quiet ∷ []) ended)
      by None running = elim (begins-in-time d position since items from stream) [
        | inl fits ↦ past-running d position since items running fits is from stream
        | inr quiet ↦ ap (λ items. to_come runner items) quiet
      ]
