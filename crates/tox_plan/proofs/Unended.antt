-- Before its deadline a link hasn't ended whose runner is idle and knows no ending.
use Rattle.std.proofs.Common.{◌≡◌, ◌≢◌, ℕ, zero, suc, ◌<◌, ◌≤◌, Bool, true, false, List, [], ◌∷◌, Option, Some, None, refl, ap, ◌∙◌, sym, subst, arith}
use Rattle.std.specs.Prelude.{nat_lt, if◌then◌else◌}
use Rattle.std.proofs.lemmas.Bool.{or_parts}
use Rattle.tox_time.specs.declared.streams.item.Item.TheVariants.{Closed, Reset, Quiet}
use Rattle.tox_time.specs.declared.streams.slice.Slice.{Slice}
use Rattle.tox_time.specs.declared.streams.ending.Ending.{Ending}
use Rattle.tox_time.specs.declared.streams.ending.Ending.TheVariants.{StillOpen, Closed as ClosedAt, Reset as ResetAt}
use Rattle.tox_time.specs.Time.{horizon}
use Rattle.tox_time.specs.streams.Table.{ending, final_of}
use Rattle.tox_words.specs.Draw.{Draws, draws_of}
use Rattle.tox_defs.specs.declared.operations.op.Op.{Op}
use Rattle.tox_defs.specs.declared.operations.op.Op.TheVariants.{Delay, Pace, Slow, Mute, Cutoff, Slicing, Limit, Halt}
use Rattle.tox_defs.specs.declared.operations.op_cursor.OpCursor.{OpCursor}
use Rattle.tox_defs.specs.declared.operations.state.State.{State}
use Rattle.tox_defs.specs.operations.Op.{IsOp, op_giving, is_mute}
use Rattle.tox_defs.specs.toxics.Halt.{halt_gives, is_before, raised}
use Rattle.tox_defs.proofs.ToxicProofs.Halting.{halt-final}
use Rattle.std.specs.List.{list_any}
use Rattle.tox_defs.specs.operations.OpCursor.{cursor_gives}
use Rattle.tox_compile.specs.Meaning.{deadline_of}
use Rattle.tox_plan.specs.OpCursors.{to_come_from, ops_of, AreNested, AreDrained}
use Rattle.tox_plan.specs.RunnerView.{RunnerView, IsRunning, reader_at, to_come}
use Rattle.tox_plan.specs.Unended.{IsBeforeDeadline, IsOpenAt, IsUnended, leaves_open}
use Rattle.tox_plan.proofs.CursorLemmas.{cursor_gives-final, to_come_from-read}
use Rattle.tox_plan.proofs.Deadlines.{AreLateOps, EachOp, each-snoc, earlier-late_ops, late_ops-none, stop-deadline}
use Rattle.tox_plan.proofs.Endings.{final-ending, giving-final}
use Rattle.tox_plan.proofs.Late.{IsLateOp}
use Rattle.tox_plan.proofs.RunnerOutput.{idle-drained, idle-unfound, to_come-unfound}

-- no operation cuts anything off up to an instant before the deadline
late-before_deadline : (now : ℕ) (ops : List Op) → IsBeforeDeadline now (deadline_of ops) → AreLateOps (suc now) ops
late-before_deadline now ops before = by (deadline_of ops) refl before
  where
    by : (deadline : Option ℕ) → deadline_of ops ≡ deadline → IsBeforeDeadline now deadline → AreLateOps (suc now) ops
    by None is before = late_ops-none (suc now) ops is
    by (Some d) is before = earlier-late_ops (suc now) d ops before (stop-deadline d ops is).0

-- the link stays open, or ends later: a close by the horizon, which a slow close may raise it to
abbrev IsOpenYet : ℕ → Ending → Type 0
IsOpenYet now StillOpen = Unit {0}
IsOpenYet now (ClosedAt t) = (now < t) × (now < horizon)
IsOpenYet now (ResetAt t) = now < t

open-yet : (now : ℕ) (last : Ending) → IsOpenYet now last → IsOpenAt now last
open-yet now StillOpen yet = tt
open-yet now (ClosedAt t) yet = yet.0
open-yet now (ResetAt t) yet = yet

-- a raised ending is open before its instant
open-raised : (now : ℕ) (end : Ending) (at : ℕ) → at ≤ horizon → now < at → IsOpenYet now (raised end at)
open-raised now StillOpen at fits later = tt
open-raised now (ClosedAt end) at fits later = (omega (arith, later), omega (arith, fits, later))
open-raised now (ResetAt end) at fits later = omega (arith, later)

-- of a link that stays open an operation makes one that does, or that ends later
open-still : (now : ℕ) (op : Op) (draws : Draws) (state : State) → is_mute op ≡ false → IsOp op → IsLateOp (suc now) op
    → IsOpenYet now (ending (op_giving op draws state Quiet))
open-still now (Delay fixed latency jitter lane until from) draws state loud fits late = tt
open-still now (Pace rate until from) draws state loud fits late = tt
open-still now (Slow millis) draws state loud fits late = tt
open-still now (Mute last) draws state loud fits late = absurd (cc)
open-still now (Cutoff instant) draws state loud fits late = late
open-still now (Slicing average variation micros lane until from) draws state loud fits late = tt
open-still now (Limit bytes) draws state loud fits late = tt
open-still now (Halt None zero end) draws state loud fits late = tt
open-still now (Halt None (suc bytes) end) draws state loud fits late = tt
open-still now (Halt (Some at) after end) draws state loud fits late = subst (IsOpenYet now) (sym (final-ending (raised end at)))
    (open-raised now end at fits.0 late)

either-open : (now : ℕ) (b : Bool) (one other : Ending) → IsOpenYet now one → IsOpenYet now other → IsOpenYet now (if b then one else other)
either-open now true one other first second = first
either-open now false one other first second = second

open-halted : (now at after : ℕ) (end : Ending) (state : State) (last : Ending) → at ≤ horizon → now < at → IsOpenYet now last
    → IsOpenYet now (ending (halt_gives (Some at) after end state (final_of last)))
open-halted now at after end state last fits late later =
    let before : Bool = is_before at (final_of last) in
    subst (IsOpenYet now) (sym (ap ending (halt-final at after end state last) ∙ final-ending (if before then last else raised end at)))
    (either-open now before last (raised end at) later (open-raised now end at fits late))

-- what ends later still does
open-later : (now : ℕ) (op : Op) (draws : Draws) (state : State) (last : Ending) → last ≢ StillOpen → is_mute op ≡ false → IsOp op → IsLateOp (suc now) op
    → IsOpenYet now last → IsOpenYet now (ending (op_giving op draws state (final_of last)))
open-later now op draws state StillOpen ends loud fits late later = absurd (ends refl)
open-later now (Delay fixed latency jitter lane until from) draws state (ClosedAt t) ends loud fits late later = (omega (arith, later.0, later.1), later.1)
open-later now (Delay fixed latency jitter lane until from) draws state (ResetAt t) ends loud fits late later = omega (arith, later)
open-later now (Pace rate until from) draws state (ClosedAt t) ends loud fits late later = (omega (arith, later.0, later.1), later.1)
open-later now (Pace rate until from) draws state (ResetAt t) ends loud fits late later = omega (arith, later)
open-later now (Slow millis) draws state (ClosedAt t) ends loud fits late later = (omega (arith, later.0, later.1), later.1)
open-later now (Slow millis) draws state (ResetAt t) ends loud fits late later = later
open-later now (Mute last) draws state (ClosedAt t) ends loud fits late later = absurd (cc)
open-later now (Mute last) draws state (ResetAt t) ends loud fits late later = absurd (cc)
open-later now (Cutoff instant) draws state (ClosedAt t) ends loud fits late later = by (nat_lt t instant)
  where
    by : (early : Bool) → IsOpenYet now (ending ((if early then Closed t else Reset instant) ∷ []))
    by true = later
    by false = late
open-later now (Cutoff instant) draws state (ResetAt t) ends loud fits late later = by (nat_lt t instant)
  where
    by : (early : Bool) → IsOpenYet now (ending ((if early then Reset t else Reset instant) ∷ []))
    by true = later
    by false = late
open-later now (Slicing average variation micros lane until from) draws state (ClosedAt t) ends loud fits late later =
    (omega (arith, later.0, later.1), later.1)
open-later now (Slicing average variation micros lane until from) draws state (ResetAt t) ends loud fits late later = omega (arith, later)
open-later now (Limit bytes) draws state (ClosedAt t) ends loud fits late later = later
open-later now (Limit bytes) draws state (ResetAt t) ends loud fits late later = later
open-later now (Halt None zero end) draws state (ClosedAt t) ends loud fits late later = later
open-later now (Halt None zero end) draws state (ResetAt t) ends loud fits late later = later
open-later now (Halt None (suc bytes) end) draws state (ClosedAt t) ends loud fits late later = later
open-later now (Halt None (suc bytes) end) draws state (ResetAt t) ends loud fits late later = later
open-later now (Halt (Some at) after end) draws state (ClosedAt t) ends loud fits late later = open-halted now at after end state (ClosedAt t) fits.0 late later
open-later now (Halt (Some at) after end) draws state (ResetAt t) ends loud fits late later = open-halted now at after end state (ResetAt t) fits.0 late later

open-giving : (now : ℕ) (op : Op) (draws : Draws) (state : State) (last : Ending) → is_mute op ≡ false → IsOp op → IsLateOp (suc now) op → IsOpenYet now last
    → IsOpenYet now (ending (op_giving op draws state (final_of last)))
open-giving now op draws state StillOpen loud fits late open_yet = open-still now op draws state loud fits late
open-giving now op draws state (ClosedAt t) loud fits late open_yet = open-later now op draws state (ClosedAt t) (λ same. cc) loud fits late open_yet
open-giving now op draws state (ResetAt t) loud fits late open_yet = open-later now op draws state (ResetAt t) (λ same. cc) loud fits late open_yet

-- a halt that leaves no link open ends what ends
raised-ends : (end : Ending) (at after : ℕ) → leaves_open (Halt (Some at) after end) ≡ false → raised end at ≢ StillOpen
raised-ends StillOpen at after closes same = absurd (let both : true ≡ false = closes in cc)
raised-ends (ClosedAt end) at after closes same = cc
raised-ends (ResetAt end) at after closes same = cc

either-ends : (b : Bool) (one other : Ending) → one ≢ StillOpen → other ≢ StillOpen → (if b then one else other) ≢ StillOpen
either-ends true one other first second = first
either-ends false one other first second = second

halted-ends : (at after : ℕ) (end : Ending) (state : State) (last : Ending) → leaves_open (Halt (Some at) after end) ≡ false → last ≢ StillOpen
    → ending (halt_gives (Some at) after end state (final_of last)) ≢ StillOpen
halted-ends at after end state last closes ends same =
    let before : Bool = is_before at (final_of last) in
    either-ends before last (raised end at) ends (raised-ends end at after closes)
    (sym (ap ending (halt-final at after end state last) ∙ final-ending (if before then last else raised end at)) ∙ same)

cut-ends : (early : Bool) (instant : ℕ) (last : Ending) → last ≢ StillOpen → ending ((if early then final_of last else Reset instant) ∷ []) ≢ StillOpen
cut-ends true instant last ends same = ends (sym (final-ending last) ∙ same)
cut-ends false instant last ends same = cc

-- what ends still ends, or a cutoff resets it
ends-giving : (op : Op) (draws : Draws) (state : State) (last : Ending) → is_mute op ≡ false → IsOp op → leaves_open op ≡ false → last ≢ StillOpen
    → ending (op_giving op draws state (final_of last)) ≢ StillOpen
ends-giving op draws state StillOpen loud fits closes ends same = ends refl
ends-giving (Mute end) draws state last loud fits closes ends same = absurd (cc)
ends-giving (Cutoff instant) draws state last loud fits closes ends same = cut-ends (is_before instant (final_of last)) instant last ends same
ends-giving (Halt None zero end) draws state last loud fits closes ends same = ends (sym (final-ending last) ∙ same)
ends-giving (Halt (Some at) after end) draws state last loud fits closes ends same = halted-ends at after end state last closes ends same
ends-giving op draws state (ClosedAt t) loud fits closes ends same = cc
ends-giving op draws state (ResetAt t) loud fits closes ends same = cc

-- where none leaves a link open, each doesn't
each-closes : (ops : List Op) → list_any leaves_open ops ≡ false → EachOp (λ op. leaves_open op ≡ false) ops
each-closes [] none = tt
each-closes (op ∷ ops) none = let parts = or_parts (leaves_open op) (list_any leaves_open ops) none in (parts.0, each-closes ops parts.1)

-- what such operations keep of an ending, drained cursors keep
module _ (P : Ending → Type 0) (Q : Op → Type 0) (keeps : (op : Op) (draws : Draws) (state : State) (last : Ending) → is_mute op ≡ false → IsOp op → Q op
    → P last → P (ending (op_giving op draws state (final_of last)))) where
  drained-keeps : (draws : Draws) (start : ℕ) (cursors : List OpCursor) (source : Slice) (end : Ending) → AreNested start cursors source
      → AreDrained start cursors source → EachOp Q (ops_of cursors) → P end
      → (last : Ending) × P last × (to_come_from draws start cursors source (final_of end ∷ []) ≡ final_of last ∷ [])
  drained-keeps draws start [] source end nested drained late is = (end, is, to_come_from-read draws start source (final_of end ∷ []) drained)
  drained-keeps draws start (cursor ∷ cursors) source end nested drained late is =
      let split = each-snoc Q (ops_of cursors) cursor.op late in
      let above = drained-keeps draws cursor.stop cursors source end nested.1 drained.2 split.0 is in
      let last = giving-final cursor.op draws cursor.state above.0 in (
        last.0,
        subst P (ap ending last.1 ∙ final-ending last.0) (keeps cursor.op draws cursor.state above.0 (nested.0.heard drained.1) nested.0.sound.operation split.1
            above.1),
        ap (λ items. cursor_gives draws start cursor items) above.2
            ∙ cursor_gives-final draws start cursor above.0 last.0 drained.0 drained.1 (nested.0.sound.running drained.1) last.1,
      )

module _ (runner : RunnerView) (invariant : IsRunning runner) (idle : runner.idle ≡ true) (unknown : runner.ending ≡ None) where
  unfound : runner.lookahead ≡ None
  unfound = idle-unfound runner invariant idle

  runner-keeps : (P : Ending → Type 0) (Q : Op → Type 0) → ((op : Op) (draws : Draws) (state : State) (last : Ending) → is_mute op ≡ false → IsOp op → Q op
      → P last → P (ending (op_giving op draws state (final_of last))))
      → (end : Ending) → EachOp Q (ops_of runner.cursors) → P end → P (ending (to_come runner (final_of end ∷ [])))
  runner-keeps P Q keeps end late is =
      let nested : AreNested runner.position runner.cursors runner.piece =
      subst (λ found. AreNested (reader_at runner.position found) runner.cursors runner.piece) unfound (invariant.nested unknown) in
      let kept = drained-keeps P Q keeps (draws_of runner.drawing) runner.position runner.cursors runner.piece end nested
      (idle-drained runner invariant idle unknown) late is in
      subst P (sym (ap ending (to_come-unfound runner (final_of end ∷ []) unknown unfound ∙ kept.2) ∙ final-ending kept.0)) kept.1

  pub unended-runner : (now : ℕ) → IsBeforeDeadline now (deadline_of (ops_of runner.cursors)) → IsUnended (ops_of runner.cursors) (to_come runner) now
  unended-runner now before = record {
    quiet = open-yet now _ (runner-keeps (IsOpenYet now) (IsLateOp (suc now)) (open-giving now) StillOpen
        (late-before_deadline now (ops_of runner.cursors) before) tt);
    closed = λ none. runner-keeps (λ last. last ≢ StillOpen) (λ op. leaves_open op ≡ false) ends-giving (ClosedAt now)
        (each-closes (ops_of runner.cursors) none) closed_ends;
  }
    where
      closed_ends : ClosedAt now ≢ StillOpen
      closed_ends same = cc
