-- Operations give nothing earlier than what they take, but for a cutoff or a halt.
use Rattle.std.proofs.Common.{◌≡◌, ℕ, zero, suc, ◌+◌, ◌-◌, ◌*◌, ◌≤◌, max, if◌then◌else◌, Bool, true, false, List, [], ◌∷◌, ◌++◌, None, Some, refl, ap, ◌∙◌, sym}
use Rattle.std.proofs.Common.{subst, arith}
use Rattle.std.specs.Prelude.{nat_lt}
use Rattle.std.specs.Int.{div_ceil}
use Rattle.tox_time.specs.declared.streams.span.Span.{Span}
use Rattle.tox_time.specs.declared.streams.item.Item.{Item}
use Rattle.tox_time.specs.declared.streams.item.Item.TheVariants.{Chunk, Closed, Reset, Quiet}
use Rattle.tox_time.specs.declared.streams.ending.Ending.{Ending}
use Rattle.tox_time.specs.declared.streams.ending.Ending.TheVariants.{StillOpen, Closed as ClosedAt, Reset as ResetAt}
use Rattle.tox_time.specs.Time.{horizon, plus}
use Rattle.tox_time.specs.streams.Stream.{span_len, has_final, IsStreamFrom}
use Rattle.tox_time.specs.streams.Table.{final_of}
use Rattle.tox_time.proofs.StreamLemmas.{has_final-append}
use Rattle.tox_words.specs.Draw.{Draws}
use Rattle.tox_defs.specs.declared.operations.op.Op.{Op}
use Rattle.tox_defs.specs.declared.operations.op.Op.TheVariants.{Delay, Pace, Slow, Mute, Cutoff, Slicing, Limit, Halt}
use Rattle.tox_defs.specs.declared.operations.state.State.{State}
use Rattle.tox_defs.specs.stage.Reaction.{Answer, counted, flow_from, react}
use Rattle.tox_defs.specs.operations.During.{is_outside, uncounted_answer}
use Rattle.tox_defs.specs.toxics.Ordered.{in_order}
use Rattle.tox_defs.specs.toxics.FirstBytes.{first_bytes}
use Rattle.tox_defs.specs.toxics.Pieces.{leave, pieces_of}
use Rattle.tox_defs.specs.toxics.Halt.{halt_after, is_before, raised}
use Rattle.tox_defs.specs.toxics.Varied.{varied}
use Rattle.tox_defs.specs.operations.Op.{op_from, op_giving, op_reaction, op_until, is_mute}
use Rattle.tox_defs.proofs.FlowLemmas.{react-running}
use Rattle.tox_defs.proofs.Windows.{during-inside, is_outside-final}
use Rattle.tox_plan.proofs.Endings.{giving-final}

-- nothing in the list comes before an instant
abbrev pub AreLate : ℕ → List Item → Type 0
AreLate d [] = Unit {0}
AreLate d (Chunk span t ∷ items) = (d ≤ t) × AreLate d items
AreLate d (Closed t ∷ items) = (d ≤ t) × AreLate d items
AreLate d (Reset t ∷ items) = (d ≤ t) × AreLate d items
AreLate d (Quiet ∷ items) = AreLate d items

-- a stream that begins then
pub late-stream : (d position since : ℕ) (items : List Item) → d ≤ since → IsStreamFrom position since items → AreLate d items
late-stream d position since [] from stream = absurd stream
late-stream d position since (Chunk span t ∷ items) from stream = (
  omega (arith, from, stream.2),
  late-stream d span.stop t items (omega (arith, from, stream.2)) stream.4,
)
late-stream d position since (Closed t ∷ items) from stream = (omega (arith, from, stream.0), subst (λ items. AreLate d items) (sym stream.2) tt)
late-stream d position since (Reset t ∷ items) from stream = (omega (arith, from, stream.0), subst (λ items. AreLate d items) (sym stream.2) tt)
late-stream d position since (Quiet ∷ items) from stream = subst (λ items. AreLate d items) (sym stream) tt

late-append : (d : ℕ) (xs ys : List Item) → AreLate d xs → AreLate d ys → AreLate d (xs ++ ys)
late-append d [] ys late others = others
late-append d (Chunk span t ∷ xs) ys late others = (late.0, late-append d xs ys late.1 others)
late-append d (Closed t ∷ xs) ys late others = (late.0, late-append d xs ys late.1 others)
late-append d (Reset t ∷ xs) ys late others = (late.0, late-append d xs ys late.1 others)
late-append d (Quiet ∷ xs) ys late others = late-append d xs ys late others

late-head : (d : ℕ) (item : Item) (items : List Item) → AreLate d (item ∷ items) → AreLate d (item ∷ [])
late-head d (Chunk span t) items late = (late.0, tt)
late-head d (Closed t) items late = (late.0, tt)
late-head d (Reset t) items late = (late.0, tt)
late-head d Quiet items late = tt

late-tail : (d : ℕ) (item : Item) (items : List Item) → AreLate d (item ∷ items) → AreLate d items
late-tail d (Chunk span t) items late = late.1
late-tail d (Closed t) items late = late.1
late-tail d (Reset t) items late = late.1
late-tail d Quiet items late = late

late-in_order : (d since : ℕ) (item : Item) → AreLate d (item ∷ []) → AreLate d (in_order since item ∷ [])
late-in_order d since (Chunk span t) late = (omega (arith, late.0), tt)
late-in_order d since (Closed t) late = (omega (arith, late.0), tt)
late-in_order d since (Reset t) late = (omega (arith, late.0), tt)
late-in_order d since Quiet late = tt

late-leave : (d : ℕ) (wait : ℕ → ℕ) (since t : ℕ) (spans : List Span) → d ≤ horizon → d ≤ t → AreLate d (leave wait since t spans)
late-leave d wait since t [] fits late = tt
late-leave d wait since t (span ∷ spans) fits late =
    (omega (arith, fits, late), late-leave d wait (plus (max since t) (wait (span_len span))) t spans fits late)

late-first_bytes : (d n : ℕ) (span : Span) (t : ℕ) (end : Ending) → d ≤ t → AreLate d (final_of end ∷ [])
    → AreLate d (first_bytes n span t ++ final_of end ∷ [])
late-first_bytes d zero span t end late then_late = then_late
late-first_bytes d (suc n) span t end late then_late = (late, then_late)

late-raised : (d : ℕ) (end : Ending) (t : ℕ) → d ≤ t → AreLate d (final_of (raised end t) ∷ [])
late-raised d StillOpen t late = tt
late-raised d (ClosedAt end) t late = (omega (arith, late), tt)
late-raised d (ResetAt end) t late = (omega (arith, late), tt)

late-either : (d : ℕ) (b : Bool) (xs ys : List Item) → AreLate d xs → AreLate d ys → AreLate d (if b then xs else ys)
late-either d true xs ys first second = first
late-either d false xs ys first second = second

late-cut_off : (d instant : ℕ) (b : Bool) (item : Item) → d ≤ instant → AreLate d (item ∷ []) → AreLate d ((if b then item else Reset instant) ∷ [])
late-cut_off d instant true item from late = late
late-cut_off d instant false item from late = (from, tt)

-- what a halt lets pass, and its ending behind that
late-halt_after : (d after : ℕ) (end : Ending) (state : State) (item : Item) → AreLate d (item ∷ []) → AreLate d (halt_after after end state item)
late-halt_after d zero end state item late = late
late-halt_after d (suc bytes) end state (Chunk span t) late =
    late-either d (nat_lt (span_len span) (suc bytes - state.passed)) (Chunk span t ∷ [])
    (first_bytes (suc bytes - state.passed) span t ++ (final_of (raised end t) ∷ [])) late
    (late-first_bytes d (suc bytes - state.passed) span t (raised end t) late.0 (late-raised d end t late.0))
late-halt_after d (suc bytes) end state (Closed t) late = late
late-halt_after d (suc bytes) end state (Reset t) late = late
late-halt_after d (suc bytes) end state Quiet late = tt

-- an operation that cuts nothing off before an instant
abbrev pub IsLateOp : ℕ → Op → Type 0
IsLateOp d (Cutoff instant) = d ≤ instant
IsLateOp d (Halt (Some at) after end) = d ≤ at
IsLateOp d op = Unit {0}

-- what an operation gives for an item
late-giving : (d : ℕ) (op : Op) (draws : Draws) (state : State) (item : Item) → d ≤ horizon → is_mute op ≡ false → IsLateOp d op → AreLate d (item ∷ [])
    → AreLate d (op_giving op draws state item)
late-giving d (Delay fixed latency jitter lane until from) draws state (Chunk span t) fits loud uncut late = (omega (arith, fits, late.0), tt)
late-giving d (Delay fixed latency jitter lane until from) draws state (Closed t) fits loud uncut late = late-in_order d state.previous (Closed t) late
late-giving d (Delay fixed latency jitter lane until from) draws state (Reset t) fits loud uncut late = late-in_order d state.previous (Reset t) late
late-giving d (Delay fixed latency jitter lane until from) draws state Quiet fits loud uncut late = tt
late-giving d (Pace rate until from) draws state (Chunk span t) fits loud uncut late =
    late-leave d (λ n. div_ceil (1000 * n) rate) state.previous t (pieces_of (λ _. 100 * rate) 0 span) fits late.0
late-giving d (Pace rate until from) draws state (Closed t) fits loud uncut late = late-in_order d state.previous (Closed t) late
late-giving d (Pace rate until from) draws state (Reset t) fits loud uncut late = late-in_order d state.previous (Reset t) late
late-giving d (Pace rate until from) draws state Quiet fits loud uncut late = tt
late-giving d (Slow millis) draws state (Chunk span t) fits loud uncut late = late
late-giving d (Slow millis) draws state (Closed t) fits loud uncut late = (omega (arith, fits, late.0), tt)
late-giving d (Slow millis) draws state (Reset t) fits loud uncut late = late
late-giving d (Slow millis) draws state Quiet fits loud uncut late = tt
late-giving d (Mute ending) draws state item fits loud uncut late = absurd (cc)
late-giving d (Cutoff instant) draws state item fits loud uncut late = late-cut_off d instant (is_before instant item) item uncut late
late-giving d (Slicing average variation micros lane until from) draws state (Chunk span t) fits loud uncut late =
    late-leave d (λ _. micros) state.previous t (pieces_of (λ piece. varied average variation (draws lane (1 + piece))) state.pieces span) fits late.0
late-giving d (Slicing average variation micros lane until from) draws state (Closed t) fits loud uncut late = late-in_order d state.previous (Closed t) late
late-giving d (Slicing average variation micros lane until from) draws state (Reset t) fits loud uncut late = late-in_order d state.previous (Reset t) late
late-giving d (Slicing average variation micros lane until from) draws state Quiet fits loud uncut late = tt
late-giving d (Limit bytes) draws state (Chunk span t) fits loud uncut late =
    late-either d (nat_lt (span_len span) (bytes - state.passed)) (Chunk span t ∷ []) (first_bytes (bytes - state.passed) span t ++ (Closed t ∷ [])) late
    (late-first_bytes d (bytes - state.passed) span t (ClosedAt t) late.0 (late.0, tt))
late-giving d (Limit bytes) draws state (Closed t) fits loud uncut late = late
late-giving d (Limit bytes) draws state (Reset t) fits loud uncut late = late
late-giving d (Limit bytes) draws state Quiet fits loud uncut late = tt
late-giving d (Halt None after end) draws state item fits loud uncut late = late-halt_after d after end state item late
late-giving d (Halt (Some at) after end) draws state item fits loud uncut late =
    late-either d (is_before at item) (halt_after after end state item) (final_of (raised end at) ∷ []) (late-halt_after d after end state item late)
    (late-raised d end at uncut)

module _ (d : ℕ) (op : Op) (draws : Draws) (fits : d ≤ horizon) (loud : is_mute op ≡ false) (uncut : IsLateOp d op) where
  late-answer : (outside : Bool) (state : State) (item : Item) → AreLate d (item ∷ [])
      → AreLate d (if outside then uncounted_answer state item else counted (op_giving op draws) state item).given
  late-answer true state item late = late-in_order d state.previous item late
  late-answer false state item late = late-giving d op draws state item fits loud uncut late

  late-step : (done : Bool) (state : State) (item : Item) → AreLate d (item ∷ [])
      → AreLate d (if done then (record { state = state; given = [] }) else op_reaction op draws state item).given
  late-step true state item late = tt
  late-step false state item late = late-answer (is_outside (op_from op) (op_until op) item) state item late

  -- what an operation gives for a list
  pub late-flow : (state : State) (items : List Item) → AreLate d items → AreLate d (flow_from (op_reaction op draws) state items)
  late-flow state [] late = tt
  late-flow state (item ∷ items) late =
      late-append d (react (op_reaction op draws) state item).given _ (late-step state.done state item (late-head d item items late))
      (late-flow (react (op_reaction op draws) state item).state items (late-tail d item items late))

has_final-early : (xs ys : List Item) → has_final xs ≡ true → has_final (xs ++ ys) ≡ true
has_final-early [] ys final = absurd (cc)
has_final-early (Chunk span t ∷ xs) ys final = has_final-early xs ys final
has_final-early (Closed t ∷ xs) ys final = refl
has_final-early (Reset t ∷ xs) ys final = refl
has_final-early (Quiet ∷ xs) ys final = refl

has_final-ending : (ending : Ending) → has_final (final_of ending ∷ []) ≡ true
has_final-ending StillOpen = refl
has_final-ending (ClosedAt t) = refl
has_final-ending (ResetAt t) = refl

module _ (op : Op) (draws : Draws) where
  final-ending : (state : State) (ending : Ending) → has_final (op_reaction op draws state (final_of ending)).given ≡ true
  final-ending state ending =
      ap (λ (answer : Answer). has_final answer.given) (during-inside (op_from op) (op_until op) (counted (op_giving op draws)) state (final_of ending)
      (is_outside-final (op_from op) (op_until op) ending))
      ∙ ap has_final (giving-final op draws state ending).1 ∙ has_final-ending (giving-final op draws state ending).0

  final-giving : (state : State) (ending : Ending) (items : List Item) → state.done ≡ false
      → has_final (flow_from (op_reaction op draws) state (final_of ending ∷ items)) ≡ true
  final-giving state ending items running =
      ap (λ (answer : Answer). has_final (answer.given ++ flow_from (op_reaction op draws) answer.state items))
      (react-running (op_reaction op draws) state (final_of ending) running)
      ∙ has_final-early (op_reaction op draws state (final_of ending)).given _ (final-ending state ending)

  -- who gives no final for a chunk goes on
  done-chunk : (outside : Bool) (state : State) (span : Span) (t : ℕ) → state.done ≡ false
      → (if outside then uncounted_answer state (Chunk span t) else counted (op_giving op draws) state (Chunk span t)).state.done
      ≡ has_final (if outside then uncounted_answer state (Chunk span t) else counted (op_giving op draws) state (Chunk span t)).given
  done-chunk true state span t running = running
  done-chunk false state span t running = refl

  final-step : (state : State) (item : Item) (items : List Item) → state.done ≡ false → (ends : Bool) → has_final (op_reaction op draws state item).given ≡ ends
      → (ends ≡ false → has_final (flow_from (op_reaction op draws) (op_reaction op draws state item).state items) ≡ true)
      → has_final (flow_from (op_reaction op draws) state (item ∷ items)) ≡ true
  final-step state item items running true is others =
      ap (λ (answer : Answer). has_final (answer.given ++ flow_from (op_reaction op draws) answer.state items))
      (react-running (op_reaction op draws) state item running)
      ∙ has_final-early (op_reaction op draws state item).given _ is
  final-step state item items running false is others =
      ap (λ (answer : Answer). has_final (answer.given ++ flow_from (op_reaction op draws) answer.state items))
      (react-running (op_reaction op draws) state item running)
      ∙ has_final-append (op_reaction op draws state item).given _ is
      ∙ others refl

  -- a final brings a final
  pub final-flow : (state : State) (items : List Item) → state.done ≡ false → has_final items ≡ true
      → has_final (flow_from (op_reaction op draws) state items) ≡ true
  final-flow state [] running final = absurd (cc)
  final-flow state (Closed t ∷ items) running final = final-giving state (ClosedAt t) items running
  final-flow state (Reset t ∷ items) running final = final-giving state (ResetAt t) items running
  final-flow state (Quiet ∷ items) running final = final-giving state StillOpen items running
  final-flow state (Chunk span t ∷ items) running final =
      let answer : Answer = op_reaction op draws state (Chunk span t) in
      let done = done-chunk (is_outside (op_from op) (op_until op) (Chunk span t)) state span t running in
      final-step state (Chunk span t) items running (has_final answer.given) refl (λ none. final-flow answer.state items (done ∙ none) final)
