-- The one operation for two neighbours does to every stream what the two do.
use Rattle.std.proofs.Common.{◌≡◌, ℕ, zero, suc, ◌+◌, ◌*◌, Bool, true, false, List, [], ◌∷◌, Option, Some, None, refl, arith, ap, sym, subst, ◌∙◌}
use Rattle.std.proofs.Common.{if◌then◌else◌}
use Rattle.std.specs.Prelude.{◌==◌}
use Rattle.std.proofs.lemmas.Bool.{eqb-true}
use Rattle.std.proofs.Math.Dec.{eqb-suc-zero}
use mathlib.Core.Path.{fun_ext}
use Rattle.tox_time.specs.declared.streams.item.Item.{Item}
use Rattle.tox_time.specs.declared.streams.ending.Ending.{Ending}
use Rattle.tox_time.specs.declared.streams.ending.Ending.TheVariants.{StillOpen, Closed as ClosedAt, Reset as ResetAt}
use Rattle.tox_time.specs.streams.Stream.{IsStream}
use Rattle.tox_time.specs.streams.Table.{final_of}
use Rattle.tox_words.specs.Draw.{Draws}
use Rattle.tox_defs.specs.declared.operations.op.Op.{Op}
use Rattle.tox_defs.specs.declared.operations.op.Op.TheVariants.{Delay, Slow, Mute, Cutoff, Limit}
use Rattle.tox_defs.specs.stage.Reaction.{counted, flow}
use Rattle.tox_defs.specs.toxics.Latency.{delay_gives}
use Rattle.tox_defs.specs.toxics.Varied.{varied}
use Rattle.tox_defs.specs.operations.Op.{op_giving, op_reaction, IsOp, EndsInTime}
use Rattle.tox_defs.specs.toxics.Latency.{IsNormal}
use Rattle.tox_defs.proofs.Finals.{IsStream-final}
use Rattle.tox_defs.proofs.OpStreams.{IsStream-op_flow}
use Rattle.tox_defs.proofs.ToxicProofs.Timeout.{flow_from-muted}
use Rattle.tox_compile.specs.Normal.{joined, after_mute}
use Rattle.tox_compile.proofs.Delays.{delays_join_second, delays_join_first}
use Rattle.tox_compile.proofs.Slows.{slows_join}
use Rattle.tox_compile.proofs.Limits.{limits_join}
use Rattle.tox_compile.proofs.Cutoffs.{cutoffs_join}
use Rattle.tox_compile.proofs.Mutes.{flow-after_mute}

-- an operation that does as two do, one after the other
pub record DoesAs (draws : Draws) (first second joint : Op) : Type 0 where
  pub is_op : IsOp joint
  pub same : (items : List Item) → IsStream items → flow (op_reaction joint draws) items
      ≡ flow (op_reaction second draws) (flow (op_reaction first draws) items)

-- where there is one for two, it does as they do
abbrev pub IsJoint : Draws → Op → Op → Option Op → Type 0
IsJoint draws first second None = Unit {0}
IsJoint draws first second (Some joint) = DoesAs draws first second joint

-- without jitter a delay is the same for all chunks
pub giving-fixed : (fixed latency jitter lane until from : ℕ) (draws : Draws) → IsNormal latency jitter → jitter ≡ 0
    → op_giving (Delay fixed latency jitter lane until from) draws ≡ delay_gives (λ _. 1000 * fixed)
giving-fixed fixed latency zero lane until from draws normal none =
    let waits : (chunk : ℕ) → 1000 * (fixed + varied latency 0 (draws lane (1 + chunk))) ≡ 1000 * fixed = λ chunk. omega (arith, normal) in
    ap delay_gives (fun_ext waits)
giving-fixed fixed latency (suc jitter) lane until from draws normal none = absurd (omega arith)

joint_second : (draws : Draws) (fixed latency jitter lane more latency' jitter' lane' : ℕ) → IsNormal latency jitter → IsNormal latency' jitter' → jitter' ≡ 0
    → DoesAs draws (Delay fixed latency jitter lane 0 0) (Delay more latency' jitter' lane' 0 0) (Delay (fixed + more) latency jitter lane 0 0)
joint_second draws fixed latency jitter lane more latency' jitter' lane' normal normal' none = record {
  is_op = normal;
  same = λ items stream.
      let first : List Item = flow (op_reaction (Delay fixed latency jitter lane 0 0) draws) items in
      let whole = delays_join_second (λ chunk. 1000 * (fixed + varied latency jitter (draws lane (1 + chunk)))) (1000 * more)
      (λ chunk. 1000 * (fixed + more + varied latency jitter (draws lane (1 + chunk)))) (λ i. omega arith) items 0 0 0 0 0 0 0 0 0 0 0 (omega arith)
      (omega arith) (omega arith) stream in
      sym (ap (λ giving. flow (counted giving) first) (giving-fixed more latency' jitter' lane' 0 0 draws normal' none) ∙ whole);
}

joint_first : (draws : Draws) (fixed latency jitter lane more latency' jitter' lane' : ℕ) → IsNormal latency jitter → IsNormal latency' jitter' → jitter ≡ 0
    → DoesAs draws (Delay fixed latency jitter lane 0 0) (Delay more latency' jitter' lane' 0 0) (Delay (fixed + more) latency' jitter' lane' 0 0)
joint_first draws fixed latency jitter lane more latency' jitter' lane' normal normal' none = record {
  is_op = normal';
  same = λ items stream.
      let second : List Item → List Item = λ xs. flow (op_reaction (Delay more latency' jitter' lane' 0 0) draws) xs in
      let whole = delays_join_first (1000 * fixed) (λ chunk. 1000 * (more + varied latency' jitter' (draws lane' (1 + chunk))))
      (λ chunk. 1000 * (fixed + more + varied latency' jitter' (draws lane' (1 + chunk)))) (λ i. omega arith) items 0 0 0 0 0 0 0 0 0 0 0 (omega arith)
      (omega arith) (omega arith) stream in
      sym (ap (λ giving. second (flow (counted giving) items)) (giving-fixed fixed latency jitter lane 0 0 draws normal none) ∙ whole);
}

-- two delays, by whether the second has jitter, and whether the first has
joint_delays : (draws : Draws) (fixed latency jitter lane more latency' jitter' lane' : ℕ) (none' none : Bool) → (jitter' == 0) ≡ none' → (jitter == 0) ≡ none
    → IsNormal latency jitter → IsNormal latency' jitter'
    → IsJoint draws (Delay fixed latency jitter lane 0 0) (Delay more latency' jitter' lane' 0 0)
    (if none' then Some (Delay (fixed + more) latency jitter lane 0 0) else if none then Some (Delay (fixed + more) latency' jitter' lane' 0 0) else None)
joint_delays draws fixed latency jitter lane more latency' jitter' lane' true none e' e normal normal' =
    joint_second draws fixed latency jitter lane more latency' jitter' lane' normal normal' (eqb-true jitter' 0 e')
joint_delays draws fixed latency jitter lane more latency' jitter' lane' false true e' e normal normal' =
    joint_first draws fixed latency jitter lane more latency' jitter' lane' normal normal' (eqb-true jitter 0 e)
joint_delays draws fixed latency jitter lane more latency' jitter' lane' false false e' e normal normal' = tt

final-in_time : (end : Ending) → IsStream (final_of end ∷ []) → EndsInTime end
final-in_time StillOpen stream = tt
final-in_time (ClosedAt t) stream = stream.1
final-in_time (ResetAt t) stream = stream.1

-- an ending after a mute is one whose instant is one, since operations give streams for streams
after_mute-in_time : (op : Op) (end : Ending) → IsOp op → EndsInTime end → EndsInTime (after_mute op end)
after_mute-in_time op end fits in_time =
    final-in_time (after_mute op end)
    (subst IsStream (flow-after_mute op (λ _ _. 0) end) (IsStream-op_flow op (λ _ _. 0) (final_of end ∷ []) fits (IsStream-final end in_time)))

joint_mute : (draws : Draws) (end : Ending) (op : Op) → EndsInTime end → IsOp op → DoesAs draws (Mute end) op (Mute (after_mute op end))
joint_mute draws end op in_time fits = record {
  is_op = after_mute-in_time op end fits in_time;
  same = λ items stream.
      flow_from-muted (final_of (after_mute op end)) items 0 0 0 0 0 0 stream
      ∙ sym (flow-after_mute op draws end)
      ∙ sym (ap (λ given. flow (op_reaction op draws) given) (flow_from-muted (final_of end) items 0 0 0 0 0 0 stream));
}

pub is_joint : (draws : Draws) (first second : Op) → IsOp first → IsOp second → IsJoint draws first second (joined first second)
is_joint draws (Delay fixed latency jitter lane (suc until) from) (Delay more latency' jitter' lane' until' from') fits fits' = rw (eqb-suc-zero until) tt
is_joint draws (Delay fixed latency jitter lane zero (suc from)) (Delay more latency' jitter' lane' until' from') fits fits' = rw (eqb-suc-zero from) tt
is_joint draws (Delay fixed latency jitter lane zero zero) (Delay more latency' jitter' lane' (suc until) from') fits fits' = rw (eqb-suc-zero until) tt
is_joint draws (Delay fixed latency jitter lane zero zero) (Delay more latency' jitter' lane' zero (suc from)) fits fits' = rw (eqb-suc-zero from) tt
is_joint draws (Delay fixed latency jitter lane zero zero) (Delay more latency' jitter' lane' zero zero) fits fits' =
    joint_delays draws fixed latency jitter lane more latency' jitter' lane' (jitter' == 0) (jitter == 0) refl refl fits fits'
is_joint draws (Slow millis) (Slow more) fits fits' =
    record {
      is_op = tt;
      same = λ items stream. sym (slows_join (1000 * millis) (1000 * more) (1000 * (millis + more)) (omega arith) items 0 0 0 0 0 0 0 0 0 0 0
          0 0 0 stream);
    }
is_joint draws (Limit bytes) (Limit other) fits fits' = record {
  is_op = tt;
  same = λ items stream.
      sym (limits_join bytes other items 0 0 0 0 0 0 0 0 0 0 0 0 stream);
}
is_joint draws (Cutoff instant) (Cutoff other) fits fits' =
    record { is_op = omega (arith, fits, fits'); same = λ items stream. sym (cutoffs_join instant other items 0 0 0 0 0 0 0 0 0 0 0 0 0 0 stream) }
is_joint draws (Mute end) op fits fits' = joint_mute draws end op fits fits'
is_joint draws first second fits fits' = tt
