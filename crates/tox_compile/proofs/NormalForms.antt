-- The normal form means what the applied toxics' operations mean, one after the other.
use Rattle.std.proofs.Common.{◌≡◌, ℕ, ◌*◌, Bool, true, false, List, [], ◌∷◌, Option, Some, None, refl, arith, ap, sym, ◌∙◌, if◌then◌else◌}
use Rattle.std.specs.Prelude.{◌==◌, All, fold}
use Rattle.std.proofs.lemmas.Bool.{and_parts, eqb-true}
use Rattle.std.proofs.lemmas.List.Elements.{All-nil, All-cons, All-head, All-tail}
use Rattle.tox_time.specs.declared.streams.item.Item.{Item}
use Rattle.tox_time.specs.streams.Stream.{IsStream}
use Rattle.tox_time.specs.streams.Table.{final_of}
use Rattle.tox_words.specs.Draw.{Draws}
use Rattle.tox_defs.specs.declared.operations.op.Op.{Op}
use Rattle.tox_defs.specs.declared.operations.op.Op.TheVariants.{Delay, Pace, Slow, Mute, Cutoff, Slicing, Limit, Halt}
use Rattle.tox_defs.specs.chain.Chain.{Toxics, IsChain}
use Rattle.tox_defs.specs.stage.Reaction.{counted, flow, flow_through}
use Rattle.tox_defs.specs.operations.During.{during}
use Rattle.tox_defs.specs.Flow.{chain_draws, chain_flow}
use Rattle.tox_defs.specs.operations.Op.{op_reaction, IsOp}
use Rattle.tox_defs.specs.toxics.Latency.{IsNormal}
use Rattle.tox_defs.proofs.OpStreams.{IsStream-op_flow}
use Rattle.tox_defs.proofs.ToxicProofs.Timeout.{flow_from-muted}
use Rattle.tox_compile.specs.Compiled.{applied_ops}
use Rattle.tox_compile.specs.Meaning.{op_reactions, means}
use Rattle.tox_compile.specs.Normal.{vanishes, joined, one_or_two, with_last, with_op, normal_form}
use Rattle.tox_compile.proofs.Compiling.{means-applied_ops, operations-applied_ops}
use Rattle.tox_compile.proofs.Delays.{delay_vanishes}
use Rattle.tox_compile.proofs.Slows.{slow_vanishes}
use Rattle.tox_compile.proofs.Joins.{IsJoint, giving-fixed, is_joint}

-- what operations give for a list, one after the other
abbrev pub given_by : Draws → List Op → List Item → List Item
given_by draws ops items = flow_through (op_reactions ops draws) items

-- operations that mean these and then one more
pub record TakesIn (draws : Draws) (before : List Op) (op : Op) (after : List Op) : Type 0 where
  pub operations : All IsOp after
  pub same : (items : List Item) → IsStream items → given_by draws after items ≡ flow (op_reaction op draws) (given_by draws before items)

pub IsStream-given_by : (draws : Draws) (ops : List Op) (items : List Item) → All IsOp ops → IsStream items → IsStream (given_by draws ops items)
IsStream-given_by draws [] items fits stream = stream
IsStream-given_by draws (op ∷ ops) items fits stream =
    IsStream-given_by draws ops (flow (op_reaction op draws) items) (All-tail IsOp op ops fits)
    (IsStream-op_flow op draws items (All-head IsOp op ops fits) stream)

takes_one_or_two : (draws : Draws) (last op : Op) (one : Option Op) → IsOp last → IsOp op → IsJoint draws last op one
    → TakesIn draws (last ∷ []) op (one_or_two one last op)
takes_one_or_two draws last op None fits fits' joint =
    record { operations = All-cons IsOp last (op ∷ []) fits (All-cons IsOp op [] fits' (All-nil IsOp)); same = λ items stream. refl }
takes_one_or_two draws last op (Some one) fits fits' joint = record { operations = All-cons IsOp one [] joint.is_op (All-nil IsOp); same = joint.same }

takes_last : (draws : Draws) (ops : List Op) (op : Op) → All IsOp ops → IsOp op → TakesIn draws ops op (with_last ops op)
takes_last draws [] op fits fits' = record { operations = All-cons IsOp op [] fits' (All-nil IsOp); same = λ items stream. refl }
takes_last draws (last ∷ []) op fits fits' =
    let is_last : IsOp last = All-head IsOp last [] fits in takes_one_or_two draws last op (joined last op) is_last fits' (is_joint draws last op is_last fits')
takes_last draws (first ∷ second ∷ ops) op fits fits' =
    let is_first : IsOp first = All-head IsOp first (second ∷ ops) fits in
    let others : TakesIn draws (second ∷ ops) op (with_last (second ∷ ops) op) =
    takes_last draws (second ∷ ops) op (All-tail IsOp first (second ∷ ops) fits) fits' in
    record {
      operations = All-cons IsOp first (with_last (second ∷ ops) op) is_first others.operations;
      same = λ items stream. others.same (flow (op_reaction first draws) items) (IsStream-op_flow first draws items is_first stream);
    }

-- a delay that does nothing
delay_same : (draws : Draws) (fixed latency jitter lane until from : ℕ) (items : List Item) → IsNormal latency jitter → fixed ≡ 0 → jitter ≡ 0 → IsStream items
    → flow (op_reaction (Delay fixed latency jitter lane until from) draws) items ≡ items
delay_same draws fixed latency jitter lane until from items normal none no_jitter stream =
    ap (λ giving. flow (during from until (counted giving)) items) (giving-fixed fixed latency jitter lane until from draws normal no_jitter)
    ∙ delay_vanishes (λ chunk. 1000 * fixed) (λ i. omega arith) from until items 0 0 0 0 0 0 (omega arith) stream

-- what vanishes changes no stream
vanishes_same : (draws : Draws) (op : Op) (items : List Item) → vanishes op ≡ true → IsOp op → IsStream items → flow (op_reaction op draws) items ≡ items
vanishes_same draws (Delay fixed latency jitter lane until from) items e fits stream =
    let none = and_parts (fixed == 0) (jitter == 0) e in delay_same draws fixed latency jitter lane until from items fits (eqb-true fixed 0 none.0)
    (eqb-true jitter 0 none.1) stream
vanishes_same draws (Slow millis) items e fits stream =
    let none : millis ≡ 0 = eqb-true millis 0 e in ap (λ millis. flow (op_reaction (Slow millis) draws) items) none ∙ slow_vanishes items 0 0 0 0 0 0 stream
vanishes_same draws (Pace rate until from) items e fits stream = absurd (cc)
vanishes_same draws (Mute end) items e fits stream = absurd (cc)
vanishes_same draws (Cutoff instant) items e fits stream = absurd (cc)
vanishes_same draws (Slicing average variation micros lane until from) items e fits stream = absurd (cc)
vanishes_same draws (Limit bytes) items e fits stream = absurd (cc)
vanishes_same draws (Halt at after end) items e fits stream = absurd (cc)

takes_by : (draws : Draws) (ops : List Op) (op : Op) (e : Bool) → vanishes op ≡ e → All IsOp ops → IsOp op
    → TakesIn draws ops op (if e then ops else with_last ops op)
takes_by draws ops op true e fits fits' =
    record {
      operations = fits;
      same = λ items stream. sym (vanishes_same draws op (given_by draws ops items) e fits'
          (IsStream-given_by draws ops items fits stream));
    }
takes_by draws ops op false e fits fits' = takes_last draws ops op fits fits'

pub takes_op : (draws : Draws) (ops : List Op) (op : Op) → All IsOp ops → IsOp op → TakesIn draws ops op (with_op ops op)
takes_op draws ops (Mute end) fits fits' = record {
  operations = All-cons IsOp (Mute end) [] fits' (All-nil IsOp);
  same = λ items stream.
      flow_from-muted (final_of end) items 0 0 0 0 0 0 stream
      ∙ sym (flow_from-muted (final_of end) (given_by draws ops items) 0 0 0 0 0 0 (IsStream-given_by draws ops items fits stream));
}
takes_op draws ops (Delay fixed latency jitter lane until from) fits fits' =
    takes_by draws ops (Delay fixed latency jitter lane until from) (vanishes (Delay fixed latency jitter lane until from)) refl fits fits'
takes_op draws ops (Pace rate until from) fits fits' = takes_by draws ops (Pace rate until from) false refl fits fits'
takes_op draws ops (Slow millis) fits fits' = takes_by draws ops (Slow millis) (vanishes (Slow millis)) refl fits fits'
takes_op draws ops (Cutoff instant) fits fits' = takes_by draws ops (Cutoff instant) false refl fits fits'
takes_op draws ops (Slicing average variation micros lane until from) fits fits' =
    takes_by draws ops (Slicing average variation micros lane until from) false refl fits fits'
takes_op draws ops (Limit bytes) fits fits' = takes_by draws ops (Limit bytes) false refl fits fits'
takes_op draws ops (Halt at after end) fits fits' = takes_by draws ops (Halt at after end) false refl fits fits'

-- all taken in, one after the other
given_by-fold : (draws : Draws) (before ops : List Op) (items : List Item) → All IsOp before → All IsOp ops → IsStream items
    → given_by draws (fold with_op before ops) items ≡ given_by draws ops (given_by draws before items)
given_by-fold draws before [] items fits fits' stream = refl
given_by-fold draws before (op ∷ ops) items fits fits' stream =
    let taken = takes_op draws before op fits (All-head IsOp op ops fits') in
    given_by-fold draws (with_op before op) ops items taken.operations (All-tail IsOp op ops fits') stream
    ∙ ap (λ given. given_by draws ops given) (taken.same items stream)

operations-fold : (draws : Draws) (before ops : List Op) → All IsOp before → All IsOp ops → All IsOp (fold with_op before ops)
operations-fold draws before [] fits fits' = fits
operations-fold draws before (op ∷ ops) fits fits' =
    let taken = takes_op draws before op fits (All-head IsOp op ops fits') in
    operations-fold draws (with_op before op) ops taken.operations (All-tail IsOp op ops fits')

-- the normal form means what the chain means
pub means-normal_form : (chain : Toxics) (words : List ℕ) (items : List Item) → IsChain chain → IsStream items
    → means (record { lanes = chain.lanes; ops = normal_form chain words }) words items ≡ chain_flow chain words items
means-normal_form chain words items fits stream =
    given_by-fold (chain_draws chain words) [] (applied_ops chain words) items (All-nil IsOp) (operations-applied_ops chain words fits) stream
    ∙ means-applied_ops chain words items

-- its operations are operations that a plan may have
pub operations-normal_form : (chain : Toxics) (words : List ℕ) → IsChain chain → All IsOp (normal_form chain words)
operations-normal_form chain words fits = operations-fold (chain_draws chain words) [] (applied_ops chain words) (All-nil IsOp)
    (operations-applied_ops chain words fits)
