-- At the loop's end the operations are the normal form.
use Rattle.std.proofs.Common.{[], ◌+◌, ◌<◌, ◌∙◌, ap, map, sym, subst, arith, refl}
use Rattle.std.specs.Prelude.{All, fold}
use Rattle.tox_defs.specs.Flow.{IsPlaced}
use Rattle.tox_defs.specs.operations.Op.{IsOp, millis_of}
use Rattle.tox_compile.specs.Compiled.{op_of_placed}
use Rattle.tox_compile.specs.Normal.{with_op, normal_form}
use Rattle.tox_compile.specs.Meaning.{means}
use Rattle.tox_compile.proofs.NormalForms.{means-normal_form, operations-normal_form}
use Rattle.tox_compile.proofs.CompileTurns.{Compiles, compiles-more, compiled, sums_fit}
use Rattle.tox_compile.proofs.chain_plan.compile.Goals as goal

pub loop-placed-preserved : goal.loop-placed-preserved
loop-placed-preserved c =
    let loop = c.loop-placed in
    let placed = subst (λ toxics. All (IsPlaced c.args.chain.now.lanes) toxics) (sym c.deref-placed-items.ensures.0) c.applied.ensures.placed in
    subst (λ ops. Compiles c.deref-placed-items.result.now (loop.placed-index + 1) ops)
    (ap (λ op. with_op loop.ops.items op) (sym c.of.ensures) ∙ sym c.add.ensures)
    (compiles-more _ _ _ _ _ _ c.loop-placed-test.true refl placed loop.invariant)

pub add-requires-clause-sums : goal.add-requires-clause-sums
add-requires-clause-sums c =
    let loop = c.loop-placed in
    let placed = subst (λ toxics. All (IsPlaced c.args.chain.now.lanes) toxics) (sym c.deref-placed-items.ensures.0) c.applied.ensures.placed in
    subst (λ op. All (λ last. millis_of last + millis_of op < 4294967296) loop.ops.items) (sym c.of.ensures)
    (sums_fit _ _ _ _ _ _ c.loop-placed-test.true (omega (arith, c.deref-placed-items.ensures.1)) refl placed loop.invariant)

pub of_ops-requires : goal.of_ops-requires
of_ops-requires c =
    let is = compiled _ _ _ c.loop-placed-test.false c.loop-placed.invariant
    ∙ ap (λ toxics. fold with_op [] (map op_of_placed toxics)) (c.deref-placed-items.ensures.0 ∙ c.applied.ensures.value) in
    record {
      most = omega (arith, c.loop-placed.invariant.few, c.loop-placed-test.false, c.deref-placed-items.ensures.1);
      operations = subst (λ ops. All IsOp ops) (sym is) (operations-normal_form c.args.chain.now c.args.words.now c.applied.ensures.chain);
    }

pub returns-clause-means : goal.returns-clause-means
returns-clause-means c =
    let is = compiled _ _ _ c.loop-placed-test.false c.loop-placed.invariant
    ∙ ap (λ toxics. fold with_op [] (map op_of_placed toxics)) (c.deref-placed-items.ensures.0 ∙ c.applied.ensures.value) in
    λ items stream. ap (λ plan. means plan c.args.words.now items) c.of_ops.ensures
    ∙ ap (λ ops. means (record { lanes = c.lanes.result; ops = ops }) c.args.words.now items) is
    ∙ ap (λ lanes. means (record { lanes = lanes; ops = normal_form c.args.chain.now c.args.words.now }) c.args.words.now items) c.lanes.ensures
    ∙ means-normal_form c.args.chain.now c.args.words.now items c.applied.ensures.chain stream
