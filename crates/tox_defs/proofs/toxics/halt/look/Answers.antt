-- A halt finds its ending from its instant on, and before it what its bytes let through.
use Rattle.std.proofs.Common.{◌≡◌, refl, true}
use Rattle.std.specs.Prelude.{nat_lt}
use Rattle.tox_defs.specs.operations.Look.{as_chunk}
use Rattle.tox_defs.specs.toxics.Halt.{halt_after, halt_gives}
use Rattle.tox_defs.proofs.ToxicProofs.Halting.{not_le_is_lt}
use Rattle.tox_defs.proofs.Uncut.{finds_all}
use Rattle.tox_defs.proofs.toxics.halt.look.Goals as goal
use Rattle.tox_defs.proofs.toxics.halt.look.Goals.{in_default-via-in-Some+else-le, in_default-via-in_default}

pub returns-in_default-clause-finds : goal.returns-in_default-clause-finds
returns-in_default-clause-finds c =
    let here = halt_gives c.args.at.now c.args.after c.args.ending.now c.args.state.now (as_chunk c.args.rest.now) in
    let same : here ≡ halt_after c.args.after c.args.ending.now c.args.state.now (as_chunk c.args.rest.now) =
    elim c.in_default.branch [
      | in_default-via-in-Some+else-le w ↦
          let before : nat_lt c.args.rest.now.instant w.in-Some.at ≡ true =
          not_le_is_lt w.in-Some.at c.args.rest.now.instant w.if-le.ensures in
          rw (w.in-Some.is, before) refl
      | in_default-via-in_default w ↦ rw w.in_default.is refl
    ] in
    λ items. finds_all (halt_gives c.args.at.now c.args.after c.args.ending.now) c.args.state.now c.args.rest.now c.look_after.result items c.requires.running
    (rw same c.look_after.ensures.finds)
