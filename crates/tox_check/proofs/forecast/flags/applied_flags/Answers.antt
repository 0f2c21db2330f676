-- One flag more.
use Rattle.std.proofs.Common.{◌≤◌, ◌∷◌, [], arith, length, ◌∙◌, ap, length-append}
use Rattle.std.proofs.lemmas.List.{length-map, take_all}
use Rattle.std.specs.List.{enumerate_from}
use Rattle.std.proofs.lemmas.List.FromFn.{length-enumerate_from}
use Rattle.tox_words.specs.Draw.{draws_of}
use Rattle.tox_defs.specs.chain.Applied.{is_applied}
use Rattle.tox_check.specs.forecast.Applied.{applied_flags}
use Rattle.tox_check.proofs.forecast.FlagTurns.{flags-more}
use Rattle.tox_check.proofs.forecast.flags.applied_flags.Goals as goal

pub loop-place-preserved : goal.loop-place-preserved
loop-place-preserved c =
    let turn = c.loop-place in
    record {
      long = ap length c.push.ensures.items ∙ length-append turn.flags.items (c.is_applied.result ∷ []) ∙ (let h = turn.invariant.long in omega arith);
      made = c.push.ensures.items ∙ flags-more (draws_of c.args.drawing.now) c.args.entries.now turn.place _ turn.flags.items c.is_applied.result
          c.loop-place-test.true c.is_applied.ensures turn.invariant.made;
    }

pub returns : goal.returns
returns c =
    let turn = c.loop-place in
    let all = applied_flags (draws_of c.args.drawing.now) c.args.entries.now in
    let past : length all ≤ turn.place =
    omega (
      arith,
      length-map (enumerate_from 0 c.args.entries.now) (λ placed. is_applied placed.1 placed.0 (draws_of c.args.drawing.now)),
      length-enumerate_from 0 c.args.entries.now,
      c.loop-place-test.false,
    ) in
    turn.invariant.made ∙ take_all turn.place all past
