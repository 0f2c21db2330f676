-- What has the flow's text, every run at rest delivered.
use Rattle.std.proofs.Common.{rules}
use Rattle.tox_runs.proofs.EveryRest.{result_of_every_rest}
use Rattle.tox_runs.proofs.runs.dry.dry_run.Goals as goal

pub returns-clause-ok : goal.returns-clause-ok
returns-clause-ok g c =
    let checked = c.in_ok-text.ensures.checked in
    record {
      arrived = checked.arrived;
      read = record { text = c.in_ok-text.field-0.text.items; read = c.in_ok-text.ensures.read; spelled = checked.spelled };
      written = search rules;
    }

pub returns-clause-every_run : goal.returns-clause-every_run
returns-clause-every_run g c = result_of_every_rest c.args.chain.now c.args.words.now _ _ _ _ (returns-clause-ok g c)
