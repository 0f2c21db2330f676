-- A log that was opened, and judged by what its reader gave.
use Rattle.std.proofs.lemmas.Result.{on_ok_weaker}
use Rattle.tox_draw.proofs.pages.Kept.{RefusesLog-memory}
use Rattle.tox_draw.proofs.pages.report.Report.judge.Goals as goal

pub returns-in-Ok-clause-ok : goal.returns-in-Ok-clause-ok
returns-in-Ok-clause-ok g c =
    on_ok_weaker c.keep_log.result (λ kept.
    record {
      given = _;
      opened = c.in-Some.ensures.opened;
      log = c.in-Ok.log;
      judged = record {
        faithful = c.in-Ok.ensures.faithful;
        unfinished = c.in-Ok.ensures.unfinished;
        refused = c.in-Ok.ensures.refused;
      };
      kept = kept;
    }) c.keep_log.ensures.ok

pub returns-in-Ok-clause-fault : goal.returns-in-Ok-clause-fault
returns-in-Ok-clause-fault g c = RefusesLog-memory c.keep_log.result _ _ _ c.keep_log.ensures.memory c.keep_log.ensures.kept
