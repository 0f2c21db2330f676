-- What is written is of the log.
use Rattle.std.proofs.Common.{refl}
use Rattle.tox_draw.proofs.pages.report.Report.add_log.Goals as goal

pub returns-clause-ok : goal.returns-clause-ok
returns-clause-ok c = record {
  row = record { name = c.in_ok-name.name; facts = c.in_ok-facts.facts };
  named = c.in_ok-name.ensures.ok;
  reported = c.in_ok-facts.ensures;
  added = record { refused = refl; judged = c.in_ok-push.ensures.items };
}
