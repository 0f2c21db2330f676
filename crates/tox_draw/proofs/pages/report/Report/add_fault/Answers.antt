-- A fault is reported.
use Rattle.std.proofs.Common.{refl, rules}
use Rattle.tox_draw.proofs.pages.report.Report.add_fault.Goals as goal

pub returns-clause-ok : goal.returns-clause-ok
returns-clause-ok c = record {
  refusal = record { name = c.in_ok-name.name; fault = c.in_ok-fault.fault };
  named = c.in_ok-name.ensures.ok;
  reported = search rules;
  added = record { refused = c.in_ok-push.ensures.items; judged = refl };
}
