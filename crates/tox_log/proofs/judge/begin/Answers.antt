-- A new core gives what the plan means.
use Rattle.std.proofs.Common.{rules, sym, ap, ◌∙◌}
use Rattle.std.specs.List.{list_any}
use Rattle.tox_compile.specs.Meaning.{means}
use Rattle.tox_plan.specs.Unended.{leaves_open}
use Rattle.tox_log.proofs.Judging.{follows-start}
use Rattle.tox_log.proofs.judge.begin.Goals as goal

pub returns-clause-judged : goal.returns-clause-judged
returns-clause-judged c = λ reported. follows-start (means c.args.plan c.args.words) reported c.in_ok-core.core c.in_ok-core.ensures.begins.none_kept
    c.in_ok-core.ensures.begins.meaning

pub returns-clause-held : goal.returns-clause-held
returns-clause-held c =
    let new = c.in_ok-core.ensures in
    record {
      ended = search rules;
      latest = search rules;
      live = λ unknown. search rules;
      rest = search rules;
      opens = c.may_leave_open-opens.ensures ∙ ap (list_any leaves_open) (c.ops.ensures.value ∙ sym new.ops);
      within = λ going. tt;
    }
