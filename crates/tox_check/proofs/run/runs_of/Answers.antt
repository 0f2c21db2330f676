-- Each step adds the connections from its first one up to the next step's; those before the first step meet no rule.
use Rattle.std.proofs.Common.{◌≡◌, ℕ, ◌+◌, ◌-◌, ◌≤◌, List, drop, get_or, min, None, arith, ap, sym, ◌∙◌}
use Rattle.std.proofs.lemmas.List.{drop_all}
use Rattle.std.proofs.lemmas.Result.{IfOk-weaker}
use Rattle.std.specs.Prelude.{option_map}
use Rattle.tox_script.specs.declared.index.step.Step.{Step}
use Rattle.tox_script.specs.index.Steps.{rule_at}
use Rattle.tox_check.specs.Runs.{IsRuns, number_at}
use Rattle.tox_check.proofs.Joined.{IsRuns-earlier}
use Rattle.tox_check.proofs.Stepped.{rule_at-behind, rule_at-drop, rule_at-here, step_runs}
use Rattle.tox_check.proofs.run.runs_of.Goals as goal

pub put_step-requires-clause-numbered : goal.put_step-requires-clause-numbered
put_step-requires-clause-numbered c = λ some begins rule is.
    c.requires c.loop-step.until rule c.loop-step.invariant.most
    (sym (c.loop-step.invariant.rest c.loop-step.until some (omega arith))
    ∙ rule_at-drop c.loop-step.until c.loop-step.step-index c.args.steps.now _ c.loop-step-test.true
    ∙ rule_at-here c.loop-step.until _ _ begins ∙ is)

pub loop-step-preserved : goal.loop-step-preserved
loop-step-preserved c =
    let step : Step = get_or c.args.steps.now c.loop-step.step-index (record { first = 0; rule = None }) in
    let behind : List Step = drop (c.loop-step.step-index + 1) c.args.steps.now in
    let rest = λ (conn : ℕ) (some : 1 ≤ conn) (most : conn ≤ c.loop-step.until).
    sym (rule_at-drop conn c.loop-step.step-index c.args.steps.now (record { first = 0; rule = None }) c.loop-step-test.true)
    ∙ c.loop-step.invariant.rest conn some most in
    let until : c.min-until.result ≡ min c.loop-step.until (step.first - 1) = c.min-until.ensures ∙ ap (min c.loop-step.until) c.saturating_sub.ensures in
    record {
      most = omega arith;
      runs = rw (until, c.in_ok-put_step.ensures)
          (step_runs c.args.steps.now behind step c.loop-step.until rest c.loop-step.joining c.loop-step.invariant.most c.loop-step.invariant.runs);
      rest = λ conn some most.
          sym (rule_at-behind conn step behind (omega arith)) ∙ rest conn some (omega arith);
    }

pub returns : goal.returns
returns c =
    IfOk-weaker c.finish.result (λ runs. runs.items ≡ c.loop-step.joining) (λ runs. IsRuns (λ conn. number_at conn c.args.steps.now) 1 runs.items)
    (λ runs same. rw same
    (IsRuns-earlier (λ conn. number_at conn c.args.steps.now) 1 (c.loop-step.until + 1) c.loop-step.joining (omega arith) (omega arith)
    (λ conn some before. ap (option_map (λ rule. rule + 1))
    (sym (c.loop-step.invariant.rest conn some (omega arith)) ∙ ap (rule_at conn) (drop_all c.loop-step.step-index c.args.steps.now c.loop-step-test.false)))
    c.loop-step.invariant.runs))
    c.finish.ensures
