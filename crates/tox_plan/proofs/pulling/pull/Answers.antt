-- The nearest cursor that has something gives it, and the cursors in front of it pass it on.
use Rattle.std.proofs.Common.{rules, ◌≡◌, ◌++◌, ap, sym, subst, ◌∙◌}
use Rattle.tox_words.specs.Draw.{draws_of}
use Rattle.tox_plan.specs.OpCursors.{MatchPulled, HaveEnded, ops_of}
use Rattle.tox_plan.proofs.CursorLemmas.{ops_of-append, ended-behind}
use Rattle.tox_plan.proofs.pulling.pull.Goals as goal

parts : (c : goal.After-cursors-2-1) → c.split_at_mut-read.result.0.now ++ c.split_at_mut-read.result.1.now ≡ c.args.cursors.now
parts c = search rules

pub returns-clause-pulled : goal.returns-clause-pulled
returns-clause-pulled c =
    subst (λ cursors. MatchPulled (draws_of c.args.drawing.now) c.args.start cursors (c.pass.new.cursors ++ c.pull_nearest-pulled.new.cursors) c.args.source.now
    c.pass.new.pulled) (parts c)
    (c.pass.ensures.pulled c.args.source.now c.split_at_mut-read.result.1.now c.pull_nearest-pulled.new.cursors c.pull_nearest-pulled.ensures.pulled)

pub returns-clause-ops : goal.returns-clause-ops
returns-clause-ops c =
    ops_of-append c.pass.new.cursors c.pull_nearest-pulled.new.cursors
    ∙ ap (λ ops. ops ++ ops_of c.pass.new.cursors) c.pull_nearest-pulled.ensures.ops
    ∙ ap (λ ops. ops_of c.split_at_mut-read.result.1.now ++ ops) c.pass.ensures.ops
    ∙ sym (ops_of-append c.split_at_mut-read.result.0.now c.split_at_mut-read.result.1.now)
    ∙ ap ops_of (parts c)

pub returns-clause-ended : goal.returns-clause-ended
returns-clause-ended c =
    λ unended. c.pass.ensures.ended c.pull_nearest-pulled.new.cursors
    (c.pull_nearest-pulled.ensures.ended (λ none ended. unended none (subst (λ cursors. HaveEnded cursors) (parts c)
    (ended-behind c.split_at_mut-read.result.0.now c.split_at_mut-read.result.1.now ended))))
