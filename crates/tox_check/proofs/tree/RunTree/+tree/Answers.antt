-- The runs of a fork that have connections of a range: none, all, or those of both halves.
use Rattle.std.proofs.Common.{◌≡◌, ℕ, ◌++◌, [], List, append-nil, append_assoc, subst, sym}
use Rattle.tox_check.specs.Coverage.{within}
use Rattle.tox_check.specs.RuleRuns.{HasRuns}
use Rattle.tox_check.specs.Tree.{runs_in}
use Rattle.tox_check.specs.declared.run.Run.{Run}
use Rattle.tox_check.proofs.Cuts.{within-append, within_all, within_none}
use Rattle.tox_check.proofs.tree.RunTree.+tree.Goals as goal

pub returns-in-Fork-clause-runs : goal.returns-in-Fork-clause-runs
returns-in-Fork-clause-runs t c = λ runs is.
    let tree = rw c.in-Fork.is at c.requires.tree in
    let whole : List Run = runs_in c.in-Fork.field-1.value ++ runs_in c.in-Fork.field-2.value in
    let none : within c.args.range.first c.args.range.last whole ≡ [] =
    within_none c.args.range.first c.args.range.last c.in-Fork.summary.first c.in-Fork.summary.last whole tree.0.each
    (c.is_outside.ensures.0 c.if-is_outside.true) in
    rw (c.in-Fork.is, none, append-nil) is

pub returns-in-Fork-2-clause-runs : goal.returns-in-Fork-2-clause-runs
returns-in-Fork-2-clause-runs t c = λ runs is.
    let tree = rw c.in-Fork-2.is at c.requires.tree in
    let whole : List Run = runs_in c.in-Fork-2.field-1.value ++ runs_in c.in-Fork-2.field-2.value in
    let inside = c.is_inside.ensures.0 c.if-is_inside.true in
    let all : within c.args.range.first c.args.range.last whole ≡ whole =
    within_all c.args.range.first c.args.range.last c.in-Fork-2.summary.first c.in-Fork-2.summary.last whole tree.0.each inside.0 inside.1 in
    let before : HasRuns c.args.found.now.rule runs c.args.found.now = subst (λ (rule : ℕ). HasRuns rule runs c.args.found.now) (sym c.requires.rule) is in
    rw (c.in-Fork-2.is, all)
    (subst (λ (rule : ℕ). HasRuns rule (runs ++ whole) c.count.new.self) c.requires.rule (c.count.ensures.runs whole tree.0 runs before))

pub returns-in-Fork-3-clause-runs : goal.returns-in-Fork-3-clause-runs
returns-in-Fork-3-clause-runs t c = λ runs is.
    let left = rw c.deref.ensures at (c.append_to.ensures.runs runs is) in
    let both = rw c.deref-in-Fork-3.ensures at (c.append_to-in-Fork-3.ensures.runs _ left) in
    rw (c.in-Fork-3.is, within-append, ← append_assoc) both
