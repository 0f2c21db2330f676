-- Where there is no cursor the source gives.
use Rattle.std.proofs.Common.{rules, ◌≡◌, length, sym, subst}
use Rattle.std.proofs.lemmas.List.{nil_from_length}
use Rattle.tox_words.specs.Draw.{draws_of}
use Rattle.tox_plan.specs.OpCursors.{MatchPulled}
use Rattle.tox_plan.proofs.Pulls.{pulled-from}
use Rattle.tox_plan.proofs.pulling.pull_nearest.Goals as goal

pub returns-in_default-clause-pulled : goal.returns-in_default-clause-pulled
returns-in_default-clause-pulled c =
    let empty : length c.args.cursors.now ≡ 0 = search rules in
    subst (λ cursors. MatchPulled (draws_of c.args.drawing.now) c.args.start cursors cursors c.args.source.now c.pull_source.result)
    (sym (nil_from_length c.args.cursors.now empty)) (c.pull_source.ensures (draws_of c.args.drawing.now))

pub returns-in_default-clause-from : goal.returns-in_default-clause-from
returns-in_default-clause-from c =
    λ few. pulled-from (draws_of c.args.drawing.now) c.args.start c.args.cursors.now c.args.cursors.now c.args.source.now c.pull_source.result few
    (returns-in_default-clause-pulled c)
