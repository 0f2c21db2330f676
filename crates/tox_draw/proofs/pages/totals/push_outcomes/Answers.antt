-- One total behind the other.
use Rattle.std.proofs.Common.{◌++◌, List, ℕ, codes}
use Rattle.tox_draw.proofs.Growing.{adds_then}
use Rattle.std.proofs.Common.{count_by}
use Rattle.tox_draw.specs.pages.Kinds.{has}
use Rattle.tox_draw.specs.declared.pages.kind.Kind.TheVariants as kind
use Rattle.tox_draw.specs.pages.Totals.{number_entry}
use Rattle.tox_draw.specs.pages.Totals.{outcome_entries}
use Rattle.tox_draw.proofs.pages.totals.push_outcomes.Goals as goal

pub returns : goal.returns
unfolding outcome_entries
returns c =
    let first : List ℕ = number_entry (codes "Reset") (count_by (has kind.Reset) c.args.rows.now) in
    let second : List ℕ = number_entry (codes "Cut") (count_by (has kind.Cut) c.args.rows.now) in
    let third : List ℕ = number_entry (codes "Unfinished") (count_by (has kind.Unfinished) c.args.rows.now) in
    let fourth : List ℕ = number_entry (codes "Broken of these") (count_by (has kind.Broken) c.args.rows.now) in
    let fifth : List ℕ = number_entry (codes "Unfaithful") (count_by (has kind.Unfaithful) c.args.rows.now) in
    adds_then _ _ _ _ first (second ++ (third ++ (fourth ++ fifth))) c.in_ok-push_count.ensures
    (adds_then _ _ _ _ second (third ++ (fourth ++ fifth)) c.in_ok-push_count-2.ensures
    (adds_then _ _ _ _ third (fourth ++ fifth) c.in_ok-push_count-3.ensures
    (adds_then _ _ _ _ fourth fifth c.in_ok-push_count-4.ensures c.push_count-5.ensures)))
