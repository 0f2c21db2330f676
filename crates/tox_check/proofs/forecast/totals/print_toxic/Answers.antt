-- The line has the counts and the name of its place.
use Rattle.std.proofs.Common.{◌≡◌, ℕ, ◌+◌, List, [], slice_index_or, ap, ap₂, ◌∙◌}
use Rattle.tox_script.specs.chains.Chains.{on}
use Rattle.tox_script.specs.chains.NamedChain.{NamedToxics}
use Rattle.tox_check.specs.forecast.Tally.{totals_in}
use Rattle.tox_check.specs.forecast.Totals.{place_on, total_in}
use Rattle.tox_text.proofs.Printings.{Prints-as}
use Rattle.tox_check.proofs.forecast.totals.print_toxic.Goals as goal

pub returns : goal.returns
returns g c =
    let counted = c.args.counted.now in
    let stream = c.args.stream in
    let applied : c.applied.result ≡ (totals_in counted.tally.now).applied stream (place_on stream c.args.at) = c.applied.ensures
    ∙ ap (λ place. (totals_in counted.tally.now).applied stream place) c.on-place.ensures in
    let name : c.name_at.result.now ≡ slice_index_or (on stream counted.chains.now).names (place_on stream c.args.at) [] = c.name_at.ensures
    ∙ ap (λ (toxics : NamedToxics). slice_index_or toxics.names c.on-place.result []) c.on.ensures
    ∙ ap (λ place. slice_index_or (on stream counted.chains.now).names place []) c.on-place.ensures in
    Prints-as (ap₂ (λ (applied : ℕ) (name : List ℕ). total_in counted.json counted.proxy.now (counted.rule + 1) c.args.at.number applied counted.tally.now.met
    name) applied name)
    c.print_total.ensures
