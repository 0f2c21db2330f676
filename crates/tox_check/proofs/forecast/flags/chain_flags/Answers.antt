-- The first words tell it.
use Rattle.std.proofs.Common.{◌≤◌, List, arith, length, take, ◌∙◌, ap}
use Rattle.tox_words.specs.Seeded.{seeded_words}
use Rattle.tox_words.proofs.LaneCounts.{lane_count-most}
use Rattle.tox_words.specs.Draw.{DrawingView, draws_of}
use Rattle.tox_defs.specs.declared.chain.Entry.{Entry}
use Rattle.tox_check.specs.forecast.Applied.{applied_flags}
use Rattle.tox_check.proofs.forecast.FirstFlags.{flags-first}
use Rattle.tox_check.proofs.forecast.flags.chain_flags.Goals as goal

pub returns : goal.returns
returns c =
    let chain = c.args.chain.now in
    let few : length chain.entries ≤ 32 = omega (arith, c.entries.ensures.chain.most, lane_count-most chain.lanes) in
    c.applied_flags.ensures
    ∙ ap (λ (drawing : DrawingView). applied_flags (draws_of drawing) c.entries.result.now) c.first-drawing.ensures
    ∙ ap (λ (entries : List Entry). applied_flags (draws_of (record { lanes = c.lanes.result; words = c.from_seed-words.result })) entries)
    c.entries.ensures.value
    ∙ ap (λ words. applied_flags (draws_of (record { lanes = c.lanes.result; words = words })) chain.entries) c.from_seed-words.ensures
    ∙ ap (λ lanes. applied_flags (draws_of (record { lanes = lanes; words = take 32 (seeded_words c.args.seed c.args.conn c.args.stream) })) chain.entries)
    c.lanes.ensures
    ∙ flags-first chain.lanes c.args.seed c.args.conn c.args.stream chain.entries few
