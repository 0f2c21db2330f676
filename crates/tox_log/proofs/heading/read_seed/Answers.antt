-- The line is cut into its words.
use Rattle.std.proofs.Common.{◌++◌, ap, sym, ◌∙◌, arith, codes, drop, rules, take}
use Rattle.std.specs.Cmp.Lexicographic.{other_text}
use Rattle.std.specs.Fmt.{decimal}
use Rattle.tox_words.specs.Draw.{lane_count}
use Rattle.tox_log.proofs.HeaderParts.{seed-read}
use Rattle.std.proofs.lemmas.Fmt.{decimal_injective}
use Rattle.tox_log.proofs.HeadingLines.{lanes-read, no-cut, seed-is, seed-whole}
use Rattle.tox_log.proofs.heading.read_seed.Goals as goal

pub returns-clause-line : goal.returns-clause-line
returns-clause-line c = seed-read c.args.line.now c.in_ok-rest.rest.now c.in_ok-count.count.now c.in_ok-count.rest.now c.in_ok-seed.seed.now c.in_ok-lanes.lanes
    c.in_ok-seed-2.seed (search rules) (search rules) (search rules) (search rules) (search rules)

pub returns-in_err-count-clause-back : goal.returns-in_err-count-clause-back
returns-in_err-count-clause-back c = λ lanes seed fits same. absurd (no-cut c.in_ok-rest.rest.now (decimal (lane_count lanes)) (codes "seed " ++ decimal seed)
    c.in_err-count.ensures.cut
    (c.in_ok-rest.ensures.cases.1 ∙ ap (drop 6) (seed-is c.args.line.now lanes seed same)))

pub returns-in_err-lanes-clause-back : goal.returns-in_err-lanes-clause-back
returns-in_err-lanes-clause-back c = λ lanes seed fits same.
    let parts = seed-whole c.args.line.now c.in_ok-rest.rest.now c.in_ok-count.count.now c.in_ok-count.rest.now lanes seed same c.in_ok-rest.ensures.cases.1
    c.in_ok-count.ensures.cut in
    absurd (c.in_err-lanes.ensures lanes parts.0)

pub returns-in_err-seed-clause-back : goal.returns-in_err-seed-clause-back
returns-in_err-seed-clause-back c = λ lanes seed fits same.
    let parts = seed-whole c.args.line.now c.in_ok-rest.rest.now c.in_ok-count.count.now c.in_ok-count.rest.now lanes seed same c.in_ok-rest.ensures.cases.1
    c.in_ok-count.ensures.cut in
    absurd (other_text (take 5 c.in_ok-count.rest.now) (codes "seed ") (sym c.in_err-seed.ensures.cases) (ap (take 5) parts.1))

pub returns-in_err-seed-2-clause-back : goal.returns-in_err-seed-2-clause-back
returns-in_err-seed-2-clause-back c = λ lanes seed fits same.
    let parts = seed-whole c.args.line.now c.in_ok-rest.rest.now c.in_ok-count.count.now c.in_ok-count.rest.now lanes seed same c.in_ok-rest.ensures.cases.1
    c.in_ok-count.ensures.cut in
    absurd (c.in_err-seed-2.ensures seed (omega (arith, fits)) (c.in_ok-seed.ensures.cases.1 ∙ ap (drop 5) parts.1))

pub returns-clause-back : goal.returns-clause-back
returns-clause-back c = λ lanes seed fits same.
    let parts = seed-whole c.args.line.now c.in_ok-rest.rest.now c.in_ok-count.count.now c.in_ok-count.rest.now lanes seed same c.in_ok-rest.ensures.cases.1
    c.in_ok-count.ensures.cut in
    let digits = c.in_ok-seed.ensures.cases.1 ∙ ap (drop 5) parts.1 in
    let number = decimal_injective c.in_ok-seed-2.seed seed (omega (arith, c.in_ok-seed-2.ensures.0)) fits (sym c.in_ok-seed-2.ensures.1 ∙ digits) in
    let count = lanes-read c.in_ok-lanes.lanes lanes (sym c.in_ok-lanes.ensures ∙ parts.0) in cc
