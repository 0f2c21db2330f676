-- Line by line.
use Rattle.std.proofs.Common.{◌++◌, Some, ap, ◌∙◌}
use Rattle.tox_log.specs.HeaderText.{link_line, seed_line, title_line}
use Rattle.tox_log.proofs.Faults.{failed-so, same-blame}
use Rattle.tox_log.proofs.HeadingLines.{three-parts}
use Rattle.tox_log.proofs.open_log.read_heading.Goals as goal

pub returns-in_err-read_title-clause-reads : goal.returns-in_err-read_title-clause-reads
returns-in_err-read_title-clause-reads g c = λ log more writable given.
    let link = link_line log.name log.number log.stream in
    let seed = seed_line log.chain.lanes log.seed in
    failed-so c.from_residual.result _ _ _ c.from_residual.ensures.1 (λ fault is.
    same-blame fault c.in_err-read_title.field-0.0 is (c.in_err-read_title.ensures.reads (link ++ (seed ++ more))
    (given ∙ ap Some (three-parts title_line link seed more))))

pub returns-in_err-proxy-clause-reads : goal.returns-in_err-proxy-clause-reads
returns-in_err-proxy-clause-reads g c = λ log more writable given.
    let link = link_line log.name log.number log.stream in
    let seed = seed_line log.chain.lanes log.seed in
    failed-so c.from_residual-in_err-proxy.result _ _ _ c.from_residual-in_err-proxy.ensures.1 (λ fault is.
    same-blame fault c.in_err-proxy.field-0.0 is (c.in_err-proxy.ensures.reads log (seed ++ more) writable
    (c.in_ok-read_title.ensures.reads (link ++ (seed ++ more)) (given ∙ ap Some (three-parts title_line link seed more)))))

pub returns-in_err-lanes-clause-reads : goal.returns-in_err-lanes-clause-reads
returns-in_err-lanes-clause-reads g c = λ log more writable given.
    let link = link_line log.name log.number log.stream in
    let seed = seed_line log.chain.lanes log.seed in
    failed-so c.from_residual-in_err-lanes.result _ _ _ c.from_residual-in_err-lanes.ensures.1 (λ fault is.
    let title = c.in_ok-read_title.ensures.reads (link ++ (seed ++ more)) (given ∙ ap Some (three-parts title_line link seed more)) in
    same-blame fault c.in_err-lanes.field-0.0 is (c.in_err-lanes.ensures.reads log more writable
    (c.in_ok-proxy.ensures.reads log (seed ++ more) writable title).behind))

pub returns-clause-reads : goal.returns-clause-reads
returns-clause-reads g c = λ log more writable given.
    let link = link_line log.name log.number log.stream in
    let seed = seed_line log.chain.lanes log.seed in
    let title = c.in_ok-read_title.ensures.reads (link ++ (seed ++ more)) (given ∙ ap Some (three-parts title_line link seed more)) in
    let second = c.in_ok-proxy.ensures.reads log (seed ++ more) writable title in
    let third = c.in_ok-lanes.ensures.reads log more writable second.behind in record {
      says = record { proxy = second.name; number = second.number; stream = second.stream; lanes = third.lanes; seed = third.seed };
      behind = third.behind;
    }
