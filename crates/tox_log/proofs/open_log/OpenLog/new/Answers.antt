-- The first three lines, and then those of the toxics.
use Rattle.std.proofs.Common.{◌≡◌, false, length, refl, ◌∙◌, ap, arith}
use Rattle.tox_defs.specs.chain.Chain.{Toxics}
use Rattle.tox_log.specs.declared.open_log.OpenLog.{OpenLog}
use Rattle.tox_log.proofs.Faults.{failed-so, same-blame}
use Rattle.tox_log.proofs.Opening.{opens}
use Rattle.tox_log.proofs.Written.{behind_heading, written-opened, written-start, written-toxics}
use Rattle.tox_log.proofs.open_log.OpenLog.new.Goals as goal

pub returns-clause-opens : goal.returns-clause-opens
returns-clause-opens g c =
    let heading = c.in_ok-heading.heading in
    let same = c.in_ok-read_toxics.ensures.same in
    let start : OpenLog = record {
      lines = c.read_heading.new.lines;
      number = 3;
      waits = false;
      heading = heading;
      chain = c.with_lanes.result;
      heard =
          c.start.result;
      over = false;
    } in
    opens c.in_ok-lines.lines start c.read_toxics.new.self (g.R.Source.remaining c.args.reader.now) (g.R.Source.remaining c.read_heading.new.reader)
    (g.R.Source.remaining c.read_toxics.new.reader) heading
    c.in_ok-lines.ensures c.in_ok-heading.ensures.lines c.in_ok-heading.ensures.named (ap (λ chain. chain.entries) c.with_lanes.ensures) same.0 same.1
    (same.2 ∙ ap (λ chain. chain.lanes) c.with_lanes.ensures) (same.3 ∙ c.start.ensures) c.in_ok-read_toxics.ensures.toxics

pub returns-in_err-heading-clause-reads : goal.returns-in_err-heading-clause-reads
returns-in_err-heading-clause-reads g c = λ written text. failed-so c.from_residual-in_err-heading.result _ _ _ c.from_residual-in_err-heading.ensures.1
    (λ fault is. same-blame fault c.in_err-heading.field-0.0 is
    (c.in_err-heading.ensures.reads written (behind_heading written) text.writable
    (written-start c.in_ok-lines.lines (g.R.Source.remaining c.args.reader.now) written c.in_ok-lines.ensures text)))

pub returns-in_err-read_toxics-clause-reads : goal.returns-in_err-read_toxics-clause-reads
returns-in_err-read_toxics-clause-reads g c = λ written text.
    let heading = c.in_ok-heading.heading in
    let start : OpenLog = record {
      lines = c.read_heading.new.lines;
      number = 3;
      waits = false;
      heading = heading;
      chain = c.with_lanes.result;
      heard =
          c.start.result;
      over = false;
    } in
    let read = c.in_ok-heading.ensures.reads written (behind_heading written) text.writable
    (written-start c.in_ok-lines.lines (g.R.Source.remaining c.args.reader.now) written c.in_ok-lines.ensures text) in
    let lanes = ap (λ chain. chain.lanes) c.with_lanes.ensures ∙ read.says.lanes in
    let left = written-toxics start (g.R.Source.remaining c.read_heading.new.reader) written text.writable (ap (λ chain. chain.entries) c.with_lanes.ensures)
    lanes c.start.ensures refl read.behind in
    failed-so c.from_residual-in_err-read_toxics.result _ _ _ c.from_residual-in_err-read_toxics.ensures.1
    (λ fault is. same-blame fault c.in_err-read_toxics.field-0.0 is
    (c.in_err-read_toxics.ensures.reads written.chain.entries written.lines left))

pub returns-clause-reads : goal.returns-clause-reads
returns-clause-reads g c = λ written text.
    let heading = c.in_ok-heading.heading in
    let start : OpenLog = record {
      lines = c.read_heading.new.lines;
      number = 3;
      waits = false;
      heading = heading;
      chain = c.with_lanes.result;
      heard =
          c.start.result;
      over = false;
    } in
    let read = c.in_ok-heading.ensures.reads written (behind_heading written) text.writable
    (written-start c.in_ok-lines.lines (g.R.Source.remaining c.args.reader.now) written c.in_ok-lines.ensures text) in
    let lanes = ap (λ chain. chain.lanes) c.with_lanes.ensures ∙ read.says.lanes in
    let left = written-toxics start (g.R.Source.remaining c.read_heading.new.reader) written text.writable (ap (λ chain. chain.entries) c.with_lanes.ensures)
    lanes c.start.ensures refl read.behind in
    written-opened start c.read_toxics.new.self (g.R.Source.remaining c.read_toxics.new.reader) written heading read.says refl lanes
    c.in_ok-read_toxics.ensures.same (c.in_ok-read_toxics.ensures.reads written.chain.entries written.lines left)

pub returns-clause-numbered : goal.returns-clause-numbered
returns-clause-numbered g c =
    let none : length c.with_lanes.result.entries ≡ 0 = ap (λ (chain : Toxics). length chain.entries) c.with_lanes.ensures in
    c.in_ok-read_toxics.ensures.numbered (λ fits. omega (arith, none))
