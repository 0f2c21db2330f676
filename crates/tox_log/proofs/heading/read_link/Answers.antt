-- The line is cut at its last two spaces.
use Rattle.std.proofs.Common.{◌++◌, ◌∷◌, sym, subst, ◌∙◌, arith}
use Rattle.std.specs.Fmt.{decimal}
use Rattle.tox_time.specs.streams.StreamName.{stream_name}
use Rattle.tox_log.specs.HeaderLines.{IsWritableName}
use Rattle.std.proofs.lemmas.Fmt.{decimal_injective}
use Rattle.tox_log.proofs.HeadingLines.{link-cut, link-rest, link-whole, no-cut, same-stream}
use Rattle.tox_log.proofs.heading.read_link.Goals as goal

pub returns-in_err-rest-2-clause-back : goal.returns-in_err-rest-2-clause-back
returns-in_err-rest-2-clause-back c = λ name number direction prints. absurd
    (no-cut c.in_ok-rest.rest.now (name ++ 32 ∷ decimal number) (stream_name direction) c.in_err-rest-2.ensures.cut
    (link-rest c.args.line.now c.in_ok-rest.rest.now name number direction prints c.in_ok-rest.ensures.cases.1))

pub returns-in_err-name-clause-back : goal.returns-in_err-name-clause-back
returns-in_err-name-clause-back c = λ name number direction prints.
    let rest = link-rest c.args.line.now c.in_ok-rest.rest.now name number direction prints c.in_ok-rest.ensures.cases.1 in
    absurd (no-cut c.in_ok-rest-2.rest.now name (decimal number) c.in_err-name.ensures.cut
    (link-cut c.in_ok-rest.rest.now c.in_ok-rest-2.rest.now c.in_ok-rest-2.stream.now name number direction rest c.in_ok-rest-2.ensures.cut.0
    c.in_ok-rest-2.ensures.cut.1).0)

pub returns-in_err-proxy-clause-back : goal.returns-in_err-proxy-clause-back
returns-in_err-proxy-clause-back c = λ name number direction prints.
    let parts = link-whole c.args.line.now c.in_ok-rest.rest.now c.in_ok-rest-2.rest.now c.in_ok-rest-2.stream.now c.in_ok-name.name.now c.in_ok-name.number.now
    name number direction prints c.in_ok-rest.ensures.cases.1 c.in_ok-rest-2.ensures.cut c.in_ok-name.ensures.cut in
    absurd (c.in_err-proxy.ensures (subst IsWritableName (sym parts.0) prints.named))

pub returns-in_err-number-clause-back : goal.returns-in_err-number-clause-back
returns-in_err-number-clause-back c = λ name number direction prints.
    let parts = link-whole c.args.line.now c.in_ok-rest.rest.now c.in_ok-rest-2.rest.now c.in_ok-rest-2.stream.now c.in_ok-name.name.now c.in_ok-name.number.now
    name number direction prints c.in_ok-rest.ensures.cases.1 c.in_ok-rest-2.ensures.cut c.in_ok-name.ensures.cut in
    absurd (c.in_err-number.ensures number prints.numbered.0 prints.numbered.1 parts.1)

pub returns-in_err-stream-clause-back : goal.returns-in_err-stream-clause-back
returns-in_err-stream-clause-back c = λ name number direction prints.
    let parts = link-whole c.args.line.now c.in_ok-rest.rest.now c.in_ok-rest-2.rest.now c.in_ok-rest-2.stream.now c.in_ok-name.name.now c.in_ok-name.number.now
    name number direction prints c.in_ok-rest.ensures.cases.1 c.in_ok-rest-2.ensures.cut c.in_ok-name.ensures.cut in
    absurd (c.in_err-stream.ensures direction parts.2)

pub returns-clause-back : goal.returns-clause-back
returns-clause-back c = λ name number direction prints.
    let parts = link-whole c.args.line.now c.in_ok-rest.rest.now c.in_ok-rest-2.rest.now c.in_ok-rest-2.stream.now c.in_ok-name.name.now c.in_ok-name.number.now
    name number direction prints c.in_ok-rest.ensures.cases.1 c.in_ok-rest-2.ensures.cut c.in_ok-name.ensures.cut in record {
      its_name = c.in_ok-proxy.ensures.0 ∙ parts.0;
      its_number = decimal_injective c.in_ok-number.number number (omega (arith, c.in_ok-number.ensures.1)) (omega (arith, prints.numbered.1))
          (sym c.in_ok-number.ensures.2 ∙ parts.1);
      its_stream = same-stream c.in_ok-stream.stream direction (sym c.in_ok-stream.ensures ∙ parts.2);
    }
