-- The line is counted, or its fault is reported.
use Rattle.std.proofs.Common.{◌≡◌, ◌+◌, ◌==◌, false, Some, length, ap, sym, ◌∙◌}
use Rattle.tox_time.specs.streams.Arrivals.{piece_fault}
use Rattle.tox_text.specs.arrivals.Line.{arrival, end, event_seen, line_of}
use Rattle.tox_text.proofs.CountLemmas.{data_counted, data_refused, end_counted, pairs_read}
use Rattle.tox_text.proofs.arrivals.check.add_line.Goals as goal

pub returns-in-Err-clause-fault : goal.returns-in-Err-clause-fault
returns-in-Err-clause-fault c =
    let read = pairs_read c.in-Some.said.instant c.in-Data.digits.now (sym c.are_pairs.ensures ∙ c.if-not-are_pairs.false) in
    let filled : (length c.args.line.now == 0) ≡ false = sym c.is_empty.ensures ∙ c.if-is_empty.false in
    let is : line_of c.args.line.now ≡ Some (arrival c.in-Some.said.instant read.0) = sym c.in-Some.ensures.says
    ∙ ap (event_seen c.in-Some.said.instant) c.in-Data.is ∙ read.1 in
    let place = c.args.so_far.now in
    λ before counts. data_refused c.args.number place before c.in-Some.said.instant read.0 c.args.line.now c.in-Err.fault filled is
    (ap (λ n. piece_fault place.position place.latest place.ended n c.in-Some.said.instant) (sym read.2) ∙ c.in-Err.ensures.fault) counts

pub returns-in-Ok-clause-ok : goal.returns-in-Ok-clause-ok
returns-in-Ok-clause-ok c =
    let read = pairs_read c.in-Some.said.instant c.in-Data.digits.now (sym c.are_pairs.ensures ∙ c.if-not-are_pairs.false) in
    let filled : (length c.args.line.now == 0) ≡ false = sym c.is_empty.ensures ∙ c.if-is_empty.false in
    let is : line_of c.args.line.now ≡ Some (arrival c.in-Some.said.instant read.0) = sym c.in-Some.ensures.says
    ∙ ap (event_seen c.in-Some.said.instant) c.in-Data.is ∙ read.1 in
    let ok = c.in-Ok.ensures in
    let place = c.args.so_far.now in
    λ before counts. data_counted c.args.number place c.in-Ok.next before c.in-Some.said.instant read.0 c.args.line.now filled is ok.timed
    (ap (λ n. piece_fault place.position place.latest place.ended n c.in-Some.said.instant) (sym read.2) ∙ ok.accepted)
    (ap (λ p. p.position) ok.behind ∙ ap (λ n. place.position + n) read.2, ap (λ p. p.latest) ok.behind, ap (λ p. p.ended) ok.behind ∙ ok.bounds.3) counts

pub returns-in-Ok-with_end-clause-ok : goal.returns-in-Ok-with_end-clause-ok
returns-in-Ok-with_end-clause-ok c =
    let filled : (length c.args.line.now == 0) ≡ false = sym c.is_empty.ensures ∙ c.if-is_empty.false in
    let is : line_of c.args.line.now ≡ Some (end c.in-Some.said.instant) = sym c.in-Some.ensures.says ∙ ap (event_seen c.in-Some.said.instant) c.in-Eof.is in
    let ok = c.in-Ok-with_end.ensures in
    let place = c.args.so_far.now in
    λ before counts. end_counted c.args.number place c.in-Ok-with_end.next before c.in-Some.said.instant c.args.line.now filled is ok.timed ok.accepted
    (ap (λ p. p.position) ok.behind, ap (λ p. p.latest) ok.behind, ap (λ p. p.ended) ok.behind) counts
