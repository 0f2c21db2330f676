-- One line more: its piece is printed, or the source's end is reported.
use Rattle.std.proofs.Common.{◌≡◌, ◌+◌, ◌<◌, ◌∷◌, ℕ, [], Ok, Some, length, option_map, arith, rules, sym, ◌∙◌, ap, refl, subst, vec_capacity}
use Rattle.std.specs.Result.{result_ok}
use Rattle.tox_time.specs.declared.streams.item.Item.TheVariants.{Quiet}
use Rattle.tox_time.specs.streams.Arrivals.{arrival_list}
use Rattle.tox_lend.specs.Run.{Run}
use Rattle.tox_text.specs.arrivals.Checked.{AreShort}
use Rattle.tox_text.specs.arrivals.Line.{arrival, digit_count, end, event_seen, line_of}
use Rattle.tox_text.specs.arrivals.Lines.{lines_left}
use Rattle.tox_text.proofs.CountLemmas.{AreShort-longer}
use Rattle.tox_runs.specs.runs.SecondPass.{IsAtSourceEnd, IsAtPiece, PrintsDownTo}
use Rattle.tox_runs.proofs.LineSteps.{IsUnderWay-first, at_data, at_last, behind_all, line_next, none_left, pairs_there}
use Rattle.tox_runs.proofs.Passing.{PrintsDownTo-both, PrintsDownTo-none, PrintsDownTo-passed, PrintsDownTo-stopped}
use Rattle.tox_runs.proofs.runs.second_pass.print_lines.Goals as goal

pub loop-left-init : goal.loop-left-init
loop-left-init g c =
    let checked = c.requires.checked in record {
      arrived = checked.arrived;
      spelled = checked.spelled;
      arrivals = checked.arrivals;
      number = 1;
      later = checked.arrived.items;
      under_way = IsUnderWay-first checked.arrived _ (g.S.SliceSource.stands c.args.source.now checked.arrived) 0 checked.spelled
          (c.requires.first checked.arrived checked.spelled) refl;
      short = checked.short;
      printed = PrintsDownTo-none c.requires.working;
    }

pub decode_into-requires-clause-pairs : goal.decode_into-requires-clause-pairs
decode_into-requires-clause-pairs g c =
    let on = c.loop-left.invariant in
    let split = line_next _ _ _ c.first_line.result.1 c.in-Some.is c.first_line.ensures.lines in
    let says = sym c.in-Some-line_of.ensures.says ∙ ap (event_seen c.in-Some-line_of.said.instant) c.in-Data.is in
    let some : 0 < length c.first_line.result.0.now = omega (arith, c.in-Some-line_of.ensures.shorter) in
    pairs_there on.arrived on.number _ _ _ _ _ _ c.in-Some-line_of.said.instant c.in-Data.digits.now split says some on.under_way

pub decode_into-requires-clause-room : goal.decode_into-requires-clause-room
decode_into-requires-clause-room g c =
    let short = subst (AreShort (vec_capacity c.loop-left.bytes)) (line_next _ _ _ c.first_line.result.1 c.in-Some.is c.first_line.ensures.lines)
    c.loop-left.invariant.short in
    omega (arith, c.in-Some-line_of.ensures.shorter, ap digit_count c.in-Data.is, short.0)

pub print_data-requires-clause-next : goal.print_data-requires-clause-next
print_data-requires-clause-next g c =
    let on = c.loop-left.invariant in
    let split = line_next _ _ _ c.first_line.result.1 c.in-Some.is c.first_line.ensures.lines in
    let t = c.in-Some-line_of.said.instant in
    let is = sym c.in-Some-line_of.ensures.says ∙ ap (event_seen t) c.in-Data.is
    ∙ ap (λ r. option_map (arrival t) (result_ok r)) c.decode_into.ensures.decoded in
    let found = at_data on.arrived on.number _ _ _ _ _ on.later t c.decode_into.new.bytes.items on.arrivals split is
    on.under_way in
    record { arrived = on.arrived; later = found.others; of = found.of _; before = found.ready }

pub returns-in_err-bytes-in-Data-clause-prints : goal.returns-in_err-bytes-in-Data-clause-prints
returns-in_err-bytes-in-Data-clause-prints g c =
    let on = c.loop-left.invariant in
    let split = line_next _ _ _ c.first_line.result.1 c.in-Some.is c.first_line.ensures.lines in
    let t = c.in-Some-line_of.said.instant in
    let is = sym c.in-Some-line_of.ensures.says ∙ ap (event_seen t) c.in-Data.is
    ∙ ap (λ r. option_map (arrival t) (result_ok r)) c.decode_into.ensures.decoded in
    let found = at_data on.arrived on.number _ _ _ _ _ on.later t c.decode_into.new.bytes.items on.arrivals split is
    on.under_way in
    let before = subst (λ later. PrintsDownTo g.W.Sink (Ok (tt {0})) c.args.printer.now c.loop-left.printer
    (g.S.SliceSource.text_left c.args.source.now on.arrived (arrival_list on.arrived.items))
    (g.S.SliceSource.text_left c.loop-left.source on.arrived (arrival_list later))) found.is on.printed in
    let front = c.in_err-bytes-in-Data.ensures.prints (record { arrived = on.arrived; later = found.others; of = found.of _; before = found.ready }) in
    λ arrived spelled.
    let same : on.arrived ≡ arrived = (let both = sym on.spelled ∙ spelled in cc) in
    subst (λ a. PrintsDownTo g.W.Sink c.from_residual.result c.args.printer.now c.print_data.new.printer
    (g.S.SliceSource.text_left c.args.source.now a (arrival_list a.items)) (g.S.SliceSource.text_left c.print_data.new.source a (Quiet ∷ []))) same
    (PrintsDownTo-stopped c.from_residual.ensures.1 before front)

pub loop-left-preserved-in-Data : goal.loop-left-preserved-in-Data
loop-left-preserved-in-Data g c =
    let on = c.loop-left.invariant in
    let split = line_next _ _ _ c.first_line.result.1 c.in-Some.is c.first_line.ensures.lines in
    let short = subst (AreShort (vec_capacity c.loop-left.bytes)) split on.short in
    let t = c.in-Some-line_of.said.instant in
    let is = sym c.in-Some-line_of.ensures.says ∙ ap (event_seen t) c.in-Data.is
    ∙ ap (λ r. option_map (arrival t) (result_ok r)) c.decode_into.ensures.decoded in
    let found = at_data on.arrived on.number _ _ _ _ _ on.later t c.decode_into.new.bytes.items on.arrivals split is
    on.under_way in
    let before = subst (λ later. PrintsDownTo g.W.Sink (Ok (tt {0})) c.args.printer.now c.loop-left.printer
    (g.S.SliceSource.text_left c.args.source.now on.arrived (arrival_list on.arrived.items))
    (g.S.SliceSource.text_left c.loop-left.source on.arrived (arrival_list later))) found.is on.printed in
    let piece : Run =
    record { start = c.loop-left.position; bytes = c.decode_into.new.bytes.items; instant = t; room = vec_capacity c.decode_into.new.bytes } in
    let at : IsAtPiece (g.S.SliceSource.stands c.loop-left.source) piece =
    record { arrived = on.arrived; later = found.others; of = found.of piece.room; before = found.ready } in
    let done = c.in_ok-bytes-in-Data.ensures in
    let printed = done.prints at in
    let sized : c.len.result ≡ length c.decode_into.new.bytes.items = omega arith in
    record {
      arrived = on.arrived;
      spelled = on.spelled;
      arrivals = on.arrivals;
      number = on.number + 1;
      later = found.others;
      under_way = rw sized (found.then (g.S.SliceSource.stands c.print_data.new.source on.arrived) (done.stands at));
      short = AreShort-longer (vec_capacity c.loop-left.bytes) _ _ (omega (arith, c.decode_into.ensures.kept, done.room)) short.1;
      printed = PrintsDownTo-passed (PrintsDownTo-both before printed);
    }

pub end-requires : goal.end-requires
end-requires g c =
    let on = c.loop-left.invariant in
    let t = c.in-Some-line_of.said.instant in
    let is : line_of c.first_line.result.0.now ≡ Some (end t) = sym c.in-Some-line_of.ensures.says ∙ ap (event_seen t) c.in-Eof.is in
    let last = at_last on.arrived on.number _ _ _ _ _ on.later t (line_next _ _ _ c.first_line.result.1 c.in-Some.is c.first_line.ensures.lines) is on.under_way
    in
    record { next = record { arrived = on.arrived; position = c.loop-left.position; later = last.others; before = last.ready } }

pub loop-left-preserved : goal.loop-left-preserved
loop-left-preserved g c =
    let on = c.loop-left.invariant in
    let split = line_next _ _ _ c.first_line.result.1 c.in-Some.is c.first_line.ensures.lines in
    let short = subst (AreShort (vec_capacity c.loop-left.bytes)) split on.short in
    let t = c.in-Some-line_of.said.instant in
    let is : line_of c.first_line.result.0.now ≡ Some (end t) = sym c.in-Some-line_of.ensures.says ∙ ap (event_seen t) c.in-Eof.is in
    let last = at_last on.arrived on.number _ _ _ _ _ on.later t split is on.under_way in
    let at : IsAtSourceEnd (g.S.SliceSource.stands c.loop-left.source) t =
    record { arrived = on.arrived; position = c.loop-left.position; later = last.others; before = last.ready } in
    let before = subst (λ later. PrintsDownTo g.W.Sink (Ok (tt {0})) c.args.printer.now c.loop-left.printer
    (g.S.SliceSource.text_left c.args.source.now on.arrived (arrival_list on.arrived.items))
    (g.S.SliceSource.text_left c.loop-left.source on.arrived (arrival_list later))) last.is on.printed in
    record {
      arrived = on.arrived;
      spelled = on.spelled;
      arrivals = on.arrivals;
      number = on.number + 1;
      later = last.others;
      under_way = last.then (g.S.SliceSource.stands c.end.new.self on.arrived) (c.end.ensures.stands at);
      short = short.1;
      printed = subst (PrintsDownTo g.W.Sink (Ok (tt {0})) c.args.printer.now c.loop-left.printer
          (g.S.SliceSource.text_left c.args.source.now on.arrived (arrival_list on.arrived.items))) (sym (c.end.ensures.same at)) before;
    }

pub returns-clause-prints : goal.returns-clause-prints
returns-clause-prints g c =
    let on = c.loop-left.invariant in
    let empty : lines_left (option_map (λ rest. rest.now) c.loop-left.left) ≡ [] = search rules in
    let none = none_left on.arrived on.number _ _ _ on.later empty on.under_way in
    λ arrived spelled.
    let same : on.arrived ≡ arrived = (let both = sym on.spelled ∙ spelled in cc) in
    subst (λ a. PrintsDownTo g.W.Sink (Ok (tt {0})) c.args.printer.now c.loop-left.printer
    (g.S.SliceSource.text_left c.args.source.now a (arrival_list a.items)) (g.S.SliceSource.text_left c.loop-left.source a (Quiet ∷ []))) same
    (subst (λ later. PrintsDownTo g.W.Sink (Ok (tt {0})) c.args.printer.now c.loop-left.printer
    (g.S.SliceSource.text_left c.args.source.now on.arrived (arrival_list on.arrived.items))
    (g.S.SliceSource.text_left c.loop-left.source on.arrived (arrival_list later))) none on.printed)

pub returns-clause-behind : goal.returns-clause-behind
returns-clause-behind g c =
    let on = c.loop-left.invariant in
    let empty : lines_left (option_map (λ rest. rest.now) c.loop-left.left) ≡ [] = search rules in
    let none = none_left on.arrived on.number _ _ _ on.later empty on.under_way in
    λ arrived spelled.
    let same : on.arrived ≡ arrived = (let both = sym on.spelled ∙ spelled in cc) in
    subst (λ a. (position : ℕ) × g.S.SliceSource.stands c.loop-left.source a position []) same (
    behind_all on.arrived on.number _ _ _ on.later none on.under_way)
