-- One line more: its item is listed.
use Rattle.std.proofs.Common.{◌≡◌, ◌+◌, ◌/◌, ◌<◌, ◌∷◌, ◌++◌, [], Ok, Some, length, option_map, arith, rules, sym, ◌∙◌, ap, subst}
use Rattle.tox_time.specs.declared.streams.item.Item.TheVariants.{Closed}
use Rattle.tox_time.specs.streams.Arrivals.{next_chunk}
use Rattle.tox_text.specs.arrivals.ArrivalsText.{after_line, after_lines}
use Rattle.tox_text.specs.arrivals.Line.{end, event_seen, line_of}
use Rattle.tox_text.specs.arrivals.Lines.{lines_left}
use Rattle.tox_time.proofs.Steps.{bind_ok}
use Rattle.tox_text.proofs.LineTurns.{chunk_taken, end_taken}
use Rattle.tox_text.proofs.arrivals.list.list_arrivals.Goals as goal
use Rattle.tox_text.proofs.arrivals.list.list_arrivals.Goals.{in-Data, in-Eof}

pub loop-left-preserved : goal.loop-left-preserved
loop-left-preserved c =
    let on = c.loop-left.invariant in
    let line = c.first_line.result.0.now in
    let others = lines_left (option_map (λ rest. rest.now) c.first_line.result.1) in
    let t = c.in-Some-line_of.said.instant in
    let split : lines_left (option_map (λ rest. rest.now) c.loop-left.left) ≡ line ∷ others =
    ap (λ left. lines_left (option_map (λ rest. rest.now) left)) c.in-Some.is ∙ c.first_line.ensures.lines in
    let went = bind_ok (after_line on.number on.before line) (after_lines (on.number + 1) others) on.arrived
    (subst (λ lines. after_lines on.number lines on.before ≡ Ok on.arrived) split on.rest) in
    let some : 0 < length line = omega (arith, c.in-Some-line_of.ensures.shorter) in
    record {
      arrived = on.arrived;
      spelled = on.spelled;
      number = on.number + 1;
      before = went.0;
      rest = went.2;
      items = elim c.match-said.branch [
        | in-Data w ↦
            let says = sym c.in-Some-line_of.ensures.says ∙ ap (event_seen t) w.in-Data.is in
            let listed : w.push-added.new.self ≡ c.loop-left.arrivals ++ next_chunk c.loop-left.arrivals (length w.in-Data.digits.now / 2) t ∷ [] =
            search rules in
            w.arrivals-is ∙ listed ∙ ap (λ items. items ++ next_chunk items (length w.in-Data.digits.now / 2) t ∷ []) on.items
            ∙ sym (chunk_taken on.number on.before went.0 t w.in-Data.digits.now line says some went.1)
        | in-Eof w ↦
            let is : line_of line ≡ Some (end t) = sym c.in-Some-line_of.ensures.says ∙ ap (event_seen t) w.in-Eof.is in
            let listed : w.eof-added.new.self ≡ c.loop-left.arrivals ++ Closed t ∷ [] = search rules in
            w.arrivals-is ∙ listed ∙ ap (λ items. items ++ Closed t ∷ []) on.items
            ∙ sym (ap (λ a. a.items) (end_taken on.number on.before went.0 t line is went.1).1)
      ];
    }
