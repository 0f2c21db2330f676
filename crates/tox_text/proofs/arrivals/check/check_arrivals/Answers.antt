-- One line more.
use Rattle.std.proofs.Common.{◌≡◌, ◌+◌, ◌≤◌, max, ◌∷◌, arith, length, option_map, sym, ◌∙◌, ap, refl, subst}
use Rattle.tox_text.specs.arrivals.ArrivalsText.{lines_of, no_arrivals, after_lines}
use Rattle.tox_time.specs.Steps.{◌>>=◌}
use Rattle.tox_text.specs.arrivals.Checked.{AreShort, half_longest}
use Rattle.tox_text.specs.arrivals.Lines.{lines_left, size_left}
use Rattle.tox_text.proofs.CountLemmas.{Counts-first}
use Rattle.tox_text.proofs.arrivals.check.check_arrivals.Goals as goal

pub loop-left-init : goal.loop-left-init
loop-left-init c = record {
  few = omega arith;
  before = no_arrivals;
  counts = Counts-first _ (ap (λ place. place.position) c.start-so_far.ensures) (ap (λ place. place.latest) c.start-so_far.ensures)
      (ap (λ place. place.ended) c.start-so_far.ensures);
  rest = refl;
  short = λ most longest short. short;
  longest = omega arith;
}

pub loop-left-preserved : goal.loop-left-preserved
loop-left-preserved c =
    let on = c.loop-left.invariant in
    let after = c.in_ok-add_line.ensures.ok on.before on.counts in
    let others = lines_left (option_map (λ rest. rest.now) c.first_line.result.1) in
    let line = c.first_line.result.0.now in
    let split : lines_left (option_map (λ rest. rest.now) c.loop-left.left) ≡ line ∷ others =
    ap (λ left. lines_left (option_map (λ rest. rest.now) left)) c.in-Some.is ∙ c.first_line.ensures.lines in
    record {
      few = omega (
        arith,
        subst (λ left. c.loop-left.number + size_left (option_map (λ rest. rest.now) left) ≤ length c.args.text.now + 1) c.in-Some.is on.few,
        c.first_line.ensures.shorter,
      );
      before = after.0;
      counts = after.2;
      rest =
          sym (ap (λ left. left >>= after_lines (c.loop-left.number + 1 + 1) others) after.1)
          ∙ ap (λ lines. after_lines (c.loop-left.number + 1) lines on.before) (sym split) ∙ on.rest;
      short = λ most longest short. on.short most (omega (arith, longest)) (subst (AreShort most) (sym split) (omega (arith, longest), short));
      longest = omega (arith, subst (λ lines. max c.loop-left.longest (half_longest lines) ≡ half_longest (lines_of c.args.text.now)) split on.longest);
    }
