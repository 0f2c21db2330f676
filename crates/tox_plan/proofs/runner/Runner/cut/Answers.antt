-- Where a look finds no cut, none is left.
use Rattle.std.proofs.Common.{◌≡◌, None, refl, ap, sym, subst, ◌∙◌, arith, rules}
use Rattle.std.specs.Prelude.{IsNone}
use Rattle.tox_plan.specs.RunnerView.{IsRunning}
use Rattle.tox_plan.proofs.Looking.{look-none, read-whole}
use Rattle.tox_plan.proofs.runner.Runner.cut.Goals as goal

pub returns-in_default-clause-none : goal.returns-in_default-clause-none
returns-in_default-clause-none c = (
  λ _. (look-none c.args.self.now c.look.new.self (subst IsRunning c.self.view_is c.self.invariant) c.look.ensures.found
      (ap (λ runner. runner.lookahead) (sym c.self.view_is) ∙ c.in_default.is) c.look.ensures.to_come).1,
  λ _. refl,
)

pub returns-in_default-clause-idle : goal.returns-in_default-clause-idle
returns-in_default-clause-idle c =
    let invariant : IsRunning c.look.new.self = subst IsRunning c.self.view_is c.self.invariant in
    let none : c.look.new.self.lookahead ≡ None = ap (λ runner. runner.lookahead) (sym c.self.view_is) ∙ c.in_default.is in
    let start : c.look.new.self.piece.span.start ≡ c.args.self.now.piece.span.start = ap (λ piece. piece.span.start) c.look.ensures.kept.piece in
    let stop : c.look.new.self.piece.span.stop ≡ c.args.self.now.piece.span.stop = ap (λ piece. piece.span.stop) c.look.ensures.kept.piece in
    let stands : c.self.inside.position ≡ c.look.new.self.position = ap (λ runner. runner.position) c.self.view_is in
    record {
      idle = search rules;
      position = search rules;
      from = λ busy. let here = invariant.here (c.look.ensures.same.2 ∙ busy) in omega (arith, here, start, c.look.ensures.same.0);
      whole = λ open_yet.
          let running : c.look.new.self.ending ≡ None = sym (ap (λ phase. phase.ending) c.after_all-self-inside.ensures
          ∙ ap (λ runner. runner.ending) c.self.view_is) ∙ open_yet in
          stands ∙ read-whole c.look.new.self invariant (c.look.ensures.found (subst IsNone (sym none) refl)) none running ∙ stop;
      cuts = search rules;
      same = search rules;
    }
