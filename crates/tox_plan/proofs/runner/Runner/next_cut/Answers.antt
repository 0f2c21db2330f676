-- Cuts at one instant are together a slice, and what was given goes on with it.
use Rattle.std.proofs.Common.{[], ◌∷◌, ◌++◌, length, refl, sym, subst, ◌∙◌}
use Rattle.std.specs.Prelude.{IsNone, IfNone}
use Rattle.std.proofs.lemmas.List.{append-nil}
use Rattle.tox_plan.specs.Cuts.{GivesNoCut}
use Rattle.tox_plan.specs.Given.{HasGiven, GoesOn}
use Rattle.tox_plan.proofs.Orders.{left-after}
use Rattle.tox_plan.proofs.Givens.{given-cut, given-none, lasting, whole}
use Rattle.tox_plan.proofs.GivenCuts.{one-round, more-rounds, IsCut-one, IsCut-longer, IsCut-same, keeps-both}
use Rattle.tox_plan.proofs.runner.Runner.next_cut.Goals as goal

pub returns-in_err-slice-clause-given : goal.returns-in_err-slice-clause-given
returns-in_err-slice-clause-given c =
    let nothing : GivesNoCut c.args.self.now c.cut.new.self = subst (λ cut. IfNone cut (GivesNoCut c.args.self.now c.cut.new.self)) c.in_err-slice.was
    c.cut.ensures.idle in
    rw c.from_residual.ensures
    (record {
      goes_on = given-none c.args.self.now c.cut.new.self c.cut.ensures.kept.drawing nothing.same;
      lasting = λ plan offered given. lasting plan offered given c.cut.new.self;
      later = tt;
      whole = λ plan offered given. whole plan offered given c.args.self.now (c.cut.ensures.none.0 (subst IsNone (sym c.in_err-slice.was) refl));
    })

pub loop-stop-init : goal.loop-stop-init
loop-stop-init c = record {
  cut = IsCut-one c.args.self.now c.cut.new.self c.in_ok-slice.slice c.in_ok-slice.ensures.some.0;
  begins = c.in_ok-slice.ensures.some.0.begins;
  stands = c.in_ok-slice.ensures.some.0.stands;
  busy = c.in_ok-slice.ensures.some.1;
  kept = c.cut.ensures.kept;
  rounds = one-round (length c.args.self.now.cursors) c.args.self.now.turns c.cut.new.self.turns c.args.self.now.cuts c.cut.new.self.cuts c.cut.ensures.turns
      c.in_ok-slice.ensures.some.0.counted;
}

pub loop-stop-preserved : goal.loop-stop-preserved
loop-stop-preserved c =
    let on = c.loop-stop.invariant in record {
      cut = IsCut-longer c.args.self.now c.loop-stop.self c.cut_at.new.self c.loop-stop.slice c.in-Some.stop on.cut on.stands on.kept.piece
          c.in-Some.ensures.some;
      begins = on.begins;
      stands = c.in-Some.ensures.some.stands;
      busy = c.cut_at.ensures.idle ∙ on.busy;
      kept = keeps-both c.args.self.now c.loop-stop.self c.cut_at.new.self on.kept c.cut_at.ensures.kept;
      rounds = more-rounds (length c.args.self.now.cursors) (length c.loop-stop.self.cursors) c.args.self.now.turns c.loop-stop.self.turns
          c.cut_at.new.self.turns c.args.self.now.cuts c.loop-stop.self.cuts c.cut_at.new.self.cuts
          on.kept.cursors on.rounds c.cut_at.ensures.turns c.in-Some.ensures.some.counted;
    }

pub returns-clause-given : goal.returns-clause-given
returns-clause-given c =
    let on = c.loop-stop.invariant in
    let none = c.in_default.ensures.none in
    let goes_on : GoesOn c.args.self.now [] (c.loop-stop.slice ∷ []) c.cut_at.new.self
    = given-cut c.args.self.now c.cut_at.new.self c.loop-stop.slice (c.cut_at.ensures.kept.drawing ∙ on.kept.drawing)
    (IsCut-same c.args.self.now c.loop-stop.self c.cut_at.new.self c.loop-stop.slice on.cut none.same none.cuts) in
    record {
      goes_on = goes_on;
      lasting = λ plan offered given. lasting plan offered given c.cut_at.new.self;
      later = λ plan offered given fits stream has.
          left-after plan offered given c.loop-stop.slice c.cut_at.new.self fits stream
          (subst (λ offered. HasGiven plan offered (given ++ c.loop-stop.slice ∷ []) c.cut_at.new.self) (append-nil offered) (goes_on plan offered given has))
          on.cut.within.some none.apart;
      whole = tt;
    }
