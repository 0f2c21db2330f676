-- A look at a later instant, and then an answer.
use Rattle.std.proofs.Common.{◌≤◌, sym, subst, rules}
use Rattle.tox_link.specs.link_core.Core.{CoreView, GivesUp, KeepsCore}
use Rattle.tox_link.specs.link_core.CoreInside.{core_view}
use Rattle.tox_link.proofs.CoreLemmas.{IsCore-later}
use Rattle.tox_link.proofs.Looks.{gives-both}
use Rattle.tox_link.proofs.ActLemmas.{keeps-after}
use Rattle.tox_link.proofs.link_core.LinkCore.on_clock.Goals as goal

pub invariant_of-self : goal.invariant_of-self
invariant_of-self c = record {
  core = IsCore-later (core_view c.self.inside) c.args.now c.self.invariant.core (subst (λ core. core.latest ≤ c.args.now) (sym c.self.view_is) c.requires);
  room = c.self.invariant.room;
  deadline = c.self.invariant.deadline;
}

pub returns-clause-answered : goal.returns-clause-answered
returns-clause-answered c =
    let core : CoreView = core_view c.self.inside in
    record {
      slice = search rules;
      idle = search rules;
      ended = search rules;
      dropped = search rules;
      overdue = search rules;
      unended = search rules;
      output = search rules;
      over = search rules;
      kept = subst (λ old. KeepsCore old c.answer.new.self) c.self.view_is
          (keeps-after core c.look.new.self c.answer.new.self c.args.now c.look.ensures.looked c.look.ensures.known c.answer.ensures.answered.kept);
      given_up = λ unknown.
          let looked : GivesUp (record core { latest = c.args.now }) c.look.new.self = c.look.ensures.looked.given_up (c.answer.ensures.unknown unknown) in
          let gives : GivesUp core c.look.new.self = record { first = looked.first; lens = looked.lens; start = looked.start; before = looked.before } in
          subst (λ old. GivesUp old c.answer.new.self) c.self.view_is (gives-both core c.look.new.self c.answer.new.self gives
          (c.answer.ensures.answered.given_up unknown));
      holds = search rules;
      latest = search rules;
    }
