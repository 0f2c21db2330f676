-- The runner was asked for its next cut.
use Rattle.std.proofs.Common.{ap, sym, subst, ◌∙◌}
use Rattle.tox_link.specs.link_core.Core.{Looked}
use Rattle.tox_link.specs.link_core.CoreInside.{core_view}
use Rattle.tox_link.proofs.Looks.{Cuts, cuts_of, after_cut, looked-cut}
use Rattle.tox_link.proofs.link_core.LinkCore.look_at_first.Goals as goal

pub returns-clause-looked : goal.returns-clause-looked
returns-clause-looked c =
    let reported = c.next_cut-self-inside.ensures in
    let cuts : Cuts c.self.inside.runner c.next_cut-self-inside.new.self c.next_cut-self-inside.result
    = cuts_of c.self.inside.runner c.next_cut-self-inside.new.self c.next_cut-self-inside.result reported.some reported.none reported.idle reported.kept in
    subst (λ old. Looked old (after_cut (core_view c.self.inside) c.next_cut-self-inside.new.self c.next_cut-self-inside.result)) c.self.view_is
    (looked-cut (core_view c.self.inside) c.next_cut-self-inside.new.self c.next_cut-self-inside.result cuts
    (ap (λ core. core.found) c.self.view_is ∙ c.requires) (sym c.if-is_idle.ensures.value))
