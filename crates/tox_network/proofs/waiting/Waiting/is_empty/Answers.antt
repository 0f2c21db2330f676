-- Some stored item waits.
use Rattle.std.proofs.Common.{◌∙◌, ap}
use Rattle.std.proofs.lemmas.Bool.{eqb-true}
use Rattle.tox_network.proofs.WaitingItems.{all_entered}
use Rattle.tox_network.proofs.waiting.Waiting.is_empty.Goals as goal

pub returns-else-self : goal.returns-else-self
returns-else-self c = (
  λ reported. absurd (c.if-self.false (eqb-true _ _ reported)),
  λ none. absurd (c.if-self.false (all_entered c.self.inside.items.now c.self.inside.entered c.self.inside.quiet c.self.invariant
      (ap (λ a. a.waiting) c.self.view_is ∙ none))),
)
