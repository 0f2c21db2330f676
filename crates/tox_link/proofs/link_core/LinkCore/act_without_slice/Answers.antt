-- Nothing is left once the source's end was handed on.
use Rattle.std.proofs.Common.{[], ◌∷◌, ap, sym, ◌∙◌}
use Rattle.tox_time.specs.declared.streams.item.Item.TheVariants.{Quiet}
use Rattle.tox_link.specs.link_core.Core.{next_instant}
use Rattle.tox_link.proofs.ActLemmas.{emptied-instant}
use Rattle.tox_link.proofs.link_core.LinkCore.act_without_slice.Goals as goal

pub returns-clause-none : goal.returns-clause-none
returns-clause-none c =
    let handed = c.hand_on_end.ensures.settled in
    ap next_instant (sym (handed.output (Quiet ∷ []))) ∙ emptied-instant c.hand_on_end.new.self handed.emptied handed.end
