-- The set has the links of the first rows.
use Rattle.std.proofs.Common.{◌≡◌, map, take}
use Rattle.std.specs.List.{list_any}
use Rattle.std.specs.Set.{is_member}
use Rattle.tox_draw.specs.pages.Links.{link_of, same_link}
use Rattle.tox_draw.specs.declared.pages.links.LinkName.{LinkName}
use Rattle.tox_draw.proofs.pages.links.link_count.Given as goal

abbrev pub invariant-loop-row : goal.invariant-loop-row
invariant-loop-row l = (name : LinkName) → list_any (λ key. same_link (name.proxy.now, name.number) (key.proxy.now, key.number)) l.links.keys
    ≡ is_member same_link (map link_of (take l.row-index l.rows)) (name.proxy.now, name.number)
