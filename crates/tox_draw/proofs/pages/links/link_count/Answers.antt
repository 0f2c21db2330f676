-- Each row's link is in the set.
use Rattle.std.proofs.Common.{◌∙◌, ◌++◌, List, ℕ, [], ◌∷◌, map, refl, ap, sym, take}
use Rattle.std.specs.List.{list_any}
use Rattle.std.specs.Set.{is_member}
use Rattle.std.proofs.lemmas.List.{take_all}
use Rattle.tox_text.proofs.Listed.{IsAt}
use Rattle.tox_draw.specs.declared.pages.links.LinkName.{LinkName}
use Rattle.tox_draw.specs.pages.Links.{Link, link_of, same_link}
use Rattle.tox_draw.proofs.pages.Linked.{is_member-more, length-links, links_of-more}
use Rattle.tox_draw.proofs.pages.links.link_count.Goals as goal

pub loop-row-init : goal.loop-row-init
loop-row-init c = λ name. ap (λ (keys : List LinkName). list_any (λ key. same_link (name.proxy.now, name.number) (key.proxy.now, key.number)) keys)
    c.new-links.ensures.empty

pub loop-row-preserved : goal.loop-row-preserved
loop-row-preserved c = λ name.
    let row = c.row-item.result in
    let turn = c.loop-row.row-index in
    let links = map link_of (take turn c.args.rows.now) in
    let here : IsAt c.args.rows.now turn row = record { below = c.loop-row-test.true; default = row; is = c.row-item.is } in
    let asked : Link = (name.proxy.now, name.number) in
    let one : List ℕ → List Link = λ proxy. (proxy, row.facts.link) ∷ [] in
    is_member-more links (c.as_str.result.now, row.facts.link) asked _ _ (c.loop-row.invariant name) (c.in_ok-insert.ensures.updates.0 name)
    ∙ ap (λ more. is_member same_link (links ++ more) asked) (ap one c.as_str.ensures.value)
    ∙ ap (λ all. is_member same_link all asked) (sym (links_of-more c.args.rows.now turn row here))

pub returns : goal.returns
returns c =
    let link : LinkName → Link = λ name. (name.proxy.now, name.number) in
    let key : Link → LinkName = λ l. record { proxy = record { ref_ptr = (0, 0); now = l.0 }; number = l.1 } in
    c.len.ensures.len
    ∙ length-links _ link key (λ l. refl) (λ a b. refl) c.loop-row.links.keys (map link_of c.args.rows.now) c.len.ensures.unique
    (λ name. c.loop-row.invariant name ∙ ap (λ rows. is_member same_link (map link_of rows) (link name))
    (take_all c.loop-row.row-index c.args.rows.now c.loop-row-test.false))
