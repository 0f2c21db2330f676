-- One conversation behind the other.
use Rattle.std.proofs.Common.{◌<◌, ◌≤◌, [], ◌++◌, ◌∙◌, arith, length, refl, subst, sym, take}
use Rattle.std.proofs.lemmas.List.{get_or-take, length-take-le, take_all}
use Rattle.tox_text.proofs.Listed.{IsAt}
use Rattle.tox_draw.proofs.pages.Drawn.{AreSections-more, AreSections-rest}
use Rattle.tox_draw.specs.pages.Conversations.{AreSections}
use Rattle.tox_text.proofs.Printings.{Prints-failed, Prints-none, Prints-then}
use Rattle.tox_draw.proofs.pages.conversations.print_sections.Goals as goal

pub loop-place-init : goal.loop-place-init
loop-place-init g c = ([], refl, Prints-none c.requires.works)

pub loop-place-preserved : goal.loop-place-preserved
loop-place-preserved g c =
    let turn = c.loop-place in
    let xs = take c.args.count c.args.links.now in
    let link = c.index-links-place.result in
    let below : turn.place < length xs = omega (arith, length-take-le c.args.count c.args.links.now c.requires.there, c.loop-place-test.true) in
    let here : IsAt xs turn.place link = record {
      below = below;
      default = link;
      is = c.index-links-place.is
          ∙ sym (get_or-take c.args.count c.args.links.now turn.place link c.loop-place-test.true);
    } in
    let before = turn.invariant in
    let section = c.in_ok-print_section.ensures in (
      before.0 ++ section.text,
      AreSections-more (g.S.LogStore.known c.args.store.now) xs turn.place link before.0 section.text here before.1 section.is,
      Prints-then before.2 section.shows,
    )

pub returns-in_err-print_section : goal.returns-in_err-print_section
returns-in_err-print_section g c =
    let turn = c.loop-place in
    let xs = take c.args.count c.args.links.now in
    let link = c.index-links-place.result in
    let below : turn.place < length xs = omega (arith, length-take-le c.args.count c.args.links.now c.requires.there, c.loop-place-test.true) in
    let here : IsAt xs turn.place link = record {
      below = below;
      default = link;
      is = c.index-links-place.is
          ∙ sym (get_or-take c.args.count c.args.links.now turn.place link c.loop-place-test.true);
    } in
    let before = turn.invariant in
    let section = c.in_err-print_section.ensures in
    let others = AreSections-rest (g.S.LogStore.known c.args.store.now) xs turn.place link before.0 section.text here before.1 section.is in
    record {
      text = before.0 ++ (section.text ++ others.0);
      is = others.1;
      shows = Prints-then before.2 (Prints-failed _ c.from_residual.ensures.1 section.shows);
    }

pub returns : goal.returns
returns g c =
    let turn = c.loop-place in
    let xs = take c.args.count c.args.links.now in
    let past : length xs ≤ turn.place = omega (arith, length-take-le c.args.count c.args.links.now c.requires.there, c.loop-place-test.false) in
    let all = turn.invariant in
    record {
      text = all.0;
      is = subst (λ some. AreSections (g.S.LogStore.known c.args.store.now) 1 some all.0) (take_all turn.place xs past) all.1;
      shows = all.2;
    }
