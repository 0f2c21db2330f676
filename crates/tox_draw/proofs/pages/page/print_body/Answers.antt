-- The list, the conversations, and the page's end.
use Rattle.std.proofs.Common.{◌++◌, refl, take}
use Rattle.tox_draw.proofs.pages.Drawn.{AreSections-any, AreSections-min}
use Rattle.tox_draw.specs.pages.Pages.{page_end, page_list}
use Rattle.tox_text.proofs.Printings.{Prints-failed, Prints-then}
use Rattle.tox_draw.proofs.pages.page.print_body.Goals as goal

pub returns-in_err-print_list : goal.returns-in_err-print_list
returns-in_err-print_list g c =
    let sections = AreSections-any (g.S.LogStore.known c.args.store.now) 1 (take c.args.shown c.args.links.now) in
    record {
      text = page_list c.args.refusals.now c.args.links.now c.args.shown ++ (sections.0 ++ page_end);
      is = record { sections = sections.0; drawn = sections.1; whole = refl };
      shows = Prints-failed _ c.from_residual.ensures.1 c.in_err-print_list.ensures;
    }

pub returns-in_err-print_sections : goal.returns-in_err-print_sections
returns-in_err-print_sections g c =
    let sections = c.in_err-print_sections.ensures in
    record {
      text = page_list c.args.refusals.now c.args.links.now c.args.shown ++ (sections.text ++ page_end);
      is = record {
        sections = sections.text;
        drawn = AreSections-min (g.S.LogStore.known c.args.store.now) c.args.links.now c.args.shown c.min-count.result
            sections.text c.min-count.ensures sections.is;
        whole = refl;
      };
      shows = Prints-then c.in_ok-print_list.ensures
          (Prints-failed _ c.from_residual-in_err-print_sections.ensures.1 sections.shows);
    }

pub returns : goal.returns
returns g c =
    let sections = c.in_ok-print_sections.ensures in
    record {
      text = page_list c.args.refusals.now c.args.links.now c.args.shown ++ (sections.text ++ page_end);
      is = record {
        sections = sections.text;
        drawn = AreSections-min (g.S.LogStore.known c.args.store.now) c.args.links.now c.args.shown c.min-count.result
            sections.text c.min-count.ensures sections.is;
        whole = refl;
      };
      shows = Prints-then c.in_ok-print_list.ensures
          (Prints-then sections.shows c.print_page_end.ensures);
    }
