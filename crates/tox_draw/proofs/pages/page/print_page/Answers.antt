-- The front, and then what stands below it.
use Rattle.std.proofs.Common.{◌++◌, ◌∙◌, length, refl}
use Rattle.tox_draw.proofs.pages.Drawn.{IsPageBody-any}
use Rattle.tox_draw.proofs.pages.Shown.{Shows-none}
use Rattle.tox_draw.specs.pages.Fronts.{page_front}
use Rattle.tox_draw.specs.pages.LinkLogs.{page_links}
use Rattle.tox_draw.specs.pages.Links.{link_count}
use Rattle.tox_text.proofs.Printings.{Prints-exited, Prints-failed, Prints-then}
use Rattle.tox_draw.proofs.pages.page.print_page.Goals as goal

pub returns-in_err-print_front : goal.returns-in_err-print_front
returns-in_err-print_front g c =
    let body = IsPageBody-any (g.S.LogStore.known c.args.store.now) c.args.report.refusals.items (page_links c.args.report.rows.items) c.args.shown in
    record {
      text = page_front c.args.title.now (length c.args.report.refusals.items) c.args.report.rows.items (link_count c.args.report.rows.items) ++ body.0;
      is = record { body = body.0; below = body.1; whole = refl };
      shows = Prints-failed _ c.from_residual.ensures.1 (rw (c.deref.ensures.value, c.deref-2.ensures.value) at c.in_err-print_front.ensures);
    }

pub returns-in_err-links : goal.returns-in_err-links
returns-in_err-links g c =
    let printed = rw (c.deref.ensures.value, c.deref-2.ensures.value) at c.in_ok-print_front.ensures in
    let body = IsPageBody-any (g.S.LogStore.known c.args.store.now) c.args.report.refusals.items (page_links c.args.report.rows.items) c.args.shown in
    record {
      text = page_front c.args.title.now (length c.args.report.refusals.items) c.args.report.rows.items (link_count c.args.report.rows.items) ++ body.0;
      is = record { body = body.0; below = body.1; whole = refl };
      shows = Prints-then printed
          (Prints-exited c.from_residual-in_err-links.ensures.1 (Shows-none printed.leaves.1));
    }

pub returns : goal.returns
returns g c =
    let printed = rw (c.deref.ensures.value, c.deref-2.ensures.value) at c.in_ok-print_front.ensures in
    let below = rw (c.deref-3.ensures.value, c.deref-4.ensures.value ∙ c.in_ok-links.ensures) at c.print_body.ensures in
    record {
      text = page_front c.args.title.now (length c.args.report.refusals.items) c.args.report.rows.items (link_count c.args.report.rows.items) ++ below.text;
      is = record { body = below.text; below = below.is; whole = refl };
      shows = Prints-then printed below.shows;
    }
