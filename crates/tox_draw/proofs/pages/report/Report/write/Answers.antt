-- The page was printed, and then what waited was written.

use Rattle.std.proofs.Common.{rules}
use Rattle.std.proofs.lemmas.Result.{err_from_is_err_and}
use Rattle.tox_draw.proofs.pages.Drawn.{IsPage-kept}
use Rattle.tox_draw.proofs.pages.Shown.{LeavesPage-broken, LeavesPage-stopped, LeavesPage-whole}
use Rattle.tox_draw.proofs.pages.report.Report.write.Goals as goal

pub returns-in_err-print_page : goal.returns-in_err-print_page
returns-in_err-print_page g c = λ refusals rows kept.
    let exit = err_from_is_err_and c.from_residual.result c.from_residual.ensures.1 in
    let printed = c.in_err-print_page.ensures in
    let same = printed.shows.same_writer in
    let left = rw c.new-printer.ensures.writer at (LeavesPage-broken c.new-printer.ensures.empty printed.shows) in
    record {
      text = printed.text;
      page = IsPage-kept (g.S.LogStore.known c.args.store.now) c.args.title.now _ _ refusals rows c.args.shown printed.text kept.refused kept.judged printed.is;
      left = rw (exit.1, exit.2) (search (rules, left, same));
    }

pub returns-in-Ok : goal.returns-in-Ok
returns-in-Ok g c = λ refusals rows kept.
    let printed = c.in_ok-print_page.ensures in
    let same = printed.shows.same_writer in
    let left = rw c.new-printer.ensures.writer at (LeavesPage-whole _ c.new-printer.ensures.empty printed.shows c.in-Ok.ensures) in
    record {
      text = printed.text;
      page = IsPage-kept (g.S.LogStore.known c.args.store.now) c.args.title.now _ _ refusals rows c.args.shown printed.text kept.refused kept.judged printed.is;
      left = search (rules, left, same);
    }

pub returns-in-Err : goal.returns-in-Err
returns-in-Err g c = λ refusals rows kept.
    let printed = c.in_ok-print_page.ensures in
    let same = printed.shows.same_writer in
    let left = rw c.new-printer.ensures.writer at (LeavesPage-stopped c.in-Err.field-0 _ c.new-printer.ensures.empty printed.shows c.in-Err.ensures) in
    record {
      text = printed.text;
      page = IsPage-kept (g.S.LogStore.known c.args.store.now) c.args.title.now _ _ refusals rows c.args.shown printed.text kept.refused kept.judged printed.is;
      left = search (rules, left, same);
    }
