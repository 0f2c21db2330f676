-- One part, and then the other.
use Rattle.std.proofs.Common.{◌++◌, ap, flat_map, ◌∙◌}
use Rattle.tox_config.specs.Remarks.{Noted}
use Rattle.tox_check.specs.FileLines.{repeated_lines, toxiproxys_lines, unread_lines}
use Rattle.tox_check.proofs.LinesThen.{PrintsLines-front, PrintsLines-stops, PrintsLines-then}
use Rattle.tox_check.proofs.file_lines.print_noted.Goals as goal

pub returns-in_err-unread : goal.returns-in_err-unread
returns-in_err-unread g c =
    let unread = c.deref.ensures.value ∙ ap (λ (n : Noted). n.unread) c.remarks.view_is in
    let first = rw unread at c.in_err-unread.ensures in
    PrintsLines-front (flat_map unread_lines c.args.remarks.now.unread) (toxiproxys_lines c.args.remarks.now.unread ++ flat_map repeated_lines c.args.remarks.now.repeated) c.from_residual.ensures.1 first

pub returns-in_err-others : goal.returns-in_err-others
returns-in_err-others g c =
    let unread = c.deref.ensures.value ∙ ap (λ (n : Noted). n.unread) c.remarks.view_is in
    let unread_again = c.deref-2.ensures.value ∙ ap (λ (n : Noted). n.unread) c.remarks.view_is in
    let repeated = c.deref-3.ensures.value ∙ ap (λ (n : Noted). n.repeated) c.remarks.view_is in
    let first = rw unread at c.in_ok-unread.ensures in
    let others = rw (unread_again, repeated) at c.in_err-others.ensures in
    PrintsLines-stops (flat_map unread_lines c.args.remarks.now.unread) (toxiproxys_lines c.args.remarks.now.unread ++ flat_map repeated_lines c.args.remarks.now.repeated) c.from_residual-in_err-others.ensures.1 first others

pub returns : goal.returns
returns g c =
    let unread = c.deref.ensures.value ∙ ap (λ (n : Noted). n.unread) c.remarks.view_is in
    let unread_again = c.deref-2.ensures.value ∙ ap (λ (n : Noted). n.unread) c.remarks.view_is in
    let repeated = c.deref-3.ensures.value ∙ ap (λ (n : Noted). n.repeated) c.remarks.view_is in
    let first = rw unread at c.in_ok-unread.ensures in
    let others = rw (unread_again, repeated) at c.in_ok-others.ensures in
    PrintsLines-then (flat_map unread_lines c.args.remarks.now.unread) (toxiproxys_lines c.args.remarks.now.unread ++ flat_map repeated_lines c.args.remarks.now.repeated) first others c.saturating_add.ensures
