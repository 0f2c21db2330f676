-- Once all logs were taken, the one that waits is a link alone.
use Rattle.std.proofs.Common.{◌≡◌, [], Option, Some, None, rules, subst, sym}
use Rattle.std.proofs.lemmas.List.{nil_from_length}
use Rattle.std.proofs.lemmas.Result.{IfOk-weaker}
use Rattle.std.specs.Vec.Iter.{into_iter_items}
use Rattle.tox_draw.specs.declared.pages.ordering.SortedLinks.{SortedLinks}
use Rattle.tox_draw.specs.declared.pages.row.Row.{Row}
use Rattle.tox_draw.specs.pages.LinkLogs.{link_logs_of}
use Rattle.tox_draw.specs.pages.Ordering.{LinksSoFar, SortsLinks}
use Rattle.tox_draw.proofs.pages.Sorted.{sorts-all, takes-last}
use Rattle.tox_draw.proofs.pages.ordering.page_links.Goals as goal
use Rattle.tox_draw.proofs.pages.ordering.page_links.Goals.{in-Some-waiting+in_ok-add, in_default}

pub returns : goal.returns
returns c =
    let turn = c.loop-row in
    let rows = c.args.rows.items in
    let none : into_iter_items turn.row-iterator ≡ [] = nil_from_length _ (search rules) in
    let all : LinksSoFar turn.sorted turn.waiting [] rows = subst (λ left. LinksSoFar turn.sorted turn.waiting left rows) none turn.invariant.2 in
    let sorts : SortsLinks c.match-waiting.sorted (link_logs_of rows) = elim c.match-waiting.branch [
      | in-Some-waiting+in_ok-add w ↦
          let last : LinksSoFar turn.sorted (Some w.in-Some-waiting.row) [] rows =
          subst (λ (waiting : Option Row). LinksSoFar turn.sorted waiting [] rows) w.in-Some-waiting.is all in
          subst (λ (sorted : SortedLinks). SortsLinks sorted (link_logs_of rows)) (sym w.sorted-is)
          (sorts-all w.add.new.self rows (takes-last turn.sorted w.add.new.self w.in-Some-waiting.row rows w.in_ok-add.ensures last))
      | in_default w ↦
          let last : LinksSoFar turn.sorted None [] rows = subst (λ (waiting : Option Row). LinksSoFar turn.sorted waiting [] rows) w.in_default.is all in
          subst (λ (sorted : SortedLinks). SortsLinks sorted (link_logs_of rows)) (sym w.sorted-is) (sorts-all turn.sorted rows last)
    ] in
    IfOk-weaker c.into_links.result _ _ (λ links same. same (link_logs_of rows) sorts) c.into_links.ensures
