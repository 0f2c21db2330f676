-- The logs so far were taken.
use Rattle.std.specs.Vec.Iter.{into_iter_items}
use Rattle.tox_draw.specs.pages.Ordering.{LinksSoFar}
use Rattle.tox_draw.proofs.pages.ordering.page_links.Given as goal

abbrev pub invariant-loop-row : goal.invariant-loop-row
invariant-loop-row l =
    (goal.iterator-loop-row).can_next l.row-iterator × (goal.iterator-loop-row).is_finite l.row-iterator
    × LinksSoFar l.sorted l.waiting (into_iter_items l.row-iterator) l.fn.rows.items
