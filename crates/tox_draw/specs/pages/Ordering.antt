-- The links of a page on their way into order.
use Rattle.std.specs.Prelude.{◌≡◌, not, List, [], ◌∷◌, ◌++◌, filter, Option, Some, None}
use Rattle.tox_draw.specs.declared.pages.link_logs.LinkLogs.{LinkLogs}
use Rattle.tox_draw.specs.declared.pages.ordering.SortedLinks.{SortedLinks}
use Rattle.tox_draw.specs.declared.pages.row.Row.{Row}
use Rattle.tox_draw.specs.pages.LinkLogs.{link_logs_of, marks_link}

-- these links came in this order
pub record SortsLinks (sorted : SortedLinks) (links : List LinkLogs) : Type 0 where
  pub marked : sorted.marked.items ≡ filter marks_link links
  pub unmarked : sorted.unmarked.items ≡ filter (λ link. not (marks_link link)) links

-- a link came behind all others
abbrev pub AddsLink : SortedLinks → LinkLogs → SortedLinks → Type 0
AddsLink old link new =
    (links : List LinkLogs) → SortsLinks old links → SortsLinks new (links ++ link ∷ [])

-- some logs behind the one that waits
abbrev pub behind_waiting : Option Row → List Row → List Row
behind_waiting None rows = rows
behind_waiting (Some first) rows = first ∷ rows

-- links came, and a log waits: with those that are left they are the links of these logs
pub record LinksSoFar (sorted : SortedLinks) (waiting : Option Row) (left rows : List Row) : Type 0 where
  pub links : List LinkLogs
  pub sorts : SortsLinks sorted links
  pub whole : links ++ link_logs_of (behind_waiting waiting left) ≡ link_logs_of rows

-- the next log was taken
abbrev pub TakesRow : SortedLinks → Option Row → Row → SortedLinks → Option Row → Type 0
TakesRow old before row new after =
    (left rows : List Row) → LinksSoFar old before (row ∷ left) rows → LinksSoFar new after left rows
