-- A link more in order, and a log more on its way to one.
use Rattle.std.proofs.Common.{◌≡◌, Bool, true, false, cond, not, List, [], ◌∷◌, ◌++◌, filter, Option, Some, None, refl, ap, sym, subst, ◌∙◌, append_assoc}
use Rattle.std.proofs.Common.{append-nil}
use Rattle.std.proofs.lemmas.List.Elements.{filter-append}
use Rattle.tox_draw.specs.declared.pages.link_logs.LinkLogs.{LinkLogs}
use Rattle.tox_draw.specs.declared.pages.link_logs.LinkLogs.TheVariants.{One}
use Rattle.tox_draw.specs.declared.pages.ordering.SortedLinks.{SortedLinks}
use Rattle.tox_draw.specs.declared.pages.row.Row.{Row}
use Rattle.tox_draw.specs.pages.LinkLogs.{joined, link_logs_of, makes_link, marks_link}
use Rattle.tox_draw.specs.pages.Ordering.{AddsLink, LinksSoFar, SortsLinks, behind_waiting}

-- a link behind others, which passes or not
filter_one : (test : LinkLogs → Bool) (links : List LinkLogs) (link : LinkLogs) (passes : Bool) → test link ≡ passes
    → filter test (links ++ link ∷ []) ≡ filter test links ++ cond passes (link ∷ []) []
filter_one test links link passes is =
    filter-append test links (link ∷ []) ∙ ap (λ b. filter test links ++ cond b (link ∷ []) []) is

pub AddsLink-marked : (old new : SortedLinks) (link : LinkLogs) → marks_link link ≡ true → new.marked.items ≡ old.marked.items ++ link ∷ []
    → new.unmarked.items ≡ old.unmarked.items → AddsLink old link new
AddsLink-marked old new link is more same links kept = record {
  marked = more ∙ ap (λ xs. xs ++ link ∷ []) kept.marked ∙ sym (filter_one marks_link links link true is);
  unmarked = same ∙ kept.unmarked ∙ sym (filter_one (λ l. not (marks_link l)) links link false (ap not is) ∙ append-nil _);
}

pub AddsLink-unmarked : (old new : SortedLinks) (link : LinkLogs) → marks_link link ≡ false → new.marked.items ≡ old.marked.items
    → new.unmarked.items ≡ old.unmarked.items ++ link ∷ [] → AddsLink old link new
AddsLink-unmarked old new link is same more links kept = record {
  marked = same ∙ kept.marked ∙ sym (filter_one marks_link links link false is ∙ append-nil _);
  unmarked = more ∙ ap (λ xs. xs ++ link ∷ []) kept.unmarked ∙ sym (filter_one (λ l. not (marks_link l)) links link true (ap not is));
}

-- two neighbours that make a link, and two that don't
link_logs-joined : (first second : Row) (rows : List Row) → makes_link first second ≡ true
    → link_logs_of (first ∷ (second ∷ rows)) ≡ joined first second ∷ link_logs_of rows
link_logs-joined first second rows is = ap (λ b. cond b (joined first second ∷ link_logs_of rows) (One first ∷ link_logs_of (second ∷ rows))) is

link_logs-apart : (first second : Row) (rows : List Row) → makes_link first second ≡ false
    → link_logs_of (first ∷ (second ∷ rows)) ≡ One first ∷ link_logs_of (second ∷ rows)
link_logs-apart first second rows is = ap (λ b. cond b (joined first second ∷ link_logs_of rows) (One first ∷ link_logs_of (second ∷ rows))) is

-- a link that came, with what waits then
comes : (old new : SortedLinks) (link : LinkLogs) (waiting : Option Row) (left rows others : List Row) (links : List LinkLogs) → AddsLink old link new
    → SortsLinks old links
    → links ++ link_logs_of others ≡ link_logs_of rows → link_logs_of others ≡ link ∷ link_logs_of (behind_waiting waiting left)
    → LinksSoFar new waiting left rows
comes old new link waiting left rows others links adds sorts whole next = record {
  links = links ++ link ∷ [];
  sorts = adds links sorts;
  whole = append_assoc links (link ∷ []) (link_logs_of (behind_waiting waiting left)) ∙ ap (λ more. links ++ more) (sym next) ∙ whole;
}

pub takes-joined : (old new : SortedLinks) (first second : Row) (left rows : List Row) → makes_link first second ≡ true → AddsLink old (joined first second) new
    → LinksSoFar old (Some first) (second ∷ left) rows → LinksSoFar new None left rows
takes-joined old new first second left rows is adds so_far =
    comes old new (joined first second) None left rows (first ∷ (second ∷ left)) so_far.links adds so_far.sorts so_far.whole
    (link_logs-joined first second left is)

pub takes-apart : (old new : SortedLinks) (first second : Row) (left rows : List Row) → makes_link first second ≡ false → AddsLink old (One first) new
    → LinksSoFar old (Some first) (second ∷ left) rows → LinksSoFar new (Some second) left rows
takes-apart old new first second left rows is adds so_far =
    comes old new (One first) (Some second) left rows (first ∷ (second ∷ left)) so_far.links adds so_far.sorts so_far.whole
    (link_logs-apart first second left is)

-- the last log, which has waited
pub takes-last : (old new : SortedLinks) (first : Row) (rows : List Row) → AddsLink old (One first) new → LinksSoFar old (Some first) [] rows
    → LinksSoFar new None [] rows
takes-last old new first rows adds so_far =
    comes old new (One first) None [] rows (first ∷ []) so_far.links adds so_far.sorts so_far.whole refl

-- all came
pub sorts-all : (sorted : SortedLinks) (rows : List Row) → LinksSoFar sorted None [] rows → SortsLinks sorted (link_logs_of rows)
sorts-all sorted rows so_far = subst (SortsLinks sorted) (sym (append-nil so_far.links) ∙ so_far.whole) so_far.sorts
