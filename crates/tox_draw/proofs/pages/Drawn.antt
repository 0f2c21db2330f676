-- The conversations of links, one behind the other.
use Rattle.std.proofs.Common.{◌≡◌, ℕ, ◌+◌, ◌<◌, ◌≤◌, List, [], ◌∷◌, ◌++◌, length, take, drop, min, None, refl, ap, sym, ◌∙◌, subst, append_assoc, append-nil}
use Rattle.std.proofs.Common.{arith}
use Rattle.std.proofs.lemmas.List.{length-take-le, take_min, take_more, take-append-drop}
use Rattle.std.proofs.lemmas.Option.{none-some}
use Rattle.tox_text.proofs.Listed.{IsAt}
use Rattle.tox_draw.specs.Axes.{axis_of}
use Rattle.tox_draw.specs.declared.pages.link_logs.LinkLogs.{LinkLogs}
use Rattle.tox_draw.specs.declared.pages.link_logs.LinkLogs.TheVariants.{One, Both}
use Rattle.tox_draw.specs.declared.pages.row.Refusal.{Refusal}
use Rattle.tox_draw.specs.declared.pages.row.Row.{Row}
use Rattle.tox_draw.specs.pages.Conversations.{AreSections, IsSection}
use Rattle.tox_draw.specs.pages.Fronts.{page_front}
use Rattle.tox_draw.specs.pages.LinkLogs.{link_words, page_links}
use Rattle.tox_draw.specs.pages.Links.{link_count}
use Rattle.tox_draw.specs.pages.Logs.{KnownLog}
use Rattle.tox_draw.specs.pages.Pages.{IsPage, IsPageBody, page_end, page_list}
use Rattle.tox_draw.specs.pages.Sections.{both_section, one_section}

-- some conversations, and others behind them
AreSections-append : (known : List ℕ → KnownLog) (number m : ℕ) (xs ys : List LinkLogs) (a b : List ℕ) → m ≡ number + length xs
    → AreSections known number xs a → AreSections known m ys b → AreSections known number (xs ++ ys) (a ++ b)
AreSections-append known number m [] ys a b is before after =
    let here : m ≡ number = omega (arith, is) in
    rw (before, ← here) after
AreSections-append known number m (x ∷ xs) ys a b is before after =
    let next : m ≡ (number + 1) + length xs = omega (arith, is) in
    let others = AreSections-append known (number + 1) m xs ys before.1 b next before.3 after in
    (before.0, before.1 ++ b, before.2, others, ap (λ text. text ++ b) before.4 ∙ append_assoc before.0 before.1 b)

-- one conversation
AreSections-one : (known : List ℕ → KnownLog) (number : ℕ) (link : LinkLogs) (text : List ℕ) → IsSection known number link text
    → AreSections known number (link ∷ []) text
AreSections-one known number link text stands = (text, [], stands, refl, sym (append-nil text))

-- any link has a conversation, if no pictures
pub IsSection-any : (known : List ℕ → KnownLog) (number : ℕ) (link : LinkLogs) → (text : List ℕ) × IsSection known number link text
IsSection-any known number (One row) = (
  one_section (link_words (One row)) number row.facts None,
  record { time = axis_of 0; picture = None; drawn = λ shown some. absurd (none-some shown some); is = refl },
)
IsSection-any known number (Both up down) = (
  both_section (link_words (Both up down)) number up.facts down.facts None None,
  record {
    time = axis_of 0;
    upstream = None;
    downstream = None;
    above = λ shown some. absurd (none-some shown some);
    below = λ shown some.
        absurd (none-some shown some);
    is = refl;
  },
)

pub AreSections-any : (known : List ℕ → KnownLog) (number : ℕ) (links : List LinkLogs) → (text : List ℕ) × AreSections known number links text
AreSections-any known number [] = ([], refl)
AreSections-any known number (link ∷ links) =
    let first = IsSection-any known number link in
    let others = AreSections-any known (number + 1) links in
    (first.0 ++ others.0, (first.0, others.0, first.1, others.1, refl))

-- links have a list and conversations
pub IsPageBody-any : (known : List ℕ → KnownLog) (refusals : List Refusal) (links : List LinkLogs) (shown : ℕ)
    → (text : List ℕ) × IsPageBody known refusals links shown text
IsPageBody-any known refusals links shown =
    let sections = AreSections-any known 1 (take shown links) in
    (page_list refusals links shown ++ (sections.0 ++ page_end), record { sections = sections.0; drawn = sections.1; whole = refl })

-- logs have a page
pub IsPage-any : (known : List ℕ → KnownLog) (title : List ℕ) (refusals : List Refusal) (rows : List Row) (shown : ℕ)
    → (text : List ℕ) × IsPage known title refusals rows shown text
IsPage-any known title refusals rows shown =
    let body = IsPageBody-any known refusals (page_links rows) shown in
    (page_front title (length refusals) rows (link_count rows) ++ body.0, record { body = body.0; below = body.1; whole = refl })

-- the page of the logs that a report keeps
pub IsPage-kept : (known : List ℕ → KnownLog) (title : List ℕ) (kept : List Refusal) (judged : List Row) (refusals : List Refusal) (rows : List Row) (shown : ℕ)
    (text : List ℕ)
    → kept ≡ refusals → judged ≡ rows → IsPage known title kept judged shown text → IsPage known title refusals rows shown text
IsPage-kept known title kept judged refusals rows shown text refused same page =
    subst (λ others. IsPage known title others rows shown text) refused (subst (λ logs. IsPage known title kept logs shown text) same page)

le_of : (i n : ℕ) → i < n → i ≤ n
le_of i n below = omega arith

-- one conversation more
pub AreSections-more : (known : List ℕ → KnownLog) (links : List LinkLogs) (i : ℕ) (link : LinkLogs) (a b : List ℕ) → IsAt links i link
    → AreSections known 1 (take i links) a → IsSection known (i + 1) link b → AreSections known 1 (take (i + 1) links) (a ++ b)
AreSections-more known links i link a b here before stands =
    let long : i + 1 ≡ 1 + length (take i links) = omega (arith, length-take-le i links (le_of i (length links) here.below)) in
    subst (λ some. AreSections known 1 some (a ++ b)) (ap (λ x. take i links ++ x ∷ []) here.is ∙ sym (take_more links i here.default here.below))
    (AreSections-append known 1 (i + 1) (take i links) (link ∷ []) a b long before (AreSections-one known (i + 1) link b stands))

-- and others behind it
pub AreSections-rest : (known : List ℕ → KnownLog) (links : List LinkLogs) (i : ℕ) (link : LinkLogs) (a b : List ℕ) → IsAt links i link
    → AreSections known 1 (take i links) a → IsSection known (i + 1) link b → (c : List ℕ) × AreSections known 1 links (a ++ (b ++ c))
AreSections-rest known links i link a b here before stands =
    let front = take (i + 1) links in
    let rest = AreSections-any known (1 + length front) (drop (i + 1) links) in
    let all = AreSections-append known 1 (1 + length front) front (drop (i + 1) links) (a ++ b) rest.0 refl
    (AreSections-more known links i link a b here before stands) rest.1 in (
      rest.0,
      subst (λ text. AreSections known 1 links text) (append_assoc a b rest.0)
          (subst (λ some. AreSections known 1 some ((a ++ b) ++ rest.0)) (take-append-drop (i + 1) links) all),
    )

-- there are no more links than there are
pub AreSections-min : (known : List ℕ → KnownLog) (links : List LinkLogs) (shown count : ℕ) (text : List ℕ) → count ≡ min (length links) shown
    → AreSections known 1 (take count links) text → AreSections known 1 (take shown links) text
AreSections-min known links shown count text is are =
    let same : count ≡ min shown (length links) = omega (arith, is) in
    subst (λ some. AreSections known 1 some text) (ap (λ n. take n links) same ∙ take_min shown links) are
