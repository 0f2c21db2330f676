-- What is reported of the rules of a script.
use Rattle.std.specs.Prelude.{ℕ, ◌==◌, ◌&&◌, not, Bool, false, List, [], ◌∷◌, ◌++◌, codes, decimal, flat_map, length, map, slice_get, take, ◌-◌, Option, None}
use Rattle.std.specs.Prelude.{Some, if◌then◌else◌}
use Rattle.std.specs.List.{enumerate_from, find}
use Rattle.tox_time.specs.declared.streams.stream.Stream.{Stream}
use Rattle.tox_defs.specs.declared.chain.Entry.{Entry}
use Rattle.tox_config.specs.Populate.{is_named}
use Rattle.tox_config.specs.Proxy.{Proxy}
use Rattle.tox_config.specs.Remarks.{Noted}
use Rattle.tox_script.specs.Rule.{Rule, Rules}
use Rattle.tox_script.specs.chains.Chains.{on}
use Rattle.tox_script.specs.declared.chains.Chains.{Chains}
use Rattle.tox_check.specs.forecast.Totals.{PlacedToxic, placed_from}
use Rattle.tox_check.specs.declared.forecast.totals.places.Places.{Places}
use Rattle.tox_text.specs.Nearest.{nearest}
use Rattle.tox_check.specs.Coverage.{last_of, own_of, taken_of, within}
use Rattle.tox_check.specs.FileLines.{file_lines}
use Rattle.tox_check.specs.Idle.{idleness_at}
use Rattle.tox_check.specs.ProxyLines.{line_if}
use Rattle.tox_check.specs.Sentences.{changes_nothing_text, covered_text, disabled_text, no_toxicity_text, partly_text, seldom_text, unknown_text}
use Rattle.tox_check.specs.Summary.{greatest, least}
use Rattle.tox_check.specs.declared.idleness.Idleness.{Idleness}
use Rattle.tox_check.specs.declared.run.Run.{Run}

-- some runs are a rule's own, and these are taken by others
abbrev pub partly_warnings : List Run → List Run → List (List ℕ)
partly_warnings own [] = []
partly_warnings own (run ∷ runs) =
    partly_text (take 8 own) (length own - 8) (take 8 (run ∷ runs)) (length (run ∷ runs) - 8) ∷ []

-- these runs are a rule's own, and these are taken by others
abbrev pub coverage_warnings : ℕ → List Run → List Run → List (List ℕ)
coverage_warnings number [] taken = covered_text (least number taken) (greatest 0 taken) ∷ []
coverage_warnings number (run ∷ own) taken = partly_warnings (run ∷ own) taken

-- what is reported of the connections of a rule, which meet these runs
abbrev pub met_warnings : ℕ → List Run → List (List ℕ)
met_warnings number runs = coverage_warnings number (own_of number runs) (taken_of number runs)

-- whether a toxic is never applied
abbrev pub is_silent : Option Entry → Bool
is_silent None = false
is_silent (Some entry) = entry.toxicity == 0

-- whether a toxicity is the number 1, and no decimal text
abbrev pub is_seldom : Option Bool → Option Entry → Bool
is_seldom None entry = false
is_seldom (Some decimal) None = false
is_seldom (Some decimal) (Some entry) = not decimal && entry.toxicity == 1

-- what is reported of the toxic of a number, which may be known to change nothing, and may be applied seldom
abbrev pub idle_warnings : ℕ → Option Idleness → Bool → List (List ℕ)
idle_warnings number None seldom = line_if seldom (seldom_text number)
idle_warnings number (Some why) seldom = changes_nothing_text number why ∷ []

-- what is reported of a placed toxic, where each toxicity is a decimal text or not
abbrev pub toxic_warnings : List Bool → Chains → PlacedToxic → List (List ℕ)
toxic_warnings decimals chains placed =
    if is_silent (slice_get (on placed.stream chains).chain.entries placed.place)
    then no_toxicity_text placed.number ∷ []
    else idle_warnings placed.number
    (idleness_at placed.place (on placed.stream chains).chain.entries)
    (is_seldom (slice_get decimals (placed.number - 1))
    (slice_get (on placed.stream chains).chain.entries placed.place))

-- what is reported of toxics on these streams, of which the first has these places
abbrev pub silent_warnings : List Bool → Chains → Places → List Stream → List (List ℕ)
silent_warnings decimals chains at order = flat_map (toxic_warnings decimals chains) (placed_from at order)

-- what is reported of the toxics of a rule
abbrev pub toxics_warnings : List Bool → Chains → List Stream → List (List ℕ)
toxics_warnings decimals chains order =
    silent_warnings decimals chains (record { number = 1; upstream = 0; downstream = 0 }) order

-- what is reported of a rule's proxy
abbrev pub proxy_warnings : Proxy → List (List ℕ)
proxy_warnings proxy = if proxy.enabled then [] else disabled_text proxy.name ∷ []

-- the names of proxies
abbrev pub proxy_names : List Proxy → List (List ℕ)
proxy_names proxies = map (λ proxy. proxy.name) proxies

-- what is reported of the rule of a number from 1, by its proxy, if there is one, and by the runs of this
abbrev pub known_warnings : List Proxy → ℕ → Rule → List Run → Option Proxy → List (List ℕ)
known_warnings proxies number rule runs None = unknown_text rule.proxy (nearest rule.proxy (proxy_names proxies)) ∷ []
known_warnings proxies number rule runs (Some proxy) =
    met_warnings number (within rule.first (last_of rule.last) runs)
    ++ (toxics_warnings rule.decimals rule.chains rule.order ++ proxy_warnings proxy)

-- what is reported of the rule of a number from 1, by the runs of each proxy
abbrev pub rule_warnings : List Proxy → (List ℕ → List Run) → ℕ → Rule → List (List ℕ)
rule_warnings proxies runs number rule =
    known_warnings proxies number rule (runs rule.proxy) (find (is_named rule.proxy) proxies)

-- the lines of the rule of a number from 1
abbrev pub rule_lines : List Proxy → (List ℕ → List Run) → ℕ → Rule → List (List ℕ)
rule_lines proxies runs number rule =
    map (λ warning_text. (codes "rule " ++ decimal number) ++ warning_text) (rule_warnings proxies runs number rule)

-- the lines of each rule in the script's order
abbrev pub rules_lines : List Proxy → Rules → (List ℕ → List Run) → List (List ℕ)
rules_lines proxies script runs =
    flat_map (λ numbered. rule_lines proxies runs numbered.0 numbered.1)
    (enumerate_from 1 script.rules)

-- the lines of a check: those of the populate file, and then those of the rules
abbrev pub check_lines : Noted → List Proxy → Rules → (List ℕ → List Run) → List (List ℕ)
check_lines noted proxies script runs = file_lines noted proxies ++ rules_lines proxies script runs
