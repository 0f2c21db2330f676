-- The pick text: a line for a proxy, and one for each toxic that a numbered connection of it meets on a stream.
use Rattle.std.specs.Prelude.{ℕ, Bool, true, false, List, ◌++◌, codes, decimal, flat_map}
use Rattle.std.specs.List.{enumerate_from, zip}
use Rattle.tox_time.specs.declared.streams.stream.Stream.{Stream}
use Rattle.tox_words.specs.Draw.{Draws}
use Rattle.tox_words.specs.Seeded.{seeded_words}
use Rattle.tox_config.specs.Proxy.{Proxy}
use Rattle.tox_defs.specs.chain.Applied.{is_applied}
use Rattle.tox_defs.specs.Flow.{chain_draws}
use Rattle.tox_defs.specs.short.Printed.{printed_short}
use Rattle.tox_defs.specs.declared.chain.Entry.{Entry}
use Rattle.tox_script.specs.Covering.{toxics_for}
use Rattle.tox_script.specs.chains.NamedChain.{NamedToxics}
use Rattle.tox_script.specs.Rule.{Rules}
use Rattle.tox_text.specs.Names.{visible_name}

-- whether a proxy is enabled
abbrev pub enabled_word : Bool → List ℕ
enabled_word true = codes "enabled"
enabled_word false = codes "disabled"

-- the line of a proxy
abbrev pub proxy_line : Proxy → List ℕ
proxy_line proxy =
    codes "proxy " ++ visible_name proxy.name ++ codes " listen " ++ proxy.listen ++ codes " upstream "
    ++ proxy.upstream ++ codes " " ++ enabled_word proxy.enabled ++ codes "\n"

-- whether a toxic is applied
abbrev pub applied_word : Bool → List ℕ
applied_word true = codes "applied"
applied_word false = codes "skipped"

-- the line of a named toxic at a place of its chain, under what its lanes draw
abbrev pub picked_toxic_line : Draws → ℕ → Entry → List ℕ → List ℕ
picked_toxic_line draws place entry name =
    decimal place ++ codes " " ++ applied_word (is_applied entry place draws) ++ codes " "
    ++ printed_short entry.toxic entry.toxicity ++ codes " " ++ visible_name name ++ codes "\n"

-- the lines of named toxics, in order
abbrev pub toxics_text : Draws → List Entry → List (List ℕ) → List ℕ
toxics_text draws entries names =
    flat_map (λ placed. picked_toxic_line draws placed.0 placed.1.0 placed.1.1)
    (enumerate_from 0 (zip entries names))

-- the line of a proxy, and then those of named toxics
abbrev pub pick_lines : Proxy → Draws → List Entry → List (List ℕ) → List ℕ
pick_lines proxy draws entries names = proxy_line proxy ++ toxics_text draws entries names

-- what a numbered connection of a proxy meets on a stream, under the words of a seed
abbrev pub pick_text : Proxy → Rules → ℕ → Stream → ℕ → List ℕ
pick_text proxy script conn stream seed =
    let met : NamedToxics = toxics_for proxy.name conn stream script in
    pick_lines proxy (chain_draws met.chain (seeded_words seed conn stream)) met.chain.entries met.names
