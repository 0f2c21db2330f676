-- Which toxics a connection meets: those of the first rule that covers it.
use Rattle.std.specs.Prelude.{ℕ, ◌&&◌, Bool, true, List, nat_le, Option, Some, None}
use Rattle.std.specs.List.{find}
use Rattle.std.specs.Str.{bytes_eq}
use Rattle.tox_time.specs.declared.streams.stream.Stream.{Stream}
use Rattle.tox_script.specs.chains.Chains.{no_chains, on}
use Rattle.tox_script.specs.chains.NamedChain.{NamedToxics}
use Rattle.tox_script.specs.Rule.{Rule, Rules}
use Rattle.tox_script.specs.declared.chains.Chains.{Chains}
use Rattle.tox_words.specs.declared.lanes.Lanes.{Lanes}

-- whether a connection comes before an end; there may be none
abbrev pub is_up_to : ℕ → Option ℕ → Bool
is_up_to conn None = true
is_up_to conn (Some last) = nat_le conn last

-- whether a rule covers a connection of a proxy
abbrev pub covers : List ℕ → ℕ → Rule → Bool
covers proxy conn rule =
    bytes_eq rule.proxy proxy && nat_le rule.first conn && is_up_to conn rule.last

-- the first rule of a script that covers a connection of a proxy
abbrev pub covering : List ℕ → ℕ → Rules → Option Rule
covering proxy conn script = find (covers proxy conn) script.rules

-- the chains of a rule; no toxic on so many lanes where there is no rule
abbrev pub chains_in : Lanes → Option Rule → Chains
chains_in lanes None = no_chains lanes
chains_in lanes (Some rule) = rule.chains

-- the chains that a connection of a proxy meets
abbrev pub chains_for : List ℕ → ℕ → Rules → Chains
chains_for proxy conn script = chains_in script.settings.lanes (covering proxy conn script)

-- the toxics that a connection of a proxy meets on a stream
abbrev pub toxics_for : List ℕ → ℕ → Stream → Rules → NamedToxics
toxics_for proxy conn stream script = on stream (chains_for proxy conn script)
