-- The toxics of a rule so far, by their streams.
use Rattle.std.specs.Prelude.{ℕ, ◌||◌, Bool, List, Result}
use Rattle.tox_time.specs.declared.streams.stream.Stream.{Stream}
use Rattle.tox_time.specs.declared.streams.stream.Stream.TheVariants.{Upstream, Downstream}
use Rattle.tox_defs.specs.declared.chain.Entry.{Entry}
use Rattle.tox_defs.specs.chain.Chain.{is_full}
use Rattle.tox_script.specs.fields.Fields.{is_among}
use Rattle.tox_script.specs.chains.NamedChain.{NamedToxics, nothing, with_toxic}
use Rattle.tox_script.specs.chains.Toxic.{NamedToxic}
use Rattle.tox_script.specs.chains.Toxics.{unless_refused}
use Rattle.tox_script.specs.declared.chains.Chains.{Chains}
use Rattle.tox_script.specs.declared.fault.Location.{Location}
use Rattle.tox_script.specs.declared.fault.ScriptFault.{ScriptFault}
use Rattle.tox_words.specs.declared.lanes.Lanes.{Lanes}

-- no toxic on either stream
abbrev pub no_chains : Lanes → Chains
no_chains lanes = record { upstream = nothing lanes; downstream = nothing lanes }

-- the toxics of a stream
abbrev pub on : Stream → Chains → NamedToxics
on Upstream chains = chains.upstream
on Downstream chains = chains.downstream

-- whether a toxic of either stream has a name
abbrev pub has_name : List ℕ → Chains → Bool
has_name name chains = is_among chains.upstream.names name || is_among chains.downstream.names name

-- one more toxic on a stream
abbrev pub pushed : Stream → Entry → List ℕ → Chains → Chains
pushed Upstream entry name chains =
    record chains { upstream = with_toxic entry name chains.upstream }
pushed Downstream entry name chains =
    record chains { downstream = with_toxic entry name chains.downstream }

-- the chains with the toxic at a location
abbrev pub put_toxic : Location → NamedToxic → Chains → Result Chains ScriptFault
put_toxic at toxic chains =
    unless_refused at
    (has_name toxic.name chains)
    (is_full (on toxic.stream chains).chain)
    (pushed toxic.stream toxic.entry toxic.name chains)
