-- The toxics of a rule, in the file's order and by their streams.
use Rattle.std.specs.Prelude.{ℕ, ◌+◌, Bool, List, [], ◌∷◌, ◌++◌, filter, length, map, count_by, nat_le, Result, Ok, Err, if◌then◌else◌}
use Rattle.std.specs.List.{list_any}
use Rattle.std.specs.Str.{bytes_eq}
use Rattle.toml.specs.Data.{Data, Items, no_items, item}
use Rattle.tox_time.specs.declared.streams.stream.Stream.{Stream}
use Rattle.tox_time.specs.declared.streams.stream.Stream.TheVariants.{Upstream, Downstream}
use Rattle.tox_time.specs.Steps.{◌>>=◌, map_err}
use Rattle.tox_script.specs.chains.NamedChain.{NamedToxics}
use Rattle.tox_time.specs.streams.StreamName.{same_stream}
use Rattle.tox_script.specs.chains.Toxic.{NamedToxic, named_toxic}
use Rattle.tox_script.specs.fields.ToxicFields.{toxic_fields}
use Rattle.tox_script.specs.declared.chains.Chains.{Chains}
use Rattle.tox_script.specs.declared.fault.Location.{Location}
use Rattle.tox_script.specs.declared.fault.ScriptFault.{ScriptFault}
use Rattle.tox_script.specs.declared.fault.ScriptFault.TheVariants.{Field, Toxic, DoubleName, TooManyToxics}
use Rattle.tox_script.specs.declared.settings.Settings.{Settings}
use Rattle.tox_script.specs.declared.version.Version.{Version}
use Rattle.tox_words.specs.declared.lanes.Lanes.{Lanes}
use Rattle.tox_words.specs.Draw.{lane_count}

-- the toxic of the table at a location, or the table's first fault
abbrev pub toxic_at : Version → Location → Data → Result NamedToxic ScriptFault
toxic_at version at d = do
  fields ← map_err (Field at) (toxic_fields d)
  map_err (Toxic at) (named_toxic version fields)

-- whether a toxic is on a stream
abbrev pub is_on : Stream → NamedToxic → Bool
is_on stream toxic = same_stream stream toxic.stream

-- one toxic more at a location, unless its name stands already or its stream is full
abbrev pub unless_refused : {A : Type 0} → Location → Bool → Bool → A → Result A ScriptFault
unless_refused at named full more =
    if named then Err (DoubleName at)
    else if full then Err (TooManyToxics at)
    else Ok more

-- earlier toxics with the toxic at a location behind them
abbrev pub behind : Lanes → Location → List NamedToxic → NamedToxic
    → Result (List NamedToxic) ScriptFault
behind lanes at earlier toxic =
    unless_refused at
    (list_any (λ other. bytes_eq other.name toxic.name) earlier)
    (nat_le (lane_count lanes) (count_by (is_on toxic.stream) earlier))
    (earlier ++ toxic ∷ [])

-- the toxics of a rule: earlier ones and those of the tables behind them, or the first fault
abbrev pub toxics_from : Settings → ℕ → List NamedToxic → Items
    → Result (List NamedToxic) ScriptFault
toxics_from settings rule earlier no_items = Ok earlier
toxics_from settings rule earlier (item d ds) =
    let at : Location = record { rule = rule; toxic = length earlier + 1 } in
    toxic_at settings.version at d >>= behind settings.lanes at earlier
    >>= (λ toxics. toxics_from settings rule toxics ds)

-- the chain of a stream, with the names: the stream's toxics in their order
abbrev pub chain_on : Lanes → Stream → List NamedToxic → NamedToxics
chain_on lanes stream toxics = record {
  chain = record {
    lanes = lanes;
    entries = map (λ toxic. toxic.entry) (filter (is_on stream) toxics);
  };
  names = map (λ toxic. toxic.name) (filter (is_on stream) toxics);
}

-- the chains of both streams
abbrev pub chains_of : Lanes → List NamedToxic → Chains
chains_of lanes toxics = record {
  upstream = chain_on lanes Upstream toxics;
  downstream = chain_on lanes Downstream toxics;
}

-- the toxics of a rule: their chains, and in the file's order the stream of each and whether its toxicity is given as
-- a decimal text
pub record RuleToxics : Type 0 where
  pub chains : Chains
  pub order : List Stream
  pub decimals : List Bool

-- what some toxics make
abbrev pub toxics_of : Lanes → List NamedToxic → RuleToxics
toxics_of lanes toxics = record {
  chains = chains_of lanes toxics;
  order = map (λ toxic. toxic.stream) toxics;
  decimals = map (λ toxic. toxic.is_decimal) toxics;
}

-- the toxics of a rule's tables
abbrev pub read_toxics : Settings → ℕ → Items → Result RuleToxics ScriptFault
read_toxics settings rule tables = do
  toxics ← toxics_from settings rule [] tables
  Ok (toxics_of settings.lanes toxics)
