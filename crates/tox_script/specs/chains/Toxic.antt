-- The toxic that a table's fields stand for.
use Rattle.std.specs.Prelude.{ℕ, ◌++◌, Bool, List, codes, unwrap_or, Result, Ok, ok_or}
use Rattle.tox_time.specs.declared.streams.stream.Stream.{Stream}
use Rattle.tox_defs.specs.Toxic.{name_of, toxic_named}
use Rattle.tox_defs.specs.declared.chain.Entry.{Entry}
use Rattle.tox_defs.specs.declared.toxic.Toxic.{Toxic}
use Rattle.tox_defs.specs.declared.fault.ToxicFault.{ToxicFault}
use Rattle.tox_defs.specs.declared.fault.ToxicFault.TheVariants.{ToxicityNotThousandths, UnknownType}
use Rattle.tox_script.specs.fields.Attributes.{toxic_with}
use Rattle.tox_time.specs.Steps.{◌>>=◌}
use Rattle.tox_time.specs.streams.StreamName.{stream_name}
use Rattle.tox_script.specs.fields.ToxicFields.{ToxicFields}
use Rattle.tox_script.specs.fields.Toxicity.{is_decimal, toxicity_in}
use Rattle.tox_script.specs.declared.version.Version.{Version}

-- a toxic of a rule: its stream, its entry in a chain, its name, and whether its toxicity is given as a decimal text
pub record NamedToxic : Type 0 where
  pub stream : Stream
  pub entry : Entry
  pub name : List ℕ
  pub is_decimal : Bool

-- the default name of a toxic: its type, `_` and its stream
abbrev pub default_name : Toxic → Stream → List ℕ
default_name toxic stream = name_of toxic ++ codes "_" ++ stream_name stream

-- the toxic that fields stand for, or why there is none
abbrev pub named_toxic : Version → ToxicFields → Result NamedToxic ToxicFault
named_toxic version fields = do
  zeros ← ok_or (toxic_named fields.type_name) UnknownType
  toxicity ← ok_or (toxicity_in version fields.toxicity) ToxicityNotThousandths
  toxic ← toxic_with zeros fields.attributes
  Ok (record {
    stream = fields.stream;
    entry = record { toxic = toxic; toxicity = toxicity };
    name = unwrap_or fields.name (default_name toxic fields.stream);
    is_decimal = is_decimal fields.toxicity;
  })
