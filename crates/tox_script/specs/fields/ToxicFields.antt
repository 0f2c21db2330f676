-- The fields of a toxic's table.
use Rattle.std.specs.Prelude.{ℕ, Bool, not, List, [], ◌∷◌, codes, Option, option_and_then, unwrap_or, Result, Ok}
use Rattle.std.specs.Char.{is_ascii_control}
use Rattle.std.specs.List.{list_all}
use Rattle.toml.specs.Data.{Data, as_str, get}
use Rattle.tox_time.specs.declared.streams.stream.Stream.{Stream}
use Rattle.tox_time.specs.declared.streams.stream.Stream.TheVariants.{Downstream}
use Rattle.tox_time.specs.Text.{passing}
use Rattle.tox_script.specs.fields.Fields.{is_table, needed, optional, sized_text, unless_unknown}
use Rattle.tox_time.specs.Steps.{◌>>=◌}
use Rattle.tox_time.specs.streams.StreamName.{stream_named}
use Rattle.tox_script.specs.declared.fault.Field.{Field}
use Rattle.tox_script.specs.declared.fault.Field.TheVariants as field

-- the fields of a toxic's table
pub record ToxicFields : Type 0 where
  pub name : Option (List ℕ)
  pub type_name : List ℕ
  pub stream : Stream
  pub toxicity : Option Data
  pub attributes : Option Data

-- whether a text has none of ASCII's control characters, which are those below a space and the last one
abbrev pub is_plain : List ℕ → Bool
is_plain text = list_all (λ byte. not (is_ascii_control byte)) text

-- a text of 1 to 64 bytes without control characters
abbrev pub plain_name : Data → Option (List ℕ)
plain_name d = option_and_then (passing is_plain) (sized_text 64 d)

-- the name of a toxic, where it has one
abbrev pub name_field : Data → Result (Option (List ℕ)) Field
name_field d = optional field.Name plain_name (get (codes "name") d)

-- the name of a toxic's type
abbrev pub type_field : Data → Result (List ℕ) Field
type_field d = needed field.Type as_str (get (codes "type") d)

-- the stream that a value names
abbrev pub stream_text : Data → Option Stream
stream_text d = option_and_then stream_named (as_str d)

-- the stream of a toxic: downstream if absent
abbrev pub stream_field : Data → Result Stream Field
stream_field d = do
  stream ← optional field.Stream stream_text (get (codes "stream") d)
  Ok (unwrap_or stream Downstream)

-- the attributes of a toxic, where it has a table of them
abbrev pub attributes_field : Data → Result (Option Data) Field
attributes_field d = optional field.Attributes (passing is_table) (get (codes "attributes") d)

-- the fields of a toxic's table, or the first that isn't as it must be
abbrev pub toxic_fields : Data → Result ToxicFields Field
toxic_fields d = do
  name ← name_field d
  type_name ← type_field d
  stream ← stream_field d
  attributes ← attributes_field d
  unless_unknown
      (codes "name" ∷ codes "type" ∷ codes "stream" ∷ codes "toxicity" ∷ codes "attributes" ∷ []) d
      (record {
        name = name;
        type_name = type_name;
        stream = stream;
        toxicity = get (codes "toxicity") d;
        attributes = attributes;
      })
