-- Lines that are objects of JSON.
use Rattle.std.specs.Prelude.{ℕ, List, ◌++◌, codes, decimal, flat_map}
use Rattle.tox_text.specs.Json.{json_text, value_text}
use Rattle.tox_text.specs.declared.json_line.JsonField.{JsonField}

-- the beginning of a line about an event
abbrev pub event_text : List ℕ → List ℕ
event_text event = codes "{\"event\":\"" ++ event ++ codes "\""

-- a key behind other fields
abbrev pub key_text : List ℕ → List ℕ
key_text key = codes ",\"" ++ key ++ codes "\":"

-- a field with a text
abbrev pub text_field : List ℕ → List ℕ → List ℕ
text_field key text = key_text key ++ json_text text

-- a field with a number
abbrev pub number_field : List ℕ → ℕ → List ℕ
number_field key number = key_text key ++ decimal number

-- a field behind others
abbrev pub field_text : JsonField → List ℕ
field_text field = key_text field.key.now ++ value_text field.value

-- a line about an event, with these fields
abbrev pub object_line : List ℕ → List JsonField → List ℕ
object_line event fields = event_text event ++ (flat_map field_text fields ++ codes "}\n")
