-- Values of JSON, as they are printed.
use Rattle.std.specs.Prelude.{ℕ, Bool, true, false, ◌||◌, ◌==◌, List, [], ◌∷◌, ◌++◌, codes, decimal, flat_map, nat_lt, if◌then◌else◌}
use Rattle.hex.specs.Hex.{encode_lower}
use Rattle.tox_text.specs.declared.json.JsonItem.{JsonItem}
use Rattle.tox_text.specs.declared.json.JsonItem.TheVariants.{Text, Number, Flag}
use Rattle.tox_text.specs.declared.json.JsonValue.{JsonValue}
use Rattle.tox_text.specs.declared.json.JsonValue.TheVariants.{One, Array}

-- the code of a control character
abbrev pub escaped_in_json : ℕ → List ℕ
escaped_in_json byte = codes "\\u00" ++ encode_lower (byte ∷ [])

-- whether a byte is a quote or a backslash
abbrev pub is_escaped_alone : ℕ → Bool
is_escaped_alone byte = (byte == 34) || (byte == 92)

-- a byte between quotes
abbrev pub json_byte : ℕ → List ℕ
json_byte byte =
    if nat_lt byte 32 then escaped_in_json byte
    else if is_escaped_alone byte then 92 ∷ byte ∷ []
    else byte ∷ []

-- a text between quotes
abbrev pub json_text : List ℕ → List ℕ
json_text text = codes "\"" ++ (flat_map json_byte text ++ codes "\"")

-- a truth value
abbrev pub flag_text : Bool → List ℕ
flag_text true = codes "true"
flag_text false = codes "false"

-- a text, a number or a truth value
abbrev pub item_text : JsonItem → List ℕ
item_text (Text text) = json_text text.now
item_text (Number number) = decimal number
item_text (Flag flag) = flag_text flag

-- an item behind another one
abbrev pub after_comma : JsonItem → List ℕ
after_comma item = codes "," ++ item_text item

-- items with commas between them, in brackets
abbrev pub array_text : List JsonItem → List ℕ
array_text [] = codes "[]"
array_text (item ∷ others) =
    codes "[" ++ (item_text item ++ (flat_map after_comma others ++ codes "]"))

-- one item, or an array
abbrev pub value_text : JsonValue → List ℕ
value_text (One item) = item_text item
value_text (Array items) = array_text items.now
