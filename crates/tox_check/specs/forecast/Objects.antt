-- The lines of a forecast as objects of JSON.
use Rattle.std.specs.Prelude.{ℕ, ◌+◌, Bool, true, false, List, [], ◌∷◌, ◌++◌, codes, flat_map, Option, None, Some}
use Rattle.std.specs.List.{enumerate_from}
use Rattle.tox_time.specs.declared.streams.stream.Stream.{Stream}
use Rattle.tox_time.specs.streams.StreamName.{stream_name}
use Rattle.tox_text.specs.Json.{array_text}
use Rattle.tox_text.specs.JsonLine.{event_text, key_text, number_field, text_field}
use Rattle.tox_text.specs.declared.json.JsonItem.{JsonItem}
use Rattle.tox_text.specs.declared.json.JsonItem.TheVariants.{Number}

-- an object about an event, with these fields
abbrev pub object_of : List ℕ → List (List ℕ) → List ℕ
object_of event fields = event_text event ++ (flat_map (λ field. field) fields ++ codes "}\n")

-- the number of a rule from 1, or 0 for none
abbrev pub rule_number : Option ℕ → ℕ
rule_number None = 0
rule_number (Some rule) = rule + 1

-- the place of a toxic, where it is applied
abbrev pub place_item : ℕ → Bool → List JsonItem
place_item place true = Number place ∷ []
place_item place false = []

-- the places of the applied toxics
abbrev pub place_items : List Bool → List JsonItem
place_items flags = flat_map (λ placed. place_item placed.0 placed.1) (enumerate_from 0 flags)

-- what the stream of a proxy's connection meets
abbrev pub stream_object : List ℕ → ℕ → Stream → Option ℕ → List Bool → List ℕ
stream_object proxy conn stream rule flags =
    object_of (codes "forecast") (text_field (codes "proxy") proxy ∷ number_field (codes "link") conn
    ∷ text_field (codes "stream") (stream_name stream) ∷ number_field (codes "rule") (rule_number rule)
    ∷ (key_text (codes "applied") ++ array_text (place_items flags)) ∷ [])

-- how often a toxic of a rule is applied, by the numbers of the rule and of the toxic, from 1
abbrev pub total_object : List ℕ → ℕ → ℕ → ℕ → ℕ → List ℕ → List ℕ
total_object proxy rule number applied met name =
    object_of (codes "toxic") (text_field (codes "proxy") proxy ∷ number_field (codes "rule") rule
    ∷ number_field (codes "toxic") number ∷ number_field (codes "applied") applied
    ∷ number_field (codes "of") met ∷ text_field (codes "name") name ∷ [])
