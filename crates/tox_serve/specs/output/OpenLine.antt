-- The line of a stream of a link whose upstream is reached.
use Rattle.std.specs.Prelude.{ℕ, Bool, true, false, List, [], ◌∷◌, ◌++◌, codes, decimal, flat_map, map}
use Rattle.std.specs.Borrow.{Bor}
use Rattle.std.specs.List.{enumerate_from, zip}
use Rattle.tox_time.specs.streams.StreamName.{stream_name}
use Rattle.tox_words.specs.Draw.{Draws}
use Rattle.tox_defs.specs.chain.Applied.{is_applied}
use Rattle.tox_defs.specs.declared.chain.Entry.{Entry}
use Rattle.tox_text.specs.Json.{array_text}
use Rattle.tox_text.specs.JsonLine.{event_text, key_text, number_field, text_field}
use Rattle.tox_text.specs.Names.{visible_name}
use Rattle.tox_text.specs.declared.json.JsonItem.{JsonItem}
use Rattle.tox_text.specs.declared.json.JsonItem.TheVariants.{Text}
use Rattle.tox_serve.specs.declared.output.open_line.OpenStream.{OpenStream}

-- a name, if its toxic is applied
abbrev pub name_if : Bool → List ℕ → List (List ℕ)
name_if true name = name ∷ []
name_if false name = []

-- the name of a toxic at a place of its chain, if it is applied
abbrev pub applied_name : Draws → ℕ × (Entry × List ℕ) → List (List ℕ)
applied_name draws placed = name_if (is_applied placed.1.0 placed.0 draws) placed.1.1

-- the names of the applied toxics, in order
abbrev pub applied_names : Draws → List Entry → List (List ℕ) → List (List ℕ)
applied_names draws entries names =
    flat_map (applied_name draws) (enumerate_from 0 (zip entries names))

-- a name behind a space, as it is printed
abbrev pub spaced : Bor (List ℕ) → List ℕ
spaced name = codes " " ++ visible_name name.now

-- a stream, its client, and the toxics that it meets
abbrev pub open_line : OpenStream → List ℕ
open_line opened =
    codes "open " ++ visible_name opened.proxy.now ++ codes " " ++ decimal opened.number ++ codes " "
    ++ stream_name opened.stream ++ codes " " ++ opened.client.now ++ flat_map spaced opened.toxics.now
    ++ codes "\n"

-- texts as items
abbrev pub text_items : List (Bor (List ℕ)) → List JsonItem
text_items texts = map (λ text. Text text) texts

-- the same as an object of JSON
abbrev pub open_object : OpenStream → List ℕ
open_object opened =
    event_text (codes "open") ++ (text_field (codes "proxy") opened.proxy.now
    ++ (number_field (codes "link") opened.number
    ++ (text_field (codes "stream") (stream_name opened.stream)
    ++ (text_field (codes "client") opened.client.now
    ++ ((key_text (codes "toxics") ++ array_text (text_items opened.toxics.now)) ++ codes "}\n")))))
