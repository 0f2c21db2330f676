-- Short forms.
use Rattle.std.specs.Prelude.{ℕ, ◌+◌, ◌==◌, Bool, true, false, not, List, [], ◌∷◌, ◌++◌, codes, decimal, take, if◌then◌else◌}
use Rattle.std.specs.List.{zip}
use Rattle.tox_words.specs.Draw.{Draws}
use Rattle.tox_defs.specs.chain.Applied.{is_applied}
use Rattle.tox_defs.specs.Toxic.{attributes_of, name_of, values_of}
use Rattle.tox_defs.specs.declared.chain.Entry.{Entry}

-- a pair behind a mark, unless its value is the default
abbrev pub pair : List ℕ → List ℕ → ℕ → ℕ → List ℕ
pair mark key value default =
    if value == default then [] else mark ++ key ++ codes "=" ++ decimal value

-- what stands before the next pair: a comma behind one that is there
abbrev pub next_mark : List ℕ → ℕ → ℕ → List ℕ
next_mark mark value default = if value == default then mark else codes ","

-- the pairs of attributes and of the toxicity, behind a mark
abbrev pub pairs : List ℕ → List (List ℕ × ℕ) → ℕ → List ℕ
pairs mark [] toxicity = pair mark (codes "toxicity") toxicity 1000
pairs mark (first ∷ others) toxicity =
    pair mark first.0 first.1 0 ++ pairs (next_mark mark first.1 0) others toxicity

-- the short form of a toxic without parentheses
unfoldable pub bare : Entry → List ℕ
bare entry =
    name_of entry.toxic
    ++ pairs (codes ":") (zip (attributes_of entry.toxic) (values_of entry.toxic)) entry.toxicity

unfoldable pub in_parentheses : Entry → List ℕ
in_parentheses entry = codes "(" ++ (bare entry ++ codes ")")

-- the short form of a toxic
abbrev pub form : Entry → Bool → List ℕ
form entry applied = if applied then bare entry else in_parentheses entry

-- the short form of a toxic behind a mark, if it is wanted
abbrev pub form_if : List ℕ → Entry → Bool → List ℕ
form_if mark entry wanted = if wanted then mark ++ bare entry else []

-- what stands before the next one: a space behind one that is there
abbrev pub mark_behind : List ℕ → Bool → List ℕ
mark_behind mark wanted = if wanted then codes " " else mark

-- whether a toxic is wanted, where the applied ones are, or the others
abbrev pub is_wanted : Bool → Bool → Bool
is_wanted true applied = applied
is_wanted false applied = not applied

-- the short forms of the toxics that are applied, or of the others, from a place on: the first behind a mark, each other one behind a space
abbrev pub chosen_forms : Draws → Bool → List ℕ → ℕ → List Entry → List ℕ
chosen_forms draws applied mark place [] = []
chosen_forms draws applied mark place (entry ∷ entries) =
    form_if mark entry (is_wanted applied (is_applied entry place draws))
    ++ chosen_forms draws applied
    (mark_behind mark (is_wanted applied (is_applied entry place draws))) (place + 1) entries

-- a form of more than 94 characters, as the heading shows it
abbrev pub cut_form : List ℕ → List ℕ
cut_form form = take 91 form ++ codes "..."
