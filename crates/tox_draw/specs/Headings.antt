-- The heading of a picture.
use Rattle.std.specs.Prelude.{ℕ, ◌+◌, ◌*◌, ◌==◌, List, [], ◌∷◌, ◌++◌, length, map, nat_le, codes, decimal, string_bytes, if◌then◌else◌}
use Rattle.std.specs.declared.string.String.{String}
use Rattle.std.specs.declared.alloc.Global.{Global}
use Rattle.tox_draw.specs.declared.heading.HeadingPlace.{HeadingPlace}

-- the bytes of each text
abbrev pub texts_of : List (String Global) → List (List ℕ)
texts_of forms = map string_bytes forms

-- the start of a line
abbrev pub heading_line_start : ℕ → List ℕ
heading_line_start line =
    codes "<text class=\"chain\" x=\"64\" y=\"" ++ decimal (32 + 20 * line) ++ codes "\">"

-- how many characters fit into a line
abbrev pub limit_of : ℕ → ℕ
limit_of line = if line == 2 then 96 else 108

-- what the other forms add behind a place, with the end of the last line
abbrev pub rest : HeadingPlace → List (List ℕ) → List ℕ
rest place [] = codes "</text>\n"
rest place (form ∷ forms) =
    if nat_le (place.used + length form + 3) (limit_of place.line)
    then codes " &#8594; " ++ form ++ rest (record { line = place.line; used = place.used + length form + 3 }) forms
    else (if place.line == 2 then codes " + " ++ decimal (length forms + 1) ++ codes " more</text>\n"
    else codes "</text>\n" ++ heading_line_start (place.line + 1) ++ codes "&#8594; " ++ form
    ++ rest (record { line = place.line + 1; used = length form + 2 }) forms)

-- how many lines there then are
abbrev pub rest_lines : HeadingPlace → List (List ℕ) → ℕ
rest_lines place [] = place.line + 1
rest_lines place (form ∷ forms) =
    if nat_le (place.used + length form + 3) (limit_of place.line)
    then rest_lines (record { line = place.line; used = place.used + length form + 3 }) forms
    else (if place.line == 2 then 3
    else rest_lines (record { line = place.line + 1; used = length form + 2 }) forms)

-- the one line of a chain without toxics
unfoldable pub no_toxics : List ℕ
no_toxics = heading_line_start 0 ++ codes "no toxics</text>\n"

-- the place behind the first form
abbrev pub behind_first : List ℕ → HeadingPlace
behind_first form = record { line = 0; used = length form }

-- the first form, and then the others
unfoldable pub first_on : List ℕ → List (List ℕ) → List ℕ
first_on form forms = heading_line_start 0 ++ (form ++ rest (behind_first form) forms)

-- the lines of the heading
abbrev pub heading : List (List ℕ) → List ℕ
heading [] = no_toxics
heading (form ∷ forms) = first_on form forms

-- how many they are
abbrev pub heading_line_count : List (List ℕ) → ℕ
heading_line_count [] = 1
heading_line_count (form ∷ forms) = rest_lines (behind_first form) forms
