-- What a picture says to those who don't see it.
use Rattle.std.specs.Prelude.{ℕ, ◌==◌, Bool, true, false, List, [], ◌∷◌, ◌++◌, flat_map, Option, Some, None, codes, decimal, if◌then◌else◌}
use Rattle.tox_draw.specs.declared.link_end.LinkEnd.{LinkEnd}
use Rattle.tox_draw.specs.LinkEnds.{end_instant, link_end_word}

-- the title: the forms in order
abbrev pub title : List (List ℕ) → List ℕ
title [] = codes "no toxics"
title (form ∷ forms) = form ++ flat_map (λ next. codes ", then " ++ next) forms

-- bytes that passed a point of the link, the last at an instant
unfoldable pub some_passed : List ℕ → ℕ → ℕ → List ℕ
some_passed word total last =
    codes " "
    ++ (word ++ (codes " " ++ (decimal total ++ (codes " B, the last at " ++ (decimal last ++ codes " us.")))))

-- what passed a point of the link
abbrev pub passed : List ℕ → ℕ → ℕ → List ℕ
passed word total last =
    if total == 0 then codes " " ++ word ++ codes " 0 B." else some_passed word total last

-- when the source ended, by a reset or not
abbrev pub source_ended : Option ℕ → Bool → List ℕ
source_ended (Some t) false = codes " The source ended at " ++ decimal t ++ codes " us."
source_ended (Some t) true = codes " The source was reset at " ++ decimal t ++ codes " us."
source_ended None reset = codes " The source stayed quiet."

-- an end with an instant, if it has one
abbrev pub ended_at : List ℕ → Option ℕ → List ℕ
ended_at word (Some t) = codes " The link ended " ++ word ++ codes " at " ++ decimal t ++ codes " us."
ended_at word None = codes " The link stayed open."

-- how the link ended
abbrev pub ended : LinkEnd → List ℕ
ended end = ended_at (link_end_word end) (end_instant end)
