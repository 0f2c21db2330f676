-- The words of a picture beside its lines.
use Rattle.std.specs.Prelude.{ℕ, ◌+◌, ◌-◌, ◌/◌, Bool, List, [], ◌++◌, length, min, nat_lt, Option, Some, None, codes, if◌then◌else◌}
use Rattle.tox_draw.specs.declared.frame.Frame.{Frame}
use Rattle.tox_draw.specs.declared.link_end.LinkEnd.{LinkEnd}
use Rattle.tox_draw.specs.declared.picture.Picture.{Picture}
use Rattle.tox_draw.specs.declared.place.Point.{Point}
use Rattle.tox_draw.specs.Frames.{x_of, y_of}
use Rattle.tox_draw.specs.LinkEnds.{end_instant, link_end_word}
use Rattle.tox_draw.specs.Parts.{text_end, text_line, text_start}
use Rattle.tox_draw.specs.Units.{byte_unit, quantity, time_unit}

-- a word at its place, where it has one
abbrev pub word_at : List ℕ → Option Point → List ℕ → List ℕ
word_at class (Some point) word = text_line class point.x (point.y + 4) word
word_at class None word = []

-- how the arrivals ended, where a reset ended them
abbrev pub reset_word : Bool → List ℕ
reset_word reset = if reset then codes ", then reset" else []

-- the text of the label of the arrivals
unfoldable pub arrived_text : ℕ → Bool → List ℕ
arrived_text arrived reset = codes "arrived " ++ (quantity arrived (byte_unit arrived) ++ reset_word reset)

-- the y of that label, which keeps a gap above the base
abbrev pub arrived_y : Frame → ℕ → ℕ → ℕ
arrived_y frame arrived gap = min (y_of frame arrived - 9) (frame.base - gap)

-- the label of the arrivals: left of the source's end, or where it doesn't fit there at the plot's left side
unfoldable pub arrived_label : Picture → ℕ → List ℕ
arrived_label picture gap =
    if nat_lt ((x_of picture.frame picture.source_end - 64) / 8) (length (arrived_text picture.arrived.total picture.source_reset))
    then text_line (codes "arrived halo") 72 (arrived_y picture.frame picture.arrived.total gap)
    (arrived_text picture.arrived.total picture.source_reset)
    else text_line (codes "arrived halo end") (x_of picture.frame picture.source_end) (arrived_y picture.frame picture.arrived.total gap)
    (arrived_text picture.arrived.total picture.source_reset)

-- the label of a count
unfoldable pub count_label : List ℕ → List ℕ → ℕ → ℕ → ℕ → List ℕ
count_label class word x y count =
    text_start class x y
    ++ (word ++ (codes " " ++ (quantity count (byte_unit count) ++ text_end)))

-- the quantity of an instant behind a space, where there is one
abbrev pub instant_text : Option ℕ → List ℕ
instant_text (Some t) = codes " " ++ quantity t (time_unit t)
instant_text None = []

-- the label of an end
unfoldable pub end_label : LinkEnd → ℕ → ℕ → List ℕ
end_label end x y =
    text_start (codes "mark halo") x y ++ (link_end_word end ++ (instant_text (end_instant end) ++ text_end))
