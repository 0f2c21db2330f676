-- The text of a picture, line by line.
use Rattle.std.specs.Prelude.{ℕ, ◌+◌, ◌-◌, List, [], ◌++◌, min, Option, Some, None, codes, decimal, string_bytes}
use Rattle.tox_draw.specs.declared.curve.Curve.{Curve}
use Rattle.tox_draw.specs.declared.frame.Frame.{Frame}
use Rattle.tox_draw.specs.declared.picture.Picture.{Picture}
use Rattle.tox_draw.specs.declared.place.Point.{Point}
use Rattle.tox_draw.specs.Frames.{column_of, x_of, y_of}
use Rattle.tox_draw.specs.Headings.{texts_of}
use Rattle.tox_draw.specs.Labels.{arrived_label, count_label, end_label, word_at}
use Rattle.tox_draw.specs.LinkEnds.{end_instant}
use Rattle.tox_draw.specs.Marks.{area_path, base_line, end_line, end_mark, line_path, source_mark}
use Rattle.tox_draw.specs.Places.{place_of}
use Rattle.tox_draw.specs.Sentences.{ended, passed, source_ended, title}
use Rattle.tox_draw.specs.Settings.{id_end, own_style}
use Rattle.tox_draw.specs.declared.setting.Setting.{Setting}
use Rattle.tox_draw.specs.Ticks.{byte_ticks, time_ticks}

-- the column of the plan's ending, and of the link's
abbrev pub due_column : Picture → ℕ
due_column picture = column_of picture.frame (end_instant picture.planned_end)

abbrev pub end_column : Picture → ℕ
end_column picture = column_of picture.frame (end_instant picture.end)

-- how many bytes left, or were written
abbrev pub shown_total : ℕ → Option Curve → ℕ
shown_total planned None = planned
shown_total planned (Some written) = written.total

-- the first line. The picture is labelled by its title and its sentences
unfoldable pub opening : ℕ → Setting → List ℕ
opening high setting =
    codes "<svg xmlns=\"http://www.w3.org/2000/svg\" class=\"toxi-draw\" width=\"960\" height=\""
    ++ (decimal high ++ (codes "\" viewBox=\"0 0 960 "
    ++ (decimal high ++ (codes "\" role=\"img\" aria-labelledby=\"toxi-title"
    ++ (id_end setting ++ (codes " toxi-desc" ++ (id_end setting ++ codes "\">\n")))))))

-- the line of the title
unfoldable pub title_element : Setting → List (List ℕ) → List ℕ
title_element setting forms =
    (codes "<title id=\"toxi-title" ++ (id_end setting ++ codes "\">"))
    ++ (title forms ++ codes "</title>\n")

-- what was due, and what was written
unfoldable pub due_text : Curve → Curve → List ℕ
due_text planned written =
    passed (codes "Due") planned.total planned.last
    ++ passed (codes "Written") written.total written.last

-- what left, or was due and written
abbrev pub left_text : Curve → Option Curve → List ℕ
left_text planned None = passed (codes "Left") planned.total planned.last
left_text planned (Some written) = due_text planned written

-- the sentences
unfoldable pub sentences : Picture → List ℕ
sentences picture =
    passed (codes "Arrived") picture.arrived.total picture.arrived.last
    ++ (source_ended picture.source_end picture.source_reset
    ++ (left_text picture.planned picture.written ++ ended picture.end))

-- the line of the sentences
unfoldable pub description : Picture → List ℕ
description picture =
    (codes "<desc id=\"toxi-desc" ++ (id_end picture.setting ++ codes "\">Bytes over time."))
    ++ (sentences picture ++ codes "</desc>\n")

-- the background
unfoldable pub paper : ℕ → List ℕ
paper high = codes "<rect class=\"paper\" width=\"960\" height=\"" ++ (decimal high ++ codes "\"/>\n")

-- all that stands before the heading
unfoldable pub front : Picture → List ℕ
front picture =
    opening (picture.frame.base + 44) picture.setting
    ++ (title_element picture.setting (texts_of picture.forms.items)
    ++ (description picture
    ++ (own_style picture.setting ++ paper (picture.frame.base + 44))))

-- the heading and the axes
unfoldable pub axes : Picture → List ℕ
axes picture =
    string_bytes picture.heading ++ (byte_ticks picture.frame ++ time_ticks picture.frame)

-- the area of what was due and not yet written
abbrev pub late_area : Picture → Option Curve → List ℕ
late_area picture None = []
late_area picture (Some written) =
    area_path (codes "late") picture.planned.ys.items written.ys.items (end_column picture)
    picture.frame.base

-- the areas
unfoldable pub areas : Picture → List ℕ
areas picture =
    area_path (codes "held") picture.arrived.ys.items picture.planned.ys.items
    (due_column picture) picture.frame.base
    ++ late_area picture picture.written

-- the lines of what was due and of what was written
unfoldable pub both_lines : Picture → Curve → List ℕ
both_lines picture written =
    line_path (codes "due") picture.planned.ys.items (due_column picture) picture.frame.base
    ++ line_path (codes "written") written.ys.items (end_column picture) picture.frame.base

-- the line of what left, or those of what was due and of what was written
abbrev pub left_lines : Picture → Option Curve → List ℕ
left_lines picture None =
    line_path (codes "left") picture.planned.ys.items (due_column picture) picture.frame.base
left_lines picture (Some written) = both_lines picture written

-- the axes and the lines
unfoldable pub lines : Picture → List ℕ
lines picture =
    base_line picture.frame.base
    ++ (end_line picture.frame picture.end ++ (left_lines picture picture.written
    ++ line_path (codes "arrived") picture.arrived.ys.items
    (column_of picture.frame picture.source_end) picture.frame.base))

-- the marks of both ends
unfoldable pub marks : Picture → List ℕ
marks picture =
    source_mark picture.frame picture.source_end picture.arrived.total
    ++ end_mark picture.end (x_of picture.frame (end_instant picture.end))
    (y_of picture.frame (shown_total picture.planned.total picture.written))

-- the first place, or where there is none the second
abbrev pub first_place : Option Point → Option Point → Option Point
first_place (Some point) other = Some point
first_place None other = other

-- the place of the word in the area of what is held: the widest of three that there is room for
abbrev pub held_place : List ℕ → List ℕ → ℕ → Option Point
held_place arrived planned end =
    first_place (place_of arrived planned end 96 80)
    (first_place (place_of arrived planned end 64 50) (place_of arrived planned end 32 22))

-- the word in the area of what was due and not yet written
abbrev pub late_word : Picture → Option Curve → List ℕ
late_word picture None = []
late_word picture (Some written) =
    word_at (codes "mark mid")
    (place_of picture.planned.ys.items written.ys.items (end_column picture) 20 20)
    (codes "late")

-- the words in the areas
unfoldable pub words : Picture → List ℕ
words picture =
    word_at (codes "mid")
    (held_place picture.arrived.ys.items picture.planned.ys.items (due_column picture))
    (codes "held")
    ++ late_word picture picture.written

-- the y of a label below a count, which keeps a gap above the base
abbrev pub below : Frame → ℕ → ℕ → ℕ
below frame count gap = min (y_of frame count + 18) (frame.base - gap)

-- the labels where what was due and what was written are shown, from an x and a y on
unfoldable pub labels_of_both : Picture → Curve → ℕ → ℕ → List ℕ
labels_of_both picture written x y =
    arrived_label picture 56
    ++ (count_label (codes "due halo") (codes "due") x y picture.planned.total
    ++ (count_label (codes "written halo") (codes "written") x (y + 16) written.total
    ++ end_label picture.end x (y + 32)))

-- the labels where what left is shown, from an x and a y on
unfoldable pub labels_of_left : Picture → ℕ → ℕ → List ℕ
labels_of_left picture x y =
    arrived_label picture 40
    ++ (count_label (codes "left halo") (codes "left") x y picture.planned.total
    ++ end_label picture.end x (y + 16))

-- the labels, from an x on
abbrev pub labels_at : Picture → ℕ → Option Curve → List ℕ
labels_at picture x None =
    labels_of_left picture x (below picture.frame picture.planned.total 22)
labels_at picture x (Some written) =
    labels_of_both picture written x (below picture.frame written.total 38)

-- the labels
unfoldable pub labels : Picture → List ℕ
labels picture = labels_at picture (x_of picture.frame (end_instant picture.end) + 9) picture.written

-- all that is drawn
unfoldable pub drawing : Picture → List ℕ
drawing picture =
    areas picture ++ (lines picture ++ (marks picture ++ (words picture ++ labels picture)))

-- the text of a picture
unfoldable pub picture_text : Picture → List ℕ
picture_text picture =
    front picture ++ (axes picture ++ (drawing picture ++ codes "</svg>\n"))
