-- The lines, areas and marks of a picture.
use Rattle.std.specs.Prelude.{ℕ, ◌+◌, ◌-◌, List, [], ◌++◌, Option, Some, None, codes, decimal}
use Rattle.tox_draw.specs.declared.frame.Frame.{Frame}
use Rattle.tox_draw.specs.declared.link_end.LinkEnd.{LinkEnd}
use Rattle.tox_draw.specs.declared.link_end.LinkEnd.TheVariants.{Open, Closed, Reset, Broken, Missing}
use Rattle.tox_draw.specs.Frames.{x_of, y_of}
use Rattle.tox_draw.specs.Parts.{circle, line_to, move_to, path_end, path_start}
use Rattle.tox_draw.specs.Paths.{area, steps_path}

-- the path of a line up to a column
unfoldable pub line_path : List ℕ → List ℕ → ℕ → ℕ → List ℕ
line_path class ys end base = path_start class ++ (steps_path ys end base ++ path_end)

-- the path of the area of two lines up to a column
unfoldable pub area_path : List ℕ → List ℕ → List ℕ → ℕ → ℕ → List ℕ
area_path class first second end base =
    path_start class ++ (area first second end base ++ path_end)

-- the base of the plot
unfoldable pub base_line : ℕ → List ℕ
base_line base = codes "<path class=\"axis\" d=\"M64 " ++ decimal base ++ codes "H814\"/>\n"

-- a vertical line
unfoldable pub vertical : ℕ → ℕ → ℕ → List ℕ
vertical x top base =
    codes "<path class=\"axis\" d=\"M"
    ++ (decimal x ++ (codes " " ++ (decimal top ++ (codes "V" ++ (decimal base ++ codes "\"/>\n")))))

-- the vertical line of an end at an instant
abbrev pub end_line_at : Frame → ℕ → List ℕ
end_line_at frame t = vertical (x_of frame (Some t)) frame.top frame.base

-- the vertical line of an end, unless it is open
abbrev pub end_line : Frame → LinkEnd → List ℕ
end_line frame Open = []
end_line frame (Closed t) = end_line_at frame t
end_line frame (Reset t) = end_line_at frame t
end_line frame (Broken t) = end_line_at frame t
end_line frame (Missing t) = end_line_at frame t

-- the mark of the source's end, where it ended
abbrev pub source_mark : Frame → Option ℕ → ℕ → List ℕ
source_mark frame None arrived = []
source_mark frame (Some t) arrived = circle (codes "arrived") (x_of frame (Some t)) (y_of frame arrived)

-- an arrow to the right
unfoldable pub arrow : ℕ → ℕ → List ℕ
arrow x y =
    path_start (codes "mark")
    ++ (move_to x (y - 5) ++ (line_to (x + 5) y ++ (line_to x (y + 5) ++ path_end)))

-- a stroke of a cross, from the left to the right of an x
unfoldable pub stroke : ℕ → ℕ → ℕ → List ℕ
stroke x first last = move_to (x - 5) first ++ line_to (x + 5) last

-- a cross
unfoldable pub cross : ℕ → ℕ → List ℕ
cross x y =
    path_start (codes "mark") ++ (stroke x (y - 5) (y + 5) ++ (stroke x (y + 5) (y - 5) ++ path_end))

-- the mark of an end at a point
abbrev pub end_mark : LinkEnd → ℕ → ℕ → List ℕ
end_mark Open x y = arrow x y
end_mark (Closed t) x y = circle (codes "mark") x y
end_mark (Reset t) x y = cross x y
end_mark (Broken t) x y = cross x y
end_mark (Missing t) x y = cross x y
