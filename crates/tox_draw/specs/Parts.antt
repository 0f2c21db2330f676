-- The parts that the lines of a picture have in common.
use Rattle.std.specs.Prelude.{ℕ, List, ◌++◌, codes, decimal}

-- the start of a line of text at a point
unfoldable pub text_start : List ℕ → ℕ → ℕ → List ℕ
text_start class x y =
    codes "<text class=\""
    ++ (class ++ (codes "\" x=\"" ++ (decimal x ++ (codes "\" y=\"" ++ (decimal y ++ codes "\">")))))

-- its end
unfoldable pub text_end : List ℕ
text_end = codes "</text>\n"

-- a line of text at a point
unfoldable pub text_line : List ℕ → ℕ → ℕ → List ℕ → List ℕ
text_line class x y word = text_start class x y ++ (word ++ text_end)

-- the start of a path
unfoldable pub path_start : List ℕ → List ℕ
path_start class = codes "<path class=\"" ++ class ++ codes "\" d=\""

-- its end
unfoldable pub path_end : List ℕ
path_end = codes "\"/>\n"

-- where a path starts
unfoldable pub move_to : ℕ → ℕ → List ℕ
move_to x y = codes "M" ++ decimal x ++ codes " " ++ decimal y

-- a line of a path to a point
unfoldable pub line_to : ℕ → ℕ → List ℕ
line_to x y = codes "L" ++ decimal x ++ codes " " ++ decimal y

-- a circle about a point
unfoldable pub circle : List ℕ → ℕ → ℕ → List ℕ
circle class x y =
    codes "<circle class=\""
    ++ (class
    ++ (codes "\" cx=\"" ++ (decimal x ++ (codes "\" cy=\"" ++ (decimal y ++ codes "\" r=\"3\"/>\n")))))
