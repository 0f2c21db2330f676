-- Paths of lines, in steps: a line is the y of each column.
use Rattle.std.specs.Prelude.{ℕ, ◌+◌, ◌==◌, List, [], ◌∷◌, ◌++◌, take, codes, decimal, if◌then◌else◌}
use Rattle.tox_draw.specs.declared.path.Pen.{Pen}

-- across to an x
abbrev pub across : ℕ → ℕ → List ℕ
across from x = if from == x then [] else codes "H" ++ decimal x

-- what a pen draws at a column's x whose y is this one: nothing where it is there
abbrev pub step : Pen → ℕ → ℕ → List ℕ
step pen x y = if pen.y == y then [] else across pen.x x ++ codes "V" ++ decimal y

-- where it is then
abbrev pub after_step : Pen → ℕ → ℕ → Pen
after_step pen x y = if pen.y == y then pen else record { x = x; y = y }

-- the steps to the columns from an x on, and at last across to the end
abbrev pub steps : ℕ → Pen → ℕ → List ℕ → List ℕ
steps end pen x [] = across pen.x end
steps end pen x (y ∷ ys) = step pen x y ++ steps end (after_step pen x y) (x + 1) ys

-- the steps path of a line up to a column
unfoldable pub steps_path : List ℕ → ℕ → ℕ → List ℕ
steps_path ys end base =
    codes "M64 " ++ decimal base
    ++ steps (64 + end) (record { x = 64; y = base }) 64 (take (end + 1) ys)

-- the area of two lines up to a column
unfoldable pub area : List ℕ → List ℕ → ℕ → ℕ → List ℕ
area first second end base =
    steps_path first end base ++ codes "V" ++ decimal base ++ codes "Z"
    ++ steps_path second end base ++ codes "V" ++ decimal base ++ codes "Z"
