-- What a toxic draws from a table of words.
use Rattle.std.specs.Prelude.{ℕ, ◌+◌, ◌*◌, ◌%◌, List, length, slice_index}
use Rattle.tox_words.specs.declared.lanes.Lanes.{Lanes}
use Rattle.tox_words.specs.declared.lanes.Lanes.TheVariants.{Sixteen, ThirtyTwo}

-- the words that lanes draw, by lane and turn
abbrev pub Draws : Type 0
Draws = ℕ → ℕ → ℕ

-- how many lanes there are
abbrev pub lane_count : Lanes → ℕ
lane_count Sixteen = 16
lane_count ThirtyTwo = 32

-- the j-th word of a lane, of so many lanes
abbrev pub draw_in : Lanes → List ℕ → Draws
draw_in lanes words lane j = slice_index words ((lane + lane_count lanes * j) % length words)

-- the j-th word of a lane, of 16
abbrev pub draw : List ℕ → Draws
draw words lane j = draw_in Sixteen words lane j

-- what a `Drawing` is seen as
pub record DrawingView : Type 0 where
  pub lanes : Lanes
  pub words : List ℕ

-- the words that its lanes draw
abbrev pub draws_of : DrawingView → Draws
draws_of drawing = draw_in drawing.lanes drawing.words
