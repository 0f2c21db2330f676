-- The lines and the values of the two axes.
use Rattle.std.specs.Prelude.{ℕ, ◌+◌, ◌*◌, ◌-◌, ◌==◌, Bool, List, [], ◌++◌, zero, suc, codes, decimal, if◌then◌else◌}
use Rattle.tox_draw.specs.declared.axis.Axis.{Axis}
use Rattle.tox_draw.specs.declared.frame.Frame.{Frame}
use Rattle.tox_draw.specs.declared.unit.Unit.{Unit}
use Rattle.tox_draw.specs.Axes.{part_of}
use Rattle.tox_draw.specs.Marks.{vertical}
use Rattle.tox_draw.specs.Parts.{text_end, text_start}
use Rattle.tox_draw.specs.Units.{byte_unit, figure_in_unit, time_unit, unit_name}

-- the texts of the first so many numbers, in order
abbrev pub firsts : (ℕ → List ℕ) → ℕ → List ℕ
firsts text zero = []
firsts text (suc n) = firsts text n ++ text n

-- a unit's name at the last value
abbrev pub unit_text : Bool → Unit → List ℕ
unit_text last unit = if last then codes " " ++ unit_name unit else []

-- the value at a place of an axis, in a unit
unfoldable pub label : Axis → ℕ → Unit → List ℕ
label axis index unit =
    figure_in_unit (index * axis.step) unit ++ (unit_text (index == axis.count) unit ++ text_end)

-- the y at a place of the axis of bytes
abbrev pub tick_y : Frame → ℕ → ℕ
tick_y frame index = frame.base - part_of index frame.bytes.count 320

-- a line at a y, but for the first value
unfoldable pub grid : ℕ → ℕ → List ℕ
grid index y =
    if index == 0 then []
    else codes "<path class=\"grid\" d=\"M64 " ++ decimal y ++ codes "H814\"/>\n"

-- a value of the axis of bytes, and its line
unfoldable pub byte_tick : Frame → ℕ → List ℕ
byte_tick frame index =
    grid index (tick_y frame index)
    ++ (text_start (codes "end") 54 (tick_y frame index + 4)
    ++ label frame.bytes index (byte_unit frame.bytes.end))

-- the values of the axis of bytes
abbrev pub byte_ticks : Frame → List ℕ
byte_ticks frame = firsts (byte_tick frame) (frame.bytes.count + 1)

-- the x at a place of the axis of time
abbrev pub tick_x : Frame → ℕ → ℕ
tick_x frame index = 64 + part_of index frame.time.count 750

-- a value of the axis of time, and its mark below the base
unfoldable pub time_tick : Frame → ℕ → List ℕ
time_tick frame index =
    vertical (tick_x frame index) frame.base (frame.base + 5)
    ++ (text_start (codes "mid") (tick_x frame index) (frame.base + 22)
    ++ label frame.time index (time_unit frame.time.end))

-- the values of the axis of time
abbrev pub time_ticks : Frame → List ℕ
time_ticks frame = firsts (time_tick frame) (frame.time.count + 1)
