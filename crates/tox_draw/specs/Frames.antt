-- The frame of a picture.
use Rattle.std.specs.Prelude.{ℕ, ◌+◌, ◌*◌, ◌-◌, ◌≤◌, min, Option, Some, None}
use Rattle.tox_draw.specs.Axes.{IsAxis, axis_of, part_of}
use Rattle.tox_draw.specs.declared.frame.Frame.{Frame}

-- the frame below so many lines of heading, for a greatest instant and a greatest count
abbrev pub frame_of : ℕ → ℕ → ℕ → Frame
frame_of lines latest arrived =
    record {
      top = 56 + 20 * lines;
      base = 56 + 20 * lines + 320;
      time = axis_of latest;
      bytes = axis_of arrived;
    }

-- a frame whose plot ends by 436
pub record IsFrame (frame : Frame) : Type 0 where
  pub low : frame.base ≤ 436
  pub times : IsAxis frame.time
  pub counts : IsAxis frame.bytes

-- the column of an instant
abbrev pub column_of : Frame → Option ℕ → ℕ
column_of frame None = 750
column_of frame (Some t) = min (part_of t frame.time.end 750) 750

-- the x of an instant's column
abbrev pub x_of : Frame → Option ℕ → ℕ
x_of frame instant = 64 + column_of frame instant

-- the y of a count
abbrev pub y_of : Frame → ℕ → ℕ
y_of frame count = frame.base - part_of count frame.bytes.end 320
