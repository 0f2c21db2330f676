-- Units, and values in them.
use Rattle.std.specs.Prelude.{ℕ, ◌*◌, ◌/◌, ◌%◌, ◌==◌, ◌&&◌, not, List, [], ◌++◌, nat_lt, nat_le, codes, decimal, if◌then◌else◌}
use Rattle.tox_draw.specs.declared.unit.Unit.{Unit}
use Rattle.tox_draw.specs.declared.unit.Unit.TheVariants.{Micros, Millis, Seconds, Bytes, Kilobytes, Megabytes, Gigabytes}

abbrev pub unit_size : Unit → ℕ
unit_size Micros = 1
unit_size Millis = 1000
unit_size Seconds = 1000000
unit_size Bytes = 1
unit_size Kilobytes = 1000
unit_size Megabytes = 1000000
unit_size Gigabytes = 1000000000

abbrev pub unit_name : Unit → List ℕ
unit_name Micros = codes "us"
unit_name Millis = codes "ms"
unit_name Seconds = codes "s"
unit_name Bytes = codes "B"
unit_name Kilobytes = codes "KB"
unit_name Megabytes = codes "MB"
unit_name Gigabytes = codes "GB"

-- the greatest unit of time that isn't above a value
abbrev pub time_unit : ℕ → Unit
time_unit micros =
    if nat_le 1000000 micros then Seconds
    else (if nat_le 1000 micros then Millis else Micros)

-- the greatest unit of bytes that isn't above a value
abbrev pub byte_unit : ℕ → Unit
byte_unit count =
    if nat_le 1000000000 count then Gigabytes
    else (if nat_le 1000000 count then Megabytes
    else (if nat_le 1000 count then Kilobytes else Bytes))

-- a point and thousandths, without the zeros at their end
unfoldable pub fraction_text : ℕ → List ℕ
fraction_text r =
    let first = codes "." ++ decimal (r / 100) in
    if not (r % 10 == 0) then first ++ decimal (r / 10 % 10) ++ decimal (r % 10)
    else (if not (r / 10 % 10 == 0) then first ++ decimal (r / 10 % 10) else first)

-- the thousandths of a value behind its whole units
abbrev pub thousandths_of : ℕ → Unit → ℕ
thousandths_of value unit = value % unit_size unit * 1000 / unit_size unit

-- the figure of a value in a unit
unfoldable pub figure_in_unit : ℕ → Unit → List ℕ
figure_in_unit value unit =
    decimal (value / unit_size unit)
    ++ (if nat_lt (value / unit_size unit) 1000 && not (thousandths_of value unit == 0) then fraction_text (thousandths_of value unit)
    else [])

-- its figure, a space, and the unit's name
unfoldable pub quantity : ℕ → Unit → List ℕ
quantity value unit = figure_in_unit value unit ++ codes " " ++ unit_name unit
