-- The toxicity of a toxic, in thousandths.
use Rattle.std.specs.Prelude.{ℕ, ◌+◌, ◌-◌, ◌*◌, ◌^◌, ◌==◌, Bool, false, List, length, nat_le, position, Option, Some, None, is_some, option_and_then}
use Rattle.std.specs.Prelude.{option_map, if◌then◌else◌}
use Rattle.std.specs.List.{after_first, before_first}
use Rattle.toml.specs.Data.{Data, as_str}
use Rattle.tox_script.specs.fields.Fields.{whole_between}
use Rattle.tox_script.specs.declared.version.Version.{Version}
use Rattle.tox_script.specs.declared.version.Version.TheVariants.{One, Two}
use Rattle.tox_time.specs.Text.{decimal_value, passing}

-- whether a byte is a point
abbrev pub is_point : ℕ → Bool
is_point byte = byte == 46

-- the thousandths of one to three digits behind a point
abbrev pub fraction : List ℕ → Option ℕ
fraction digits =
    option_map (λ number. number * 10 ^ (3 - length digits)) (decimal_value 3 999 digits)

-- a unit, 0 or 1, with some thousandths, up to 1000 in all
abbrev pub with_unit : List ℕ → ℕ → Option ℕ
with_unit unit part =
    option_and_then (λ number. passing (λ total. nat_le total 1000) (number * 1000 + part))
    (decimal_value 1 1 unit)

-- the thousandths behind the point of a text: 0, where it has no point
abbrev pub fraction_in : List ℕ → Option ℕ
fraction_in text =
    if is_some (position is_point text) then fraction (after_first is_point text) else Some 0

-- the thousandths of a text: 0 or 1, and then perhaps a point and one to three digits, up to 1
abbrev pub thousandths : List ℕ → Option ℕ
thousandths text = option_and_then (with_unit (before_first is_point text)) (fraction_in text)

-- the thousandths of a text, or a whole number of them
abbrev pub text_or_whole : Option (List ℕ) → Data → Option ℕ
text_or_whole None d = whole_between 0 1000 d
text_or_whole (Some text) d = thousandths text

-- the toxicity that a value gives; only version 2 has texts
abbrev pub written_toxicity : Version → Data → Option ℕ
written_toxicity One d = whole_between 0 1000 d
written_toxicity Two d = text_or_whole (as_str d) d

-- whether a toxicity is given as a text, which is a decimal number
abbrev pub is_decimal : Option Data → Bool
is_decimal None = false
is_decimal (Some d) = is_some (as_str d)

-- the toxicity of a toxic: 1000 if absent
abbrev pub toxicity_in : Version → Option Data → Option ℕ
toxicity_in version None = Some 1000
toxicity_in version (Some d) = written_toxicity version d
