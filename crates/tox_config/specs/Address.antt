-- What an address is.
use Rattle.std.specs.Prelude.{ℕ, ◌&&◌, Bool, List, is_some}
use Rattle.std.specs.Char.{is_ascii_graphic}
use Rattle.std.specs.List.{after_last, list_all, list_any}
use Rattle.tox_time.specs.Text.{decimal_value, is_colon, is_sized}

-- whether a text is 1 to 5 decimal digits of value at most 65535
abbrev pub is_port : List ℕ → Bool
is_port text = is_some (decimal_value 5 65535 text)

-- whether a port stands behind the last colon of a text
abbrev pub ends_in_port : List ℕ → Bool
ends_in_port text = list_any is_colon text && is_port (after_last is_colon text)

-- whether a text is an address: 1 to 255 bytes from 0x21 to 0x7E, with a port behind the last colon
abbrev pub is_address : List ℕ → Bool
is_address text = is_sized 255 text && list_all is_ascii_graphic text && ends_in_port text
