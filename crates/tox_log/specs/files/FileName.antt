-- The names of the files of logs.
use Rattle.std.specs.Prelude.{ℕ, ◌==◌, Bool, ◌&&◌, ◌||◌, List, ◌++◌, codes, decimal, length, nat_le, not, if◌then◌else◌}
use Rattle.std.specs.Char.{is_ascii_alphanumeric}
use Rattle.std.specs.List.{list_all}
use Rattle.tox_time.specs.declared.streams.stream.Stream.{Stream}
use Rattle.tox_time.specs.streams.StreamName.{stream_name}

-- whether a byte is an ASCII letter, a digit, `_` or `-`
abbrev pub is_plain_byte : ℕ → Bool
is_plain_byte byte = is_ascii_alphanumeric byte || (byte == 95) || (byte == 45)

-- whether a proxy's name may stand in the name of a file: 1 to 64 plain bytes
abbrev pub suits_file : List ℕ → Bool
suits_file name = not (length name == 0) && nat_le (length name) 64 && list_all is_plain_byte name

-- what stands for a proxy in the name of a file: its name, or else its place among all proxies
abbrev pub proxy_part : List ℕ → ℕ → List ℕ
proxy_part name place = if suits_file name then name else codes "@" ++ decimal place

-- what stands behind it: the link's number and the stream
abbrev pub stream_part : ℕ → Stream → List ℕ
stream_part number stream = codes "-" ++ (decimal number ++ (codes "-" ++ (stream_name stream ++ codes ".log")))

-- the name of the file of the log of a proxy's link and stream
abbrev pub log_name : List ℕ → ℕ → ℕ → Stream → List ℕ
log_name name place number stream = proxy_part name place ++ stream_part number stream

-- whether a byte may stand in the name of a file
abbrev pub is_file_byte : ℕ → Bool
is_file_byte byte = is_plain_byte byte || (byte == 64) || (byte == 46)

-- whether all bytes of a name may stand in it
abbrev pub names_file : List ℕ → Bool
names_file name = list_all is_file_byte name
