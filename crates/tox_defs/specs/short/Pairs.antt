-- The pairs of a short form: `key=value`, separated by commas.
use Rattle.std.specs.Prelude.{ℕ, ◌&&◌, ◌||◌, ◌==◌, Bool, List, length, Option, is_some, option_and_then, nat_lt, count_by}
use Rattle.std.specs.Char.{is_ascii_lowercase}
use Rattle.std.specs.List.{after_first, before_first, find, list_all, list_any, slice_split}
use Rattle.std.specs.Str.{bytes_eq}
use Rattle.tox_time.specs.Text.{decimal_value}

-- one of a to z and _
abbrev pub is_word_byte : ℕ → Bool
is_word_byte byte = byte == 95 || is_ascii_lowercase byte

-- one or more of them
abbrev pub is_word : List ℕ → Bool
is_word text = nat_lt 0 (length text) && list_all is_word_byte text

-- the number that a text writes in 1 to 18 digits, which always fits 64 bits
abbrev pub pair_number : List ℕ → Option ℕ
pair_number text = decimal_value 18 18_446_744_073_709_551_615 text

-- the sign between a key and its value
abbrev pub is_equals : ℕ → Bool
is_equals byte = byte == 61

-- the text before the first `=`
abbrev pub key_of : List ℕ → List ℕ
key_of pair = before_first is_equals pair

-- the number behind it
abbrev pub value_of : List ℕ → Option ℕ
value_of pair = pair_number (after_first is_equals pair)

-- whether a text is a key, `=` and a value
abbrev pub is_pair : List ℕ → Bool
is_pair text = is_word (key_of text) && is_some (value_of text)

-- the texts between the commas
abbrev pub pairs_of : List ℕ → List (List ℕ)
pairs_of text = slice_split (λ byte. byte == 44) text

-- whether a pair has this key
abbrev pub has_key : List ℕ → List ℕ → Bool
has_key key pair = bytes_eq (key_of pair) key

-- the value of a key
abbrev pub value_at : List ℕ → List (List ℕ) → Option ℕ
value_at key pairs = option_and_then value_of (find (has_key key) pairs)

-- whether a key stands twice or more
abbrev pub has_double_key : List (List ℕ) → Bool
has_double_key pairs = list_any (λ pair. nat_lt 1 (count_by (has_key (key_of pair)) pairs)) pairs
