-- The signals that tell a process to stop, as the text of `/proc/self/status` shows them.
use Rattle.std.specs.Prelude.{ℕ, ◌-◌, ◌/◌, ◌%◌, ◌^◌, ◌==◌, nat_eq, ◌&&◌, ◌||◌, not, Bool, false, List, [], ◌∷◌, length, drop, codes, Option, Some, None}
use Rattle.std.specs.Prelude.{slice_get, if◌then◌else◌}
use Rattle.std.specs.List.{starts_with}
use Rattle.std.specs.Char.{digit_value, is_digit}

-- the bytes behind the first place where a name stands, or none
abbrev pub bytes_behind : List ℕ → List ℕ → List ℕ
bytes_behind name [] = []
bytes_behind name (byte ∷ text) =
    if starts_with nat_eq (byte ∷ text) name
    then drop (length name) (byte ∷ text)
    else bytes_behind name text

-- whether a hexadecimal digit has a bit
abbrev pub has_bit : ℕ → ℕ → Bool
has_bit digit bit = is_digit digit 16 && ((digit_value digit / 2 ^ bit) % 2 == 1)

-- the same of a digit that may be missing
abbrev pub has_bit_at : Option ℕ → ℕ → Bool
has_bit_at None bit = false
has_bit_at (Some digit) bit = has_bit digit bit

-- whether the set behind a name has a signal: of its 16 hexadecimal digits the last has the signals 1 to 4, the one before 5 to 8
abbrev pub has_signal : List ℕ → List ℕ → ℕ → Bool
has_signal status name signal =
    has_bit_at (slice_get (bytes_behind name status) (15 - (signal - 1) / 4)) ((signal - 1) % 4)

-- whether a signal waits, for the process or for its first thread, is blocked and isn't ignored
abbrev pub is_pending_and_blocked : List ℕ → ℕ → Bool
is_pending_and_blocked status signal =
    (has_signal status (codes "\nShdPnd:\t") signal || has_signal status (codes "\nSigPnd:\t") signal)
    && has_signal status (codes "\nSigBlk:\t") signal && not (has_signal status (codes "\nSigIgn:\t") signal)

-- whether the process is told to stop: by signal 1, SIGHUP, 2, SIGINT, or 15, SIGTERM
abbrev pub tells_to_stop : List ℕ → Bool
tells_to_stop status = is_pending_and_blocked status 1 || is_pending_and_blocked status 2 || is_pending_and_blocked status 15
