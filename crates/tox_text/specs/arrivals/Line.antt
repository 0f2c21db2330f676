-- One line of the arrivals text: `<micros> data <hex>` or `<micros> eof`.
use Rattle.std.specs.Prelude.{ℕ, ◌+◌, ◌==◌, List, length, take, drop, codes, position, Option, Some, None, option_map, option_and_then, if◌then◌else◌}
use Rattle.std.specs.Str.{bytes_eq}
use Rattle.std.specs.Result.{result_ok}
use Rattle.hex.specs.Hex.{decode_of}
use Rattle.tox_time.specs.Time.{horizon}
use Rattle.tox_time.specs.Text.{decimal_value}
use Rattle.tox_text.specs.declared.arrivals.arrivals_line.Line as code
use Rattle.tox_text.specs.declared.arrivals.arrivals_line.Event as kinds
use Rattle.tox_text.specs.declared.arrivals.arrivals_line.Event.TheVariants.{Data, Eof}

-- bytes that arrived at an instant, or the source's end at an instant
pub data Line : Type 0 where
  arrival : ℕ → List ℕ → Line
  end : ℕ → Line

-- one step, and the next where it gave something
infixl 10 ◌>>=◌
abbrev pub ◌>>=◌ : {A B : Type 0} → Option A → (A → Option B) → Option B
first >>= next = option_and_then next first

-- the parts before and behind the first such byte
abbrev pub cut_at : ℕ → List ℕ → Option (List ℕ × List ℕ)
cut_at separator text =
    option_map (λ place. (take place text, drop (place + 1) text))
    (position (λ byte. byte == separator) text)

-- the instant that a text writes: 1 to 16 decimal digits of value at most 10^15
abbrev pub instant_of : List ℕ → Option ℕ
instant_of text = decimal_value 16 horizon text

-- the digits behind the instant: none after `eof`, and after `data ` whatever stands there
abbrev pub digits_at : List ℕ → Option (Option (List ℕ))
digits_at text =
    if bytes_eq text (codes "eof") then Some None
    else if bytes_eq (take 5 text) (codes "data ") then Some (Some (drop 5 text))
    else None

-- the parts of a line: its instant, and its digits if it is a data line
abbrev pub line_parts : List ℕ → Option (ℕ × Option (List ℕ))
line_parts text = do
  parts ← cut_at 32 text
  t ← instant_of parts.0
  option_map (λ digits. (t, digits)) (digits_at parts.1)

-- what these parts say: the source's end, or bytes if the digits are hexadecimal ones in pairs
abbrev pub line_at : ℕ → Option (List ℕ) → Option Line
line_at t None = Some (end t)
line_at t (Some digits) = option_map (arrival t) (result_ok (decode_of digits))

-- what a line says, or none where it is no line of the arrivals text
abbrev pub line_of : List ℕ → Option Line
line_of text = do
  parts ← line_parts text
  line_at parts.0 parts.1

-- the digits that the code keeps of a line
abbrev pub digits_seen : kinds.Event → Option (List ℕ)
digits_seen (Data digits) = Some digits.now
digits_seen Eof = None

-- what happened at an instant, as the line that says it, if its digits are pairs
abbrev pub event_seen : ℕ → kinds.Event → Option Line
event_seen t event = line_at t (digits_seen event)

-- what the code keeps of a line, as a line of the arrivals text
abbrev pub line_seen : Option code.Line → Option Line
line_seen None = None
line_seen (Some line) = event_seen line.instant line.event

-- what the code keeps of a line, as its parts
abbrev pub parts_seen : code.Line → ℕ × Option (List ℕ)
parts_seen line = (line.instant, digits_seen line.event)

-- how many digits the code keeps of a line
abbrev pub digit_count : kinds.Event → ℕ
digit_count (Data digits) = length digits.now
digit_count Eof = 0
