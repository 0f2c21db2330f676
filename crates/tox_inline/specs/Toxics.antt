-- The toxics of a command line, in the order typed.
use Rattle.std.specs.Prelude.{ℕ, ◌+◌, List, [], ◌∷◌, ◌++◌, count_by, length, nat_le, Result, Ok, Err, if◌then◌else◌}
use Rattle.tox_time.specs.Steps.{◌>>=◌}
use Rattle.tox_time.specs.declared.streams.stream.Stream.{Stream}
use Rattle.tox_time.specs.streams.StreamName.{same_stream}
use Rattle.tox_defs.specs.short.Short.{short_of}
use Rattle.tox_defs.specs.declared.toxic.Toxic.{Toxic}
use Rattle.tox_defs.specs.declared.fault.ShortFault.{ShortFault}
use Rattle.tox_runs.specs.declared.files.toxics.ToxicsFault.{ToxicsFault}
use Rattle.tox_runs.specs.declared.files.toxics.ToxicsFault.TheVariants.{Short, TooMany}
use Rattle.tox_inline.specs.declared.toxics.InlineToxic.{InlineToxic}
use Rattle.tox_inline.specs.declared.toxics.NumberedToxic.{NumberedToxic}

-- how many of some toxics are on a stream
abbrev pub count_on : Stream → List NumberedToxic → ℕ
count_on stream toxics = count_by (λ toxic. same_stream toxic.stream stream) toxics

-- the toxic of a short form behind these: the next one of its stream, which has at most 32
abbrev pub parsed_behind : List NumberedToxic → Stream → Result (Toxic × ℕ) ShortFault
    → Result NumberedToxic ToxicsFault
parsed_behind earlier side (Err fault) = Err (Short fault (length earlier + 1))
parsed_behind earlier side (Ok read) =
    if nat_le 32 (count_on side earlier)
    then Err (TooMany (length earlier + 1))
    else Ok (record {
      stream = side;
      number = count_on side earlier + 1;
      entry = record { toxic = read.0; toxicity = read.1 };
    })

-- the toxic that was typed behind these
abbrev pub typed_behind : List NumberedToxic → InlineToxic → Result NumberedToxic ToxicsFault
typed_behind earlier toxic = parsed_behind earlier toxic.stream (short_of toxic.short.now)

-- these toxics and those that were typed behind them, or the first fault
abbrev pub typed_toxics : List NumberedToxic → List InlineToxic
    → Result (List NumberedToxic) ToxicsFault
typed_toxics earlier [] = Ok earlier
typed_toxics earlier (toxic ∷ toxics) =
    typed_behind earlier toxic >>= (λ next. typed_toxics (earlier ++ next ∷ []) toxics)

-- the toxics that were typed, each with its number on its stream
abbrev pub numbered_toxics : List InlineToxic → Result (List NumberedToxic) ToxicsFault
numbered_toxics toxics = typed_toxics [] toxics
