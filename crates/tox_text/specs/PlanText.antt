-- The text of a plan: a line for each operation, or `pass` where there is none.
use Rattle.std.specs.Prelude.{ℕ, ◌==◌, List, [], ◌∷◌, ◌++◌, Option, None, Some, codes, decimal, flat_map, if◌then◌else◌}
use Rattle.tox_defs.specs.declared.operations.op.Op.{Op}
use Rattle.tox_defs.specs.declared.operations.op.Op.TheVariants.{Delay, Pace, Slow, Mute, Cutoff, Slicing, Limit, Halt}
use Rattle.tox_defs.specs.operations.Op.{op_from, op_until}
use Rattle.tox_text.specs.ResultText.{ending_words}

-- a number behind its word, and nothing for 0
abbrev pub nonzero_words : List ℕ → ℕ → List ℕ
nonzero_words word number = if number == 0 then [] else word ++ decimal number

-- the instant from which on an operation ends the link, if there is one
abbrev pub at_words : Option ℕ → List ℕ
at_words None = []
at_words (Some at) = codes " at " ++ decimal at

-- a delay, with what it draws where it has jitter
abbrev pub delay_words : ℕ → ℕ → ℕ → ℕ → List ℕ
delay_words fixed latency jitter lane =
    if jitter == 0 then codes "delay " ++ decimal fixed
    else codes "delay " ++ decimal fixed ++ codes " jitter " ++ decimal latency ++ codes " "
    ++ decimal jitter ++ codes " lane " ++ decimal lane

-- a slicing, with the lane of its draws
abbrev pub slicing_words : ℕ → ℕ → ℕ → ℕ → List ℕ
slicing_words average variation micros lane =
    codes "slicing " ++ decimal average ++ codes " " ++ decimal variation ++ codes " "
    ++ decimal micros ++ codes " lane " ++ decimal lane

-- what an operation does in its time
abbrev pub work_words : Op → List ℕ
work_words (Delay fixed latency jitter lane until from) = delay_words fixed latency jitter lane
work_words (Pace rate until from) = codes "pace " ++ decimal rate
work_words (Slow millis) = codes "slow " ++ decimal millis
work_words (Limit bytes) = codes "limit " ++ decimal bytes
work_words (Cutoff instant) = codes "cutoff " ++ decimal instant
work_words (Slicing average variation micros lane until from) = slicing_words average variation micros lane
work_words (Mute ending) = codes "mute " ++ ending_words ending
work_words (Halt at after ending) =
    codes "halt" ++ at_words at ++ nonzero_words (codes " after ") after ++ codes " " ++ ending_words ending

-- the line of an operation: what it does, until when and from when on
abbrev pub op_line : Op → List ℕ
op_line op =
    work_words op ++ nonzero_words (codes " until ") (op_until op)
    ++ nonzero_words (codes " from ") (op_from op) ++ codes "\n"

-- the text of operations
abbrev pub plan_text : List Op → List ℕ
plan_text [] = codes "pass\n"
plan_text (op ∷ ops) = flat_map op_line (op ∷ ops)
