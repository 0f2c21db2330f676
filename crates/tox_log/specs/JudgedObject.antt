-- The line of a judged log as an object of JSON.
use Rattle.std.specs.Prelude.{ℕ, List, [], ◌++◌, codes, decimal, not, string_bytes, Option, Some, None}
use Rattle.tox_time.specs.declared.streams.ending.Ending.{Ending}
use Rattle.tox_time.specs.declared.streams.ending.Ending.TheVariants.{StillOpen, Closed, Reset}
use Rattle.tox_time.specs.streams.StreamName.{stream_name}
use Rattle.tox_text.specs.Json.{flag_text}
use Rattle.tox_text.specs.JsonLine.{event_text, number_field, text_field}
use Rattle.tox_log.specs.declared.lateness.Percentiles.{Percentiles}
use Rattle.tox_log.specs.declared.replay.JudgedLog.{JudgedLog}
use Rattle.tox_log.specs.declared.replay.Verdict.{Verdict}
use Rattle.tox_log.specs.declared.replay.Verdict.TheVariants.{Faithful, Unfinished, Unfaithful}

-- the word of a verdict
abbrev pub verdict_word : Verdict → List ℕ
verdict_word (Faithful ending) = codes "faithful"
verdict_word Unfinished = codes "unfinished"
verdict_word (Unfaithful line) = codes "unfaithful"

-- the file, the verdict, and which stream of which link the log is of
abbrev pub stream_fields : List ℕ → JudgedLog → List ℕ
stream_fields file log =
    text_field (codes "file") file ++ (text_field (codes "verdict") (verdict_word log.verdict)
    ++ (text_field (codes "proxy") (string_bytes log.heading.proxy) ++ (number_field (codes "link") log.heading.number
    ++ text_field (codes "stream") (stream_name log.heading.stream))))

-- how a stream ended, and when
abbrev pub ended_fields : List ℕ → ℕ → List ℕ
ended_fields word instant = text_field (codes "end") word ++ number_field (codes "instant") instant

-- how a stream ended
abbrev pub ending_fields : Ending → List ℕ
ending_fields StillOpen = text_field (codes "end") (codes "open")
ending_fields (Closed instant) = ended_fields (codes "closed") instant
ending_fields (Reset instant) = ended_fields (codes "reset") instant

-- how a faithful log ended
abbrev pub end_fields : Verdict → List ℕ
end_fields (Faithful ending) = ending_fields ending
end_fields Unfinished = []
end_fields (Unfaithful line) = []

-- how late the writes were
abbrev pub late_field : Option Percentiles → List ℕ
late_field None = []
late_field (Some late) =
    codes ",\"late\":{\"median\":" ++ decimal late.median ++ codes ",\"p99\":" ++ decimal late.p99
    ++ codes ",\"max\":" ++ decimal late.max ++ codes ",\"approximate\":" ++ flag_text (not late.exact) ++ codes "}"

-- what a log says that is faithful as far as it goes
abbrev pub said_fields : JudgedLog → List ℕ
said_fields log =
    number_field (codes "in") log.heard ++ (number_field (codes "out") log.said
    ++ (end_fields log.verdict ++ (number_field (codes "writes") log.writes ++ late_field log.late)))

-- the line up to which a log isn't faithful, or what it says
abbrev pub outcome_fields : JudgedLog → Verdict → List ℕ
outcome_fields log (Unfaithful line) = number_field (codes "line") line
outcome_fields log Unfinished = said_fields log
outcome_fields log (Faithful ending) = said_fields log

-- the object of a judged log in a file
abbrev pub judged_object : List ℕ → JudgedLog → List ℕ
judged_object file log =
    event_text (codes "replay") ++ (stream_fields file log ++ (outcome_fields log log.verdict ++ codes "}\n"))
