-- The line that a judged log is printed as.
use Rattle.std.specs.Prelude.{ℕ, Bool, true, false, List, [], ◌++◌, codes, decimal, string_bytes, Option, Some, None}
use Rattle.tox_time.specs.streams.StreamName.{stream_name}
use Rattle.tox_text.specs.Names.{visible_name}
use Rattle.tox_text.specs.ResultText.{ending_words}
use Rattle.tox_log.specs.declared.lateness.Percentiles.{Percentiles}
use Rattle.tox_log.specs.declared.replay.JudgedLog.{JudgedLog}
use Rattle.tox_log.specs.declared.replay.Verdict.{Verdict}
use Rattle.tox_log.specs.declared.replay.Verdict.TheVariants.{Faithful, Unfinished, Unfaithful}
use Rattle.tox_log.specs.JudgedObject.{verdict_word}

-- the verdict, and which stream of which link the log is of
abbrev pub stream_text : JudgedLog → List ℕ
stream_text log =
    verdict_word log.verdict ++ codes " " ++ visible_name (string_bytes log.heading.proxy) ++ codes " " ++ decimal log.heading.number
    ++ codes " " ++ stream_name log.heading.stream

-- how many bytes were heard and said
abbrev pub counts_text : JudgedLog → List ℕ
counts_text log = codes " in " ++ decimal log.heard ++ codes " out " ++ decimal log.said

-- how a faithful log ended
abbrev pub end_text : Verdict → List ℕ
end_text (Faithful ending) = codes " " ++ ending_words ending
end_text Unfinished = []
end_text (Unfaithful line) = []

-- the number of writes
abbrev pub writes_text : ℕ → List ℕ
writes_text writes = codes " writes " ++ decimal writes

-- what stands before a percentile that is exact or not
abbrev pub mark_text : Bool → List ℕ
mark_text true = codes " "
mark_text false = codes " ~"

-- how late the writes and a timed ending were, and the line's end
abbrev pub late_text : Option Percentiles → List ℕ
late_text None = codes "\n"
late_text (Some late) =
    codes " late median" ++ mark_text late.exact ++ decimal late.median ++ codes " p99" ++ mark_text late.exact
    ++ decimal late.p99 ++ codes " max " ++ decimal late.max ++ codes "\n"

-- what a log says that is faithful as far as it goes
abbrev pub said_text : JudgedLog → List ℕ
said_text log = counts_text log ++ (end_text log.verdict ++ (writes_text log.writes ++ late_text log.late))

-- the line up to which a log isn't faithful, or what it says
abbrev pub outcome_text : JudgedLog → Verdict → List ℕ
outcome_text log (Unfaithful line) = codes " line " ++ decimal line ++ codes "\n"
outcome_text log Unfinished = said_text log
outcome_text log (Faithful ending) = said_text log

-- the line of a judged log
abbrev pub judged_line : JudgedLog → List ℕ
judged_line log = stream_text log ++ outcome_text log log.verdict
