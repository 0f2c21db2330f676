-- The line of a judged log, in the parts in which it is printed.
use Rattle.std.proofs.Common.{◌≡◌, ℕ, List, [], ◌++◌, codes, decimal, string_bytes, Some, append_assoc, append-nil}
use Rattle.tox_time.specs.streams.StreamName.{stream_name}
use Rattle.tox_text.specs.Names.{visible_name}
use Rattle.tox_log.specs.JudgedObject.{verdict_word}
use Rattle.tox_log.specs.JudgedText.{counts_text, late_text, mark_text, stream_text}
use Rattle.tox_log.specs.declared.lateness.Percentiles.{Percentiles}
use Rattle.tox_log.specs.declared.replay.JudgedLog.{JudgedLog}
use Rattle.tox_log.proofs.JudgedParts.{nine}

seven : (a b c d e f g : List ℕ) → a ++ (b ++ (c ++ (d ++ (e ++ (f ++ (g ++ [])))))) ≡ a ++ b ++ c ++ d ++ e ++ f ++ g
seven a b c d e f g = simp (append_assoc, append-nil)

four : (a b c d : List ℕ) → a ++ (b ++ (c ++ (d ++ []))) ≡ a ++ b ++ c ++ d
four a b c d = simp (append_assoc, append-nil)

pub stream_text-parts : (log : JudgedLog) (verdict proxy name : List ℕ) → verdict ≡ verdict_word log.verdict → proxy ≡ string_bytes log.heading.proxy
    → name ≡ stream_name log.heading.stream
    → verdict ++ (codes " " ++ (visible_name proxy ++ (codes " " ++ (decimal log.heading.number ++ (codes " " ++ (name ++ [])))))) ≡ stream_text log
stream_text-parts log verdict proxy name is_verdict is_proxy is_name =
    rw (is_verdict, is_proxy, is_name)
    (seven (verdict_word log.verdict) (codes " ") (visible_name (string_bytes log.heading.proxy)) (codes " ") (decimal log.heading.number) (codes " ")
    (stream_name log.heading.stream))

pub counts_text-parts : (log : JudgedLog) → codes " in " ++ (decimal log.heard ++ (codes " out " ++ (decimal log.said ++ []))) ≡ counts_text log
counts_text-parts log = four (codes " in ") (decimal log.heard) (codes " out ") (decimal log.said)

pub late_text-parts : (late : Percentiles) (mark : List ℕ) → mark ≡ mark_text late.exact
    → codes " late median" ++ (mark ++ (decimal late.median ++ (codes " p99" ++ (mark ++ (decimal late.p99 ++ (codes " max " ++ (decimal late.max
    ++ (codes "\n" ++ [])))))))) ≡ late_text (Some late)
late_text-parts late mark is =
    rw is
    (nine (codes " late median") (mark_text late.exact) (decimal late.median) (codes " p99") (mark_text late.exact) (decimal late.p99) (codes " max ")
    (decimal late.max) (codes "\n"))
