-- What a log says, and the picture of it.
use Rattle.std.specs.Prelude.{◌≡◌, ℕ, Bool, List, [], ◌∷◌, ◌++◌, fold, replicate, string_bytes, Option, Some, None}
use Rattle.std.specs.Io.KnownBytes.{IsAtEnd, prepend_known}
use Rattle.tox_time.specs.declared.streams.ending.Ending.{Ending}
use Rattle.tox_time.specs.declared.streams.ending.Ending.TheVariants.{StillOpen, Closed as ClosedAt, Reset as ResetAt}
use Rattle.tox_time.specs.declared.streams.item.Item.{Item}
use Rattle.tox_time.specs.streams.Stream.{IsStream, span_len}
use Rattle.tox_time.specs.streams.Table.{ending, table}
use Rattle.tox_words.specs.Seeded.{seeded_words}
use Rattle.tox_defs.specs.chain.Chain.{Toxics}
use Rattle.tox_defs.specs.Flow.{chain_flow}
use Rattle.tox_link.specs.declared.notes.LinkEvent.{LinkEvent}
use Rattle.tox_link.specs.declared.notes.LinkEvent.TheVariants.{Piece, SourceEnd, Wrote}
use Rattle.tox_link.specs.log.Log.{IsGapless, heard, reading_of, said}
use Rattle.tox_log.specs.declared.heading.Heading.{Heading}
use Rattle.tox_log.specs.declared.last_line.LastLine.{LastLine}
use Rattle.tox_log.specs.declared.last_line.LastLine.TheVariants.{Ended, Broken as BrokenOff}
use Rattle.tox_log.specs.EventLines.{event_lines}
use Rattle.tox_log.specs.HeaderLines.{AreHeaderNames}
use Rattle.tox_log.specs.HeaderText.{header_text}
use Rattle.tox_log.specs.Hearing.{source_end_of}
use Rattle.tox_log.specs.LastText.{last_line}
use Rattle.tox_log.specs.Numbers.{Lacks}
use Rattle.tox_draw.specs.declared.curve.Curve.{Curve}
use Rattle.tox_draw.specs.declared.link_end.LinkEnd.{LinkEnd}
use Rattle.tox_draw.specs.declared.link_end.LinkEnd.TheVariants.{Open, Closed, Reset, Broken, Missing}
use Rattle.tox_draw.specs.declared.picture.Picture.{Picture}
use Rattle.tox_draw.specs.declared.setting.Setting.{Setting}
use Rattle.tox_draw.specs.Frames.{IsFrame}
use Rattle.tox_draw.specs.LinkEnds.{end_of}
use Rattle.tox_draw.specs.Lines.{IsCurve}
use Rattle.tox_draw.specs.Pictures.{picture_text}

-- what a log says: its header, its events, whether a reset ended the source, and its last line
pub record LogText : Type 0 where
  pub heading : Heading
  pub chain : Toxics
  pub events : List LinkEvent
  pub source_reset : Bool
  pub last : Option LastLine

-- the text of a last line, if there is one
abbrev pub last_lines : Option LastLine → List ℕ
last_lines (Some last) = last_line last
last_lines None = []

-- bytes say a log: they are its lines, and perhaps a part of a line behind them
pub record SaysLog (given : Option (List ℕ)) (log : LogText) : Type 0 where
  pub names : List (List ℕ)
  pub torn : List ℕ
  pub left : Option (List ℕ)
  pub named : AreHeaderNames (string_bytes log.heading.proxy) log.chain.entries names
  pub text : given
      ≡ prepend_known (header_text (string_bytes log.heading.proxy) log.heading.number log.heading.stream log.heading.seed log.chain names
      ++ ((event_lines log.source_reset log.events ++ last_lines log.last) ++ torn)) left
  pub unended : Lacks 10 torn
  pub ended : IsAtEnd left
  pub ordered : IsStream (heard log.events)

-- the reading at which each byte was written
abbrev pub written_table : List LinkEvent → List ℕ
written_table [] = []
written_table (Piece len instant ∷ events) = written_table events
written_table (SourceEnd instant ∷ events) = written_table events
written_table (Wrote slice reading ∷ events) =
    replicate (span_len slice.span) reading ++ written_table events

-- the last reading, or 0
abbrev pub latest_reading : List LinkEvent → ℕ
latest_reading events = fold (λ before event. reading_of event) 0 events

-- an ending that came at a reading
abbrev pub end_at : Ending → ℕ → LinkEnd
end_at StillOpen reading = Open
end_at (ClosedAt t) reading = Closed reading
end_at (ResetAt t) reading = Reset reading

-- how a link ended whose last reading is this, by its last line
abbrev pub link_end : Option LastLine → ℕ → LinkEnd
link_end (Some (Ended reading last)) latest = end_at last reading
link_end (Some (BrokenOff cause bytes)) latest = Broken latest
link_end None latest = Missing latest

-- what the chain of a log means for what was heard, with the words of its seed, link and stream
abbrev pub due_items : LogText → List Item
due_items log =
    chain_flow log.chain
    (seeded_words log.heading.seed log.heading.number log.heading.stream) (heard log.events)

-- what a picture shows of a log. What was written is shown where it has no gaps, as in each faithful log
pub record ShowsLog (log : LogText) (picture : Picture) : Type 0 where
  pub arrived : IsCurve picture.frame (table (heard log.events)) picture.arrived
  pub source_end : picture.source_end ≡ source_end_of log.events
  pub source_reset : picture.source_reset ≡ log.source_reset
  pub due : IsCurve picture.frame (table (due_items log)) picture.planned
  pub due_end : picture.planned_end ≡ end_of (ending (due_items log))
  pub written : (stop : ℕ) → IsGapless 0 (said log.events) stop
      → (curve : Curve) × (picture.written ≡ Some curve)
      × IsCurve picture.frame (written_table log.events) curve
  pub end : picture.end ≡ link_end log.last (latest_reading log.events)

-- the text of a picture of these bytes, which stands so
pub record IsPictureOf (given : Option (List ℕ)) (setting : Setting) (text : List ℕ) : Type 0 where
  pub log : LogText
  pub says : SaysLog given log
  pub picture : Picture
  pub stands : picture.setting ≡ setting
  pub frame : IsFrame picture.frame
  pub shows : ShowsLog log picture
  pub is : text ≡ picture_text picture
