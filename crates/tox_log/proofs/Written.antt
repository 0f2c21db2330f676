-- The header of a log that a link can write is read.
use Rattle.std.proofs.Common.{◌≡◌, ℕ, ◌≤◌, false, List, [], ◌++◌, length, map, Option, Some, ap, ap₂, sym, subst, ◌∙◌, append_assoc}
use Rattle.std.specs.Io.KnownBytes.{prepend_known}
use Rattle.std.specs.List.{zip}
use Rattle.std.proofs.lemmas.Slice.Zip.{firsts-zip}
use Rattle.tox_time.specs.streams.StreamPosition.{first_position}
use Rattle.tox_words.specs.declared.lanes.Lanes.{Lanes}
use Rattle.tox_words.specs.Draw.{lane_count}
use Rattle.tox_defs.specs.chain.Chain.{Toxics}
use Rattle.tox_defs.specs.declared.chain.Entry.{Entry}
use Rattle.tox_link.proofs.CarryLemmas.{prepend-nil}
use Rattle.tox_log.specs.declared.heading.Heading.{Heading}
use Rattle.tox_log.specs.declared.line_reader.LineReader.{LineReader}
use Rattle.tox_log.specs.declared.open_log.OpenLog.{OpenLog}
use Rattle.tox_log.specs.HeaderText.{heading_lines, toxic_lines}
use Rattle.tox_log.specs.Left.{HasToxicsLeft, IsHeadingOf, OpensWritten, ReadsChain}
use Rattle.tox_log.specs.Opening.{SameHeading}
use Rattle.tox_log.specs.Reading.{to_take, waiting}
use Rattle.tox_log.specs.WrittenLog.{AreInOrder, IsWritableLog, IsWrittenText, WrittenLog, log_lines}

-- the bytes behind the first three lines
abbrev pub behind_heading : WrittenLog → List ℕ
behind_heading log = toxic_lines log.chain.entries log.names ++ (log_lines log.lines ++ log.torn)

pub written-start : (lines : LineReader) (before : Option (List ℕ)) (log : WrittenLog) → waiting lines ≡ [] → IsWrittenText before log
    → to_take lines before ≡ Some (heading_lines log.name log.number log.stream log.chain.lanes log.seed ++ behind_heading log)
written-start lines before log fresh written =
    ap (λ bytes. prepend_known bytes before) fresh ∙ sym (prepend-nil before) ∙ written.text
    ∙ ap Some (append_assoc (heading_lines log.name log.number log.stream log.chain.lanes log.seed) (toxic_lines log.chain.entries log.names)
    (log_lines log.lines ++ log.torn))

-- its toxics are left
pub written-toxics : (start : OpenLog) (between : Option (List ℕ)) (log : WrittenLog) → IsWritableLog log → start.chain.entries ≡ []
    → start.chain.lanes ≡ log.chain.lanes
    → start.heard ≡ first_position → start.over ≡ false → to_take start.lines between ≡ Some (behind_heading log)
    → HasToxicsLeft start between log.chain.entries log.lines
written-toxics start between log writable none lanes begun going bytes =
    let toxics = zip log.chain.entries log.names in record {
      toxics = toxics;
      torn = log.torn;
      chain = sym (ap (λ entries. entries ++ map (λ named. named.0) toxics) none ∙ firsts-zip log.chain.entries log.names writable.one_each);
      bytes = bytes;
      writable = writable.toxics;
      room = subst (λ lanes. length log.chain.entries ≤ lane_count lanes) (sym lanes) writable.room;
      order = subst (λ heard. AreInOrder heard log.lines) (sym begun) writable.lines;
      going = going;
      unended = writable.torn;
    }

abbrev chain-of : Lanes → List Entry → Toxics
chain-of lanes entries = record { lanes = lanes; entries = entries }

-- and then its lines
pub written-opened : (start log : OpenLog) (remaining : Option (List ℕ)) (written : WrittenLog) (heading : Heading) → IsHeadingOf heading written
    → start.heading ≡ heading
    → start.chain.lanes ≡ written.chain.lanes → SameHeading start log → ReadsChain log remaining written.chain.entries written.lines
    → OpensWritten log remaining written
written-opened start log remaining written heading is begun lanes same left = record {
  heading = subst (λ heading. IsHeadingOf heading written) (sym (same.0 ∙ begun)) is;
  chain = chains log.chain written.chain (same.2 ∙ lanes) left.chain;
  left = left.left;
}
  where
    chains : (a b : Toxics) → a.lanes ≡ b.lanes → a.entries ≡ b.entries → a ≡ b
    chains a b same_lanes same_entries = ap₂ chain-of same_lanes same_entries
