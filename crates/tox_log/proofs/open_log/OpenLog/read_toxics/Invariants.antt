-- The reader works, and the lines of the chain's toxics were read. Of a log that a link can write the others are left.
use Rattle.std.proofs.Common.{◌≡◌, ◌+◌, List, length, false}
use Rattle.tox_log.specs.Reading.{IsLineNumber}
use Rattle.tox_defs.specs.declared.chain.Entry.{Entry}
use Rattle.tox_log.specs.declared.event_line.LogLine.{LogLine}
use Rattle.tox_log.specs.Left.{HasToxicsLeft}
use Rattle.tox_log.specs.Opening.{SameHeading}
use Rattle.tox_log.proofs.Opening.{HasRead}
use Rattle.tox_log.proofs.open_log.OpenLog.read_toxics.Given as goal

abbrev pub invariant-toxics : goal.invariant-toxics
invariant-toxics g l = record {
  working : g.R.Source.failed l.reader ≡ false;
  going : l.self.waits ≡ false;
  same : SameHeading l.fn.self l.self;
  numbered : IsLineNumber l.fn.self.number (3 + length l.fn.self.chain.entries) → IsLineNumber l.self.number (3 + length l.self.chain.entries);
  read : HasRead l.fn.self l.self (g.R.Source.remaining l.fn.reader) (g.R.Source.remaining l.reader);
  left : (entries : List Entry) (lines : List LogLine) → HasToxicsLeft l.fn.self (g.R.Source.remaining l.fn.reader) entries lines
      → HasToxicsLeft l.self (g.R.Source.remaining l.reader) entries lines;
}
