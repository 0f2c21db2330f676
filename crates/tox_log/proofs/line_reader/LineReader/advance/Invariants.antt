-- The reader works, and what was taken since the last line feed is the line so far.
use Rattle.std.proofs.Common.{◌≡◌, ℕ, List, false}
use Rattle.tox_log.specs.Numbers.{Lacks}
use Rattle.tox_log.specs.Reading.{Takes}
use Rattle.tox_log.proofs.line_reader.LineReader.advance.Given as goal

abbrev pub invariant-lines : goal.invariant-lines
invariant-lines g l = record {
  working : g.R.Source.failed l.reader ≡ false;
  taken : (text : List ℕ) × Takes l.fn.self l.self (g.R.Source.remaining l.fn.reader) (g.R.Source.remaining l.reader) text text
      × Lacks 10 text;
}
