-- The reader works, the runner waits for the next line, and those before it were heard.
use Rattle.std.proofs.Common.{◌≡◌, List, false, true}
use Rattle.tox_time.specs.declared.streams.item.Item.{Item}
use Rattle.tox_log.specs.Reading.{to_hand}
use Rattle.tox_draw.specs.Hearings.{BeginsHearing, HearsSoFar}
use Rattle.tox_draw.proofs.recorded.hear_lines.Given as goal

abbrev pub invariant-lines : goal.invariant-lines
invariant-lines g l = record {
  works : g.R.Source.failed l.reader ≡ false;
  idle : l.runner.idle ≡ true;
  same : (l.log.heading ≡ l.fn.log.heading) × (l.log.chain ≡ l.fn.log.chain);
  hears : (means : List Item → List Item) → BeginsHearing l.frame means l.fn.log l.fn.hearing l.fn.runner
      → HearsSoFar l.frame means (to_hand l.fn.log (g.R.Source.remaining l.fn.reader)) (to_hand l.log (g.R.Source.remaining l.reader)) l.log l.hearing l.runner;
}
