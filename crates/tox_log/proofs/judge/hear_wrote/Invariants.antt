-- The first bytes of the slice are said.
use Rattle.std.proofs.Common.{◌≡◌, ℕ, ◌-◌, ◌≤◌, List, Bool, replicate}
use Rattle.tox_time.specs.declared.streams.item.Item.{Item}
use Rattle.tox_time.specs.streams.Stream.{span_len}
use Rattle.tox_link.specs.declared.notes.LinkEvent.{LinkEvent}
use Rattle.tox_log.specs.Judging.{Expects, KeepsUp, Judged, FollowsWith}
use Rattle.tox_log.proofs.judge.hear_wrote.Given as goal

abbrev pub invariant-parts : goal.invariant-parts
invariant-parts l = record {
  held : KeepsUp l.judge;
  heard : l.judge.heard ≡ l.fn.judge.heard;
  latest : l.judge.latest ≡ l.reading;
  ended : l.judge.ended ≡ l.fn.judge.ended;
  from : l.slice.span.start ≤ l.judge.said;
  to : l.judge.said ≤ l.slice.span.stop;
  due : l.slice.instant ≤ l.reading;
  follows : (means : List Item → List Item) (reported : ℕ → Bool) (log : List LinkEvent) → Judged means reported l.fn.judge log
      → FollowsWith means reported l.judge (replicate (l.judge.said - l.slice.span.start) l.slice.instant) l.slice.span.start log;
  expects : Expects l.fn.judge (span_len l.slice.span) l.slice.instant → Expects l.judge (l.slice.span.stop - l.judge.said) l.slice.instant;
}

abbrev pub decreases-parts : goal.decreases-parts
decreases-parts l = l.slice.span.stop - l.judge.said
