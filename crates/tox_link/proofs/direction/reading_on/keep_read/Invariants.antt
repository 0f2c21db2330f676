-- What was kept so far.
use Rattle.std.proofs.Common.{◌≡◌, ℕ, ◌+◌, ◌-◌, ◌<◌, ◌≤◌, ◌⊎◌, List, [], length, take, true, Option}
use Rattle.std.specs.Io.KnownBytes.{prepend_known}
use Rattle.tox_link.specs.declared.source_ending.SourceEnding.TheVariants.{TooManyBytes as AtLimit}
use Rattle.tox_link.specs.direction.Driven.{Drove, EndsWithCore, ends_view}
use Rattle.tox_link.specs.direction.Follows.{HasRoomFor, IsHeld}
use Rattle.tox_link.specs.log.Carried.{ReadsOn}
use Rattle.tox_link.proofs.direction.reading_on.keep_read.Given as goal

abbrev pub invariant-loop-done : goal.invariant-loop-done
invariant-loop-done g l = record {
  held : IsHeld l.link;
  reads : ReadsOn (g.C.Clock.reported l.clock) l.fn.link.core.latest l.link.core.latest;
  same : (l.link.unwritten.items ≡ []) × (l.link.written ≡ l.fn.link.written);
  few : l.done ≤ length l.bytes;
  room : l.done < length l.bytes → HasRoomFor (length l.bytes - l.done) l.link;
  taken : l.link.core.bytes ≤ l.fn.link.core.bytes + l.done;
  source : (l.link.source ≡ l.fn.link.source) ⊎ ((l.link.source ≡ AtLimit) × (l.link.ended ≡ true));
  ends : EndsWithCore l.fn.link → EndsWithCore l.link;
  drove : (left written : Option (List ℕ)) → Drove 1 (g.C.Clock.reported l.clock) l.fn.link
      (ends_view (prepend_known (take l.done l.bytes) left) written (g.N.Notes.events l.fn.notes)) l.link
      (ends_view left written (g.N.Notes.events l.notes));
}

abbrev pub decreases-loop-done : goal.decreases-loop-done
decreases-loop-done g l = length l.bytes - l.done
