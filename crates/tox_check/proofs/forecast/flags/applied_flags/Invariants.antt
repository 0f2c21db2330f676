-- The flags of the first places.
use Rattle.std.proofs.Common.{◌≡◌, length, take}
use Rattle.tox_words.specs.Draw.{draws_of}
use Rattle.tox_check.specs.forecast.Applied.{applied_flags}
use Rattle.tox_check.proofs.forecast.flags.applied_flags.Given as goal

abbrev pub invariant-loop-place : goal.invariant-loop-place
invariant-loop-place l = record {
  long : length l.flags.items ≡ l.place;
  made : l.flags.items ≡ take l.place (applied_flags (draws_of l.drawing) l.entries);
}
