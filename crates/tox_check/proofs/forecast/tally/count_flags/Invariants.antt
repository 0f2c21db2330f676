-- The flags of the first places are added.
use Rattle.std.proofs.Common.{◌≡◌, ℕ, ◌+◌, length, slice_index, take}
use Rattle.tox_check.specs.forecast.Applied.{flag_at}
use Rattle.tox_check.specs.forecast.Tally.{one_for}
use Rattle.tox_check.proofs.forecast.tally.count_flags.Given as goal

abbrev pub invariant-loop-place : goal.invariant-loop-place
invariant-loop-place l = record {
  long : length l.counts ≡ length l.fn.counts;
  added : (p : ℕ) → slice_index l.counts p ≡ slice_index l.fn.counts p + one_for (flag_at p (take l.place l.flags));
}
