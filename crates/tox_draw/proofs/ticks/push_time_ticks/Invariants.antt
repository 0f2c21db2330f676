-- The first values were added.
use Rattle.std.proofs.Common.{◌≡◌, ◌++◌, string_bytes}
use Rattle.tox_draw.specs.Ticks.{time_tick, firsts}
use Rattle.tox_draw.proofs.ticks.push_time_ticks.Given as goal

abbrev pub invariant-loop-index : goal.invariant-loop-index
invariant-loop-index l =
    string_bytes l.text ≡ string_bytes l.fn.text ++ firsts (time_tick l.frame) l.index
