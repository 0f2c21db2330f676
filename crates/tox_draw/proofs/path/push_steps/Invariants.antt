-- What the columns so far drew, and what is left to draw.
use Rattle.std.proofs.Common.{◌≡◌, ◌+◌, ◌++◌, drop, take, string_bytes}
use Rattle.tox_draw.specs.Paths.{steps, steps_path}
use Rattle.tox_draw.proofs.path.push_steps.Given as goal

abbrev pub invariant-loop-column : goal.invariant-loop-column
invariant-loop-column l =
    string_bytes l.text ++ steps (64 + l.end) l.pen (64 + l.column) (drop l.column (take (l.end + 1) l.ys))
    ≡ string_bytes l.fn.text ++ steps_path l.ys l.end l.fn.base
