-- Instants in milliseconds.
use Rattle.std.specs.Prelude.{ℕ, ◌/◌, ◌%◌, List, ◌++◌, codes, decimal}

-- microseconds as milliseconds, with three digits behind the point
unfoldable pub millis : ℕ → List ℕ
millis micros =
    decimal (micros / 1000)
    ++ (codes "."
    ++ (decimal (micros / 100 % 10) ++ (decimal (micros / 10 % 10) ++ decimal (micros % 10))))
