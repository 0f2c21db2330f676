-- Logical time: whole microseconds from a link's start up to the horizon, at which addition stops.
use Rattle.std.specs.Prelude.{ℕ, ◌+◌, ◌*◌, ◌^◌, ◌≤◌, min}

-- the last instant
abbrev pub horizon : ℕ
horizon = 10 ^ 15

-- a number that is an instant
abbrev pub IsInstant : ℕ → Type 0
IsInstant t = t ≤ horizon

-- an instant, some microseconds later
abbrev pub plus : ℕ → ℕ → ℕ
plus t wait = min (t + wait) horizon

-- milliseconds as microseconds
abbrev pub micros_of : ℕ → ℕ
micros_of millis = min (1000 * millis) horizon
