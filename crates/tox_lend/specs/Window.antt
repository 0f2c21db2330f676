-- Neighbouring pieces that are still needed.
use Rattle.std.specs.Prelude.{◌≡◌, ℕ, ◌<◌, ◌&&◌, nat_le, nat_lt, Bool, List, [], ◌∷◌, length}
use Rattle.tox_lend.specs.Run.{Run, stop_of}

-- what a window is seen as: the held pieces in order, how many it has room for, and where the next one must start
pub record Pieces : Type 0 where
  pub held : List Run
  pub room : ℕ
  pub stop : ℕ

-- where pieces up to a position start
abbrev pub start_of : ℕ → List Run → ℕ
start_of stop [] = stop
start_of stop (piece ∷ pieces) = piece.start

-- nonempty pieces without gaps, the last of which stops at this position
abbrev pub JoinUpTo : ℕ → List Run → Type 0
JoinUpTo stop [] = Unit {0}
JoinUpTo stop (piece ∷ pieces) =
    (0 < length piece.bytes) × (stop_of piece ≡ start_of stop pieces) × JoinUpTo stop pieces

-- whether a piece has a position
abbrev pub has_position : ℕ → Run → Bool
has_position position piece = nat_le piece.start position && nat_lt position (stop_of piece)
