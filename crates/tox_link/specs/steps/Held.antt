-- A window that holds pieces of the heard bytes.
use Rattle.std.specs.Prelude.{◌≡◌, ℕ, ◌+◌, ◌<◌, ◌≤◌, Bool, false, Option, None, List, [], ◌∷◌, ◌++◌, length, take, drop}
use Rattle.std.specs.Io.KnownBytes.{append_known}
use Rattle.tox_time.specs.declared.streams.span.Span.{Span}
use Rattle.tox_lend.specs.Run.{Run, stop_of}
use Rattle.tox_lend.specs.Window.{Pieces, JoinUpTo, start_of}
use Rattle.tox_link.specs.link_core.Core.{CoreView, core_ending, kept_count}

-- the pieces have the heard bytes at their positions
abbrev pub AreOf : List ℕ → List Run → Type 0
AreOf heard [] = Unit {0}
AreOf heard (piece ∷ pieces) = (piece.bytes ≡ take (length piece.bytes) (drop piece.start heard)) × AreOf heard pieces

-- bytes of the heard ones from a position on, and up to another at most, where the pieces of them are these
pub record AreFrom (pieces : List Run) (start stop : ℕ) (bytes : List ℕ) : Type 0 where
  pub few : start + length bytes ≤ stop
  pub part : (heard : List ℕ) → AreOf heard pieces → bytes ≡ take (length bytes) (drop start heard)

-- the window with one more piece
abbrev pub with_held_piece : Pieces → Run → Pieces
with_held_piece window piece = record window { held = window.held ++ piece ∷ []; stop = stop_of piece }

-- writing went on from one position of what came to another, where the pieces of it are these
abbrev pub WritesFromTo : List Run → ℕ → ℕ → Option (List ℕ) → Option (List ℕ) → Type 0
WritesFromTo pieces start stop written written_after =
    (base : Option (List ℕ)) (heard : List ℕ) → AreOf heard pieces
    → written ≡ append_known base (take start heard)
    → written_after ≡ append_known base (take stop heard)

-- the window holds each position of the span
pub record HoldsSpan (window : Pieces) (span : Span) : Type 0 where
  pub joined : JoinUpTo window.stop window.held
  pub from_start : start_of window.stop window.held ≤ span.start
  pub in_order : span.start ≤ span.stop
  pub to_stop : span.stop ≤ window.stop

-- input may be taken: the source has not ended, and there is room, or what comes is dropped as the ending is known
abbrev pub MayTake : CoreView → Pieces → Bool → Type 0
MayTake core window ended =
    (ended ≡ false) × (kept_count core < core.room) × (core_ending core ≡ None → length window.held < window.room)
