-- What a contract sees of a `PlainCore`, and what its fields keep.
use Rattle.std.specs.Prelude.{◌≡◌, ℕ, ◌+◌, ◌<◌, ◌≤◌, ◌^◌, List, [], ◌∷◌, is_some}
use Rattle.tox_link.specs.declared.link_core.plain_core.PlainCore.TheInside.{Inside}
use Rattle.tox_link.specs.declared.link_core.waiting.WaitingPiece.{WaitingPiece}
use Rattle.tox_link.specs.link_core.Core.{CoreView}
use Rattle.tox_link.specs.link_core.CoreKept.{total_len}
use Rattle.tox_link.specs.link_core.Plain.{plain_core}

abbrev pub plain_view : Inside → CoreView
plain_view inside = plain_core inside.given inside.waiting.items inside.end inside.so_far

-- the pieces have bytes, and came by an instant
abbrev pub CameBy : ℕ → List WaitingPiece → Type 0
CameBy latest [] = Unit {0}
CameBy latest (piece ∷ pieces) = (0 < piece.len) × (piece.instant ≤ latest) × CameBy latest pieces

pub record IsPlain (inside : Inside) : Type 0 where
  pub total : inside.given + total_len inside.waiting.items ≡ inside.so_far.position
  pub few : inside.so_far.position ≤ 2 ^ 40
  pub waits : CameBy inside.so_far.latest inside.waiting.items
  pub ended : inside.so_far.ended ≡ is_some inside.end
