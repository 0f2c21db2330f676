-- Texts of whole lines, and how much of a text has room.
use Rattle.std.specs.Prelude.{◌≡◌, ◌≢◌, ℕ, ◌-◌, ◌<◌, ◌≤◌, List, length, slice_index, take}

-- whole lines: the last byte, if there is one, is a line feed
abbrev pub AreLines : List ℕ → Type 0
AreLines text = 0 < length text → slice_index text (length text - 1) ≡ 10

-- so many first bytes of a text are the whole lines of it that have room
pub record IsLinesWithin (room : ℕ) (text : List ℕ) (count : ℕ) : Type 0 where
  pub within : count ≤ length text
  pub few : count ≤ room
  pub lines : AreLines (take count text)
  -- the next line doesn't end within the room
  pub next : (place : ℕ) → count ≤ place → place < length text → place < room → slice_index text place ≢ 10
