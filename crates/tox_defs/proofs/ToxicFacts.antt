-- What is proved of each toxic.
use Rattle.std.proofs.Common.{◌≡◌, ℕ, ◌≤◌}
use Rattle.tox_words.specs.Draw.{Draws}
use Rattle.tox_defs.specs.declared.toxic.Toxic.{Toxic}
use Rattle.tox_defs.specs.Flow.{toxic_giving, toxic_reaction}
use Rattle.tox_defs.specs.Laws.{HasLaw}
use Rattle.tox_defs.specs.operations.Op.{IsOp, millis_of, op_of, op_reaction}
use Rattle.tox_defs.specs.Toxic.{IsInRange}
use Rattle.tox_defs.proofs.PassedBytes.{PassesAtMost}
use Rattle.tox_defs.proofs.Spelled.{AreShort, IsSpelled, entries_of}
use Rattle.tox_defs.proofs.Within.{GivesWithin}

-- its operation delays by an hour at most
abbrev pub DelaysByHour : Toxic → Type 0
DelaysByHour toxic = (place : ℕ) → IsInRange toxic → millis_of (op_of place toxic) ≤ 3_600_000

-- its operation reacts as it does, is one that a plan may have, and delays by an hour at most; what it gives
-- for a chunk lies in the chunk and has no more bytes; its law; and its short form can be read back
pub record ToxicFacts (toxic : Toxic) : Type 0 where
  pub reacts : (place : ℕ) (draws : Draws) → op_reaction (op_of place toxic) draws ≡ toxic_reaction toxic (draws place)
  pub is_op : (place : ℕ) → IsInRange toxic → IsOp (op_of place toxic)
  pub delays : DelaysByHour toxic
  pub passes : (words : ℕ → ℕ) → PassesAtMost (toxic_reaction toxic words)
  pub within : (words : ℕ → ℕ) → GivesWithin (toxic_giving toxic words)
  pub law : IsInRange toxic → HasLaw toxic
  pub spelled : IsSpelled toxic
  pub short : IsInRange toxic → AreShort (entries_of toxic)
