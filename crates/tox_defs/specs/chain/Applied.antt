-- Which toxics of a chain a link meets.
use Rattle.std.specs.Prelude.{ℕ, ◌%◌, Bool, nat_lt}
use Rattle.tox_words.specs.Draw.{Draws}
use Rattle.tox_defs.specs.declared.chain.Entry.{Entry}

-- whether a toxic at a place is met: where the lane's first word, modulo 1000, is below the toxicity
abbrev pub is_applied : Entry → ℕ → Draws → Bool
is_applied entry place draws = nat_lt (draws place 0 % 1000) entry.toxicity
