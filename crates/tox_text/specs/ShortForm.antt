-- The parts of a printed short form.
use Rattle.std.specs.Prelude.{ℕ, List, [], ◌++◌, codes, if◌then◌else◌}
use Rattle.tox_defs.specs.short.Printed.{is_shown, printed_pair}

-- a key with its value and the comma behind it, and nothing where the pair isn't printed
abbrev pub shown_before_comma : List ℕ × ℕ → List ℕ
shown_before_comma pair = if is_shown pair then printed_pair pair ++ codes "," else []
