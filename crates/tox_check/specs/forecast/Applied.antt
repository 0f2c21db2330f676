-- Which toxics a link meets, as one flag for each place of a chain.
use Rattle.std.specs.Prelude.{ℕ, ◌&&◌, Bool, false, List, map, slice_index_or}
use Rattle.std.specs.List.{enumerate_from, list_any, zip}
use Rattle.std.specs.Str.{bytes_eq}
use Rattle.tox_time.specs.declared.streams.stream.Stream.{Stream}
use Rattle.tox_words.specs.Draw.{Draws}
use Rattle.tox_words.specs.Seeded.{seeded_words}
use Rattle.tox_defs.specs.chain.Applied.{is_applied}
use Rattle.tox_defs.specs.chain.Chain.{Toxics}
use Rattle.tox_defs.specs.Flow.{chain_draws}
use Rattle.tox_defs.specs.declared.chain.Entry.{Entry}
use Rattle.tox_script.specs.Covering.{toxics_for}
use Rattle.tox_script.specs.Rule.{Rules}

-- whether each of some toxics is applied, under what their lanes draw
abbrev pub applied_flags : Draws → List Entry → List Bool
applied_flags draws entries =
    map (λ placed. is_applied placed.1 placed.0 draws) (enumerate_from 0 entries)

-- whether each toxic of a chain is applied, under the words of a connection's stream
abbrev pub chain_flags : Toxics → ℕ → ℕ → Stream → List Bool
chain_flags chain seed conn stream =
    applied_flags (chain_draws chain (seeded_words seed conn stream)) chain.entries

-- whether each toxic that a connection of a proxy meets on a stream is applied
abbrev pub flags_for : List ℕ → Rules → ℕ → ℕ → Stream → List Bool
flags_for proxy script seed conn stream =
    chain_flags (toxics_for proxy conn stream script).chain seed conn stream

-- whether the toxic at a place is applied
abbrev pub flag_at : ℕ → List Bool → Bool
flag_at place flags = slice_index_or flags place false

-- whether an applied toxic has a name
abbrev pub meets_name : List ℕ → List (List ℕ) → List Bool → Bool
meets_name name names flags =
    list_any (λ named. named.1 && bytes_eq named.0 name) (zip names flags)
