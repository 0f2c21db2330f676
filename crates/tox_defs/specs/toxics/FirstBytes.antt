-- Toxics that end a link behind so many bytes.
use Rattle.std.specs.Prelude.{ℕ, zero, suc, ◌+◌, ◌-◌, List, [], ◌∷◌, ◌++◌, nat_lt, if◌then◌else◌}
use Rattle.tox_time.specs.declared.streams.span.Span.{Span}
use Rattle.tox_time.specs.declared.streams.item.Item.{Item}
use Rattle.tox_time.specs.declared.streams.item.Item.TheVariants.{Chunk}
use Rattle.tox_time.specs.declared.streams.ending.Ending.{Ending}
use Rattle.tox_time.specs.streams.Stream.{span_len}
use Rattle.tox_time.specs.streams.Table.{final_of}
use Rattle.tox_defs.specs.stage.Reaction.{Giving}

-- the first bytes of a span, if any
abbrev pub first_bytes : ℕ → Span → ℕ → List Item
first_bytes zero span t = []
first_bytes (suc n) span t = Chunk (record { start = span.start; stop = span.start + suc n }) t ∷ []

-- so many bytes in all, and then the ending for the instant of the chunk that has the last of them
abbrev pub bytes_give : ℕ → (ℕ → Ending) → Giving
bytes_give bytes ending_at state (Chunk span t) =
    if nat_lt (span_len span) (bytes - state.passed)
    then Chunk span t ∷ []
    else (first_bytes (bytes - state.passed) span t ++ (final_of (ending_at t) ∷ []))
bytes_give bytes ending_at state item = item ∷ []
