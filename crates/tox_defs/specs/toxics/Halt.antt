-- Toxics that end a link later: at an instant, or behind so many bytes.
use Rattle.std.specs.Prelude.{ℕ, zero, suc, max, Bool, false, [], ◌∷◌, Option, None, Some, nat_lt, if◌then◌else◌}
use Rattle.tox_time.specs.declared.streams.item.Item.{Item}
use Rattle.tox_time.specs.declared.streams.item.Item.TheVariants.{Chunk, Closed, Reset, Quiet}
use Rattle.tox_time.specs.declared.streams.ending.Ending.{Ending}
use Rattle.tox_time.specs.declared.streams.ending.Ending.TheVariants.{StillOpen, Closed as ClosedAt, Reset as ResetAt}
use Rattle.tox_time.specs.streams.Table.{final_of}
use Rattle.tox_defs.specs.toxics.FirstBytes.{bytes_give}
use Rattle.tox_defs.specs.stage.Reaction.{Giving}

-- whether an item comes before an instant; `Quiet` never does
abbrev pub is_before : ℕ → Item → Bool
is_before instant (Chunk span t) = nat_lt t instant
is_before instant (Closed t) = nat_lt t instant
is_before instant (Reset t) = nat_lt t instant
is_before instant Quiet = false

-- an ending, not before an instant
abbrev pub raised : Ending → ℕ → Ending
raised StillOpen t = StillOpen
raised (ClosedAt end) t = ClosedAt (max end t)
raised (ResetAt end) t = ResetAt (max end t)

-- the ending behind so many bytes; with 0 all passes
abbrev pub halt_after : ℕ → Ending → Giving
halt_after zero ending state item = item ∷ []
halt_after (suc bytes) ending state item = bytes_give (suc bytes) (raised ending) state item

-- what isn't before the instant becomes the ending, and what is may still be followed by it
abbrev pub halt_gives : Option ℕ → ℕ → Ending → Giving
halt_gives None after ending state item = halt_after after ending state item
halt_gives (Some at) after ending state item =
    if is_before at item then halt_after after ending state item
    else (final_of (raised ending at) ∷ [])
