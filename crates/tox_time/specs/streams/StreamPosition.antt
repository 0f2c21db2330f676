-- How far a stream has come, and which items may come next.
use Rattle.std.specs.Prelude.{◌≡◌, ◌^◌, ◌==◌, ◌&&◌, Bool, true, false, not, nat_le, nat_lt, List, [], ◌∷◌}
use Rattle.tox_time.specs.declared.streams.item.Item.{Item}
use Rattle.tox_time.specs.declared.streams.item.Item.TheVariants.{Chunk, Closed, Reset, Quiet}
use Rattle.tox_time.specs.declared.streams.position.StreamPosition.{StreamPosition}

-- before the first item
abbrev pub first_position : StreamPosition
first_position = record { position = 0; latest = 0; ended = false }

-- whether an item that comes before the final goes on with the stream
abbrev pub goes_on : StreamPosition → Item → Bool
goes_on place (Chunk span t) =
    nat_le place.latest t && (span.start == place.position) && nat_lt span.start span.stop
    && nat_le span.stop (2 ^ 40)
goes_on place (Closed t) = nat_le place.latest t
goes_on place (Reset t) = nat_le place.latest t
goes_on place Quiet = true

-- whether an item goes on with the stream
abbrev pub fits : StreamPosition → Item → Bool
fits place item = not place.ended && goes_on place item

-- the place behind an item
abbrev pub position_after : StreamPosition → Item → StreamPosition
position_after place (Chunk span t) =
    record { position = span.stop; latest = t; ended = place.ended }
position_after place (Closed t) = record { position = place.position; latest = t; ended = true }
position_after place (Reset t) = record { position = place.position; latest = t; ended = true }
position_after place Quiet =
    record { position = place.position; latest = place.latest; ended = true }

-- each item goes on with those before it
abbrev pub AllFit : StreamPosition → List Item → Type 0
AllFit place [] = Unit {0}
AllFit place (item ∷ items) = (fits place item ≡ true) × AllFit (position_after place item) items
