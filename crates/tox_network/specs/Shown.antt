-- The items that slices and an ending show.
use Rattle.std.specs.Prelude.{List, [], ◌∷◌, ◌++◌, map, Option, Some, None}
use Rattle.tox_time.specs.declared.streams.item.Item.{Item}
use Rattle.tox_time.specs.declared.streams.ending.Ending.{Ending}
use Rattle.tox_time.specs.declared.streams.slice.Slice.{Slice}
use Rattle.tox_time.specs.streams.Table.{final_of}
use Rattle.tox_defs.specs.operations.Look.{as_chunk}

-- a chunk for each slice, and then the final, if it came
abbrev pub shown : List Slice → Option Ending → List Item
shown slices (Some ending) = map as_chunk slices ++ final_of ending ∷ []
shown slices None = map as_chunk slices
