-- What a core will say, as its plan means it.
use Rattle.std.specs.Prelude.{◌≡◌, ℕ, List}
use Rattle.tox_time.specs.declared.streams.item.Item.{Item}
use Rattle.tox_time.specs.streams.Stream.{IsStream}
use Rattle.tox_compile.specs.Meaning.{Ops, means}
use Rattle.tox_link.specs.link_core.Core.{CoreView, remaining_output}

-- whatever stream arrives at a core, it will say what the plan means for that stream, drawing these words
abbrev pub MeansPlan : Ops → List ℕ → CoreView → Type 0
MeansPlan plan words core =
    (items : List Item) → IsStream items → remaining_output core items ≡ means plan words items
