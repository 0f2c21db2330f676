-- What each toxic promises, for every word table and arrival list.
use Rattle.std.specs.Prelude.{◌≡◌, ℕ, ◌≤◌, List}
use Rattle.tox_time.specs.declared.streams.item.Item.{Item}
use Rattle.tox_time.specs.streams.Stream.{arrived, IsStream, IsArrivalList}
use Rattle.tox_defs.specs.declared.toxic.Toxic.{Toxic}
use Rattle.tox_defs.specs.stage.Reaction.{flow}
use Rattle.tox_defs.specs.Flow.{toxic_from, toxic_reaction, toxic_until}
use Rattle.tox_defs.specs.toxics.{meaning_of}

-- what a toxic makes of a stream
abbrev pub toxic_flow : Toxic → (ℕ → ℕ) → List Item → List Item
toxic_flow toxic words items = flow (toxic_reaction toxic words) items

-- what is promised of a toxic, of the words of its lane, and of an arrival list
abbrev pub KeepsLaw : Toxic → (ℕ → ℕ) → List Item → Type 0
KeepsLaw toxic words items = (meaning_of toxic).law items (toxic_flow toxic words items)

-- the law of a toxic whose time is that of the link, whatever the words and the arrivals
abbrev pub HasLaw : Toxic → Type 0
HasLaw toxic =
    toxic_from toxic ≡ 0 → toxic_until toxic ≡ 0 → (words : ℕ → ℕ) (items : List Item) → IsArrivalList items
    → KeepsLaw toxic words items

-- what is given for a stream is a stream of the same bytes or fewer
pub record IsKeptBy (items given : List Item) : Type 0 where
  pub stream : IsStream given
  pub bytes : arrived given ≤ arrived items

-- a toxic gives streams for streams, whatever the words
abbrev pub KeepsStreams : Toxic → Type 0
KeepsStreams toxic =
    (words : ℕ → ℕ) (items : List Item) → IsStream items
    → IsKeptBy items (toxic_flow toxic words items)
