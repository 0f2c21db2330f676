-- What toxics and chains do to a list of items.
use Rattle.std.specs.Prelude.{ℕ, ◌+◌, ◌<◌, List, [], ◌∷◌, map, if◌then◌else◌}
use Rattle.tox_time.specs.declared.streams.item.Item.{Item}
use Rattle.tox_words.specs.declared.lanes.Lanes.{Lanes}
use Rattle.tox_words.specs.Draw.{Draws, DrawingView, draws_of, lane_count}
use Rattle.tox_defs.specs.declared.attributes.effect.Effect.{Effect}
use Rattle.tox_defs.specs.declared.toxic.Toxic.{Toxic}
use Rattle.tox_defs.specs.declared.chain.applied.Placed.{Placed}
use Rattle.tox_defs.specs.declared.chain.Entry.{Entry}
use Rattle.tox_defs.specs.chain.Applied.{is_applied}
use Rattle.tox_defs.specs.chain.Chain.{Toxics}
use Rattle.tox_defs.specs.Toxic.{IsInRange}
use Rattle.tox_defs.specs.stage.Reaction.{Giving, Reaction, counted, flow_through}
use Rattle.tox_defs.specs.operations.During.{during}
use Rattle.tox_defs.specs.toxics.{meaning_of}

-- what a toxic gives, by the words of its lane
abbrev pub toxic_giving : Toxic → (ℕ → ℕ) → Giving
toxic_giving toxic words = (meaning_of toxic).gives words

-- the milliseconds from which on a toxic lets chunks pass; 0: it never does
abbrev pub toxic_until : Toxic → ℕ
toxic_until toxic = (meaning_of toxic).description.window.until

-- the milliseconds before which a toxic lets chunks pass; 0: it never does
abbrev pub toxic_from : Toxic → ℕ
toxic_from toxic = (meaning_of toxic).description.window.from

-- what is known of what a toxic does
abbrev pub toxic_effect : Toxic → Effect
toxic_effect toxic = (meaning_of toxic).description.effect

-- the reaction of a toxic, by the words of its lane
abbrev pub toxic_reaction : Toxic → (ℕ → ℕ) → Reaction
toxic_reaction toxic words =
    during (toxic_from toxic) (toxic_until toxic) (counted (toxic_giving toxic words))

-- attributes in their ranges, and a place that a chain of so many lanes has
abbrev pub IsPlaced : Lanes → Placed → Type 0
IsPlaced lanes placed = IsInRange placed.toxic × (placed.place < lane_count lanes)

-- the toxics that a link meets, of those from a place on
abbrev pub applied_from : ℕ → List Entry → Draws → List Placed
applied_from place [] draws = []
applied_from place (entry ∷ entries) draws =
    if is_applied entry place draws
    then record { place = place; toxic = entry.toxic } ∷ applied_from (place + 1) entries draws
    else applied_from (place + 1) entries draws

-- these words with the lanes of a chain
abbrev pub chain_drawing : Toxics → List ℕ → DrawingView
chain_drawing chain words = record { lanes = chain.lanes; words = words }

-- what the toxics of a chain draw from these words
abbrev pub chain_draws : Toxics → List ℕ → Draws
chain_draws chain words = draws_of (chain_drawing chain words)

-- the applied toxics of a chain, each with its place
abbrev pub applied : Toxics → List ℕ → List Placed
applied chain words = applied_from 0 chain.entries (chain_draws chain words)

-- the reaction of an applied toxic, on a link that draws these words
abbrev pub placed_reaction : Draws → Placed → Reaction
placed_reaction draws placed = toxic_reaction placed.toxic (draws placed.place)

-- the reactions of the applied toxics, in order
abbrev pub reactions_of : Toxics → List ℕ → List Reaction
reactions_of chain words = map (placed_reaction (chain_draws chain words)) (applied chain words)

-- the flow of a chain
abbrev pub chain_flow : Toxics → List ℕ → List Item → List Item
chain_flow chain words items = flow_through (reactions_of chain words) items
