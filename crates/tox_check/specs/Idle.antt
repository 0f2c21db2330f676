-- Toxics that change nothing.
use Rattle.std.specs.Prelude.{ℕ, zero, suc, ◌==◌, ◌&&◌, ◌||◌, Bool, List, [], ◌∷◌, drop, length, nat_le, nat_lt, slice_get, take, Option, None}
use Rattle.std.specs.Prelude.{Some, if◌then◌else◌}
use Rattle.std.specs.List.{list_any}
use Rattle.tox_time.specs.declared.streams.item.Item.{Item}
use Rattle.tox_time.specs.streams.Stream.{IsStream}
use Rattle.tox_time.specs.streams.Table.{SameResult}
use Rattle.tox_defs.specs.declared.chain.Entry.{Entry}
use Rattle.tox_defs.specs.declared.toxic.Toxic.{Toxic}
use Rattle.tox_defs.specs.chain.Chain.{Toxics}
use Rattle.tox_defs.specs.Flow.{chain_flow, toxic_effect, toxic_from, toxic_until}
use Rattle.tox_check.specs.declared.idleness.Idleness.{Idleness}
use Rattle.tox_check.specs.declared.idleness.Idleness.TheVariants.{DoesNothing, HasNoTime, Lost, CutsLast}

-- the entries with the toxicity 0 at a place
abbrev pub silenced : ℕ → List Entry → List Entry
silenced place [] = []
silenced zero (entry ∷ entries) = record { toxic = entry.toxic; toxicity = 0 } ∷ entries
silenced (suc place) (entry ∷ entries) = entry ∷ silenced place entries

-- with the toxicity 0 at a place a chain gives the same table and ending, whatever the words and the arrivals
abbrev pub ChangesNothing : ℕ → Toxics → Type 0
ChangesNothing place chain =
    (words : List ℕ) (items : List Item) → IsStream items
    → SameResult (chain_flow chain words items)
    (chain_flow (record { lanes = chain.lanes; entries = silenced place chain.entries }) words items)

-- whether every chunk is outside a toxic's time: it stops, and no later than it begins
abbrev pub has_no_time : Toxic → Bool
has_no_time toxic =
    nat_lt 0 (toxic_until toxic) && nat_le (toxic_until toxic) (toxic_from toxic)

-- whether an entry drops all data on each link: its toxic does, and is always applied
abbrev pub drops_all : Entry → Bool
drops_all entry = (toxic_effect entry.toxic).drops_data && (entry.toxicity == 1000)

-- whether the toxic at a place has no data to work on, or its work is lost: a toxic before it, or one behind it, drops all
abbrev pub is_lost : ℕ → Toxic → List Entry → Bool
is_lost place toxic entries =
    ((toxic_effect toxic).needs_data && list_any drops_all (take place entries))
    || list_any drops_all (drop (suc place) entries)

-- whether the toxic at a place cuts chunks for none behind it
abbrev pub cuts_last : ℕ → Toxic → List Entry → Bool
cuts_last place toxic entries = (toxic_effect toxic).only_cuts && nat_le (length entries) (suc place)

-- why the toxic at a place changes nothing, if it is known to
abbrev pub reason : ℕ → Toxic → List Entry → Option Idleness
reason place toxic entries =
    if (toxic_effect toxic).does_nothing then Some DoesNothing
    else if has_no_time toxic then Some HasNoTime
    else if is_lost place toxic entries then Some Lost
    else if cuts_last place toxic entries then Some CutsLast
    else None

-- the reason of an entry, if there is one
abbrev pub reason_of : ℕ → List Entry → Option Entry → Option Idleness
reason_of place entries None = None
reason_of place entries (Some entry) = reason place entry.toxic entries

-- why the toxic at a place changes nothing, if one stands there and is known to
abbrev pub idleness_at : ℕ → List Entry → Option Idleness
idleness_at place entries = reason_of place entries (slice_get entries place)
