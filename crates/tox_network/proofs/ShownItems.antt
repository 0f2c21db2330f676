-- What slices and an ending show before and after one more item.
use Rattle.std.proofs.Common.{◌≡◌, List, [], ◌∷◌, ◌++◌, map, Option, Some, None, true, false, refl, sym, ◌∙◌, ap, replicate}
use Rattle.std.proofs.lemmas.List.{map-append}
use Rattle.tox_time.specs.declared.streams.item.Item.{Item}
use Rattle.tox_time.specs.declared.streams.slice.Slice.{Slice}
use Rattle.tox_time.specs.declared.streams.ending.Ending.{Ending}
use Rattle.tox_time.specs.declared.streams.ending.Ending.TheVariants.{StillOpen, Closed, Reset}
use Rattle.tox_time.specs.declared.streams.outcome.Outcome.{Outcome}
use Rattle.tox_time.specs.streams.Stream.{has_final, span_len}
use Rattle.tox_time.specs.streams.Table.{table, slices_table, ending, IsOutcomeOf}
use Rattle.tox_defs.specs.operations.Look.{as_chunk}
use Rattle.tox_network.specs.Shown.{shown}

final_is_shown : (slices : List Slice) (end : Ending) → has_final (shown slices (Some end)) ≡ true
final_is_shown [] StillOpen = refl
final_is_shown [] (Closed t) = refl
final_is_shown [] (Reset t) = refl
final_is_shown (slice ∷ slices) end = final_is_shown slices end

final_is_not : (slices : List Slice) → has_final (shown slices None) ≡ false
final_is_not [] = refl
final_is_not (slice ∷ slices) = final_is_not slices

-- without a final there is no ending
pub no_ending : (slices : List Slice) (end : Option Ending) (self : List Item) → shown slices end ≡ self → has_final self ≡ false → end ≡ None
no_ending slices None self view unended = refl
no_ending slices (Some end) self view unended = absurd (let final : has_final self ≡ true = ap has_final (sym view) ∙ final_is_shown slices end in cc)

-- with a final there is one
pub some_ending : (slices : List Slice) (end : Option Ending) (self : List Item) → shown slices end ≡ self → has_final self ≡ true → end ≡ None → ⊥
some_ending slices end self view ended none =
    let unended : has_final self ≡ false = ap has_final (sym view) ∙ ap (λ o. has_final (shown slices o)) none ∙ final_is_not slices in cc

-- a final behind the slices
pub final_pushed : (slices : List Slice) (end : Option Ending) (self : List Item) (item final : Item) → shown slices end ≡ self → has_final self ≡ false
    → item ≡ final
    → map as_chunk slices ++ final ∷ [] ≡ self ++ item ∷ []
final_pushed slices end self item final view unended is =
    let none : end ≡ None = no_ending slices end self view unended in
    ap (λ one. map as_chunk slices ++ one ∷ []) (sym is) ∙ ap (λ items. items ++ item ∷ []) (ap (shown slices) (sym none) ∙ view)

-- a chunk behind the slices
pub chunk_pushed : (slices more : List Slice) (slice : Slice) (end : Option Ending) (self : List Item) (item : Item) → shown slices end ≡ self
    → has_final self ≡ false → item ≡ as_chunk slice → more ≡ slices ++ slice ∷ []
    → shown more end ≡ self ++ item ∷ []
chunk_pushed slices more slice end self item view unended is pushed =
    let none : end ≡ None = no_ending slices end self view unended in
    ap (shown more) none ∙ ap (map as_chunk) pushed ∙ map-append as_chunk slices (slice ∷ [])
    ∙ ap (λ one. map as_chunk slices ++ one ∷ []) (sym is) ∙ ap (λ items. items ++ item ∷ []) (ap (shown slices) (sym none) ∙ view)

shown_table : (slices : List Slice) (end : Ending) → slices_table slices ≡ table (shown slices (Some end))
shown_table [] StillOpen = refl
shown_table [] (Closed t) = refl
shown_table [] (Reset t) = refl
shown_table (slice ∷ slices) end = ap (λ instants. replicate (span_len slice.span) slice.instant ++ instants) (shown_table slices end)

shown_ending : (slices : List Slice) (end : Ending) → end ≡ ending (shown slices (Some end))
shown_ending [] StillOpen = refl
shown_ending [] (Closed t) = refl
shown_ending [] (Reset t) = refl
shown_ending (slice ∷ slices) end = shown_ending slices end

-- an outcome is that of the items that it shows
pub outcome_shown : (outcome : Outcome) (items : List Item) → shown outcome.slices (Some outcome.ending) ≡ items → IsOutcomeOf items outcome
outcome_shown outcome items is = record {
  tables = shown_table outcome.slices outcome.ending ∙ ap table is;
  endings = shown_ending outcome.slices outcome.ending ∙ ap ending is;
}
