-- Where a list of items leads, and when it is a whole stream.
use Rattle.std.proofs.Common.{◌≡◌, ◌^◌, ◌<◌, ◌≤◌, true, false, List, [], ◌∷◌, ◌++◌, refl, ◌∙◌, ap, subst, arith, append_assoc}
use Rattle.std.proofs.lemmas.Bool.Decides.{nat_tests}
use Rattle.std.proofs.lemmas.List.{append-nil}
use Rattle.tox_time.specs.declared.streams.item.Item.{Item}
use Rattle.tox_time.specs.declared.streams.item.Item.TheVariants.{Chunk, Closed, Reset, Quiet}
use Rattle.tox_time.specs.streams.Stream.{IsStream, is_final, has_final}
use Rattle.tox_time.proofs.StreamLemmas.{final_of_stream}
use Rattle.tox_time.specs.declared.streams.position.StreamPosition.{StreamPosition}
use Rattle.tox_time.specs.streams.StreamPosition.{first_position, fits, position_after, AllFit}
use Rattle.tox_defs.proofs.Places.{AllFit-stream}
use Rattle.tox_network.proofs.Streams.{no_final_before}
use Rattle.tox_stages.specs.Passing.{IsLinkStream, BeginsStream}

-- the place behind these items
abbrev pub place_behind : StreamPosition → List Item → StreamPosition
place_behind place [] = place
place_behind place (item ∷ items) = place_behind (position_after place item) items

pub place_behind-last : (place : StreamPosition) (items : List Item) (item : Item)
    → place_behind place (items ++ item ∷ []) ≡ position_after (place_behind place items) item
place_behind-last place [] item = refl
place_behind-last place (first ∷ items) item = place_behind-last (position_after place first) items item

-- the next item goes on with those before it
AllFit-next : (place : StreamPosition) (items : List Item) (item : Item) (rest : List Item) → AllFit place (items ++ item ∷ rest)
    → fits (place_behind place items) item ≡ true
AllFit-next place [] item rest fit = fit.0
AllFit-next place (first ∷ items) item rest fit = AllFit-next (position_after place first) items item rest fit.1

ended_stays : (place : StreamPosition) (items : List Item) → place.ended ≡ true → (place_behind place items).ended ≡ true
ended_stays place [] ended = ended
ended_stays place (Chunk span t ∷ items) ended = ended_stays (position_after place (Chunk span t)) items ended
ended_stays place (Closed t ∷ items) ended = ended_stays (position_after place (Closed t)) items refl
ended_stays place (Reset t ∷ items) ended = ended_stays (position_after place (Reset t)) items refl
ended_stays place (Quiet ∷ items) ended = ended_stays (position_after place Quiet) items refl

-- behind items is an end exactly where they have a final
pub ended_behind : (place : StreamPosition) (items : List Item) → place.ended ≡ false → (place_behind place items).ended ≡ has_final items
ended_behind place [] unended = unended
ended_behind place (Chunk span t ∷ items) unended = ended_behind (position_after place (Chunk span t)) items unended
ended_behind place (Closed t ∷ items) unended = ended_stays (position_after place (Closed t)) items refl
ended_behind place (Reset t ∷ items) unended = ended_stays (position_after place (Reset t)) items refl
ended_behind place (Quiet ∷ items) unended = ended_stays (position_after place Quiet) items refl

-- one item more
pub has_final-last : (items : List Item) (item : Item) → has_final items ≡ false → has_final (items ++ item ∷ []) ≡ is_final item
has_final-last [] (Chunk span t) unended = refl
has_final-last [] (Closed t) unended = refl
has_final-last [] (Reset t) unended = refl
has_final-last [] Quiet unended = refl
has_final-last (Chunk span t ∷ items) item unended = has_final-last items item unended
has_final-last (Closed t ∷ items) item unended = absurd (cc)
has_final-last (Reset t ∷ items) item unended = absurd (cc)
has_final-last (Quiet ∷ items) item unended = absurd (cc)

-- nothing follows a final
pub nothing_follows : (items rest : List Item) → has_final items ≡ true → IsStream (items ++ rest) → rest ≡ []
nothing_follows items [] ended stream = refl
nothing_follows items (item ∷ rest) ended stream = absurd (let none = no_final_before 0 0 items item rest stream in cc)

-- the first items of a stream that have its final are the whole stream
pub whole_stream : (items : List Item) → has_final items ≡ true → BeginsStream items → IsLinkStream items
whole_stream items ended (rest, link) =
    subst IsLinkStream (ap (λ others. items ++ others) (nothing_follows items rest ended link.stream) ∙ append-nil items) link

-- a whole stream that begins another is that one
pub nothing_more : (items rest : List Item) → IsStream items → IsStream (items ++ rest) → rest ≡ []
nothing_more items rest stream goes_on = nothing_follows items rest (final_of_stream 0 0 items stream) goes_on

-- an item that doesn't go on with those before it is not the next one of a stream
pub misfit : (items : List Item) (item : Item) → fits (place_behind first_position items) item ≡ false → BeginsStream (items ++ item ∷ []) → ⊥
misfit items item wrong (rest, link) =
    let whole : IsLinkStream (items ++ item ∷ rest) = subst IsLinkStream (append_assoc items (item ∷ []) rest) link in
    let all : AllFit first_position (items ++ item ∷ rest) = AllFit-stream 0 0 (items ++ item ∷ rest) whole.stream (let few = whole.few in omega arith) in
    let right : fits (place_behind first_position items) item ≡ true = AllFit-next first_position items item rest all in
    cc

-- a chunk takes the place on, and not past the limit
pub grows : (place : StreamPosition) (item : Item) → fits place item ≡ true → is_final item ≡ false
    → (place.position < (position_after place item).position) × ((position_after place item).position ≤ 2 ^ 40)
grows place (Chunk span t) fit chunk = grind (arith, nat_tests)
grows place (Closed t) fit chunk = cc
grows place (Reset t) fit chunk = cc
grows place Quiet fit chunk = cc
