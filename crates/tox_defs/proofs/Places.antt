-- A stream may be taken item by item, and has few items.
use Rattle.std.proofs.Common.{◌≡◌, ℕ, ◌+◌, ◌^◌, ◌<◌, ◌≤◌, not, true, false, List, [], ◌∷◌, length, refl, arith}
use Rattle.std.specs.Prelude.{◌==◌, ◌&&◌, nat_le, nat_lt}
use Rattle.std.proofs.lemmas.Bool.{and_parts, eqb-true, ltb-true}
use Rattle.tox_time.specs.declared.streams.span.Span.{Span}
use Rattle.tox_time.specs.declared.streams.position.StreamPosition.{StreamPosition}
use Rattle.std.proofs.lemmas.Bool.Decides.{nat_tests}
use Rattle.tox_time.specs.declared.streams.item.Item.{Item}
use Rattle.tox_time.specs.declared.streams.item.Item.TheVariants.{Chunk, Closed, Reset, Quiet}
use Rattle.tox_time.specs.streams.Stream.{IsStreamFrom, arrived}
use Rattle.tox_time.specs.streams.StreamPosition.{fits, AllFit}

AllFit-none : (position since : ℕ) (items : List Item) → items ≡ [] → AllFit (record { position = position; latest = since; ended = true }) items
AllFit-none position since items none = rw none tt

-- a stream of at most 2^40 bytes goes on item by item
pub AllFit-stream : (position since : ℕ) (items : List Item) → IsStreamFrom position since items → position + arrived items ≤ 2 ^ 40
    → AllFit (record { position = position; latest = since; ended = false }) items
AllFit-stream position since [] stream few = absurd stream
AllFit-stream position since (Chunk span t ∷ items) stream few =
    let here : fits (record { position = position; latest = since; ended = false }) (Chunk span t) ≡ true =
    grind (arith, nat_tests, stream.0, stream.1, stream.2) in
    (here, AllFit-stream span.stop t items stream.4 (omega (arith, stream.0, stream.1, few)))
AllFit-stream position since (Closed t ∷ items) stream few =
    let here : fits (record { position = position; latest = since; ended = false }) (Closed t) ≡ true = grind (arith, nat_tests, stream.0) in
    (here, AllFit-none position t items stream.2)
AllFit-stream position since (Reset t ∷ items) stream few =
    let here : fits (record { position = position; latest = since; ended = false }) (Reset t) ≡ true = grind (arith, nat_tests, stream.0) in
    (here, AllFit-none position t items stream.2)
AllFit-stream position since (Quiet ∷ items) stream few = (refl, AllFit-none position since items stream)

-- a chunk that goes on with a stream starts where that stopped, and isn't empty
pub chunk_fits : (place : StreamPosition) (span : Span) (t : ℕ) → fits place (Chunk span t) ≡ true → (span.start ≡ place.position) × (span.start < span.stop)
chunk_fits place span t follows =
    let goes_on = and_parts (not place.ended) (nat_le place.latest t && (span.start == place.position) && nat_lt span.start span.stop && nat_le span.stop
    (2 ^ 40)) follows in
    let bounded = and_parts (nat_le place.latest t && (span.start == place.position) && nat_lt span.start span.stop) (nat_le span.stop (2 ^ 40)) goes_on.1 in
    let nonempty = and_parts (nat_le place.latest t && (span.start == place.position)) (nat_lt span.start span.stop) bounded.0 in
    let starts = and_parts (nat_le place.latest t) (span.start == place.position) nonempty.0 in
    (eqb-true span.start place.position starts.1, ltb-true span.start span.stop nonempty.1)

length-none : (items : List Item) → items ≡ [] → length items ≡ 0
length-none items none = rw none refl

-- a stream of n bytes has at most n + 1 items
pub length-stream : (position since : ℕ) (items : List Item) → IsStreamFrom position since items → length items ≤ arrived items + 1
length-stream position since [] stream = absurd stream
length-stream position since (Chunk span t ∷ items) stream = omega (arith, length-stream span.stop t items stream.4, stream.0, stream.1)
length-stream position since (Closed t ∷ items) stream = omega (arith, length-none items stream.2)
length-stream position since (Reset t ∷ items) stream = omega (arith, length-none items stream.2)
length-stream position since (Quiet ∷ items) stream = omega (arith, length-none items stream)
