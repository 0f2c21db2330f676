-- Lists of items that go on: what they count, and when they are streams.
use Rattle.std.proofs.Common.{◌≡◌, ℕ, ◌+◌, true, false, List, [], ◌∷◌, ◌++◌, refl, arith, ap, subst, sym, ◌∙◌, append_assoc, replicate}
use Rattle.tox_time.specs.declared.streams.item.Item.{Item}
use Rattle.tox_time.specs.declared.streams.item.Item.TheVariants.{Chunk, Closed, Reset, Quiet}
use Rattle.tox_time.specs.streams.Stream.{span_len, IsStreamFrom, HasReset, arrived, latest_from, has_final}
use Rattle.tox_time.specs.streams.Arrivals.{arrival_list}
use Rattle.tox_time.specs.streams.Table.{table}

pub arrived-append : (items rest : List Item) → arrived (items ++ rest) ≡ arrived items + arrived rest
arrived-append [] rest = omega arith
arrived-append (Chunk span t ∷ items) rest = omega (arith, arrived-append items rest)
arrived-append (Closed t ∷ items) rest = arrived-append items rest
arrived-append (Reset t ∷ items) rest = arrived-append items rest
arrived-append (Quiet ∷ items) rest = arrived-append items rest

pub latest_from-append : (since : ℕ) (items rest : List Item) → latest_from since (items ++ rest) ≡ latest_from (latest_from since items) rest
latest_from-append since [] rest = refl
latest_from-append since (Chunk span t ∷ items) rest = latest_from-append t items rest
latest_from-append since (Closed t ∷ items) rest = latest_from-append t items rest
latest_from-append since (Reset t ∷ items) rest = latest_from-append t items rest
latest_from-append since (Quiet ∷ items) rest = latest_from-append since items rest

pub has_final-append : (items rest : List Item) → has_final items ≡ false → has_final (items ++ rest) ≡ has_final rest
has_final-append [] rest unended = refl
has_final-append (Chunk span t ∷ items) rest unended = has_final-append items rest unended
has_final-append (Closed t ∷ items) rest unended = absurd (cc)
has_final-append (Reset t ∷ items) rest unended = absurd (cc)
has_final-append (Quiet ∷ items) rest unended = absurd (cc)

pub arrival_list-append : (items rest : List Item) → has_final items ≡ false → arrival_list (items ++ rest) ≡ items ++ arrival_list rest
arrival_list-append [] rest unended = refl
arrival_list-append (Chunk span t ∷ items) rest unended = ap (λ list. Chunk span t ∷ list) (arrival_list-append items rest unended)
arrival_list-append (Closed t ∷ items) rest unended = absurd (cc)
arrival_list-append (Reset t ∷ items) rest unended = absurd (cc)
arrival_list-append (Quiet ∷ items) rest unended = absurd (cc)

-- what is no reset in its end has none where unended items stand before it
pub HasReset-append : (items rest : List Item) → has_final items ≡ false → HasReset (items ++ rest) → HasReset rest
HasReset-append [] rest unended reset = reset
HasReset-append (Chunk span t ∷ items) rest unended reset = HasReset-append items rest unended reset
HasReset-append (Closed t ∷ items) rest unended reset = absurd (cc)
HasReset-append (Reset t ∷ items) rest unended reset = absurd (cc)
HasReset-append (Quiet ∷ items) rest unended reset = absurd (cc)

-- a list goes on as a stream where a stream from its last position and instant follows it
pub IsStreamFrom-append : (position since : ℕ) (items rest : List Item) → has_final items ≡ false → IsStreamFrom position since (arrival_list items)
    → IsStreamFrom (position + arrived items) (latest_from since items) rest → IsStreamFrom position since (items ++ rest)
IsStreamFrom-append position since [] rest unended stream goes_on =
    let P : ℕ → Type 0 = λ n. IsStreamFrom n since rest in
    let same : position + 0 ≡ position = omega arith in
    subst P same goes_on
IsStreamFrom-append position since (Chunk span t ∷ items) rest unended stream goes_on =
    let P : ℕ → Type 0 = λ n. IsStreamFrom n (latest_from t items) rest in
    let same : position + (span_len span + arrived items) ≡ span.stop + arrived items = omega (arith, stream.0, stream.1) in
    (stream.0, stream.1, stream.2, stream.3, IsStreamFrom-append span.stop t items rest unended stream.4 (subst P same goes_on))
IsStreamFrom-append position since (Closed t ∷ items) rest unended stream goes_on = absurd (cc)
IsStreamFrom-append position since (Reset t ∷ items) rest unended stream goes_on = absurd (cc)
IsStreamFrom-append position since (Quiet ∷ items) rest unended stream goes_on = absurd (cc)

pub table-append : (items rest : List Item) → table (items ++ rest) ≡ table items ++ table rest
table-append [] rest = refl
table-append (Chunk span t ∷ items) rest = ap (λ ts. replicate (span_len span) t ++ ts) (table-append items rest)
    ∙ sym (append_assoc (replicate (span_len span) t) (table items) (table rest))
table-append (Closed t ∷ items) rest = table-append items rest
table-append (Reset t ∷ items) rest = table-append items rest
table-append (Quiet ∷ items) rest = table-append items rest

-- a stream has a final
pub final_of_stream : (position since : ℕ) (items : List Item) → IsStreamFrom position since items → has_final items ≡ true
final_of_stream position since [] stream = absurd stream
final_of_stream position since (Chunk span t ∷ items) stream = final_of_stream span.stop t items stream.4
final_of_stream position since (Closed t ∷ items) stream = refl
final_of_stream position since (Reset t ∷ items) stream = refl
final_of_stream position since (Quiet ∷ items) stream = refl
