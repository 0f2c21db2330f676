-- Chunks cut into pieces that leave one after the other.
use Rattle.std.specs.Prelude.{ℕ, zero, suc, ◌+◌, ◌-◌, min, max, List, [], ◌∷◌}
use Rattle.tox_time.specs.declared.streams.span.Span.{Span}
use Rattle.tox_time.specs.declared.streams.item.Item.{Item}
use Rattle.tox_time.specs.declared.streams.item.Item.TheVariants.{Chunk}
use Rattle.tox_time.specs.Time.{plus}
use Rattle.tox_time.specs.streams.Stream.{span_len}

-- the next piece has its size, or what is left; then come the others, at most `most` in all
abbrev pub cut : (ℕ → ℕ) → ℕ → ℕ → ℕ → ℕ → List Span
cut size number start zero most = []
cut size number start (suc left) zero = []
cut size number start (suc left) (suc most) =
    record { start = start; stop = start + min (size number) (suc left) }
    ∷ cut size (number + 1) (start + min (size number) (suc left)) (suc left - size number) most

-- the pieces of a span, numbered from one on
abbrev pub pieces_of : (ℕ → ℕ) → ℕ → Span → List Span
pieces_of size number span = cut size number span.start (span_len span) (span_len span)

-- each piece leaves by the wait of its length after the one before
abbrev pub leave : (ℕ → ℕ) → ℕ → ℕ → List Span → List Item
leave wait since t [] = []
leave wait since t (span ∷ spans) =
    Chunk span (plus (max since t) (wait (span_len span)))
    ∷ leave wait (plus (max since t) (wait (span_len span))) t spans

-- the first bytes of a span, so many or what there is
abbrev pub first_span : ℕ → Span → Span
first_span bytes span = record { start = span.start; stop = span.start + min bytes (span_len span) }
