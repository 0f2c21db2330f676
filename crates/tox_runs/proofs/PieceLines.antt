-- A slice of a piece as a line of the result text.
use Rattle.std.proofs.Common.{◌≡◌, ℕ, zero, suc, ◌<◌, List, ◌∷◌, ◌++◌, replicate, refl, ap, ◌∙◌, arith}
use Rattle.tox_time.specs.declared.streams.slice.Slice.{Slice}
use Rattle.tox_lend.specs.Run.{Run, bytes_at}
use Rattle.tox_lend.specs.Lent.{IsExactSlice}
use Rattle.tox_lend.specs.declared.lent.Lent.{Lent}
use Rattle.tox_text.specs.arrivals.ArrivalsText.{Arrived}
use Rattle.tox_text.specs.ResultText.{bytes_line}
use Rattle.tox_text.proofs.Runs.{StandsAt}
use Rattle.tox_runs.specs.runs.SecondPass.{IsPieceOf}

-- the bytes of a piece stand at its positions
pub stands_whole : (arrived : Arrived) (piece : Run) → IsPieceOf arrived piece → StandsAt arrived piece.start piece.start piece.bytes
stands_whole arrived piece of = record { of_arrival = of.of_arrival; at_place = of.at_place }

-- some equal elements begin with one
pub some_first : (n t : ℕ) (later : List ℕ) → 0 < n → (rest : List ℕ) × (replicate n t ++ later ≡ t ∷ rest)
some_first zero t later some = absurd (omega arith)
some_first (suc n) t later some = (replicate n t ++ later, refl)

-- the line of an exact slice
pub line_of_lent : (piece : Run) (slice : Slice) (lent : Lent) → IsExactSlice piece slice.span slice.instant lent
    → bytes_line lent.instant lent.start lent.bytes.now ≡ bytes_line slice.instant slice.span.start (bytes_at piece slice.span)
line_of_lent piece slice lent exact =
    ap (λ t. bytes_line t lent.start lent.bytes.now) exact.leaves
    ∙ ap (λ n. bytes_line slice.instant n lent.bytes.now) exact.starts
    ∙ ap (bytes_line slice.instant slice.span.start) exact.exact
