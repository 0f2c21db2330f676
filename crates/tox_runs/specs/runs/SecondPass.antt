-- What the second pass over an arrivals text still prints.
use Rattle.std.specs.Prelude.{◌≡◌, ◌≢◌, ℕ, ◌+◌, ◌<◌, ◌≤◌, true, List, [], ◌∷◌, ◌++◌, length, slice_index, Any, Result, Ok, Err}
use Rattle.std.specs.Result.{ForOk}
use Rattle.tox_time.specs.declared.ends.EndFault.{EndFault}
use Rattle.tox_time.specs.declared.ends.Sink.{Ghosts}
use Rattle.tox_time.specs.declared.streams.item.Item.{Item}
use Rattle.tox_time.specs.declared.streams.item.Item.TheVariants.{Chunk, Closed}
use Rattle.tox_time.specs.declared.streams.span.Span.{Span}
use Rattle.tox_time.specs.streams.Arrivals.{arrival_list}
use Rattle.tox_time.specs.streams.Neighbours.{LiesInChunk}
use Rattle.tox_lend.specs.Run.{Run, stop_of}
use Rattle.tox_text.specs.arrivals.ArrivalsText.{Arrived, arrivals_of}
use Rattle.tox_text.specs.ResultText.{arrival_of}
use Rattle.tox_text.specs.Printing.{PrintsUnless}
use Rattle.tox_text.specs.declared.printer.SizedPrinter.{SizedPrinter}

-- no span within an item goes over this position
abbrev pub IsEdge : List Item → ℕ → Type 0
IsEdge items stop =
    (span : Span) → Any (LiesInChunk span) items → span.start < stop → span.stop ≤ stop

-- the piece is one of the arrivals, with its bytes
pub record IsPieceOf (arrived : Arrived) (piece : Run) : Type 0 where
  pub of_arrival : (k : ℕ) → k < length piece.bytes
      → arrival_of arrived.items (piece.start + k) ≡ piece.start
  pub at_place : (k : ℕ) → k < length piece.bytes
      → slice_index arrived.bytes (piece.start + k) ≡ slice_index piece.bytes k
  pub behind : arrival_of arrived.items (stop_of piece) ≢ piece.start
  pub edge : IsEdge (arrival_list arrived.items) (stop_of piece)

-- so many bytes from a position on, which came at an instant
abbrev pub chunk_at : ℕ → ℕ → ℕ → Item
chunk_at start len t = Chunk (record { start = start; stop = start + len }) t

-- the chunk that a piece arrived as
abbrev pub chunk_of : Run → Item
chunk_of piece = chunk_at piece.start (length piece.bytes) piece.instant

-- all that a text describes comes next
abbrev pub IsAtStart : (Arrived → ℕ → List Item → Type 0) → List ℕ → Type 0
IsAtStart stands text =
    ForOk (arrivals_of text) (λ arrived. stands arrived 0 arrived.items)

-- this piece comes next where a source stands so
pub record IsAtPiece (stands : Arrived → ℕ → List Item → Type 0) (piece : Run) : Type 0 where
  pub arrived : Arrived
  pub later : List Item
  pub of : IsPieceOf arrived piece
  pub before : stands arrived piece.start (chunk_of piece ∷ later)

-- the source's end comes next
pub record IsAtSourceEnd (stands : Arrived → ℕ → List Item → Type 0) (t : ℕ) : Type 0 where
  pub arrived : Arrived
  pub position : ℕ
  pub later : List Item
  pub before : stands arrived position (Closed t ∷ later)

-- nothing comes next
pub record IsBehindAll (stands : Arrived → ℕ → List Item → Type 0) : Type 0 where
  pub arrived : Arrived
  pub position : ℕ
  pub behind : stands arrived position []

-- what was printed of a text, down to what is left of it, or to its end where the writer has failed
abbrev pub Reaches : {A : Type 0} → Result A EndFault → List ℕ → List ℕ → List ℕ → Type 0
Reaches (Ok value) printed left text = printed ++ left ≡ text
Reaches (Err fault) printed left text = printed ≡ text

module _ {W : Type 0} (sink : Ghosts W) where
  -- a text was printed but for what is left, or the writer has failed and a prefix of the text is written
  pub record PrintsDownTo {A : Type 0} {R : ℕ} (result : Result A EndFault)
      (old new : SizedPrinter W R) (text left : List ℕ) : Type 0 where
    pub printed : List ℕ
    pub prints : PrintsUnless sink (λ fault. true) result old new printed
    pub whole : Reaches result printed left text
