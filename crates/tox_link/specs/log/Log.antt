-- The log of a link: what was heard, what was said, and when a log is faithful to a plan.
use Rattle.std.specs.Prelude.{◌≡◌, ℕ, ◌+◌, ◌<◌, ◌≤◌, ◌^◌, Bool, true, false, List, [], ◌∷◌, ◌++◌, All, length, take, nat_lt, if◌then◌else◌}
use Rattle.tox_time.specs.declared.streams.slice.Slice.{Slice}
use Rattle.tox_time.specs.declared.streams.item.Item.{Item}
use Rattle.tox_time.specs.declared.streams.item.Item.TheVariants.{Chunk, Closed, Quiet}
use Rattle.tox_time.specs.streams.Stream.{IsPrefix}
use Rattle.tox_time.specs.streams.Table.{table, slices_table}
use Rattle.tox_link.specs.declared.notes.LinkEvent.{LinkEvent}
use Rattle.tox_link.specs.declared.notes.LinkEvent.TheVariants.{Piece, SourceEnd, Wrote}

-- what was heard from position `start` on, then `rest`, unless the source has ended
abbrev pub heard_from : ℕ → List LinkEvent → List Item → List Item
heard_from start [] rest = rest
heard_from start (Piece len instant ∷ log) rest = Chunk (record { start = start; stop = start + len }) instant ∷ heard_from (start + len) log rest
heard_from start (SourceEnd instant ∷ log) rest = Closed instant ∷ []
heard_from start (Wrote slice now ∷ log) rest = heard_from start log rest

-- the pieces, ended by the source's end, or else by `Quiet`
abbrev pub heard : List LinkEvent → List Item
heard log = heard_from 0 log (Quiet ∷ [])

-- whether the source's end was heard
abbrev pub has_source_end : List LinkEvent → Bool
has_source_end [] = false
has_source_end (Piece len instant ∷ log) = has_source_end log
has_source_end (SourceEnd instant ∷ log) = true
has_source_end (Wrote slice now ∷ log) = has_source_end log

-- the slices that were noted as written
abbrev pub said : List LinkEvent → List Slice
said [] = []
said (Piece len instant ∷ log) = said log
said (SourceEnd instant ∷ log) = said log
said (Wrote slice now ∷ log) = slice ∷ said log

-- how many bytes were heard
abbrev pub heard_bytes : List LinkEvent → ℕ
heard_bytes [] = 0
heard_bytes (Piece len instant ∷ log) = len + heard_bytes log
heard_bytes (SourceEnd instant ∷ log) = heard_bytes log
heard_bytes (Wrote slice now ∷ log) = heard_bytes log

-- the lengths of the pieces
abbrev pub heard_lens : List LinkEvent → List ℕ
heard_lens [] = []
heard_lens (Piece len instant ∷ log) = len ∷ heard_lens log
heard_lens (SourceEnd instant ∷ log) = heard_lens log
heard_lens (Wrote slice now ∷ log) = heard_lens log

-- each piece has at most 16,384 bytes
abbrev pub HasSmallPieces : List LinkEvent → Type 0
HasSmallPieces log = All (λ len. len ≤ 16_384) (heard_lens log)

-- of pieces with these lengths, the first of which starts at `start`, so many end behind a position
abbrev pub ends_behind : ℕ → ℕ → List ℕ → ℕ
ends_behind position start [] = 0
ends_behind position start (len ∷ lens) = (if nat_lt position (start + len) then 1 else 0) + ends_behind position (start + len) lens

-- how many pieces wait: those of which some byte wasn't said yet
abbrev pub waiting_pieces : List LinkEvent → ℕ
waiting_pieces log = ends_behind (length (slices_table (said log))) 0 (heard_lens log)

-- a piece finds fewer than 1,024 waiting
abbrev pub FindsFewWaiting : List LinkEvent → LinkEvent → Type 0
FindsFewWaiting log (Piece len instant) = waiting_pieces log < 1_024
FindsFewWaiting log (SourceEnd instant) = Unit {0}
FindsFewWaiting log (Wrote slice now) = Unit {0}

-- behind a log these events come so that no piece finds 1,024 waiting
abbrev pub IsShallowBehind : List LinkEvent → List LinkEvent → Type 0
IsShallowBehind before [] = Unit {0}
IsShallowBehind before (event ∷ log) = FindsFewWaiting before event × IsShallowBehind (before ++ event ∷ []) log

-- the reading of the clock that an event has
abbrev pub reading_of : LinkEvent → ℕ
reading_of (Piece len instant) = instant
reading_of (SourceEnd instant) = instant
reading_of (Wrote slice now) = now

-- a slice is written at its instant or later
abbrev pub IsDue : LinkEvent → Type 0
IsDue (Piece len instant) = Unit {0}
IsDue (SourceEnd instant) = Unit {0}
IsDue (Wrote slice now) = slice.instant ≤ now

-- the clock reported each reading, none is below an earlier one or `since`, and no slice's instant is past its reading
abbrev pub IsTimely : (ℕ → Type 0) → ℕ → List LinkEvent → Type 0
IsTimely reported since [] = Unit {0}
IsTimely reported since (event ∷ log) = reported (reading_of event) × (since ≤ reading_of event) × IsDue event × IsTimely reported (reading_of event) log

-- nonempty slices from one position to another, without gaps
abbrev pub IsGapless : ℕ → List Slice → ℕ → Type 0
IsGapless start [] stop = start ≡ stop
IsGapless start (slice ∷ slices) stop = (slice.span.start ≡ start) × (start < slice.span.stop) × IsGapless slice.span.stop slices stop

-- what was said has no gap, and its table is a prefix of what the plan means for what was heard
pub record Agrees (means : List Item → List Item) (log : List LinkEvent) : Type 0 where
  pub gapless : (stop : ℕ) × IsGapless 0 (said log) stop
  pub prefix : IsPrefix (slices_table (said log)) (table (means (heard log)))

-- what was said is of bytes that were heard: at most 2^40 of them, in pieces of at most 16,384, each of which came while fewer
-- than 1,024 waited
pub record SaysHeard (log : List LinkEvent) : Type 0 where
  pub few : heard_bytes log ≤ 2 ^ 40
  pub heard : length (slices_table (said log)) ≤ heard_bytes log
  pub shallow : IsShallowBehind [] log
  pub small : HasSmallPieces log

-- neither a piece nor an end is heard
abbrev pub HearsNothing : List LinkEvent → Type 0
HearsNothing [] = Unit {0}
HearsNothing (Piece len instant ∷ log) = ⊥
HearsNothing (SourceEnd instant ∷ log) = ⊥
HearsNothing (Wrote slice now ∷ log) = HearsNothing log

-- each piece has bytes, and nothing is heard behind the source's end
abbrev pub IsHeardInOrder : List LinkEvent → Type 0
IsHeardInOrder [] = Unit {0}
IsHeardInOrder (Piece len instant ∷ log) = (0 < len) × IsHeardInOrder log
IsHeardInOrder (SourceEnd instant ∷ log) = HearsNothing log
IsHeardInOrder (Wrote slice now ∷ log) = IsHeardInOrder log

-- each prefix of the log agrees with the plan, its readings are the clock's, and what it heard is in order
pub record IsFaithful (means : List Item → List Item) (reported : ℕ → Type 0) (log : List LinkEvent) : Type 0 where
  pub agrees : (n : ℕ) → Agrees means (take n log)
  pub timely : IsTimely reported 0 log
  pub ordered : IsHeardInOrder log
