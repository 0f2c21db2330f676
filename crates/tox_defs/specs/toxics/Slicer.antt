-- slicer: chunks are cut into pieces near a size, with a delay before each.
use Rattle.std.specs.Prelude.{◌==◌, true, ◌≡◌, ℕ, ◌+◌, ◌-◌, ◌≤◌, ◌⊎◌, All, Bool, List, [], ◌∷◌, codes, nat_le, slice_index}
use Rattle.tox_time.specs.declared.streams.item.Item.{Item}
use Rattle.tox_time.specs.declared.streams.item.Item.TheVariants.{Chunk}
use Rattle.tox_time.specs.streams.Stream.{span_len}
use Rattle.tox_defs.specs.declared.toxic.Toxic.{Toxic}
use Rattle.tox_defs.specs.declared.toxic.Toxic.TheVariants.{Slicer}
use Rattle.tox_defs.specs.declared.operations.op.Op.TheVariants.{Slicing}
use Rattle.tox_defs.specs.toxics.Ordered.{in_order}
use Rattle.tox_defs.specs.toxics.Pieces.{leave, pieces_of}
use Rattle.tox_defs.specs.toxics.Ranges.{any_value, one_to_million, up_to_hour}
use Rattle.tox_defs.specs.Effects.{any_effect}
use Rattle.tox_defs.specs.Meaning.{Description, Meaning}
use Rattle.tox_defs.specs.stage.Reaction.{Giving}
use Rattle.tox_defs.specs.toxics.Varied.{varied}

-- its name, and its attributes: one to a million bytes, any number of bytes, up to an hour of microseconds,
-- and twice up to an hour of milliseconds
abbrev pub slicer_description : ℕ → ℕ → ℕ → ℕ → ℕ → Description
slicer_description average_size size_variation delay until from = record {
  name = codes "slicer";
  attributes =
      codes "average_size" ∷ codes "size_variation" ∷ codes "delay" ∷ codes "until" ∷ codes "from" ∷ [];
  limits =
      one_to_million ∷ any_value ∷ record { least = 0; most = 3600000000 } ∷ up_to_hour ∷ up_to_hour ∷ [];
  values = average_size ∷ size_variation ∷ delay ∷ until ∷ from ∷ [];
  window = record { from = from; until = until };
  effect = record any_effect { needs_data = true; only_cuts = delay == 0 };
}

-- the slicer with these values of its attributes
abbrev pub slicer_of : List ℕ → Toxic
slicer_of values =
    Slicer (slice_index values 0) (slice_index values 1) (slice_index values 2) (slice_index values 3)
    (slice_index values 4)

-- whether sizes vary by their average or more
abbrev pub is_slicer_varied_too_much : ℕ → ℕ → Bool
is_slicer_varied_too_much average_size size_variation = nat_le average_size size_variation

-- pieces of the sizes of their numbers, each so many microseconds after the one before
abbrev pub slicing_gives : (ℕ → ℕ) → ℕ → Giving
slicing_gives size micros state (Chunk span t) =
    leave (λ _. micros) state.previous t (pieces_of size state.pieces span)
slicing_gives size micros state item = in_order state.previous item ∷ []

-- what a slicer gives, by the words of its lane: the size of each piece is drawn
abbrev pub slicer_gives : ℕ → ℕ → ℕ → (ℕ → ℕ) → Giving
slicer_gives average_size size_variation delay words =
    slicing_gives (λ piece. varied average_size size_variation (words (1 + piece))) delay

-- some chunk stops here
abbrev pub StopsAt : ℕ → List Item → Type 0
StopsAt stop [] = ⊥
StopsAt stop (Chunk span t ∷ items) = (span.stop ≡ stop) ⊎ StopsAt stop items
StopsAt stop (item ∷ items) = StopsAt stop items

-- a piece has at most so many bytes, and at least so many unless it is the last of its arrival
abbrev pub IsSized : List Item → ℕ → ℕ → Item → Type 0
IsSized arrivals least most (Chunk span t) =
    (span_len span ≤ most) × ((least ≤ span_len span) ⊎ StopsAt span.stop arrivals)
IsSized arrivals least most item = Unit {0}

-- the law: each piece is near the average size, or the last of its arrival
abbrev pub SlicerLaw : ℕ → ℕ → List Item → List Item → Type 0
SlicerLaw average_size size_variation items given =
    All (IsSized items (average_size - size_variation) (average_size + size_variation)) given

-- what a slicer is
abbrev pub slicer_meaning : ℕ → ℕ → ℕ → ℕ → ℕ → Meaning
slicer_meaning average_size size_variation delay until from = record {
  description = slicer_description average_size size_variation delay until from;
  with_values = slicer_of;
  gives = slicer_gives average_size size_variation delay;
  op = λ place. Slicing average_size size_variation delay place until from;
  law = SlicerLaw average_size size_variation;
}
