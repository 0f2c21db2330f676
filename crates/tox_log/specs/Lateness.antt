-- How late the writes of a log and its ending were.
use Rattle.std.specs.Prelude.{◌≡◌, ◌≢◌, ℕ, ◌+◌, ◌-◌, ◌/◌, ◌<◌, ◌≤◌, true, max, nat_le, List, [], ◌∷◌, fold, length, slice_get, Option, Some, None}
use Rattle.std.specs.List.Sorted.{IsPermutation, IsSorted}
use Rattle.std.specs.Ordering.{nat_cmp}
use Rattle.tox_time.specs.declared.streams.ending.Ending.{Ending}
use Rattle.tox_time.specs.declared.streams.ending.Ending.TheVariants.{StillOpen, Closed as ClosedAt, Reset as ResetAt}
use Rattle.tox_link.specs.declared.notes.LinkEvent.{LinkEvent}
use Rattle.tox_link.specs.declared.notes.LinkEvent.TheVariants.{Piece, SourceEnd, Wrote}
use Rattle.tox_log.specs.declared.lateness.Lateness.{Lateness}
use Rattle.tox_log.specs.declared.lateness.Percentiles.{Percentiles}

-- how late the slices of events were written, in order
abbrev pub lates : List LinkEvent → List ℕ
lates [] = []
lates (Piece len instant ∷ events) = lates events
lates (SourceEnd instant ∷ events) = lates events
lates (Wrote slice reading ∷ events) = (reading - slice.instant) ∷ lates events

-- how late an ending came, if it has an instant
abbrev pub ending_late : ℕ → Ending → List ℕ
ending_late reading StillOpen = []
ending_late reading (ClosedAt instant) = (reading - instant) ∷ []
ending_late reading (ResetAt instant) = (reading - instant) ∷ []

-- a list is these values in order of size, and has these two at the ranks of the median and the 99th percentile, from 1
pub record HasRanks (values sorted : List ℕ) (median p99 : ℕ) : Type 0 where
  pub same : IsPermutation values sorted
  pub rises : IsSorted nat_cmp sorted
  pub half : slice_get sorted ((length values + 1) / 2 - 1) ≡ Some median
  pub most : slice_get sorted (length values - length values / 100 - 1) ≡ Some p99

-- the greatest of some values, and up to 2^20 values the exact median and 99th percentile
pub record ArePercentiles (values : List ℕ) (late : Percentiles) : Type 0 where
  pub some : values ≢ []
  pub greatest : late.max ≡ fold max 0 values
  pub exact : late.exact ≡ nat_le (length values) 1048576
  pub ranks : late.exact ≡ true → (sorted : List ℕ) × HasRanks values sorted late.median late.p99

-- how late some values are, or there is none
abbrev pub IsLate : List ℕ → Option Percentiles → Type 0
IsLate values None = values ≡ []
IsLate values (Some late) = ArePercentiles values late

-- these values were counted
pub record KeepsLate (values : List ℕ) (late : Lateness) : Type 0 where
  pub count : late.count ≡ length values
  pub greatest : late.max ≡ fold max 0 values
  pub each : late.buckets.items ≡ [] → (late.values.items ≡ values) × (length values ≤ 1048576)
  pub many : late.buckets.items ≢ [] → 1048576 < length values
