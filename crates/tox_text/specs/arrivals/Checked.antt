-- What the check of an arrivals text knows.
use Rattle.std.specs.Prelude.{◌≡◌, ℕ, ◌+◌, ◌*◌, ◌/◌, ◌≤◌, ◌^◌, max, List, [], ◌∷◌, length, Ok}
use Rattle.tox_time.specs.streams.Stream.{IsArrivalList, arrived as count_of}
use Rattle.tox_time.specs.streams.Arrivals.{arrival_list}
use Rattle.tox_text.specs.arrivals.ArrivalsText.{Arrived, arrivals_of, lines_of}

-- an arrival list of at most 2^40 bytes
pub record AreArrivals (so_far : Arrived) : Type 0 where
  pub list : IsArrivalList (arrival_list so_far.items)
  pub few : count_of so_far.items ≤ 2 ^ 40

-- half of the longest of these lines, rounded up: no line says more bytes, since each takes two digits
abbrev pub half_longest : List (List ℕ) → ℕ
half_longest [] = 0
half_longest (line ∷ lines) = max ((length line + 1) / 2) (half_longest lines)

-- no line is longer than twice this
abbrev pub AreShort : ℕ → List (List ℕ) → Type 0
AreShort longest [] = Unit {0}
AreShort longest (line ∷ lines) = (length line ≤ 2 * longest) × AreShort longest lines

-- the text has no fault, and no line of it says more bytes than this
pub record IsChecked (text : List ℕ) (longest : ℕ) : Type 0 where
  pub arrived : Arrived
  pub spelled : arrivals_of text ≡ Ok arrived
  pub arrivals : AreArrivals arrived
  pub short : AreShort longest (lines_of text)
