-- Where the room between two lines is greatest.
use Rattle.std.specs.Prelude.{ℕ, ◌+◌, ◌*◌, ◌/◌, ◌-◌, ◌==◌, List, length, take, drop, map, fold, max, position, slice_index, nat_lt, Option, Some, None}
use Rattle.std.specs.Prelude.{unwrap_or, if◌then◌else◌}
use Rattle.std.specs.List.{take_while, zip}
use Rattle.tox_draw.specs.declared.place.Point.{Point}

-- the room at each column that has half a width free on either side: from the upper line before it to the lower line behind it
abbrev pub rooms : List ℕ → List ℕ → List ℕ
rooms uppers lowers = map (λ pair. pair.1 - pair.0) (zip uppers lowers)

-- the greatest of some numbers
abbrev pub greatest_of : List ℕ → ℕ
greatest_of numbers = fold max 0 numbers

-- the place of the first that is equal to a number
abbrev pub first_of : List ℕ → ℕ → ℕ
first_of numbers number = unwrap_or (position (λ other. other == number) numbers) 0

-- how many from the front on are equal to a number
abbrev pub count_of : List ℕ → ℕ → ℕ
count_of numbers number = length (take_while (λ other. other == number) numbers)

-- the middle of the first run of a number
abbrev pub middle_of : List ℕ → ℕ → ℕ
middle_of numbers number =
    let first = first_of numbers number in
    first + (count_of (drop first numbers) number - 1) / 2

-- the place at the middle of the first run of the greatest of these rooms, which isn't below the least one
unfoldable pub place_among : List ℕ → List ℕ → ℕ → ℕ → Option Point
place_among uppers rooms half least =
    let greatest = greatest_of rooms in
    let middle = middle_of rooms greatest in
    if nat_lt greatest least then None
    else Some (record { x = 64 + (half + middle); y = slice_index uppers middle + greatest / 2 })

-- the place in the area of two lines up to a column
abbrev pub place_of : List ℕ → List ℕ → ℕ → ℕ → ℕ → Option Point
place_of upper lower end half least =
    if nat_lt end (2 * half) then None
    else (let uppers = take (end - 2 * half + 1) upper in
    place_among uppers (rooms uppers (take (end + 1 - 2 * half) (drop (2 * half) lower))) half least)
