-- What lanes draw at turn 0.
use Rattle.std.proofs.Common.{◌≡◌, ℕ, ◌+◌, ◌*◌, ◌%◌, ◌<◌, List, length, take, slice_index, arith, ap, sym, ◌∙◌}
use Rattle.std.proofs.Math.Nat.{mod-eq_of_lt}
use Rattle.std.proofs.lemmas.List.{get_or-take, length-take-le}
use Rattle.tox_time.specs.declared.streams.stream.Stream.{Stream}
use Rattle.tox_words.specs.declared.lanes.Lanes.{Lanes}
use Rattle.tox_words.specs.Draw.{draw_in, lane_count}
use Rattle.tox_words.specs.Seeded.{seeded_words}
use Rattle.tox_words.proofs.Outputs.{length-seeded_words}

-- the word at turn 0 lies at the lane's own place, in a table that reaches so far
turn_0 : (lanes : Lanes) (words : List ℕ) (lane : ℕ) → lane < length words → draw_in lanes words lane 0 ≡ slice_index words lane
turn_0 lanes words lane within =
    let own : lane + lane_count lanes * 0 ≡ lane = omega arith in
    ap (slice_index words) (ap (λ n. n % length words) own ∙ mod-eq_of_lt within)

-- at turn 0 the first words stand for all of them
pub draw_in-first : (lanes : Lanes) (seed conn : ℕ) (stream : Stream) (lane : ℕ) → lane < 32
    → draw_in lanes (take 32 (seeded_words seed conn stream)) lane 0 ≡ draw_in lanes (seeded_words seed conn stream) lane 0
draw_in-first lanes seed conn stream lane below =
    let words = seeded_words seed conn stream in
    let many : length words ≡ 1024 = length-seeded_words seed conn stream in
    let few : length (take 32 words) ≡ 32 = length-take-le 32 words (omega arith) in
    turn_0 lanes (take 32 words) lane (omega arith)
    ∙ get_or-take 32 words lane 0 below
    ∙ sym (turn_0 lanes words lane (omega arith))
