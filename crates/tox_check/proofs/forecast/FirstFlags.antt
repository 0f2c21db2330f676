-- The first words tell what is applied.
use Rattle.std.proofs.Common.{◌≡◌, ℕ, ◌+◌, ◌%◌, ◌<◌, ◌≤◌, List, [], ◌∷◌, length, map, take, arith, refl, ap, ◌∙◌, ltb}
use Rattle.std.specs.List.{enumerate_from}
use Rattle.tox_time.specs.declared.streams.stream.Stream.{Stream}
use Rattle.tox_words.specs.declared.lanes.Lanes.{Lanes}
use Rattle.tox_words.specs.Draw.{Draws, draw_in}
use Rattle.tox_words.specs.Seeded.{seeded_words}
use Rattle.tox_words.proofs.FirstDraws.{draw_in-first}
use Rattle.tox_defs.specs.chain.Applied.{is_applied}
use Rattle.tox_defs.specs.declared.chain.Entry.{Entry}
use Rattle.tox_check.specs.forecast.Applied.{applied_flags}

-- only what lanes draw at turn 0 matters
flags-same : (a b : Draws) (n : ℕ) (entries : List Entry) → ((lane : ℕ) → lane < n + length entries → a lane 0 ≡ b lane 0)
    → map (λ placed. is_applied placed.1 placed.0 a) (enumerate_from n entries) ≡ map (λ placed. is_applied placed.1 placed.0 b) (enumerate_from n entries)
flags-same a b n [] same = refl
flags-same a b n (entry ∷ entries) same =
    let here : a n 0 ≡ b n 0 = same n (omega arith) in
    ap (λ w. ltb (w % 1000) entry.toxicity ∷ map (λ placed. is_applied placed.1 placed.0 a) (enumerate_from (n + 1) entries)) here
    ∙ ap (λ flags. is_applied entry n b ∷ flags) (flags-same a b (n + 1) entries (λ lane below. same lane (omega arith)))

-- the first words of a connection's stream give the flags that all of them give
pub flags-first : (lanes : Lanes) (seed conn : ℕ) (stream : Stream) (entries : List Entry) → length entries ≤ 32
    → applied_flags (draw_in lanes (take 32 (seeded_words seed conn stream))) entries ≡ applied_flags (draw_in lanes (seeded_words seed conn stream)) entries
flags-first lanes seed conn stream entries few =
    flags-same (draw_in lanes (take 32 (seeded_words seed conn stream))) (draw_in lanes (seeded_words seed conn stream)) 0 entries
    (λ lane below. draw_in-first lanes seed conn stream lane (omega arith))
