-- Room is made, and then the piece is skipped or waits.
use Rattle.std.proofs.Common.{◌≡◌, ℕ, ◌<◌, ◌≤◌, ◌⊎◌, inl, inr, Bool, true, false, None, sym, ◌∙◌, arith}
use Rattle.std.specs.Prelude.{IsTrue, ◌↔◌}
use Rattle.std.proofs.lemmas.Bool.{cases_lt}
use Rattle.tox_link.specs.link_core.Core.{core_ending, kept_count}
use Rattle.tox_link.proofs.Depths.{many-waiting}
use Rattle.tox_log.proofs.Judging.{judged-stays}
use Rattle.tox_log.proofs.judge.hear_piece.Goals as goal

pub returns-in-Some-clause-hears : goal.returns-in-Some-clause-hears
returns-in-Some-clause-hears c = λ means reported log says follows.
    c.skip_piece.ensures.hears means reported log says (judged-stays c.args.judge.now c.make_room.new.judge c.make_room.ensures.counts.3
    c.make_room.ensures.stays means reported log follows)

pub returns-clause-hears : goal.returns-clause-hears
returns-clause-hears c = λ means reported log says follows.
    c.take_piece.ensures.hears means reported log says (judged-stays c.args.judge.now c.make_room.new.judge c.make_room.ensures.counts.3
    c.make_room.ensures.stays means reported log follows)

-- a core without room keeps 1,024 pieces
full : (room : Bool) (count : ℕ) → IsTrue room ↔ (count < 1_024) → room ≡ false → 1_024 ≤ count
full room count is none = by (cases_lt count 1_024)
  where
    by : (count < 1_024) ⊎ (1_024 ≤ count) → 1_024 ≤ count
    by (inl few) = absurd (let some : room ≡ true = is.1 few in let both : true ≡ false = sym some ∙ none in cc)
    by (inr many) = many

pub returns-then-not-has_room-clause-deep : goal.returns-then-not-has_room-clause-deep
returns-then-not-has_room-clause-deep c = λ means reported log judged.
    let new = c.make_room.new.judge in
    let counts = c.make_room.ensures.counts in
    let going : new.ended ≡ false = counts.2 ∙ c.requires.going in
    let unknown : core_ending new.core ≡ None = sym c.ending.ensures.value ∙ c.in_default.is in
    let many : 1_024 ≤ kept_count new.core = full c.has_room.result (kept_count new.core) c.has_room.ensures c.if-not-has_room.true in
    let now = judged-stays c.args.judge.now new counts.3 c.make_room.ensures.stays means reported log judged in
    let waiting = many-waiting new.core log new.said (now.kept going unknown) now.gapless (c.make_room.ensures.deep going many) in
    omega (arith, many, waiting)
