-- The slice is next, and the window holds it.
use Rattle.std.proofs.Common.{rules, ◌≡◌, ℕ, ◌<◌, true, List, sym, subst, arith}
use Rattle.std.specs.Prelude.{All, filter, nat_lt}
use Rattle.std.proofs.lemmas.Bool.{ltb-true}
use Rattle.std.proofs.lemmas.List.Elements.{All-weaker, filter_passes}
use Rattle.tox_lend.specs.Run.{Run, stop_of}
use Rattle.tox_link.specs.declared.carrying.writer_side.WriterSide.{WriterSide}
use Rattle.tox_link.proofs.SideLemmas.{sound-wrote}
use Rattle.tox_link.proofs.carrying.driving.write_next.Goals as goal

pub overflow_add-side : goal.overflow_add-side
overflow_add-side g c =
    let due = c.requires.due in
    omega (arith, due.sound.written, due.takes.starts, due.takes.within.some, c.in-Err.ensures.few)

-- the pieces that stop past a position
still-held : (position : ℕ) (pieces : List Run) → All (λ piece. position < stop_of piece) (filter (λ piece. nat_lt position (stop_of piece)) pieces)
still-held position pieces =
    let passes = λ (piece : Run). nat_lt position (stop_of piece) in
    All-weaker (λ piece. passes piece ≡ true) (λ piece. position < stop_of piece) (λ piece passed. ltb-true position (stop_of piece) passed)
    (filter passes pieces) (filter_passes passes pieces)

pub returns-clause-ok : goal.returns-clause-ok
returns-clause-ok g c =
    let stop = c.args.slice.now.span.stop in
    let held : All (λ piece. c.give_up.new.self.written < stop_of piece) c.give_up.new.self.window.held
    = subst (λ (side : WriterSide). All (λ piece. side.written < stop_of piece) side.window.held) (sym c.give_up.ensures)
    (still-held stop c.args.side.now.window.held) in
    (sound-wrote c.args.side.now c.give_up.new.self c.args.slice.now c.requires.due c.give_up.ensures, search rules, held, search rules)
