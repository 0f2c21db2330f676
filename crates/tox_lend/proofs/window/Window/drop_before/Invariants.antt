-- What is held is sifted as what was held at first.
use Rattle.std.proofs.Common.{◌≡◌, filter, nat_lt, length}
use Rattle.tox_lend.specs.Run.{stop_of}
use Rattle.tox_lend.proofs.window.Window.drop_before.Given as goal

abbrev pub invariant-loop-piece : goal.invariant-loop-piece
invariant-loop-piece l = record {
  sifted : filter (λ piece. nat_lt l.position (stop_of piece)) l.self.held ≡ filter (λ piece. nat_lt l.position (stop_of piece)) l.initial.self.held;
  room : l.self.room ≡ l.initial.self.room;
  stop : l.self.stop ≡ l.initial.self.stop;
}

abbrev pub decreases-loop-piece : goal.decreases-loop-piece
decreases-loop-piece l = length l.self.held
