-- What is held is sifted as what was held at first.
use Rattle.std.proofs.Common.{◌≡◌, filter, nat_lt, length}
use Rattle.tox_lend.specs.Run.{stop_of}
use Rattle.tox_link.proofs.carrying.writer_side.WriterSide.give_up.Given as goal

abbrev pub invariant-loop-piece : goal.invariant-loop-piece
invariant-loop-piece l = record {
  same : l.self ≡ record l.initial.self { window = record l.initial.self.window { held = l.self.window.held }; emptied = l.self.emptied };
  sifted : filter (λ piece. nat_lt l.position (stop_of piece)) l.self.window.held
      ≡ filter (λ piece. nat_lt l.position (stop_of piece)) l.initial.self.window.held;
}

abbrev pub decreases-loop-piece : goal.decreases-loop-piece
decreases-loop-piece l = length l.self.window.held
