-- A piece is one more event.
use Rattle.std.proofs.Common.{[], ◌∷◌, refl, arith}
use Rattle.tox_link.specs.declared.notes.LinkEvent.TheVariants.{Piece}
use Rattle.tox_link.proofs.StepLemmas.{taken-carried}
use Rattle.tox_link.proofs.steps.arriving.take_piece.Goals as goal

pub returns-clause-carried : goal.returns-clause-carried
returns-clause-carried g c =
    let hears = c.in-Ok.ensures.hears in
    record {
      more = Piece c.len-len.result c.reading-instant.result ∷ [];
      noted = c.in_ok-note.ensures.noted;
      keeps = taken-carried (g.C.Clock.reported c.args.clock.now) c.args.core.now c.on_piece.new.self c.len-len.result c.reading-instant.result
          (omega (arith, c.requires.room.0, c.on_piece.ensures.small)) c.requires.goes_on.1 (omega (arith, c.reading-instant.ensures.later, c.latest.ensures))
          c.reading-instant.ensures.bound c.reading-instant.ensures.reported
          (omega (arith, c.len-len.ensures, c.requires.fits.0)) (omega (arith, c.len-len.ensures, c.requires.small))
          (omega (arith, c.len-len.ensures, c.requires.fits.1)) c.requires.goes_on.0 hears.taken hears.output;
      end = refl;
    }
