-- Bytes that are kept are one more event.
use Rattle.std.proofs.Common.{refl, ap, arith}
use Rattle.std.specs.Prelude.{vec_capacity}
use Rattle.tox_lend.specs.Run.{Run}
use Rattle.tox_link.specs.link_core.Core.{CoreView}
use Rattle.tox_link.proofs.DriveLemmas.{drove-took, drove-shut}
use Rattle.tox_link.proofs.FollowLemmas.{held-kept, drives-kept}
use Rattle.tox_link.proofs.direction.reading_on.keep_bytes.Goals as goal

pub returns-in_default-clause-stopped : goal.returns-in_default-clause-stopped
returns-in_default-clause-stopped g c =
    let refused = c.in_default.ensures.err in (
      ap (λ (core : CoreView). core.bytes) refused.1,
      λ lost left written.
          drove-shut (g.C.Clock.reported c.args.clock.now) c.args.link.now _ lost left written (g.N.Notes.events c.args.notes.now) _ c.requires.held
          c.requires.idle c.requires.room.0 refused.2 refl refl refl refused.1 refl refused.0,
    )

pub returns-clause-held : goal.returns-clause-held
returns-clause-held g c =
    let counts = c.in-Ok.ensures.counts in
    let run : Run = record {
      start = c.args.link.now.window.stop;
      bytes = c.args.bytes.items;
      instant = c.take_piece.new.core.latest;
      room =
          vec_capacity c.args.bytes;
    } in
    held-kept c.args.link.now _ run c.requires.held c.requires.idle c.requires.fits.0 refl counts.bytes_are counts.position c.in-Ok.ensures.kept refl refl refl
    refl counts.ended_is (omega (arith, counts.bytes_are, c.requires.fits.1))

pub returns-clause-drove : goal.returns-clause-drove
returns-clause-drove g c =
    let counts = c.in-Ok.ensures.counts in
    let noted = c.in-Ok.ensures.carried in
    let run : Run = record {
      start = c.args.link.now.window.stop;
      bytes = c.args.bytes.items;
      instant = c.take_piece.new.core.latest;
      room =
          vec_capacity c.args.bytes;
    } in
    λ left written.
    drove-took (g.C.Clock.reported c.args.clock.now) c.args.link.now _ c.args.bytes.items left written (g.N.Notes.events c.args.notes.now) _ noted.more
    noted.noted
    (drives-kept c.args.link.now _ run c.requires.held c.requires.idle c.requires.fits.0 refl counts.bytes_are counts.position c.in-Ok.ensures.kept refl refl
    refl refl (g.C.Clock.reported c.args.clock.now) noted.more written c.requires.room.0
    c.requires.unknown noted.keeps noted.end)
    (record { found = omega (arith, counts.position); cuts = counts.cuts; written = omega arith; ended = omega arith }) (omega (arith, counts.bytes_are))
    (omega (arith, counts.position, counts.cuts, c.requires.fits.0))
