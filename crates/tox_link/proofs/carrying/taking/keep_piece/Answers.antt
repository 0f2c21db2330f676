-- A piece that is kept is one more event.
use Rattle.std.proofs.Common.{refl, append-nil, sym, ◌∙◌}
use Rattle.tox_link.specs.declared.ring.message.Message.TheVariants.{Piece}
use Rattle.tox_link.proofs.LoggedLemmas.{logged-on}
use Rattle.tox_link.proofs.SideLemmas.{some-known, sound-kept, sound-dropped}
use Rattle.tox_link.proofs.carrying.taking.keep_piece.Goals as goal

pub returns-in_default-clause-ok : goal.returns-in_default-clause-ok
returns-in_default-clause-ok g c =
    let came = c.requires.came in
    sound-dropped c.args.side.now c.args.side.now came.before _ (Piece c.args.bytes) came.sound came.going
    (some-known _ (λ none. c.in_default.not-None (c.ending.ensures.value ∙ none))) came.came refl refl refl refl refl refl

pub returns-clause-ok : goal.returns-clause-ok
returns-clause-ok g c =
    let came = c.requires.came in
    let counts = c.in_ok-take_piece.ensures.counts in
    sound-kept c.args.side.now _ came.before _ (Piece c.args.bytes) c.args.bytes.items _ came.sound came.going (sym c.ending.ensures.value ∙ c.in-None.is)
    came.came refl
    (append-nil c.args.bytes.items) came.allowed.1 counts.bytes_are counts.ended_is counts.position c.in_ok-take_piece.ensures.kept refl refl refl refl refl

pub returns-clause-log : goal.returns-clause-log
returns-clause-log g c =
    let noted = c.in_ok-take_piece.ensures.carried in
    record {
      more = noted.more;
      noted = noted.noted;
      keeps = logged-on (g.C.Clock.reported c.args.clock.now) c.args.side.now _ noted.more noted.keeps noted.end
          refl;
    }
