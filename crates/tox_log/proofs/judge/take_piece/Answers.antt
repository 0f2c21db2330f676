-- The core has taken the piece.
use Rattle.std.proofs.Common.{ap, sym, ◌∙◌, ◌+◌, ◌∷◌}
use Rattle.tox_time.specs.declared.streams.item.Item.TheVariants.{Chunk}
use Rattle.tox_time.specs.streams.Table.{table, ending}
use Rattle.tox_link.specs.link_core.Core.{remaining_output}
use Rattle.tox_log.specs.Judging.{rest_table}
use Rattle.tox_log.proofs.Judging.{keeps-taken, piece-follows}
use Rattle.tox_log.proofs.judge.take_piece.Goals as goal

pub returns-clause-hears : goal.returns-clause-hears
returns-clause-hears c = λ means reported log says follows.
    let judge = c.args.judge.now in
    let len = c.args.len in
    let instant = c.args.instant.now in
    let bytes = sym (c.requires.held.live c.requires.live) in
    piece-follows means reported judge.core judge.heard judge.latest judge.ended judge.said log c.on_piece.new.self (rest_table judge.rest) len instant
    c.requires.later c.requires.fits.0 says c.requires.fits.1 c.requires.going
    (λ kept open_yet _. keeps-taken judge.core c.on_piece.new.self log len instant c.in-Ok.ensures.taken (kept open_yet c.requires.live))
    (λ items. ap table (c.in-Ok.ensures.output items) ∙ ap (λ at. table
    (remaining_output judge.core (Chunk (record { start = at; stop = at + len }) instant ∷ items))) bytes)
    (λ items. ap ending (c.in-Ok.ensures.output items) ∙ ap (λ at. ending
    (remaining_output judge.core (Chunk (record { start = at; stop = at + len }) instant ∷ items))) bytes)
    follows
