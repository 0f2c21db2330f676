-- What a running stage takes is its operation's reaction to it.
use Rattle.std.proofs.Common.{rules, ◌≡◌, ◌∙◌, ap, sym, None, true}
use Rattle.tox_time.specs.declared.streams.item.Item.TheVariants.{Chunk}
use Rattle.tox_time.specs.streams.Table.{final_of}
use Rattle.tox_time.specs.streams.StreamPosition.{fits}
use Rattle.tox_defs.proofs.Places.{chunk_fits}
use Rattle.tox_defs.proofs.Stages.{took_chunk, took_final}
use Rattle.tox_defs.proofs.stage.Stage.take.Goals as goal
use Rattle.tox_defs.proofs.stage.Stage.take.Goals.{in-Closed, in-Reset, in-Quiet}

pub returns-then-not-self : goal.returns-then-not-self
returns-then-not-self c =
    let none : c.self.inside.cursor.ending ≡ None = search rules in
    let read : c.self.inside.start ≡ c.self.inside.cursor.stop = search rules in
    let is : c.args.item ≡ final_of c.match-item.ending =
    elim c.match-item.branch [
      | in-Closed w ↦ w.in-Closed.is ∙ ap final_of (sym w.ending-is)
      | in-Reset w ↦ w.in-Reset.is ∙ ap final_of (sym w.ending-is)
      | in-Quiet w ↦ w.in-Quiet.is ∙ ap final_of (sym w.ending-is)
    ] in
    rw (c.add_ending.ensures, c.after-self-inside.ensures)
    (took_final c.self.inside.drawing c.self.inside.start c.self.inside.cursor c.self.inside.place c.args.self.now c.args.item c.match-item.ending
    c.map_ending-last.result none read c.if-not-self.true c.self.view_is is c.map_ending-last.ensures)

pub returns-else-is_mute : goal.returns-else-is_mute
returns-else-is_mute c =
    let none : c.self.inside.cursor.ending ≡ None = search rules in
    let read : c.self.inside.start ≡ c.self.inside.cursor.stop = search rules in
    let span = c.in-Chunk.span in
    let t = c.in-Chunk.instant in
    let place : c.args.self.now.place ≡ c.self.inside.place = search rules in
    let follows : fits c.self.inside.place (Chunk span t) ≡ true =
    ap (λ place. fits place (Chunk span t)) (sym place) ∙ ap (λ item. fits c.args.self.now.place item) (sym c.in-Chunk.is) ∙ c.requires.fits in
    let facts = chunk_fits c.self.inside.place span t follows in
    rw (c.after-self-inside.ensures, c.in-Chunk.is)
    (took_chunk c.self.inside.drawing c.self.inside.start c.self.inside.cursor c.self.inside.place c.args.self.now span t none read c.self.view_is
    (facts.0 ∙ c.self.invariant.here ∙ sym read) facts.1)
