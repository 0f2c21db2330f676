-- The source's end is one more event, or none where the ending is known.
use Rattle.std.proofs.Common.{◌≡◌, None, refl, ap, sym, ◌∙◌}
use Rattle.std.specs.Prelude.{is_none, is_some}
use Rattle.tox_link.specs.link_core.Core.{core_ending}
use Rattle.tox_link.proofs.DriveLemmas.{drove-ended, drove-shut}
use Rattle.tox_link.proofs.SideLemmas.{known-some}
use Rattle.tox_link.proofs.direction.reading_on.end_source.Goals as goal

pub returns-in_err-take_end-clause-drove : goal.returns-in_err-take_end-clause-drove
returns-in_err-take_end-clause-drove g c =
    let refused = c.in_err-take_end.ensures.err in
    λ bytes left written over.
    drove-shut (g.C.Clock.reported c.args.clock.now) c.args.link.now _ bytes left written (g.N.Notes.events c.args.notes.now) _ c.requires.held c.requires.idle
    c.requires.going refl refl refl refl refused.1 refl refused.0

pub returns-in_default-clause-drove : goal.returns-in_default-clause-drove
returns-in_default-clause-drove g c =
    let counts = c.in_ok-take_end.ensures.counts in
    let noted = c.in_ok-take_end.ensures.carried in
    let never = λ (none : core_ending c.args.link.now.core ≡ None). c.in_default.not-None (c.ending-ending.ensures.value ∙ none) in
    let open_source = c.requires.held.unheard c.requires.going in
    λ bytes left written over.
    drove-ended (g.C.Clock.reported c.args.clock.now) c.args.link.now _ bytes left written (g.N.Notes.events c.args.notes.now) _ c.requires.held c.requires.idle
    c.requires.going refl refl refl refl noted.more counts.bytes_are counts.position counts.cuts noted.noted noted.keeps
    (noted.end ∙ known-some _ never ∙ sym (ap is_some open_source)) (λ none. absurd (never none)) (λ known. open_source)

pub returns-clause-drove : goal.returns-clause-drove
returns-clause-drove g c =
    let counts = c.in_ok-take_end.ensures.counts in
    let noted = c.in_ok-take_end.ensures.carried in
    let unknown = sym c.ending-ending.ensures.value ∙ c.in-None.is in
    λ bytes left written over.
    drove-ended (g.C.Clock.reported c.args.clock.now) c.args.link.now _ bytes left written (g.N.Notes.events c.args.notes.now) _ c.requires.held c.requires.idle
    c.requires.going refl refl refl refl noted.more counts.bytes_are counts.position counts.cuts noted.noted noted.keeps
    (noted.end ∙ ap is_none unknown ∙ sym c.requires.why) (λ none. over) (λ never. absurd (never unknown))
