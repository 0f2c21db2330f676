-- The source's end is one more event, or none where the ending is known.
use Rattle.std.proofs.Common.{◌≡◌, false, refl, ap, sym, ◌∙◌}
use Rattle.std.specs.Prelude.{is_some, is_none}
use Rattle.tox_link.specs.link_core.Core.{core_ending}
use Rattle.tox_link.proofs.LoggedLemmas.{logged-on, logged-end}
use Rattle.tox_link.proofs.SideLemmas.{known-some, open-source, open-none, sound-ended}
use Rattle.tox_link.proofs.carrying.taking.keep_end.Goals as goal

pub returns-in_default-clause-ok : goal.returns-in_default-clause-ok
returns-in_default-clause-ok g c =
    let came = c.requires.came in
    let counts = c.in_ok-take_end.ensures.counts in
    sound-ended c.args.side.now _ came.before _ c.args.end came.sound came.going came.came refl counts.bytes_are counts.position refl refl
    (λ last reported. absurd (open-source c.args.side.now came.before last came.sound came.going reported))

pub returns-in_default-clause-log : goal.returns-in_default-clause-log
returns-in_default-clause-log g c =
    let noted = c.in_ok-take_end.ensures.carried in
    let none : is_none (core_ending c.args.side.now.core) ≡ false = known-some _ (λ none. c.in_default.not-None (c.ending.ensures.value ∙ none)) in
    record {
      more = noted.more;
      noted = noted.noted;
      keeps = logged-on (g.C.Clock.reported c.args.clock.now) c.args.side.now _ noted.more noted.keeps
          (noted.end ∙ none) refl;
    }

pub returns-clause-ok : goal.returns-clause-ok
returns-clause-ok g c =
    let came = c.requires.came in
    let counts = c.in_ok-take_end-2.ensures.counts in
    sound-ended c.args.side.now _ came.before _ c.args.end came.sound came.going came.came refl counts.bytes_are counts.position refl refl
    (λ last reported. ((cc (reported, c.in_ok-side.ensures)), sym c.ending.ensures.value ∙ c.in-None.is))

pub returns-clause-log : goal.returns-clause-log
returns-clause-log g c =
    let came = c.requires.came in
    let noted = c.in_ok-take_end-2.ensures.carried in
    record {
      more = noted.more;
      noted = noted.noted;
      keeps = logged-end (g.C.Clock.reported c.args.clock.now) c.args.side.now _ noted.more noted.keeps
          (open-none c.args.side.now came.before came.sound came.going)
          (noted.end ∙ ap is_none (sym c.ending.ensures.value ∙ c.in-None.is) ∙ sym (ap is_some c.in_ok-side.ensures));
    }
