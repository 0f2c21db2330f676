-- The picture is of the row's log.
use Rattle.std.proofs.Common.{◌++◌, ◌∙◌, List, ℕ, ap}
use Rattle.tox_draw.specs.Axes.{axis_of}
use Rattle.tox_draw.specs.pages.Sections.{one_section}
use Rattle.tox_draw.proofs.pages.conversations.one_text.Goals as goal

pub returns : goal.returns
returns g c = record {
  time = axis_of c.latest_in-latest.result;
  picture = c.in_ok-picture.picture;
  drawn = c.in_ok-picture.ensures;
  is = c.in_ok-push_one_section.ensures.added
      ∙ ap (λ (front : List ℕ). front ++ one_section c.args.words.now c.args.number c.args.row.now.facts c.in_ok-picture.picture) c.new-text.ensures.bytes;
}
