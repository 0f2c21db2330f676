-- The pictures are of the rows' logs, up to one instant.
use Rattle.std.proofs.Common.{◌++◌, ◌∙◌, List, ℕ, ap}
use Rattle.tox_draw.specs.Axes.{axis_of}
use Rattle.tox_draw.specs.pages.Sections.{both_section}
use Rattle.tox_draw.proofs.pages.conversations.both_text.Goals as goal

pub returns : goal.returns
returns g c = record {
  time = axis_of c.later-latest.result;
  upstream = c.in_ok-upstream.upstream;
  downstream = c.in_ok-downstream.downstream;
  above = c.in_ok-upstream.ensures;
  below = c.in_ok-downstream.ensures;
  is = c.in_ok-push_both_section.ensures.added
      ∙ ap (λ (front : List ℕ). front ++ both_section c.args.words.now c.args.number c.args.up.now.facts c.args.down.now.facts c.in_ok-upstream.upstream
      c.in_ok-downstream.downstream)
      c.new-text.ensures.bytes;
}
