-- The header, and then the lines behind it.
use Rattle.std.proofs.Common.{◌≡◌, List, refl, ap, ◌∙◌}
use Rattle.tox_time.specs.declared.streams.item.Item.{Item}
use Rattle.tox_time.specs.streams.Stream.{IsStream}
use Rattle.tox_words.specs.Seeded.{seeded_words}
use Rattle.tox_defs.specs.Flow.{chain_flow}
use Rattle.tox_plan.specs.RunnerView.{to_come}
use Rattle.tox_draw.specs.declared.link_end.LinkEnd.TheVariants.{Missing}
use Rattle.tox_draw.specs.declared.recorded.Hearing.{Hearing}
use Rattle.tox_draw.specs.declared.recorded.Record.{Record}
use Rattle.tox_draw.specs.Recorded.{LogText}
use Rattle.tox_draw.proofs.HeardLines.{begins-hearing, records-log, says-log}
use Rattle.tox_draw.proofs.recorded.record_of.Goals as goal

pub returns : goal.returns
returns g c =
    let frame = c.args.frame.now in
    let log = c.in_ok-log.log in
    let opens = c.in_ok-log.ensures.opens in
    let words = seeded_words log.heading.seed log.heading.number log.heading.stream in
    let means : List Item → List Item = λ (items : List Item). chain_flow log.chain words items in
    let runner = c.new-runner.result in
    let new = c.new-runner.ensures in
    let output : (items : List Item) → IsStream items → to_come runner items ≡ means items =
    λ (items : List Item) (stream : IsStream items). new.to_come items stream ∙ c.compile.ensures.means items stream
    ∙ ap (λ chain. chain_flow chain c.in_ok-words.words items) c.chain-2.ensures ∙ ap (λ words. chain_flow log.chain words items) c.in_ok-words.ensures in
    let fresh = c.in_ok-new.ensures in
    let strands = fresh.drawn frame in
    let begun : Hearing = record { strands = c.in_ok-new.field-0; written = c.in_ok-new-2.field-0; end = Missing 0; latest = 0 } in
    let begins = begins-hearing frame means log begun runner opens.going opens.start output new.start.0 new.start.2 new.start.3 new.start.4 strands.0 strands.1
    (c.in_ok-new-2.ensures frame) fresh.ended.0 refl refl in
    let all = c.in_ok-hear_lines.ensures.hears means begins in
    let hearing = c.hear_lines.new.hearing in
    let after = c.hear_lines.new.runner in
    let reported : LogText = record {
      heading = log.heading;
      chain = log.chain;
      events = all.events;
      source_reset = hearing.strands.source_reset;
      last =
          all.last;
    } in
    let kept : Record = record {
      forms = c.in_ok-forms.forms;
      strands = hearing.strands;
      due_end = c.ending_of.result;
      written = hearing.written;
      end =
          hearing.end;
    } in record {
      log = reported;
      says = says-log frame means (g.R.Source.remaining c.args.reader.now) (g.R.Source.remaining c.new.new.reader) log hearing after opens all;
      records = records-log frame means reported all.position hearing after c.ending_of.result kept all.heard refl c.ending_of.ensures refl refl refl refl refl;
    }
