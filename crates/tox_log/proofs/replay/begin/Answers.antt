-- The plan of the chain, with the words of the stream.
use Rattle.std.proofs.Common.{[], true, inl, refl, ◌∙◌, ap}
use Rattle.tox_compile.specs.Meaning.{means}
use Rattle.tox_defs.specs.Flow.{chain_flow}
use Rattle.std.proofs.lemmas.List.Elements.{All-nil}
use Rattle.tox_log.specs.declared.event_line.LogLine.TheVariants.{Event}
use Rattle.tox_log.specs.Lines.{IsWritable}
use Rattle.tox_log.proofs.replay.begin.Goals as goal

pub returns-clause-begins : goal.returns-clause-begins
returns-clause-begins c = record {
  means = means c.compile-plan.result c.in_ok-words.words;
  meaning = λ items stream. c.compile-plan.ensures.means items stream
      ∙ ap (λ chain. chain_flow chain c.in_ok-words.words items) c.chain.ensures
      ∙ ap (λ words. chain_flow c.args.log.now.chain words items) c.in_ok-words.ensures;
  says = λ start. inl (
    refl,
    record {
      events = [];
      written = All-nil (λ event. IsWritable (Event event));
      lines = refl;
      source_end = refl;
      judged =
          λ reported all. c.in_ok-begin.ensures.judged reported;
      count = refl;
      late = c.new.ensures;
    },
  );
  unfinished = refl;
}

pub returns-clause-judged : goal.returns-clause-judged
returns-clause-judged c = (means c.compile-plan.result c.in_ok-words.words, c.in_ok-begin.ensures.judged (λ reading. true))
