use Rattle.std.proofs.Common.{◌++◌, ap, sym, ◌∙◌}
use Rattle.tox_log.specs.declared.files.log_text.LogText.{LogText}
use Rattle.tox_log.specs.files.EntryText.{entry_text}
use Rattle.tox_log.specs.files.LogSteps.{state_behind}
use Rattle.tox_log.proofs.files.Steps.{log-entry, log-of}
use Rattle.tox_log.proofs.files.log_text.LogText.add.Goals as goal

pub returns-clause-log : goal.returns-clause-log
returns-clause-log g c = λ taken reported log.
    let old = c.args.self.now in
    let new = c.grow.new.self in
    let text = entry_text c.args.entry.now in
    let grown = log-entry old.most old.taken reported text taken old.waiting.0 new.waiting.0 old.state (state_behind c.args.entry.now) new.state
    log.counted c.grow.ensures.adds c.grow.ensures.ended log.bytes in record {
      counted = log.counted ∙ sym c.grow.ensures.kept.0 ∙ ap (λ (log : LogText). log.taken) (sym c.call.ensures.kept);
      bytes = log-of old.most c.call.new.self.most (reported ++ text) (taken ++ new.waiting.0) (taken ++ c.call.new.self.waiting.0) new.state
          c.call.new.self.state
          (ap (λ (log : LogText). log.most) c.call.ensures.kept ∙ c.grow.ensures.kept.1)
          (ap (λ (log : LogText). taken ++ log.waiting.0) c.call.ensures.kept)
          (ap (λ (log : LogText). log.state) c.call.ensures.kept)
          grown;
    }
