use Rattle.std.proofs.Common.{ℕ, ◌+◌, ◌-◌, Bool, List, length, take, drop, refl, ap, ap₂, sym, ◌∙◌, inr, arith, if◌then◌else◌}
use Rattle.std.proofs.lemmas.Bool.{eq-eqb, ne_eqb}
use Rattle.tox_log.specs.files.EntryText.{entry_text}
use Rattle.tox_log.specs.files.LogSteps.{state_behind}
use Rattle.tox_log.specs.declared.files.log_state.LogState.TheVariants.{Done}
use Rattle.tox_log.proofs.files.Printed.{keeps-cut, printed-front, printed-whole}
use Rattle.tox_log.proofs.files.log_text.add_entry.Goals as goal
use Rattle.tox_log.proofs.files.log_text.add_entry.Goals.{then-is_whole, else-is_whole}

pub returns-then-may_wait-clause-adds : goal.returns-then-may_wait-clause-adds
returns-then-may_wait-clause-adds g c =
    let old = c.args.waiting.now.0 in
    let text = entry_text c.args.entry.now in
    let next = state_behind c.args.entry.now in
    let count = c.lines_within-count.result in
    let mid = c.print_entry.new.waiting.0 in
    let before = c.bytes-before.ensures in
    keeps-cut c.args.room count old text mid _ c.cut.new.self.0 next c.if-is_whole.result
    (printed-whole c.print_entry.result old mid text c.print_entry.new.waiting.1 c.print_entry.ensures
    (sym c.is_ok-printed.ensures.value ∙ c.if-printed.true))
    (ap₂ (λ (first all : List ℕ). take (length all - length first) (drop (length first) all)) before c.bytes.ensures)
    c.lines_within-count.ensures
    (ap (λ (log : List ℕ × Bool). log.0) c.cut.ensures ∙ ap (λ (some : List ℕ). take (length some + count) mid) before)
    (omega (arith, ap length before, c.may_wait.ensures.few c.if-may_wait.true))
    (elim c.if-is_whole.branch [
      | then-is_whole w ↦ w.result-is ∙ w.state_behind.ensures ∙ sym (ap (λ (whole : Bool). if whole then next else Done) (eq-eqb count _ w.if-is_whole.true))
      | else-is_whole w ↦ w.result-is ∙ sym (ap (λ (whole : Bool). if whole then next else Done) (ne_eqb count _ w.if-is_whole.false))
    ])

pub returns-clause-adds : goal.returns-clause-adds
returns-clause-adds g c =
    let old = c.args.waiting.now.0 in
    let mid = c.print_entry.new.waiting.0 in
    let text = entry_text c.args.entry.now in
    inr (
      ap (λ (log : List ℕ × Bool). log.0) c.cut-2.ensures
          ∙ ap (λ (some : List ℕ). take (length some) mid) c.bytes-before.ensures
          ∙ printed-front c.print_entry.result old mid text c.print_entry.new.waiting.1 c.print_entry.ensures,
      refl,
    )
