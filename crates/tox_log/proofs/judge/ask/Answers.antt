-- The core's answer is what is next.
use Rattle.std.proofs.Common.{◌≡◌, ◌++◌, [], ◌∷◌, IsSome, ap, sym, subst, ◌∙◌, append-nil, arith}
use Rattle.std.specs.Prelude.{slice_get, None}
use Rattle.tox_time.specs.declared.streams.item.Item.TheVariants.{Quiet}
use Rattle.tox_time.specs.streams.Table.{table}
use Rattle.tox_link.specs.link_core.Acts.{After}
use Rattle.tox_link.specs.link_core.Core.{core_deadline, core_ending, core_position, next_instant, remaining_output}
use Rattle.tox_log.specs.Judging.{AddsUp, IsRest, rest_table, slice_in}
use Rattle.tox_link.proofs.Depths.{keeps-still}
use Rattle.tox_link.proofs.SideLemmas.{unknown-before}
use Rattle.tox_log.proofs.Judging.{asked-behind, asked-follows}
use Rattle.tox_log.proofs.Refusing.{asked-table, due-is-given}
use Rattle.tox_log.proofs.RefusingEndings.{idle-gives_none}
use Rattle.tox_log.proofs.judge.ask.Goals as goal

pub returns-clause-next : goal.returns-clause-next
returns-clause-next c =
    let core = c.args.judge.now.core in
    let new = c.on_clock-act.new.self in
    let after : After core c.args.reading.now c.on_clock-act.result new = c.on_clock-act.ensures.answered.output in
    ap (λ rest. rest_table rest ++ table (remaining_output new (Quiet ∷ []))) c.slice_in-judge.ensures
    ∙ asked-table core new c.args.reading.now c.on_clock-act.result after
    ∙ sym (ap (λ rest. rest_table rest ++ table (remaining_output core (Quiet ∷ []))) c.requires.none)

pub returns-clause-finds : goal.returns-clause-finds
returns-clause-finds c = λ due first before.
    let core = c.args.judge.now.core in
    let next = sym (ap (λ rest. slice_get (rest_table rest ++ table (remaining_output core (Quiet ∷ []))) 0) c.requires.none) ∙ first in
    subst IsSome (sym c.slice_in-judge.ensures) (due-is-given due c.args.reading.now c.on_clock-act.result (c.on_clock-act.ensures.answered.slice due next)
    before)

pub returns-clause-all : goal.returns-clause-all
returns-clause-all c = λ none.
    let core = c.args.judge.now.core in
    let idle : next_instant (remaining_output core (Quiet ∷ [])) ≡ None =
    ap (λ ts. slice_get ts 0) (sym (ap (λ rest. rest_table rest ++ table (remaining_output core (Quiet ∷ []))) c.requires.none) ∙ none) in (
      c.slice_in-judge.ensures ∙ ap slice_in (c.on_clock-act.ensures.answered.idle idle)
          ∙ idle-gives_none core.ended c.args.reading.now (core_deadline core) (core_ending c.on_clock-act.new.self),
      c.on_clock-act.ensures.answered.unended idle,
    )

pub returns-clause-stays : goal.returns-clause-stays
returns-clause-stays c = λ means reported front start log follows.
    let judge = c.args.judge.now in
    let new = c.on_clock-act.new.self in
    let act = c.on_clock-act.result in
    let answered = c.on_clock-act.ensures.answered in
    let after : After judge.core judge.latest act new = subst (λ t. After judge.core t act new) (sym c.requires.now) answered.output in
    let bare : AddsUp means reported judge.core front judge.heard judge.latest judge.ended start log
    = subst (λ given. AddsUp means reported judge.core given judge.heard judge.latest judge.ended start log)
    (ap (λ rest. front ++ rest_table rest) c.requires.none ∙ append-nil front) follows in
    subst (λ rest. AddsUp means reported new (front ++ rest_table rest) judge.heard judge.latest judge.ended start log) (sym c.slice_in-judge.ensures)
    (asked-follows means reported judge.core judge.heard judge.latest judge.ended start log new front act
    (λ kept going unknown. keeps-still judge.core new log (answered.given_up unknown) (kept going (unknown-before judge.core new answered.kept unknown))) after
    bare)

pub returns-clause-deep : goal.returns-clause-deep
returns-clause-deep c = λ going full.
    let judge = c.args.judge.now in
    let at : judge.said ≡ core_position judge.core = subst (λ rest. IsRest rest judge.said (core_position judge.core)) c.requires.none c.requires.held.rest in
    asked-behind judge.core c.on_clock-act.new.self c.args.reading.now c.on_clock-act.result judge.said c.on_clock-act.ensures.answered at (omega (arith, full))
