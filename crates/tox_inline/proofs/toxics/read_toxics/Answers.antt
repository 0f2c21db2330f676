-- One toxic more.
use Rattle.std.proofs.Common.{◌+◌, List, [], drop, get_or, ap, sym, ◌∙◌}
use Rattle.std.proofs.lemmas.Result.{err_from_is_err_and}
use Rattle.tox_time.specs.declared.streams.stream.Stream.TheVariants.{Upstream}
use Rattle.tox_text.proofs.Listed.{IsAt-read}
use Rattle.tox_inline.specs.Toxics.{typed_behind, typed_toxics}
use Rattle.tox_inline.specs.declared.toxics.InlineToxic.{InlineToxic}
use Rattle.tox_inline.specs.declared.toxics.NumberedToxic.{NumberedToxic}
use Rattle.tox_inline.proofs.TypedToxics.{typed_toxics-all, typed_toxics-more, typed_toxics-refused}
use Rattle.tox_inline.proofs.toxics.read_toxics.Goals as goal

-- what is read past the end
abbrev no_toxic : InlineToxic
no_toxic = record { stream = Upstream; short = record { ref_ptr = (0, 0); now = [] } }

pub loop-toxic-preserved : goal.loop-toxic-preserved
loop-toxic-preserved c =
    let toxics = c.args.toxics.now in
    let turn = c.loop-toxic in
    let toxic = get_or toxics turn.toxic-index no_toxic in
    let here = IsAt-read toxics turn.toxic-index no_toxic c.loop-toxic-test.true in
    let read = c.in_ok-next.ensures ∙ ap (λ (earlier : List NumberedToxic). typed_behind earlier toxic) c.deref.ensures.value in
    turn.invariant
    ∙ typed_toxics-more turn.read.items toxics turn.toxic-index toxic c.in_ok-next.next here read
    ∙ ap (λ (earlier : List NumberedToxic). typed_toxics earlier (drop (turn.toxic-index + 1) toxics)) (sym c.in_ok-push.ensures.items)

pub returns-in_err-next-clause-fault : goal.returns-in_err-next-clause-fault
returns-in_err-next-clause-fault c =
    let exit = err_from_is_err_and c.from_residual.result c.from_residual.ensures.1 in
    let toxics = c.args.toxics.now in
    let turn = c.loop-toxic in
    let toxic = get_or toxics turn.toxic-index no_toxic in
    let here = IsAt-read toxics turn.toxic-index no_toxic c.loop-toxic-test.true in
    let refused = c.in_err-next.ensures ∙ ap (λ (earlier : List NumberedToxic). typed_behind earlier toxic) c.deref.ensures.value in
    rw (exit.1, exit.2) (turn.invariant ∙ typed_toxics-refused turn.read.items toxics turn.toxic-index toxic _ here refused)

pub returns-clause-ok : goal.returns-clause-ok
returns-clause-ok c =
    c.loop-toxic.invariant ∙ typed_toxics-all c.loop-toxic.read.items c.args.toxics.now c.loop-toxic.toxic-index c.loop-toxic-test.false
