use Rattle.std.proofs.Common.{◌+◌, ◌∙◌, arith, rules, tests}
use Rattle.std.proofs.lemmas.Bool.Decides.{nat_tests}
use Rattle.std.proofs.lemmas.Result.{err_from_is_err_and}
use Rattle.tox_text.proofs.Writes.{AppendsFront-take, written_more, within_more}
use Rattle.tox_text.proofs.printer.write_all.Goals as goal

pub loop-sent-preserved : goal.loop-sent-preserved
loop-sent-preserved g c =
    let wrote = c.in_ok-count.ensures in record {
      working = wrote.working ∙ grind (arith, nat_tests);
      within = within_more _ _ _ c.loop-sent.invariant.within wrote.count;
      written = written_more _ _ _ _ _ _ c.loop-sent.invariant.written wrote.bytes;
    }

pub returns-in_err-count : goal.returns-in_err-count
returns-in_err-count g c =
    let exit = err_from_is_err_and c.from_residual.result c.from_residual.ensures.1 in
    rw exit.1 (
      AppendsFront-take _ _ c.args.bytes.now c.loop-sent.sent (c.in_err-count.ensures.kept ∙ c.loop-sent.invariant.written),
      c.in_err-count.ensures.fault,
    )

pub returns-then-count-eq0 : goal.returns-then-count-eq0
returns-then-count-eq0 g c = (
  AppendsFront-take _ _ c.args.bytes.now (c.loop-sent.sent + c.in_ok-count.count)
      (written_more _ _ _ _ _ _ c.loop-sent.invariant.written c.in_ok-count.ensures.bytes),
  search (rules, tests),
)
