-- What has the flow's table and ending, every run at rest delivered.
use Rattle.std.proofs.Common.{◌≡◌, rules}
use Rattle.std.specs.Io.KnownBytes.{append_known}
use Rattle.tox_time.specs.streams.Arrivals.{arrival_list}
use Rattle.tox_time.specs.streams.Table.{IsOutcomeOf, slices_table}
use Rattle.tox_defs.specs.Flow.{chain_flow}
use Rattle.tox_text.specs.ResultText.{result_text}
use Rattle.tox_runs.proofs.CheckedText.{at_checked}
use Rattle.tox_runs.proofs.EveryRest.{result_of_every_rest}
use Rattle.tox_runs.proofs.runs.stages.stages_run.Goals as goal

pub returns-clause-ok : goal.returns-clause-ok
returns-clause-ok g c =
    let checked = c.in-Ok.ensures.checked in
    let outcome = c.in-Ok-run_stages.outcome in
    let wrote = at_checked _ _ _ checked c.deref-2.ensures.value c.write_outcome.ensures in
    let written : g.W.Sink.written c.write_outcome.new.writer ≡ append_known (g.W.Sink.written c.args.writer.now)
    (result_text checked.arrived (slices_table outcome.slices) outcome.ending) = search rules in
    let listed = at_checked _ _ _ checked c.deref.ensures.value c.in-Ok-list_arrivals.ensures in
    let of : IsOutcomeOf (chain_flow c.args.chain.now c.args.words.now (arrival_list checked.arrived.items)) outcome =
    rw listed at c.in-Ok-run_stages.ensures.flow in
    record {
      arrived = checked.arrived;
      read = record { text = c.in-Ok.input.text.items; read = c.in-Ok.ensures.read; spelled = checked.spelled };
      written = rw (of.tables, of.endings) at written;
    }

pub returns-clause-every_run : goal.returns-clause-every_run
returns-clause-every_run g c = result_of_every_rest c.args.chain.now c.args.words.now _ _ _ _ (returns-clause-ok g c)

pub returns-clause-working : goal.returns-clause-working
returns-clause-working g c =
    let wrote = at_checked _ _ _ c.in-Ok.ensures.checked c.deref-2.ensures.value c.write_outcome.ensures in
    λ other. search rules

pub returns-then-is_err-clause-fault : goal.returns-then-is_err-clause-fault
returns-then-is_err-clause-fault g c =
    let wrote = at_checked _ _ _ c.in-Ok.ensures.checked c.deref-2.ensures.value c.write_outcome.ensures in
    record { cause = search rules; left = search rules }
