-- The result of a chain's flow is that of every run of its stage network at rest.
use Rattle.std.proofs.Common.{ℕ, List, Option, sym, ◌∙◌, ap}
use Rattle.std.specs.Io.KnownBytes.{append_known}
use Rattle.tox_time.specs.streams.Arrivals.{arrival_list}
use Rattle.tox_time.specs.streams.Table.{ending, table}
use Rattle.tox_defs.specs.chain.Chain.{Toxics}
use Rattle.tox_defs.specs.Flow.{reactions_of}
use Rattle.tox_network.proofs.EveryRun.{every_rest_delivers}
use Rattle.tox_text.specs.ResultText.{result_text}
use Rattle.tox_runs.specs.runs.DryRun.{WritesEveryRest, WritesResult}

pub result_of_every_rest : (chain : Toxics) (words : List ℕ) (before after old new : Option (List ℕ)) → WritesResult chain words before after old new
    → WritesEveryRest chain words before after old new
result_of_every_rest chain words before after old new wrote = record {
  arrived = wrote.arrived;
  read = wrote.read;
  written = λ cap moves network room run rest.
      wrote.written ∙ ap (λ items. append_known old (result_text wrote.arrived (table items) (ending items)))
      (sym (every_rest_delivers cap (reactions_of chain words) (arrival_list wrote.arrived.items) moves network room run rest));
}
