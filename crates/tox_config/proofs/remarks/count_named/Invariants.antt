-- What was counted, and what is left, is the whole.
use Rattle.std.proofs.Common.{◌≡◌, ◌≤◌, ◌+◌, drop}
use Rattle.serde_json.specs.View.{items_view}
use Rattle.tox_config.specs.Remarks.{count_named}
use Rattle.tox_config.proofs.remarks.count_named.Given as goal

abbrev pub invariant-loop-value : goal.invariant-loop-value
invariant-loop-value l = record {
  few : l.count ≤ l.value-index;
  counted : l.count + count_named l.name (items_view (drop l.value-index l.values)) ≡ count_named l.name (items_view l.values);
}
