-- The rules so far, one for each table before the index, and the tables that are left give what all give.
use Rattle.std.proofs.Common.{◌≡◌, [], drop, length, map}
use Rattle.toml.specs.View.{items_view}
use Rattle.tox_script.specs.Script.{rules_from}
use Rattle.tox_script.specs.Views.{rule_view}
use Rattle.tox_script.proofs.script.read_rules.Given as goal

abbrev pub invariant-loop-index : goal.invariant-loop-index
invariant-loop-index l = record {
  count : length l.rules.items ≡ l.index;
  left : rules_from l.settings (map (rule_view l.settings.lanes) l.rules.items) (items_view (drop l.index l.tables))
      ≡ rules_from l.settings [] (items_view l.tables);
}
