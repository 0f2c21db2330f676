-- What a contract sees of a `Script`, and what its fields keep.
use Rattle.std.specs.Prelude.{◌≡◌, map}
use Rattle.tox_script.specs.chains.Chains.{no_chains}
use Rattle.tox_script.specs.Rule.{Rules}
use Rattle.tox_script.specs.Views.{rule_view}
use Rattle.tox_script.specs.declared.script.Script.TheInside.{Inside}

-- the settings, and the rules in order
abbrev pub rules_of : Inside → Rules
rules_of script =
    record { settings = script.settings; rules = map (rule_view script.settings.lanes) script.rules.items }

-- what a connection meets that no rule covers
abbrev pub HasNothing : Inside → Type 0
HasNothing script = script.nothing ≡ no_chains script.settings.lanes
