-- What the reader's structs stand for.
use Rattle.std.specs.declared.alloc.Global.{Global}
use Rattle.std.specs.Prelude.{Box, [], Option, Some, None, option_map, string_bytes, unwrap_or}
use Rattle.toml.specs.View.{items_view, view}
use Rattle.tox_script.specs.chains.Toxics.{RuleToxics, toxics_of}
use Rattle.tox_script.specs.fields.Document.{DocumentFields}
use Rattle.tox_script.specs.Rule.{Rule, RuleFields}
use Rattle.tox_script.specs.chains.Toxic.{NamedToxic, default_name}
use Rattle.tox_script.specs.fields.ToxicFields.{ToxicFields}
use Rattle.tox_script.specs.declared.chains.rule_toxics.RuleToxics.{RuleToxics as OwnedToxics}
use Rattle.tox_script.specs.declared.fields.document.DocumentFields.{DocumentFields as LentDocumentFields}
use Rattle.tox_script.specs.declared.chains.named_toxic.NamedToxic.{NamedToxic as LentToxic}
use Rattle.tox_script.specs.declared.rule.Rule.{Rule as OwnedRule}
use Rattle.tox_script.specs.declared.fields.rule_fields.RuleFields.{RuleFields as LentRuleFields}
use Rattle.tox_script.specs.declared.fields.toxic_fields.ToxicFields.{ToxicFields as LentFields}
use Rattle.tox_words.specs.declared.lanes.Lanes.{Lanes}

-- the fields that a document's lent ones stand for
abbrev pub document_view : LentDocumentFields → DocumentFields
document_view fields =
    record { settings = fields.settings; rules = items_view fields.rules.now }

-- the fields that lent ones stand for
abbrev pub fields_view : LentFields → ToxicFields
fields_view fields = record {
  name = option_map (λ name. name.now) fields.name;
  type_name = fields.type_name.now;
  stream = fields.stream;
  toxicity = option_map (λ value. view value.now) fields.toxicity;
  attributes = option_map (λ value. view value.now) fields.attributes;
}

-- the toxic that one with a lent name stands for
abbrev pub toxic_view : LentToxic → NamedToxic
toxic_view toxic = record {
  stream = toxic.stream;
  entry = toxic.entry;
  name = unwrap_or (option_map (λ name. name.now) toxic.given_name)
      (default_name toxic.entry.toxic toxic.stream);
  is_decimal = toxic.is_decimal;
}

-- the fields that a rule's lent ones stand for
abbrev pub rule_fields_view : LentRuleFields → RuleFields
rule_fields_view fields = record {
  proxy = fields.proxy.now;
  first = fields.first;
  last = fields.last;
  toxics = items_view fields.toxics.now;
}

-- the toxics that owned ones stand for
abbrev pub toxics_view : OwnedToxics → RuleToxics
toxics_view toxics = record {
  chains = toxics.chains;
  order = toxics.order.items;
  decimals = toxics.decimals.items;
}

-- the toxics that a rule of so many lanes holds: it holds nothing where it has no toxic
abbrev pub held_toxics : Lanes → Option (Box OwnedToxics Global) → RuleToxics
held_toxics lanes None = toxics_of lanes []
held_toxics lanes (Some toxics) = toxics_view toxics.value

-- the rule that one with a text of its own stands for: its chains have so many lanes
abbrev pub rule_view : Lanes → OwnedRule → Rule
rule_view lanes rule = record {
  proxy = string_bytes rule.proxy;
  first = rule.first;
  last = rule.last;
  chains = (held_toxics lanes rule.toxics).chains;
  order = (held_toxics lanes rule.toxics).order;
  decimals = (held_toxics lanes rule.toxics).decimals;
}
