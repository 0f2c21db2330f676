-- The connections that a rule is for.
use Rattle.std.specs.Prelude.{ℕ, List, Option}
use Rattle.tox_script.specs.Rule.{Rule}
use Rattle.tox_script.specs.declared.scope.Scope.{Scope}

-- the name of a proxy, and a first and a last connection
pub record RuleScope : Type 0 where
  pub proxy : List ℕ
  pub first : ℕ
  pub last : Option ℕ

-- the scope of a rule
abbrev pub scope_of : Rule → RuleScope
scope_of rule = record { proxy = rule.proxy; first = rule.first; last = rule.last }

-- the scope that a lent one stands for
abbrev pub scope_view : Scope → RuleScope
scope_view scope =
    record { proxy = scope.proxy.now; first = scope.first; last = scope.last }
