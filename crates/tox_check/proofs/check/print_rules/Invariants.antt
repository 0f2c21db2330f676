-- The lines of the first rules have passed, and they are counted.
use Rattle.std.proofs.Common.{Ok, ◌≡◌, flat_map, length, take}
use Rattle.std.specs.List.{enumerate_from}
use Rattle.tox_text.specs.Printing.{Prints}
use Rattle.tox_check.specs.Checking.{held}
use Rattle.tox_check.specs.Lines.{rule_lines}
use Rattle.tox_check.specs.Printing.{joined_lines}
use Rattle.tox_check.specs.Trees.{runs_named}
use Rattle.tox_check.proofs.check.print_rules.Given as goal

abbrev pub invariant-loop-rule : goal.invariant-loop-rule
invariant-loop-rule g l = record {
  passed : Prints g.W.Sink (Ok tt) l.fn.printer l.printer
      (flat_map (λ numbered. joined_lines (rule_lines l.setup.proxies.items (runs_named l.setup.proxies.items l.trees) numbered.0 numbered.1))
      (take l.rule (enumerate_from 1 l.setup.script.rules)));
  counted : l.warned
      ≡ held (length (flat_map (λ numbered. rule_lines l.setup.proxies.items (runs_named l.setup.proxies.items l.trees) numbered.0 numbered.1)
      (take l.rule (enumerate_from 1 l.setup.script.rules))));
}
