-- The rules of a script, by their numbers from 1.
use Rattle.std.proofs.Common.{◌≡◌, ℕ, ◌+◌, ◌<◌, List, [], get_or, length, None, arith, sym, ap, ◌∙◌}
use Rattle.std.specs.List.{enumerate_from}
use Rattle.std.proofs.lemmas.List.FromFn.{get_or-enumerate_from, length-enumerate_from}
use Rattle.tox_text.proofs.Listed.{IsAt}
use Rattle.tox_script.specs.Rule.{Rule}
use Rattle.tox_script.specs.chains.Chains.{no_chains}
use Rattle.tox_words.specs.declared.lanes.Lanes.TheVariants.{Sixteen}

-- a rule of no connection, where there is no other
abbrev pub no_rule : Rule
no_rule = record { proxy = []; first = 0; last = None; chains = no_chains Sixteen; order = []; decimals = [] }

-- the rule of a number from 0, and its number from 1
pub IsAt-numbered : (rules : List Rule) (number : ℕ) → number < length rules → IsAt (enumerate_from 1 rules) number (number + 1, get_or rules number no_rule)
IsAt-numbered rules number below =
    let same : 1 + number ≡ number + 1 = omega arith in
    record {
      below = omega (arith, length-enumerate_from 1 rules, below);
      default = (0, no_rule);
      is = sym (get_or-enumerate_from 1 rules number (0, no_rule) below ∙ ap (λ (n : ℕ). (n, get_or rules number no_rule)) same);
    }
