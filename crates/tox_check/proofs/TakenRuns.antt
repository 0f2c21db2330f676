-- Runs of other rules.
use Rattle.std.proofs.Common.{◌≡◌, ℕ, ◌<◌, ◌≤◌, false, cond, not, List, [], ◌∷◌, max, arith, refl, ap, ◌∙◌}
use Rattle.tox_check.specs.Coverage.{meets_rule, own_of, taken_of}
use Rattle.tox_check.specs.Summary.{greatest}
use Rattle.tox_check.specs.declared.run.Run.{Run}

-- the greatest number isn't below the first
pub from_first : (rule : ℕ) (runs : List Run) → rule ≤ greatest rule runs
from_first rule [] = omega arith
from_first rule (run ∷ runs) = let h : max rule run.rule ≤ greatest (max rule run.rule) runs = from_first (max rule run.rule) runs in omega arith

-- a run of another rule
other : (rule : ℕ) (run : Run) → run.rule < rule → meets_rule rule run ≡ false
other rule run below = grind arith

-- runs of rules before one
pub none_own : (rule first : ℕ) (runs : List Run) → greatest first runs < rule → own_of rule runs ≡ []
none_own rule first [] below = refl
none_own rule first (run ∷ runs) below =
    let h : max first run.rule ≤ greatest (max first run.rule) runs = from_first (max first run.rule) runs in
    ap (λ b. cond b (run ∷ own_of rule runs) (own_of rule runs)) (other rule run (omega arith)) ∙ none_own rule (max first run.rule) runs below

pub all_taken : (rule first : ℕ) (runs : List Run) → greatest first runs < rule → taken_of rule runs ≡ runs
all_taken rule first [] below = refl
all_taken rule first (run ∷ runs) below =
    let h : max first run.rule ≤ greatest (max first run.rule) runs = from_first (max first run.rule) runs in
    ap (λ b. cond (not b) (run ∷ taken_of rule runs) (taken_of rule runs)) (other rule run (omega arith))
    ∙ ap (λ rest. run ∷ rest) (all_taken rule (max first run.rule) runs below)
