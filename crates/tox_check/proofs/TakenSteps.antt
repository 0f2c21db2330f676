-- More runs, of which none is the rule's own and none is shown.
use Rattle.std.proofs.Common.{◌≡◌, ℕ, ◌+◌, ◌<◌, ◌≤◌, not, List, ◌++◌, append-nil, length, length-append, length-take, take, max, min, arith, sym, ap, ◌∙◌}
use Rattle.std.proofs.lemmas.List.{take-append-le}
use Rattle.std.proofs.lemmas.List.Elements.{filter-append}
use Rattle.std.proofs.lemmas.List.Sums.{fold-append}
use Rattle.tox_check.specs.Coverage.{meets_rule, own_of, taken_of}
use Rattle.tox_check.specs.Listed.{IsListed}
use Rattle.tox_check.specs.Summary.{Sums, greatest, least}
use Rattle.tox_check.specs.RuleRuns.{HasRuns}
use Rattle.tox_check.specs.declared.listed.Listed.{Listed}
use Rattle.tox_check.specs.declared.run.Run.{Run}
use Rattle.tox_check.specs.declared.rule_runs.RuleRuns.{RuleRuns}
use Rattle.tox_check.specs.declared.tree.Summary.{Summary}
use Rattle.tox_check.proofs.TakenRuns.{all_taken, none_own}

-- many more runs behind eight or more
IsListed-skip : (xs ys : List Run) (old new : Listed) → 8 ≤ length old.shown.items → new.shown.items ≡ old.shown.items → new.more ≡ old.more + length ys
    → IsListed xs old → IsListed (xs ++ ys) new
IsListed-skip xs ys old new full shown more is =
    let front : 8 ≤ length (take 8 xs) = rw (← is.shown) full in
    let many : 8 ≤ length xs = omega (arith, length-take 8 xs) in
    record {
      shown = shown ∙ is.shown ∙ sym (take-append-le 8 xs ys many);
      more = let before = is.more in omega (arith, length-append xs ys);
    }

own_of-append : (rule : ℕ) (runs more : List Run) → own_of rule (runs ++ more) ≡ own_of rule runs ++ own_of rule more
own_of-append rule runs more = filter-append (meets_rule rule) runs more

taken_of-append : (rule : ℕ) (runs more : List Run) → taken_of rule (runs ++ more) ≡ taken_of rule runs ++ taken_of rule more
taken_of-append rule runs more = filter-append (λ run. not (meets_rule rule run)) runs more

least-append : (rule : ℕ) (xs ys : List Run) → least rule (xs ++ ys) ≡ least (least rule xs) ys
least-append rule xs ys = fold-append (λ low (run : Run). min low run.rule) rule xs ys

greatest-append : (rule : ℕ) (xs ys : List Run) → greatest rule (xs ++ ys) ≡ greatest (greatest rule xs) ys
greatest-append rule xs ys = fold-append (λ high (run : Run). max high run.rule) rule xs ys

pub HasRuns-count : (rule : ℕ) (runs more : List Run) (old new : RuleRuns) (s : Summary) → s.high < rule → 8 ≤ length old.taken.shown.items
    → new.own ≡ old.own → new.taken.shown.items ≡ old.taken.shown.items → new.taken.more ≡ old.taken.more + s.count → new.low ≡ min old.low s.low
    → new.high ≡ max old.high s.high
    → HasRuns rule runs old → Sums more s → HasRuns rule (runs ++ more) new
HasRuns-count rule runs more old new s others full own shown count low high is sums =
    let top : greatest 0 more < rule = let h = sums.high 0 in omega arith in
    let same : own_of rule (runs ++ more) ≡ own_of rule runs =
    own_of-append rule runs more ∙ ap (λ xs. own_of rule runs ++ xs) (none_own rule 0 more top) ∙ append-nil (own_of rule runs) in
    let all : taken_of rule (runs ++ more) ≡ taken_of rule runs ++ more =
    taken_of-append rule runs more ∙ ap (λ xs. taken_of rule runs ++ xs) (all_taken rule 0 more top) in
    let counted : new.taken.more ≡ old.taken.more + length more = count ∙ ap (λ n. old.taken.more + n) sums.count in
    record {
      own = rw (own, same) is.own;
      taken = rw all (IsListed-skip (taken_of rule runs) more old.taken new.taken full shown counted is.taken);
      low = low ∙ ap (λ n. min n s.low) is.low ∙ sym (sums.low (least rule (taken_of rule runs))) ∙ sym (least-append rule (taken_of rule runs) more)
          ∙ ap (least rule) (sym all);
      high = high ∙ ap (λ n. max n s.high) is.high ∙ sym (sums.high (greatest 0 (taken_of rule runs))) ∙ sym (greatest-append 0 (taken_of rule runs) more)
          ∙ ap (greatest 0) (sym all);
    }
