-- The closure compares with each name.
use Rattle.std.proofs.Common.{◌≡◌, ◌∙◌, rules, tests, subst, sym}
use Rattle.std.specs.List.{find}
use Rattle.std.specs.Str.{bytes_eq}
use Rattle.std.proofs.lemmas.Iterator.{YieldsList-from_slice}
use Rattle.std.proofs.lemmas.Iterator.Adapters.{option_map_id}
use Rattle.std.proofs.lemmas.Iterator.Consumers.{YieldsList-from_copied}
use Rattle.std.proofs.lemmas.Iterator.Search.{find_from_yields_List}
use Rattle.tox_log.specs.LastText.{cause_name}
use Rattle.tox_log.proofs.Causes.{all_causes, cause_found, MeansCause}
use Rattle.tox_log.proofs.last_line.BreakCause.of_name.Goals as goal

pub returns : goal.returns
returns c =
    let found : c.find.result ≡ find (λ cause. bytes_eq (cause_name cause) c.args.name.now) all_causes =
    sym (option_map_id c.find.result)
    ∙ find_from_yields_List (λ cause. bytes_eq (cause_name cause) c.args.name.now) _ _ c.find.result c.find.ensures.ran
    (YieldsList-from_copied (YieldsList-from_slice all_causes (search (rules)))) (λ x b q k. search (rules, tests)) in
    subst (MeansCause c.args.name.now) (sym found) (cause_found c.args.name.now)
