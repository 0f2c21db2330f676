-- The front of the slice is said.
use Rattle.std.proofs.Common.{◌≡◌, ℕ, ◌+◌, ◌-◌, List, [], ◌∷◌, ◌++◌, Some, replicate, arith, ap, sym, subst, ◌∙◌, append_assoc}
use Rattle.tox_time.specs.declared.streams.item.Item.TheVariants.{Quiet}
use Rattle.tox_time.specs.streams.Table.{table}
use Rattle.tox_link.specs.link_core.Core.{core_position, remaining_output}
use Rattle.tox_log.specs.Judging.{AddsUp, IsRest, part_from, rest_table}
use Rattle.tox_log.proofs.Judging.{say-table}
use Rattle.tox_log.proofs.judge.say.Goals as goal

pub returns-clause-says : goal.returns-clause-says
returns-clause-says c = λ means reported front start log count counts follows.
    let judge = c.args.judge.now in
    let part = c.args.part.now in
    let held : IsRest (Some part) judge.said (core_position judge.core) =
    subst (λ rest. IsRest rest judge.said (core_position judge.core)) c.requires.part c.requires.held.rest in
    let parts : front ++ rest_table judge.rest ≡ (front ++ replicate count part.instant) ++ rest_table (part_from part c.args.stop) =
    ap (λ rest. front ++ rest_table rest) c.requires.part
    ∙ ap (λ ts. front ++ ts) (say-table part judge.said c.args.stop count held.0 c.requires.within.0 c.requires.within.1 counts)
    ∙ sym (append_assoc front (replicate count part.instant) (rest_table (part_from part c.args.stop))) in
    subst (λ rest. AddsUp means reported judge.core ((front ++ replicate count part.instant) ++ rest_table rest) judge.heard judge.latest judge.ended start log)
    (sym c.part_from-judge.ensures)
    (subst (λ given. AddsUp means reported judge.core given judge.heard judge.latest judge.ended start log) parts follows)

pub returns-clause-next : goal.returns-clause-next
returns-clause-next c =
    let judge = c.args.judge.now in
    let part = c.args.part.now in
    let more : List ℕ = table (remaining_output judge.core (Quiet ∷ [])) in
    let count : ℕ = c.args.stop - judge.said in
    let held : IsRest (Some part) judge.said (core_position judge.core) =
    subst (λ rest. IsRest rest judge.said (core_position judge.core)) c.requires.part c.requires.held.rest in
    let counts : c.args.stop ≡ judge.said + count = omega (arith, c.requires.within.0) in
    ap (λ rest. rest_table rest ++ more) c.requires.part
    ∙ ap (λ ts. ts ++ more) (say-table part judge.said c.args.stop count held.0 c.requires.within.0 c.requires.within.1 counts)
    ∙ append_assoc (replicate count part.instant) (rest_table (part_from part c.args.stop)) more
    ∙ ap (λ rest. replicate count part.instant ++ (rest_table rest ++ more)) (sym c.part_from-judge.ensures)
