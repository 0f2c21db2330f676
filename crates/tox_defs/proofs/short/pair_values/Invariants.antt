-- The values of the attributes so far.
use Rattle.std.proofs.Common.{◌≡◌, map, take, unwrap_or}
use Rattle.tox_defs.specs.short.Pairs.{pairs_of, value_at}
use Rattle.tox_defs.proofs.short.pair_values.Given as goal

abbrev pub invariant-loop-attribute : goal.invariant-loop-attribute
invariant-loop-attribute l =
    l.values.items ≡ map (λ attribute. unwrap_or (value_at attribute.name.now (pairs_of l.pairs)) 0) (take l.attribute-index l.attribute-items)
